-- The tasks so far are written, and those left make the rest.
use Rattle.std.proofs.Common.{◌≡◌, ◌+◌, ◌++◌, length, take, drop}
use Rattle.task_set.specs.Sets.{members}
use Rattle.lock.proofs.reader_writer.write_tasks.Given as goal

abbrev pub invariant-loop-i : goal.invariant-loop-i
invariant-loop-i l =
    let n = l.i-iterator.count in let rest = members l.i-iterator.iter.rest in
    (take n l.buffer ++ rest ≡ members l.fn.set) × (n + length rest ≡ length (members l.fn.set)) × (drop n l.buffer ≡ drop n l.initial.buffer)
