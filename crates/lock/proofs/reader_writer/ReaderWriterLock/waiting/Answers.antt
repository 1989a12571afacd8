-- The writers are copied to the front of the buffer, and the readers written behind them.
use Rattle.std.proofs.Common.{◌≡◌, ℕ, ◌+◌, List, ◌++◌, length, ap, arith, length-append}
use Rattle.task_set.specs.Sets.{tally, upto, bits, members}
use Rattle.task_set.proofs.Passing.{tally-most, length-upto}
use Rattle.lock.specs.Views.{row}
use Rattle.lock.proofs.Waiters.{too-short, counted}
use Rattle.lock.proofs.reader_writer.ReaderWriterLock.waiting.Goals as goal

-- how long the list is
both : (ws xs : List ℕ) (readers n : ℕ) → ws ≡ xs → n ≡ tally 64 (bits readers) → length ws + n ≡ length (xs ++ upto 64 (bits readers))
both ws xs readers n e h = omega (arith, ap length e, h, length-upto 64 (bits readers), length-append xs (upto 64 (bits readers)))

pub overflow_add-count : goal.overflow_add-count
overflow_add-count c =
    omega (arith, tally-most 64 (bits c.args.self.now.readers.bits), ap length c.as_slice-writers.ensures.tasks, c.as_slice-writers.ensures.most, c.len.ensures)

pub returns-then-count-buffer-clause-count : goal.returns-then-count-buffer-clause-count
returns-then-count-buffer-clause-count c =
    let l = c.args.self.now in let is = both c.as_slice-writers.result.now (row l.writers) l.readers.bits c.len.result c.as_slice-writers.ensures.tasks c.len.ensures in
    (too-short (row l.writers ++ members l.readers) c.args.buffer.now (omega (arith, is, c.if-count-buffer.true))).0

pub returns-then-count-buffer-clause-writes : goal.returns-then-count-buffer-clause-writes
returns-then-count-buffer-clause-writes c =
    let l = c.args.self.now in let is = both c.as_slice-writers.result.now (row l.writers) l.readers.bits c.len.result c.as_slice-writers.ensures.tasks c.len.ensures in
    (too-short (row l.writers ++ members l.readers) c.args.buffer.now (omega (arith, is, c.if-count-buffer.true))).1

pub write_tasks-requires : goal.write_tasks-requires
write_tasks-requires c =
    omega (arith, length-upto 64 (bits c.args.self.now.readers.bits), c.len.ensures, c.if-count-buffer.false, c.split_at_mut-front.ensures.back_len)

pub returns-clause-count : goal.returns-clause-count
returns-clause-count c =
    let l = c.args.self.now in
    counted (row l.writers ++ members l.readers) c.args.buffer.now _
    (both c.as_slice-writers.result.now (row l.writers) l.readers.bits c.len.result c.as_slice-writers.ensures.tasks c.len.ensures) c.if-count-buffer.false
