use Rattle.std.proofs.Common.{◌≡◌, ◌∷◌, ◌++◌}
use Rattle.std.specs.Fmt.{HasWritten, IsPlainFormatter}
use Rattle.task_set.specs.Sets.{bits, upto}
use Rattle.report.specs.Text.{listed}
use Rattle.report.proofs.MembersDisplay.fmt.Given as goal

abbrev pub invariant-loop-task : goal.invariant-loop-task
invariant-loop-task g l = record {
  rest : l.first ∷ (l.yielded ++ upto 64 (bits l.task-iterator.rest.bits)) ≡ upto 64 (bits l.self.0.bits);
  wrote : IsPlainFormatter l.fn.f → HasWritten g.W.Write.write_str_gives l.fn.f (listed (l.first ∷ l.yielded)) l.f;
}
