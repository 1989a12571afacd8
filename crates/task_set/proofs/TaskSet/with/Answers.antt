-- One bit more is set, or none where there is no such task.
use Rattle.std.proofs.Common.{sym, ap, ◌∙◌, bit_or}
use Rattle.std.specs.Int.Bits.{or_zero_r}
use Rattle.task_set.specs.Sets.{bits}
use Rattle.task_set.proofs.Bits.{bit-is, bit-none, with-bits}
use Rattle.task_set.proofs.TaskSet.with.Goals as goal

pub returns-then-task-lt64-clause-tasks : goal.returns-then-task-lt64-clause-tasks
returns-then-task-lt64-clause-tasks c = ap (λ m. bits (bit_or c.args.self.bits m)) (bit-is c.args.task c.if-task-lt64.true) ∙ with-bits c.args.self.bits c.args.task

pub returns-else-task-lt64-clause-number : goal.returns-else-task-lt64-clause-number
returns-else-task-lt64-clause-number c = sym (or_zero_r c.args.self.bits) ∙ ap (bit_or c.args.self.bits) (bit-none c.args.task c.if-task-lt64.false)

pub returns-else-task-lt64-clause-tasks : goal.returns-else-task-lt64-clause-tasks
returns-else-task-lt64-clause-tasks c = ap bits (sym (or_zero_r c.args.self.bits) ∙ ap (bit_or c.args.self.bits) (bit-none c.args.task c.if-task-lt64.false)) ∙ with-bits c.args.self.bits c.args.task
