-- A bit is cleared; one that is no task's was never set.
use Rattle.std.proofs.Common.{◌<◌, ◌^◌, rules}
use Rattle.task_set.proofs.Bits.{without-bits, without-none}
use Rattle.task_set.proofs.TaskSet.without.Goals as goal

pub returns-then-task-lt64 : goal.returns-then-task-lt64
returns-then-task-lt64 c = let fits : c.args.self.bits < 2 ^ 64 = search rules in without-bits c.args.self.bits c.args.task fits c.if-task-lt64.true

pub returns-else-task-lt64 : goal.returns-else-task-lt64
returns-else-task-lt64 c = let fits : c.args.self.bits < 2 ^ 64 = search rules in without-none c.args.self.bits c.args.task fits c.if-task-lt64.false
