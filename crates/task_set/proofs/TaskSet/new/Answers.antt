-- No bit is set in 0.
use Rattle.task_set.proofs.Bits.{zero-bits}
use Rattle.task_set.proofs.TaskSet.new.Goals as goal

pub returns-clause-tasks : goal.returns-clause-tasks
returns-clause-tasks c = zero-bits
