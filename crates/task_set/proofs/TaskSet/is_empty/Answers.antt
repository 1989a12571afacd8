-- A number is 0 exactly if no bit is set.
use Rattle.std.proofs.Common.{◌<◌, ◌^◌, rules}
use Rattle.task_set.proofs.Bits.{empty-bits}
use Rattle.task_set.proofs.TaskSet.is_empty.Goals as goal

pub returns : goal.returns
returns c = let fits : c.args.self.bits < 2 ^ 64 = search rules in empty-bits c.args.self.bits fits
