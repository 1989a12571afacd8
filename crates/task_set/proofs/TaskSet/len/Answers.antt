-- As many tasks as bits that are set.
use Rattle.std.proofs.Common.{◌<◌, ◌^◌, rules}
use Rattle.task_set.proofs.Bits.{ones-bits}
use Rattle.task_set.proofs.TaskSet.len.Goals as goal

pub returns : goal.returns
returns c = let fits : c.args.self.bits < 2 ^ 64 = search rules in ones-bits 64 c.args.self.bits fits
