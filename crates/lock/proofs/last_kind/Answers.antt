-- The rules are proved, and each example is computed.
use Rattle.std.proofs.Common.{refl}
use Rattle.task_set.specs.Sets.{someone, upto}
use Rattle.lock.proofs.RuleProofs.{rules}
use Rattle.lock.proofs.last_kind.Goals as goal

pub returns : goal.returns
unfolding someone upto
returns c = record { rules = rules; examples = refl }
