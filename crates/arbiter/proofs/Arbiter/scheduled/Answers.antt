use Rattle.std.proofs.Common.{rules}
use Rattle.arbiter.specs.Memory.{contents}
use Rattle.arbiter.proofs.Steps.{asked-the_set}
use Rattle.arbiter.proofs.Arbiter.scheduled.Goals as goal

pub returns-then-is_too_small_for : goal.returns-then-is_too_small_for
returns-then-is_too_small_for g c = asked-the_set g.O.Order.urgency g.met.O.Order.lawful c.args.system.now c.args.cluster (contents c.args.self.now) _ (search rules)

pub returns-then-cluster-system : goal.returns-then-cluster-system
returns-then-cluster-system g c = asked-the_set g.O.Order.urgency g.met.O.Order.lawful c.args.system.now c.args.cluster (contents c.args.self.now) _ (search rules)

pub returns : goal.returns
returns g c = asked-the_set g.O.Order.urgency g.met.O.Order.lawful c.args.system.now c.args.cluster (contents c.args.self.now) _ (search rules)
