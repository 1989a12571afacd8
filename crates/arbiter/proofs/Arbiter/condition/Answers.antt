use Rattle.std.proofs.Common.{rules}
use Rattle.arbiter.specs.Memory.{contents}
use Rattle.arbiter.proofs.Steps.{asked-the_condition}
use Rattle.arbiter.proofs.Arbiter.condition.Goals as goal

pub returns-then-is_too_small_for : goal.returns-then-is_too_small_for
returns-then-is_too_small_for g c = asked-the_condition g.O.Order.urgency g.met.O.Order.lawful c.args.system.now c.args.task (contents c.args.self.now) _ (search rules)

pub returns-then-from-system : goal.returns-then-from-system
returns-then-from-system g c = asked-the_condition g.O.Order.urgency g.met.O.Order.lawful c.args.system.now c.args.task (contents c.args.self.now) _ (search rules)

pub returns : goal.returns
returns g c = asked-the_condition g.O.Order.urgency g.met.O.Order.lawful c.args.system.now c.args.task (contents c.args.self.now) _ (search rules)
