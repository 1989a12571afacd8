use Rattle.std.proofs.Common.{rules}
use Rattle.arbiter.specs.Memory.{contents}
use Rattle.arbiter.proofs.Steps.{acted}
use Rattle.arbiter.proofs.Arbiter.act.Goals as goal

pub returns-in_err-check-clause-acted : goal.returns-in_err-check-clause-acted
returns-in_err-check-clause-acted g c = acted g.O.Order.urgency g.met.O.Order.lawful c.args.system.now c.args.event (contents c.args.self.now) _ _ (search rules) (search rules)

pub returns-clause-acted : goal.returns-clause-acted
returns-clause-acted g c = acted g.O.Order.urgency g.met.O.Order.lawful c.args.system.now c.args.event (contents c.args.self.now) _ _ (search rules) (search rules)
