use Rattle.std.proofs.Common.{◌≡◌, Some, None, Ok, sym, refl, ◌∙◌, rules}
use Rattle.arbiter.specs.Memory.{said, contents}
use Rattle.arbiter.specs.SetUp.{unaccepted}
use Rattle.arbiter.proofs.Starts.{set_up_all, refused-for, accepted-for}
use Rattle.arbiter.proofs.Arbiter.set_up.Goals as goal

pub returns-in_err-accept-clause-result : goal.returns-in_err-accept-clause-result
returns-in_err-accept-clause-result g c =
    let order = g.O.Order.urgency in let f = c.in_err-accept.field-0.0 in let m = contents c.args.self.now in
    let e : unaccepted order (said c.args.system.now) m ≡ Some f = refused-for _ f (sym c.in_err-accept.was ∙ c.accept.ensures) in
    set_up_all order g.met.O.Order.lawful c.args.system.now m m c.from_residual.result (Some f) e (search rules) refl

pub returns-clause-result : goal.returns-clause-result
returns-clause-result g c =
    let order = g.O.Order.urgency in let m = contents c.args.self.now in
    let e : unaccepted order (said c.args.system.now) m ≡ None = accepted-for _ (search rules) in
    set_up_all order g.met.O.Order.lawful c.args.system.now m _ (Ok tt) None e refl (search rules)
