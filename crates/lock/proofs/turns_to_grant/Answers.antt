-- The laws bound the turns.
use Rattle.std.proofs.Common.{ap, ◌∙◌, arith}
use Rattle.lock.specs.Waits.{turns_to_grant}
use Rattle.lock.proofs.Waiting.{wait_within, waits_bounded, live}
use Rattle.lock.proofs.turns_to_grant.Goals as goal

pub returns-clause-bound : goal.returns-clause-bound
returns-clause-bound g c = λ sound waits.
    let b = wait_within g.met.L.Lock.lawful (g.L.Lock.view c.args.lock.now) c.args.task c.args.mode c.args.steps.now sound waits in
    let e = c.turns_of.ensures.turns ∙ ap (λ l. turns_to_grant g.L.Lock.model l c.args.task c.args.steps.now) c.request-reply.ensures.after in
    omega (arith, b, e)

pub returns-clause-always : goal.returns-clause-always
returns-clause-always g c = waits_bounded g.met.L.Lock.lawful

pub returns-clause-live : goal.returns-clause-live
returns-clause-live g c = live g.met.L.Lock.lawful
