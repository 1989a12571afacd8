-- Each turn takes one step of the loading, and each return has its end.
use Rattle.std.proofs.Common.{true, false, rules}
use Rattle.std.proofs.lemmas.Result.{err_from_is_err_and}
use Rattle.scenario.proofs.Onward.{faulty, refused, further, done}
use Rattle.scenario.proofs.Script.fill.Goals as goal

pub returns-in_err-part : goal.returns-in_err-part
returns-in_err-part c =
    let p = err_from_is_err_and c.from_residual.result c.from_residual.ensures.1 in
    let steps = c.in-Some.ensures.steps in
    rw (p.1, p.2) (faulty c.loop-part.invariant.2 c.in_err-part.field-0.0 (rw c.in_err-part.was at steps.item) (rw c.in_err-part.was at steps.fault))

pub returns-in_err-take : goal.returns-in_err-take
returns-in_err-take c =
    let p = err_from_is_err_and c.from_residual-in_err-take.result c.from_residual-in_err-take.ensures.1 in
    let part = c.in_ok-part.field-0 in
    rw (p.1, p.2) (refused c.loop-part.invariant.2 (part.at, part.bytes.now, part.record) c.in_err-take.field-0.0 _ (rw c.in_ok-part.was at c.in-Some.ensures.steps.item) c.in_err-take.ensures.stop c.in_err-take.ensures.after)

pub loop-part-preserved : goal.loop-part-preserved
loop-part-preserved c =
    let part = c.in_ok-part.field-0 in
    let steps = c.in-Some.ensures.steps in
    (tt, tt, further c.loop-part.invariant.2 (part.at, part.bytes.now, part.record) _ _ _ (rw c.in_ok-part.was at steps.item) steps.file steps.place c.in_ok-take.ensures.stop c.in_ok-take.ensures.after)

pub returns-then-is_none : goal.returns-then-is_none
returns-then-is_none c = rw c.into.ensures (done c.loop-part.invariant.2 false c.in-None.ensures.steps.item (search rules))

pub returns : goal.returns
returns c = done c.loop-part.invariant.2 true c.in-None.ensures.steps.item (search rules)
