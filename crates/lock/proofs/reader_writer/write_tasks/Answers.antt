-- Each task is written at the next place.
use Rattle.std.proofs.Common.{◌<◌, ◌++◌, length, take, refl, ap, ◌∙◌, arith}
use Rattle.task_set.specs.Sets.{members}
use Rattle.lock.proofs.Waiters.{written-front, written-behind, written-all}
use Rattle.lock.proofs.reader_writer.write_tasks.Goals as goal

pub loop-i-init : goal.loop-i-init
loop-i-init c =
    let start = c.into_iter-i-iterator.ensures.into_iter_gives in
    let none = ap (λ x. x.count) start ∙ c.enumerate-i-items.ensures.count in
    let rest = ap (λ x. members x.iter.rest) start ∙ ap (λ x. members x.rest) c.enumerate-i-items.ensures.source ∙ ap members c.into_iter.ensures.into_iter_gives in
    (ap (λ k. take k c.args.buffer.now ++ members c.into_iter-i-iterator.result.iter.rest) none ∙ rest, (let long = ap length rest in omega (arith, none, long)), refl)

pub loop-i-preserved : goal.loop-i-preserved
loop-i-preserved c =
    let b = c.loop-i.buffer in let inv = c.loop-i.invariant in let step = c.in-Some.ensures.steps in let n = c.loop-i.i-iterator.count in
    let long = ap length step.0 in
    let lt : n < length b = omega (arith, long, inv.1, c.loop-i.auto.buffer, c.requires) in (
      written-front b (members c.args.set) _ _ n _ c.in-Some.i c.in-Some.task step.0 step.1 step.2 lt inv.0,
      omega (arith, long, inv.1, step.2),
      written-behind b c.args.buffer.now n _ c.in-Some.i c.in-Some.task step.1 step.2 inv.2,
    )

pub returns : goal.returns
returns c =
    let inv = c.loop-i.invariant in
    written-all c.loop-i.buffer c.args.buffer.now (members c.args.set) _ c.loop-i.i-iterator.count c.in-None.ensures.steps.0.0 inv.0 inv.1 inv.2
