-- The steps to come make the rest.
use Rattle.std.proofs.Common.{◌≡◌, drop}
use Rattle.lock.specs.Waits.{after_all}
use Rattle.lock.proofs.advance_all.Given as goal

abbrev pub invariant-loop-step : goal.invariant-loop-step
invariant-loop-step g l = after_all g.L.Lock.model (g.L.Lock.view l.lock) (drop l.step-index l.steps) ≡ after_all g.L.Lock.model (g.L.Lock.view l.initial.lock) l.steps
