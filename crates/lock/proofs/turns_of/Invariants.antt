-- The steps to come make the rest, and no step counts twice.
use Rattle.std.proofs.Common.{◌≡◌, ◌+◌, ◌≤◌, drop}
use Rattle.lock.specs.Waits.{after_all, turns_to_grant}
use Rattle.lock.proofs.turns_of.Given as goal

abbrev pub invariant-loop-i : goal.invariant-loop-i
invariant-loop-i g l =
    (after_all g.L.Lock.model (g.L.Lock.view l.lock) (drop l.i l.steps) ≡ after_all g.L.Lock.model (g.L.Lock.view l.initial.lock) l.steps)
    × (l.turns + turns_to_grant g.L.Lock.model (g.L.Lock.view l.lock) l.task (drop l.i l.steps) ≡ turns_to_grant g.L.Lock.model (g.L.Lock.view l.initial.lock) l.task l.steps)
    × (l.turns ≤ l.i)
