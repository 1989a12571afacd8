use Rattle.std.proofs.Common.{◌≡◌, ◌++◌, take, drop}
use Rattle.arbiter.specs.Memory.{contents, SameLoans}
use Rattle.arbiter.specs.Outcomes.{ran_on, written}
use Rattle.arbiter.proofs.Arbiter.run.Given as goal

-- the events so far have been run, and their outcomes written
abbrev pub invariant-loop-i : goal.invariant-loop-i
invariant-loop-i g l =
    (contents l.self ≡ ran_on g.O.Order.urgency l.system (contents l.initial.self) (take l.i l.events))
    × (l.outcomes ≡ written g.O.Order.urgency l.system (contents l.initial.self) (take l.i l.events) ++ drop l.i l.initial.outcomes)
    × SameLoans l.initial.self l.self
