-- A list of events, with each one's answer and each cluster's scheduled set after it.
use Rattle.std.specs.Prelude.{◌≡◌, ℕ, min, List, [], ◌∷◌, ◌++◌, length, map, take, drop, Ok, Err, Result}
use Rattle.order.specs.Urgency.{Urgency}
use Rattle.model.specs.declared.Event.{Event}
use Rattle.model.specs.declared.Refusal.{Refusal}
use Rattle.model.specs.Words.{Plan, State}
use Rattle.model.specs.Rules.{Call, acting, after, answer, act, scheduled_answer}
use Rattle.model.specs.Promise.{Kept}
use Rattle.arbiter.specs.declared.System.{System}
use Rattle.arbiter.specs.declared.Outcome.{Outcome}
use Rattle.arbiter.specs.Memory.{Contents, plan_of, replied, afterwards, asked_set}
use Rattle.arbiter.specs.Meaning.{Reached}

-- a set that was asked for, or none
abbrev pub or_none : Result ℕ Refusal → ℕ
or_none (Ok set) = set
or_none (Err f) = 0

-- f of 0 to 7
abbrev pub eight : (ℕ → ℕ) → List ℕ
eight f = map f (0 ∷ 1 ∷ 2 ∷ 3 ∷ 4 ∷ 5 ∷ 6 ∷ 7 ∷ [])

-- the calls with these events added, the newest first
abbrev pub with_events : List Event → List Call → List Call
with_events [] calls = calls
with_events (e ∷ es) calls = with_events es (acting e ∷ calls)

-- by the rules: what the events answer, and who is scheduled after each
module _ {Mark : Type 0} (P : Plan Mark) where
  abbrev pub outcomes : State Mark → List Event → List Outcome
  outcomes s [] = []
  outcomes s (e ∷ es) = record { answer = answer P s e; scheduled = eight (λ k. or_none (scheduled_answer P (act P s e) k)) } ∷ outcomes (act P s e) es

-- by the memory
module _ {Mark : Type 0} (order : Urgency Mark) (y : System) where
  -- the scheduled sets
  abbrev pub sets : Contents Mark → List ℕ
  sets m = eight (λ k. or_none (asked_set order y m k))

  -- what an event comes to
  abbrev pub outcome : Contents Mark → Event → Outcome
  outcome m e = record { answer = replied order y m e; scheduled = sets (afterwards order y m e) }

  -- what the memory holds after the events
  abbrev pub ran_on : Contents Mark → List Event → Contents Mark
  ran_on m [] = m
  ran_on m (e ∷ es) = ran_on (afterwards order y m e) es

  -- what each comes to
  abbrev pub written : Contents Mark → List Event → List Outcome
  written m [] = []
  written m (e ∷ es) = outcome m e ∷ written (afterwards order y m e) es

  -- a list of events was run, as many as there were places for their outcomes; and what that means after any list of calls
  pub record Ran (es : List Event) (places : List Outcome) (old new : Contents Mark) (out : List Outcome) (r : ℕ) : Type 0 where
    pub count : r ≡ min (length es) (length places)
    pub stores : new ≡ ran_on old (take r es)
    pub writes : out ≡ written old (take r es) ++ drop r places
    pub answers : (calls : List Call) → Reached order y old calls → written old (take r es) ≡ outcomes (plan_of order y) (after (plan_of order y) calls) (take r es)
    pub reaches : (calls : List Call) → Reached order y old calls → Reached order y new (with_events (take r es) calls)
    pub promise : (calls : List Call) → Reached order y old calls → Kept (plan_of order y) (with_events (take r es) calls)
