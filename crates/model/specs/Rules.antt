-- The rules: what each call answers and what it makes of the jobs.
use Rattle.std.specs.Prelude.{ℕ, Bool, cond, not, List, [], ◌∷◌, Some, None, Ok, Err, Option, Result, ◌==◌, nat_lt}
use Rattle.model.specs.declared.Condition.{Condition}
use Rattle.model.specs.declared.Condition.TheVariants.{Idle, Computing}
use Rattle.model.specs.declared.Event.{Event}
use Rattle.model.specs.declared.Event.TheVariants.{Release, Finish}
use Rattle.model.specs.declared.Answer.{Answer}
use Rattle.model.specs.declared.Answer.TheVariants.{Accepted}
use Rattle.model.specs.declared.Refusal.{Refusal}
use Rattle.model.specs.declared.Refusal.TheVariants.{NoSuchTask, AlreadyPending, NotPending, NotScheduled, NoSuchCluster}
use Rattle.model.specs.Words.{Plan, State, pending, scheduled, scheduled_set}

-- what can be asked: a cluster's scheduled set, or a task's condition
pub data Question : Type 0 where
  scheduled_set_of : ℕ → Question
  condition_of_job : ℕ → Question

-- a call since set-up
pub data Call : Type 0 where
  acting : Event → Call
  asking : Question → Call

-- the first condition met decides
abbrev pub first_of : List (Bool × Refusal) → Option Refusal
first_of [] = None
first_of (x ∷ xs) = cond x.0 (Some x.1) (first_of xs)

-- f, with x at t
abbrev pub put : {A : Type 0} → (ℕ → A) → ℕ → A → ℕ → A
put f t x u = cond (u == t) x (f u)

-- refused, or else accepted with x
abbrev pub unless : {A : Type 0} → Option Refusal → A → Result A Refusal
unless None x = Ok x
unless (Some f) x = Err f

-- s where the call is refused, else z
abbrev pub kept_if : {A : Type 0} → Option Refusal → A → A → A
kept_if None s z = z
kept_if (Some f) s z = s

module _ {Mark : Type 0} where
  -- the condition of t becomes k
  abbrev pub become : State Mark → ℕ → Condition → State Mark
  become s t k = record { condition = put s.condition t k; mark = s.mark; donor = s.donor; recipient = s.recipient }

  -- the job of t becomes pending and computing, with the mark x
  abbrev pub arrive : State Mark → ℕ → Mark → State Mark
  arrive s t x = record { condition = put s.condition t Computing; mark = put s.mark t x; donor = s.donor; recipient = s.recipient }

module _ {Mark : Type 0} (P : Plan Mark) where
  -- as set-up leaves it: every task idle
  abbrev pub start : State Mark
  start = record { condition = λ _. Idle; mark = λ _. P.order.mark 0 0; donor = λ _. None; recipient = λ _. None }

  -- why an event is turned away
  abbrev pub refusal : State Mark → Event → Option Refusal
  refusal s (Release t i) = first_of ((not (nat_lt t P.tasks), NoSuchTask) ∷ (pending P s t, AlreadyPending) ∷ [])
  refusal s (Finish t) = first_of ((not (nat_lt t P.tasks), NoSuchTask) ∷ (not (pending P s t), NotPending) ∷ (not (scheduled P s t), NotScheduled) ∷ [])

  -- what an accepted event makes of the jobs: a release brings one, a finish lets one leave
  abbrev pub moved : State Mark → Event → State Mark
  moved s (Release t i) = arrive s t (P.order.mark (P.parameter t) i)
  moved s (Finish t) = become s t Idle

  -- what an event answers
  abbrev pub answer : State Mark → Event → Result Answer Refusal
  answer s e = unless (refusal s e) Accepted

  -- the state after an event; a refused one changes nothing
  abbrev pub act : State Mark → Event → State Mark
  act s e = kept_if (refusal s e) s (moved s e)

  -- the state after a call; asking moves nothing
  abbrev pub step : State Mark → Call → State Mark
  step s (acting e) = act s e
  step s (asking q) = s

  -- the state after a list of calls since set-up, the newest first
  abbrev pub after : List Call → State Mark
  after [] = start
  after (x ∷ xs) = step (after xs) x

  -- a cluster's scheduled set, asked
  abbrev pub scheduled_answer : State Mark → ℕ → Result ℕ Refusal
  scheduled_answer s k = unless (first_of ((not (nat_lt k P.clusters), NoSuchCluster) ∷ [])) (scheduled_set P s k)

  -- a task's condition, asked
  abbrev pub condition_answer : State Mark → ℕ → Result Condition Refusal
  condition_answer s t = unless (first_of ((not (nat_lt t P.tasks), NoSuchTask) ∷ [])) (s.condition t)
