-- What the memory means: the state that it stands for, and the lists of calls by which it was reached.
use Rattle.std.specs.Prelude.{◌≡◌, ℕ, ◌<◌, ◌≤◌, false, List, ◌∷◌, length, is_ok, Result}
use Rattle.order.specs.Urgency.{Urgency}
use Rattle.model.specs.declared.Condition.{Condition}
use Rattle.model.specs.declared.Event.{Event}
use Rattle.model.specs.declared.Answer.{Answer}
use Rattle.model.specs.declared.Refusal.{Refusal}
use Rattle.model.specs.Words.{State}
use Rattle.model.specs.Rules.{Question, scheduled_set_of, condition_of_job, Call, acting, asking, after, answer, scheduled_answer, condition_answer}
use Rattle.model.specs.Promise.{Accepted, Kept}
use Rattle.cluster.specs.Listing.{Listed}
use Rattle.cluster.specs.Claims.{Shows}
use Rattle.arbiter.specs.declared.System.{System}
use Rattle.arbiter.specs.Memory.{Contents, task_count, count_at, plan_of, too_small, list_of, replied, afterwards, asked_set, asked_condition}

module _ {Mark : Type 0} (order : Urgency Mark) (y : System) where
  -- the memory stands for the state s: the records show it, and each cluster's list has exactly its pending jobs, the most urgent first
  pub record Represents (m : Contents Mark) (s : State Mark) : Type 0 where
    pub enough : too_small order y m ≡ false
    pub eight : length m.counts ≡ 8
    pub shows : Shows s m.jobs
    pub counted : (k : ℕ) → k < y.clusters → count_at m.counts k ≤ task_count y
    pub lists : (k : ℕ) → k < y.clusters → Listed (plan_of order y) s k (list_of order y m k)

  -- the memory stands for the state after these calls, the newest first, since a set-up that was accepted
  pub record Reached (m : Contents Mark) (calls : List Call) : Type 0 where
    pub accepted : Accepted (plan_of order y)
    pub stands : Represents m (after (plan_of order y) calls)

  -- an event: its answer and the memory after it, from any memory at all; and what both mean after any list of calls
  pub record Acted (e : Event) (old new : Contents Mark) (r : Result Answer Refusal) : Type 0 where
    pub replies : r ≡ replied order y old e
    pub stores : new ≡ afterwards order y old e
    pub unchanged : is_ok r ≡ false → new ≡ old
    pub answers : (calls : List Call) → Reached old calls → r ≡ answer (plan_of order y) (after (plan_of order y) calls) e
    pub reaches : (calls : List Call) → Reached old calls → Reached new (acting e ∷ calls)
    pub promise : (calls : List Call) → Reached old calls → Kept (plan_of order y) (acting e ∷ calls)

  -- a question: its answer, from any memory at all; and what it means after any list of calls
  pub record Asked (q : Question) (m : Contents Mark) : Type 0 where
    pub reaches : (calls : List Call) → Reached m calls → Reached m (asking q ∷ calls)
    pub promise : (calls : List Call) → Reached m calls → Kept (plan_of order y) (asking q ∷ calls)

  pub record AskedSet (k : ℕ) (m : Contents Mark) (r : Result ℕ Refusal) : Type 0 where
    pub replies : r ≡ asked_set order y m k
    pub answers : (calls : List Call) → Reached m calls → r ≡ scheduled_answer (plan_of order y) (after (plan_of order y) calls) k
    pub asked : Asked (scheduled_set_of k) m

  pub record AskedCondition (t : ℕ) (m : Contents Mark) (r : Result Condition Refusal) : Type 0 where
    pub replies : r ≡ asked_condition order y m t
    pub answers : (calls : List Call) → Reached m calls → r ≡ condition_answer (plan_of order y) (after (plan_of order y) calls) t
    pub asked : Asked (condition_of_job t) m
