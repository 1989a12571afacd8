-- The words of the subject. Tasks are the numbers below the count of tasks, and a task has at most one job.
use Rattle.std.specs.Prelude.{ℕ, zero, suc, ◌+◌, ◌^◌, Bool, true, false, cond, not, ◌&&◌, Some, None, Option, ◌==◌, nat_lt}
use Rattle.order.specs.Urgency.{Urgency}
use Rattle.model.specs.declared.Condition.{Condition}
use Rattle.model.specs.declared.Condition.TheVariants.{Idle, Computing, Wanting, Waiting, Holding, Done}
use Rattle.model.specs.Tally.{tally}

-- is there a pending job
abbrev pub is_pending : Condition → Bool
is_pending Idle = false
is_pending Computing = true
is_pending (Wanting r m) = true
is_pending (Waiting r m) = true
is_pending (Holding r m) = true
is_pending Done = true

-- does it hold a resource
abbrev pub holds : Condition → Bool
holds Idle = false
holds Computing = false
holds (Wanting r m) = false
holds (Waiting r m) = false
holds (Holding r m) = true
holds Done = false

-- has it an open request: one that waits or holds
abbrev pub is_open : Condition → Bool
is_open Idle = false
is_open Computing = false
is_open (Wanting r m) = false
is_open (Waiting r m) = true
is_open (Holding r m) = true
is_open Done = false

-- can it use a processor: it computes or holds
abbrev pub runs : Condition → Bool
runs Idle = false
runs Computing = true
runs (Wanting r m) = false
runs (Waiting r m) = false
runs (Holding r m) = true
runs Done = false

-- what set-up fixes: `size` processors to each cluster, each task's cluster and parameter, and the order
pub record Plan (Mark : Type 0) : Type 0 where
  pub clusters : ℕ
  pub size : ℕ
  pub tasks : ℕ
  pub cluster : ℕ → ℕ
  pub parameter : ℕ → ℕ
  pub order : Urgency Mark

-- what the calls change, by task number: a donor gives its place to its recipient
pub record State (Mark : Type 0) : Type 0 where
  pub condition : ℕ → Condition
  pub mark : ℕ → Mark
  pub donor : ℕ → Option ℕ
  pub recipient : ℕ → Option ℕ

-- the task in o, or t where there is none
abbrev pub or_else : Option ℕ → ℕ → ℕ
or_else None t = t
or_else (Some d) t = d

-- a test of a task that may be absent
abbrev pub on : Option ℕ → (ℕ → Bool) → Bool
on None p = false
on (Some r) p = p r

-- is there one
abbrev pub is_some : Option ℕ → Bool
is_some None = false
is_some (Some t) = true

-- the tasks below n that pass, as a number with bit t for task t
abbrev pub members : ℕ → (ℕ → Bool) → ℕ
members zero p = 0
members (suc n) p = cond (p n) (2 ^ n) 0 + members n p

module _ {Mark : Type 0} (P : Plan Mark) (s : State Mark) where
  -- the task's job is pending
  abbrev pub pending : ℕ → Bool
  pending t = is_pending (s.condition t)

  -- u is of t's cluster and more urgent, each by its own mark
  abbrev pub goes : ℕ → ℕ → Bool
  goes u t = P.cluster u == P.cluster t && P.order.before (s.mark u) u (s.mark t) t

  -- how many pending jobs of t's cluster are more urgent than t
  abbrev pub ahead : ℕ → ℕ
  ahead t = tally P.tasks (λ u. pending u && goes u t)

  -- it is one of its cluster's most urgent pending jobs, as many as there are processors
  abbrev pub foremost : ℕ → Bool
  foremost t = pending t && nat_lt (ahead t) P.size

  -- it computes or holds, unless it is a donor whose recipient holds
  abbrev pub ready : ℕ → Bool
  ready t = runs (s.condition t) && not (on (s.recipient t) (λ r. holds (s.condition r)))

  -- the job at whose place t counts: its donor, or itself
  abbrev pub place : ℕ → ℕ
  place t = or_else (s.donor t) t

  -- u is of t's cluster, and its place is more urgent than t's
  abbrev pub precedes : ℕ → ℕ → Bool
  precedes u t = P.cluster u == P.cluster t && P.order.before (s.mark (place u)) (place u) (s.mark (place t)) (place t)

  -- it is ready, and fewer ready jobs precede it than there are processors
  abbrev pub scheduled : ℕ → Bool
  scheduled t = ready t && nat_lt (tally P.tasks (λ u. ready u && precedes u t)) P.size

  -- the scheduled tasks of cluster k, bit t for task t
  abbrev pub scheduled_set : ℕ → ℕ
  scheduled_set k = members 64 (λ t. (P.cluster t == k) && scheduled t)
