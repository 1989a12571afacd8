-- What the lent memory holds, and what each call makes of it.
use Rattle.std.specs.Prelude.{◌≡◌, ℕ, ◌*◌, Bool, cond, not, ◌&&◌, ◌||◌, List, [], ◌∷◌, length, replicate, take, set, Some, None, Option, Result, nat_lt}
use Rattle.std.specs.List.{slice_get}
use Rattle.task_set.specs.Sets.{bits}
use Rattle.order.specs.Urgency.{Urgency}
use Rattle.model.specs.declared.Task.{Task}
use Rattle.model.specs.declared.Condition.{Condition}
use Rattle.model.specs.declared.Condition.TheVariants.{Idle, Computing}
use Rattle.model.specs.declared.Event.{Event}
use Rattle.model.specs.declared.Event.TheVariants.{Release, Finish}
use Rattle.model.specs.declared.Answer.{Answer}
use Rattle.model.specs.declared.Answer.TheVariants.{Accepted}
use Rattle.model.specs.declared.Refusal.{Refusal}
use Rattle.model.specs.declared.Refusal.TheVariants.{MemoryTooSmall, NoSuchTask, AlreadyPending, NotPending, NotScheduled, NoSuchCluster}
use Rattle.model.specs.Words.{Plan, is_pending}
use Rattle.model.specs.Rules.{first_of, unless, kept_if}
use Rattle.order.specs.declared.Entry.{Entry}
use Rattle.cluster.specs.declared.Job.{Job}
use Rattle.cluster.specs.Listing.{part, with_part, fits, entered, entered_count, departed, departed_count}
use Rattle.cluster.specs.Picks.{read, condition_at, picked_set}
use Rattle.arbiter.specs.declared.System.{System}
use Rattle.arbiter.specs.declared.Arbiter.{Arbiter}

-- what the lent memory holds: a record for each task, the places of the clusters' lists, and how many entries each list has
pub record Contents (Mark : Type 0) : Type 0 where
  pub jobs : List Job
  pub places : List (Entry Mark)
  pub counts : List ℕ

-- of an arbiter
abbrev pub contents : {O Mark : Type 0} → Arbiter O Mark → Contents Mark
contents a = record { jobs = a.jobs.now; places = a.places.now; counts = a.counts }

-- lent slices, with no entry in any list
abbrev pub begun : {Mark : Type 0} → List Job → List (Entry Mark) → Contents Mark
begun jobs places = record { jobs = jobs; places = places; counts = replicate 8 0 }

-- the lent slices are the same ones as before, so that what they hold is what the caller's memory holds
abbrev pub SameLoans : {O Mark : Type 0} → Arbiter O Mark → Arbiter O Mark → Type 0
SameLoans a b = (b.jobs.ghost_name ≡ a.jobs.ghost_name) × (b.places.ghost_name ≡ a.places.ghost_name)

-- how many entries the list of cluster k has
abbrev pub count_at : List ℕ → ℕ → ℕ
count_at ns k = read (λ n. n) 0 (slice_get ns k)

-- what the table says of a task; 0 where it has none
abbrev pub cluster_at : List Task → ℕ → ℕ
cluster_at ts t = read (λ x. x.cluster) 0 (slice_get ts t)

abbrev pub parameter_at : List Task → ℕ → ℕ
parameter_at ts t = read (λ x. x.parameter) 0 (slice_get ts t)

-- how many tasks there are
abbrev pub task_count : System → ℕ
task_count y = length y.tasks.now

-- what set-up is given: the count of clusters, the processors of each, and the tasks
pub record Tables : Type 0 where
  pub clusters : ℕ
  pub size : ℕ
  pub tasks : List Task

abbrev pub tables : ℕ → ℕ → List Task → Tables
tables clusters size tasks = record { clusters = clusters; size = size; tasks = tasks }

-- what these fix
abbrev pub plan_by : {Mark : Type 0} → Urgency Mark → Tables → Plan Mark
plan_by order x = record {
  clusters = x.clusters;
  size = x.size;
  tasks = length x.tasks;
  cluster = cluster_at x.tasks;
  parameter = parameter_at x.tasks;
  order = order;
}

-- the tables that a system was made of
abbrev pub said : System → Tables
said y = tables y.clusters y.cluster_size y.tasks.now

-- what a system fixes
abbrev pub plan_of : {Mark : Type 0} → Urgency Mark → System → Plan Mark
plan_of order y = plan_by order (said y)

-- the records with the condition of t changed
abbrev pub with_condition : Option Job → List Job → ℕ → Condition → List Job
with_condition None js t k = js
with_condition (Some j) js t k = set js t (record { condition = k; donor = j.donor; recipient = j.recipient })

-- the memory with the condition of t changed
abbrev pub becoming : {Mark : Type 0} → Contents Mark → ℕ → Condition → Contents Mark
becoming m t k = record { jobs = with_condition (slice_get m.jobs t) m.jobs t k; places = m.places; counts = m.counts }

-- is task t in the set
abbrev pub in_set : ℕ → ℕ → Bool
in_set set t = nat_lt t 64 && bits set t

module _ {Mark : Type 0} (order : Urgency Mark) (y : System) where
  -- it has no record for some task, or no place in some cluster's list; it is never enough for more than 64 tasks
  abbrev pub too_small : Contents Mark → Bool
  too_small m = nat_lt 64 (task_count y) || (nat_lt (length m.jobs) (task_count y) || nat_lt (length m.places) (y.clusters * task_count y))

  -- the entries of cluster k's list
  abbrev pub list_of : Contents Mark → ℕ → List (Entry Mark)
  list_of m k = take (count_at m.counts k) (part (k * task_count y) (task_count y) m.places)

  -- the tasks that run on cluster k
  abbrev pub running : Contents Mark → ℕ → ℕ
  running m k = picked_set m.jobs (list_of m k) y.cluster_size

  -- why an event is turned away
  abbrev pub turned_away : Contents Mark → Event → Option Refusal
  turned_away m (Release t i) = first_of (
      (too_small m, MemoryTooSmall) ∷ (not (nat_lt t (task_count y)), NoSuchTask) ∷ (is_pending (condition_at m.jobs t), AlreadyPending) ∷ [])
  turned_away m (Finish t) = first_of (
      (too_small m, MemoryTooSmall) ∷ (not (nat_lt t (task_count y)), NoSuchTask) ∷ (not (is_pending (condition_at m.jobs t)), NotPending)
      ∷ (not (in_set (running m (cluster_at y.tasks.now t)) t), NotScheduled) ∷ [])

  -- the list of cluster k with an entry more
  abbrev pub with_entry : Contents Mark → ℕ → Entry Mark → Contents Mark
  with_entry m k e =
      let n = task_count y in
      record {
        jobs = m.jobs;
        places = cond (fits (k * n) n m.places) (with_part (k * n) n m.places (entered order.before (count_at m.counts k) e (part (k * n) n m.places))) m.places;
        counts = set m.counts k (cond (fits (k * n) n m.places) (entered_count (count_at m.counts k) n) (count_at m.counts k));
      }

  -- the list of cluster k without the entry of t
  abbrev pub without_entry : Contents Mark → ℕ → ℕ → Contents Mark
  without_entry m k t =
      let n = task_count y in
      record {
        jobs = m.jobs;
        places = cond (fits (k * n) n m.places) (with_part (k * n) n m.places (departed (count_at m.counts k) t (part (k * n) n m.places))) m.places;
        counts = set m.counts k (cond (fits (k * n) n m.places) (departed_count (count_at m.counts k) t (part (k * n) n m.places)) (count_at m.counts k));
      }

  -- what an accepted event stores
  abbrev pub stored : Contents Mark → Event → Contents Mark
  stored m (Release t i) = with_entry (becoming m t Computing) (cluster_at y.tasks.now t) (record { mark = order.mark (parameter_at y.tasks.now t) i; task = t })
  stored m (Finish t) = without_entry (becoming m t Idle) (cluster_at y.tasks.now t) t

  -- what an event answers
  abbrev pub replied : Contents Mark → Event → Result Answer Refusal
  replied m e = unless (turned_away m e) Accepted

  -- what the memory holds after it; a refused event stores nothing
  abbrev pub afterwards : Contents Mark → Event → Contents Mark
  afterwards m e = kept_if (turned_away m e) m (stored m e)

  -- a cluster's scheduled set, asked
  abbrev pub asked_set : Contents Mark → ℕ → Result ℕ Refusal
  asked_set m k = unless (first_of ((too_small m, MemoryTooSmall) ∷ (not (nat_lt k y.clusters), NoSuchCluster) ∷ [])) (running m k)

  -- a task's condition, asked
  abbrev pub asked_condition : Contents Mark → ℕ → Result Condition Refusal
  asked_condition m t = unless (first_of ((too_small m, MemoryTooSmall) ∷ (not (nat_lt t (task_count y)), NoSuchTask) ∷ [])) (condition_at m.jobs t)
