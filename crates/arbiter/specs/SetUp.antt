-- What set-up tests, in its order, and what it leaves.
use Rattle.std.specs.Prelude.{◌≡◌, ℕ, ◌*◌, Bool, not, ◌||◌, List, [], ◌∷◌, length, replicate, IfOk, None, Option, Result, nat_lt}
use Rattle.std.specs.List.{list_any}
use Rattle.order.specs.Urgency.{Urgency}
use Rattle.model.specs.declared.Task.{Task}
use Rattle.model.specs.declared.Condition.TheVariants.{Idle}
use Rattle.model.specs.declared.Refusal.{Refusal}
use Rattle.model.specs.declared.Refusal.TheVariants.{ClusterCount, ClusterSize, TaskCount, MemoryTooSmall, ClusterAbsent, ParameterUnfit}
use Rattle.model.specs.Rules.{first_of, unless, kept_if}
use Rattle.model.specs.Promise.{Kept}
use Rattle.cluster.specs.declared.Job.{Job}
use Rattle.arbiter.specs.declared.System.{System}
use Rattle.arbiter.specs.Memory.{Tables, said, Contents, plan_of}
use Rattle.arbiter.specs.Meaning.{Reached}

-- n is not one of low to high
abbrev pub outside : ℕ → ℕ → ℕ → Bool
outside low high n = nat_lt n low || nat_lt high n

-- some task's cluster is not there
abbrev pub absent : ℕ → List Task → Bool
absent clusters ts = list_any (λ t. not (nat_lt t.cluster clusters)) ts

-- some task's parameter does not fit
abbrev pub unfit : (ℕ → Bool) → List Task → Bool
unfit fits ts = list_any (λ t. not (fits t.parameter)) ts

-- a job's record as set-up leaves it
abbrev pub idle_job : Job
idle_job = record { condition = Idle; donor = None; recipient = None }

module _ {Mark : Type 0} (order : Urgency Mark) where
  -- the first test that fails, each over its whole table
  abbrev pub unaccepted : Tables → Contents Mark → Option Refusal
  unaccepted x m = first_of (
      (outside 1 8 x.clusters, ClusterCount) ∷ (outside 1 8 x.size, ClusterSize) ∷ (outside 1 64 (length x.tasks), TaskCount)
      ∷ (nat_lt (length m.jobs) (length x.tasks) || nat_lt (length m.places) (x.clusters * length x.tasks), MemoryTooSmall)
      ∷ (absent x.clusters x.tasks, ClusterAbsent) ∷ (unfit order.fits x.tasks, ParameterUnfit) ∷ [])

  -- every record idle and every list empty
  abbrev pub cleared : Contents Mark → Contents Mark
  cleared m = record { jobs = replicate (length m.jobs) idle_job; places = m.places; counts = replicate 8 0 }

-- set-up of a system: its answer and the memory after it; where it is accepted, the memory is reached by no call yet, and the promise holds
pub record SetUp {Mark : Type 0} (order : Urgency Mark) (y : System) (old new : Contents Mark) (r : Result Unit Refusal) : Type 0 where
  pub replies : r ≡ unless (unaccepted order (said y) old) tt
  pub stores : new ≡ kept_if (unaccepted order (said y) old) old (cleared order old)
  pub reaches : IfOk r (λ _. Reached order y new [])
  pub promise : IfOk r (λ _. Kept (plan_of order y) [])
