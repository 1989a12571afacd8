-- Who runs, read off the job records along a cluster's list.
use Rattle.std.specs.Prelude.{ℕ, cond, List, take, Some, None, Option, bit_or, fold, filter_map}
use Rattle.std.specs.List.{slice_get}
use Rattle.model.specs.declared.Condition.{Condition}
use Rattle.model.specs.declared.Condition.TheVariants.{Idle}
use Rattle.model.specs.Words.{holds, runs, on, is_some}
use Rattle.task_set.specs.declared.TaskSet.{TaskSet}
use Rattle.task_set.specs.Sets.{bit}
use Rattle.order.specs.declared.Entry.{Entry}
use Rattle.cluster.specs.declared.Job.{Job}
use Rattle.cluster.specs.Listing.{tasks_of}

-- what f reads off a record, or d where there is none
abbrev pub read : {A B : Type 0} → (A → B) → B → Option A → B
read f d None = d
read f d (Some x) = f x

-- a task's condition, donor and recipient by its record; idle and alone where there is none
abbrev pub condition_at : List Job → ℕ → Condition
condition_at js t = read (λ j. j.condition) Idle (slice_get js t)

abbrev pub donor_at : List Job → ℕ → Option ℕ
donor_at js t = read (λ j. j.donor) None (slice_get js t)

abbrev pub recipient_at : List Job → ℕ → Option ℕ
recipient_at js t = read (λ j. j.recipient) None (slice_get js t)

-- who runs at the place of t: its recipient, if that holds; nobody, if t counts at its donor's place; or else t itself, if it can
abbrev pub pick : (ℕ → Condition) → (ℕ → Option ℕ) → (ℕ → Option ℕ) → ℕ → Option ℕ
pick condition donor recipient t =
    cond (on (recipient t) (λ r. holds (condition r))) (recipient t)
    (cond (is_some (donor t)) None (cond (runs (condition t)) (Some t) None))

-- the same by the records
abbrev pub pick_at : List Job → ℕ → Option ℕ
pick_at js = pick (condition_at js) (donor_at js) (recipient_at js)

-- the set x with t put in
abbrev pub joined : TaskSet → ℕ → TaskSet
joined x t = record { bits = bit_or x.bits (bit t) }

-- the set of the first `size` who are picked along the entries
abbrev pub picked_tasks : {Mark : Type 0} → List Job → List (Entry Mark) → ℕ → TaskSet
picked_tasks js es size = fold joined (record { bits = 0 }) (take size (filter_map (pick_at js) (tasks_of es)))

-- the same as a number
abbrev pub picked_set : {Mark : Type 0} → List Job → List (Entry Mark) → ℕ → ℕ
picked_set js es size = (picked_tasks js es size).bits
