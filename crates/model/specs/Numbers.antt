-- The number of each condition, each refusal and each kind of event.
use Rattle.std.specs.Prelude.{ℕ}
use Rattle.model.specs.declared.Condition.{Condition}
use Rattle.model.specs.declared.Condition.TheVariants.{Idle, Computing, Wanting, Waiting, Holding, Done}
use Rattle.model.specs.declared.Event.{Event}
use Rattle.model.specs.declared.Event.TheVariants.{Release, Finish}
use Rattle.model.specs.declared.Refusal.{Refusal}
use Rattle.model.specs.declared.Refusal.TheVariants.{ClusterCount, ClusterSize, TaskCount, MemoryTooSmall, ClusterAbsent, ParameterUnfit, NoSuchTask, AlreadyPending, NotPending, NotScheduled, NoSuchCluster}

-- the task whose event it is
abbrev pub event_task : Event → ℕ
event_task (Release t i) = t
event_task (Finish t) = t

-- the number of an event's kind
abbrev pub event_kind : Event → ℕ
event_kind (Release t i) = 4
event_kind (Finish t) = 7

-- the number of a condition
abbrev pub condition_number : Condition → ℕ
condition_number Idle = 0
condition_number Computing = 1
condition_number (Wanting r m) = 2
condition_number (Waiting r m) = 3
condition_number (Holding r m) = 4
condition_number Done = 5

-- the number of a refusal
abbrev pub refusal_number : Refusal → ℕ
refusal_number ClusterCount = 1
refusal_number ClusterSize = 2
refusal_number TaskCount = 3
refusal_number MemoryTooSmall = 3
refusal_number ClusterAbsent = 5
refusal_number ParameterUnfit = 6
refusal_number NoSuchTask = 10
refusal_number AlreadyPending = 13
refusal_number NotPending = 14
refusal_number NotScheduled = 15
refusal_number NoSuchCluster = 18
