-- Examples: locks on some processors, steps, and how a task then stands.
use Rattle.std.specs.Prelude.{◌≡◌, ℕ, cond, List, [], ◌∷◌, map, Ok, Result}
use Rattle.lock.specs.declared.Refusal.{Refusal}
use Rattle.lock.specs.declared.Step.{Step}
use Rattle.lock.specs.declared.Step.TheVariants.{Request, Completion}
use Rattle.lock.specs.Model.{queued, made_of}
use Rattle.lock.specs.Waits.{after_all}
use Rattle.lock.specs.Kinds.{Any, any}

-- how a task stands to a lock: it waits with its turns to go
pub data Standing : Type 0 where
  away : Standing
  holding : Standing
  waiting : ℕ → Standing

-- how t stands
abbrev pub standing : Any → ℕ → Standing
standing l t = cond (any.holds l t) holding (cond (queued any l t) (waiting (any.togo l t)) away)

-- a kind number, a count and a number of processors; the steps; a task, and how it is to stand
pub record Example : Type 0 where
  pub kind : ℕ
  pub count : ℕ
  pub processors : ℕ
  pub steps : List Step
  pub task : ℕ
  pub stands : Standing

-- a reader-writer lock on 4 processors
abbrev pub rw_example : List Step → ℕ → Standing → Example
rw_example steps t s = record { kind = 2; count = 0; processors = 4; steps = steps; task = t; stands = s }

-- 2 replicas on 4 processors
abbrev pub replicas_example : List Step → ℕ → Standing → Example
replicas_example steps t s = record { kind = 3; count = 2; processors = 4; steps = steps; task = t; stands = s }

-- a mutex on 1 processor
abbrev pub mutex_example : List Step → ℕ → Standing → Example
mutex_example steps t s = record { kind = 1; count = 0; processors = 1; steps = steps; task = t; stands = s }

-- the examples
abbrev pub examples : List Example
examples =
    rw_example (Request 1 1 ∷ []) 1 holding
    ∷ rw_example (Request 1 1 ∷ Request 2 2 ∷ []) 2 (waiting 1)
    ∷ rw_example (Request 1 1 ∷ Request 2 2 ∷ Request 3 1 ∷ []) 3 (waiting 2)
    ∷ rw_example (Request 1 1 ∷ Request 2 2 ∷ Request 3 1 ∷ Completion 1 ∷ Completion 2 ∷ []) 3 holding
    ∷ replicas_example (Request 1 0 ∷ Request 2 0 ∷ []) 2 holding
    ∷ replicas_example (Request 1 0 ∷ Request 2 0 ∷ Request 3 0 ∷ []) 3 (waiting 1)
    ∷ replicas_example (Request 1 0 ∷ Request 2 0 ∷ Request 3 0 ∷ Request 4 0 ∷ []) 4 (waiting 2)
    ∷ mutex_example (Request 1 0 ∷ []) 1 holding
    ∷ mutex_example (Request 1 0 ∷ Request 2 0 ∷ []) 2 (waiting 1)
    ∷ mutex_example (Request 1 0 ∷ Request 2 0 ∷ Completion 1 ∷ []) 2 holding
    ∷ []

-- how the task of an example stands after its steps
abbrev pub seen : Example → Result Standing Refusal
seen e = made_of (λ l. standing (after_all any l e.steps) e.task) (any.start e.kind e.count e.processors)

-- each stands as it is to stand
abbrev pub ExamplesHold : Type 0
ExamplesHold = map seen examples ≡ map (λ e. Ok e.stands) examples
