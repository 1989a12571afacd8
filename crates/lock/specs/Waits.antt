-- Lists of requests and completions of one lock, and how long a request waits in them.
use Rattle.std.specs.Prelude.{◌≡◌, ℕ, ◌+◌, ◌<◌, ◌≤◌, Bool, true, false, cond, ◌&&◌, List, [], ◌∷◌, Some, None, Option, Ok}
use Rattle.lock.specs.declared.Reply.TheVariants.{Granted, Waits}
use Rattle.lock.specs.declared.Step.{Step}
use Rattle.lock.specs.declared.Step.TheVariants.{Request, Completion}
use Rattle.lock.specs.Model.{LockModel, Outcome, outcome, queued, crowd}

module _ {L : Type 0} (K : LockModel L) where
  -- the lock after a step
  abbrev pub after : L → Step → L
  after l (Request t m) = K.requested l t m
  after l (Completion t) = K.completed l t

  -- what a step answers as a completion does
  abbrev pub step_outcome : L → Step → Option Outcome
  step_outcome l (Request t m) = None
  step_outcome l (Completion t) = outcome K l t

  -- whether a step ends a turn
  abbrev pub ends_turn : L → Step → Bool
  ends_turn l (Request t m) = false
  ends_turn l (Completion t) = K.holds l t && K.ends l t

  -- whether a step grants u
  abbrev pub grants_to : L → ℕ → Step → Bool
  grants_to l u (Request t m) = false
  grants_to l u (Completion t) = K.holds l t && K.grants l t u

  -- the lock after a list of steps
  abbrev pub after_all : L → List Step → L
  after_all l [] = l
  after_all l (x ∷ xs) = after_all (after l x) xs

  -- the turns that end in a list of steps up to the one that grants u, which counts
  abbrev pub turns_to_grant : L → ℕ → List Step → ℕ
  turns_to_grant l u [] = 0
  turns_to_grant l u (x ∷ xs) = cond (ends_turn l x) 1 0 + cond (grants_to l u x) 0 (turns_to_grant (after l x) u xs)

  -- after set-up and any steps, of a request that waits: the turns that end from its issue to its grant are at most its limit for the number that held or waited before it
  abbrev pub WaitsBounded : Type 0
  WaitsBounded = (kind k m t mode : ℕ) (l : L) (before later : List Step) → K.start kind k m ≡ Ok l
      → K.reply (after_all l before) t mode ≡ Some Waits
      → turns_to_grant (K.requested (after_all l before) t mode) t later ≤ K.limit l mode (crowd K (after_all l before))

  -- nobody waits in vain: of an empty lock every fit request is granted, and where somebody waits, the completion of the last holder ends a turn and grants someone
  pub record Live : Type 0 where
    pub first_granted : (kind k m t mode : ℕ) (l : L) → K.start kind k m ≡ Ok l → t < 64 → K.fits l mode ≡ true → K.reply l t mode ≡ Some Granted
    pub last_ends : (l : L) (t u : ℕ) → K.sound l → K.holds l t ≡ true → ((v : ℕ) → K.holds l v ≡ true → v ≡ t) → queued K l u ≡ true → K.ends l t ≡ true
    pub last_grants : (l : L) (t u : ℕ) → K.sound l → K.holds l t ≡ true → ((v : ℕ) → K.holds l v ≡ true → v ≡ t) → queued K l u ≡ true → (v : ℕ) × (K.grants l t v ≡ true)
