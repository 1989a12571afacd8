-- What a lock means: who holds it, who waits, for how many turns, and what its steps make of it.
use Rattle.std.specs.Prelude.{ℕ, Bool, true, false, cond, ◌&&◌, ◌||◌, List, ◌++◌, length, drop, Some, None, Option, Ok, Err, Result, ◌==◌, nat_le}
use Rattle.lock.specs.declared.Refusal.{Refusal}
use Rattle.lock.specs.declared.Refusal.TheVariants.{NoSuchKind, CountUnfit, BufferTooShort}
use Rattle.lock.specs.declared.Reply.{Reply}
use Rattle.lock.specs.declared.Reply.TheVariants.{Granted, Waits}
use Rattle.task_set.specs.Sets.{tally}
use Rattle.lock.specs.Words.{has}

-- what a kind of lock is and does, as functions of a lock's meaning
pub record LockModel (L : Type 0) : Type 1 where
  -- of the values that set-up and the lock's own steps make
  pub sound : L → Type 0
  -- an empty lock of a kind number and a count k for m processors
  pub start : ℕ → ℕ → ℕ → Result L Refusal
  -- who holds, who waits, in the lock's own order, and a waiter's turns to go
  pub holds : L → ℕ → Bool
  pub list : L → List ℕ
  pub togo : L → ℕ → ℕ
  -- the mode that a holder or a waiter asked for
  pub mode : L → ℕ → ℕ
  -- as set up: the modes that fit, the limit of a mode for a number of others, and how many may hold together, by their modes
  pub fits : L → ℕ → Bool
  pub limit : L → ℕ → ℕ → ℕ
  pub allows : L → (ℕ → ℕ) → Bool
  -- a request by a task for a mode; none is its reply where it is declined
  pub reply : L → ℕ → ℕ → Option Reply
  pub requested : L → ℕ → ℕ → L
  -- a completion by a task that holds: whom it grants, and whether it ends a turn
  pub completed : L → ℕ → L
  pub grants : L → ℕ → ℕ → Bool
  pub ends : L → ℕ → Bool

-- what a completion that is not declined comes to: whom it grants, and whether a turn ended
pub record Outcome : Type 0 where
  pub granted : ℕ → Bool
  pub ends_turn : Bool

-- the answer of such a completion
abbrev pub took : (ℕ → Bool) → Bool → Option Outcome
took granted ends = Some (record { granted = granted; ends_turn = ends })

-- whether a reply grants
abbrev pub is_granted : Option Reply → Bool
is_granted (Some Granted) = true
is_granted (Some Waits) = false
is_granted None = false

-- whether a reply makes wait
abbrev pub is_waits : Option Reply → Bool
is_waits (Some Granted) = false
is_waits (Some Waits) = true
is_waits None = false

module _ {L : Type 0} (K : LockModel L) where
  -- who waits
  abbrev pub queued : L → ℕ → Bool
  queued l t = has (K.list l) t

  -- who holds or waits
  abbrev pub member : L → ℕ → Bool
  member l t = K.holds l t || queued l t

  -- how many hold or wait
  abbrev pub crowd : L → ℕ
  crowd l = tally 64 (member l)

  -- how many hold, by the mode that they asked for
  abbrev pub holding : L → ℕ → ℕ
  holding l m = tally 64 (λ u. K.holds l u && K.mode l u == m)

  -- what a completion answers: none where its task does not hold
  abbrev pub outcome : L → ℕ → Option Outcome
  outcome l t = cond (K.holds l t) (took (K.grants l t) (K.ends l t)) None

-- a lock of a kind that is known, if its count is fit
abbrev pub started : {L : Type 0} → Bool → Bool → L → Result L Refusal
started known fit l = cond known (cond fit (Ok l) (Err CountUnfit)) (Err NoSuchKind)

-- what a value that was made means
abbrev pub made_of : {A L : Type 0} → (A → L) → Result A Refusal → Result L Refusal
made_of view (Ok x) = Ok (view x)
made_of view (Err e) = Err e

-- a buffer that a row is written into, if the row is no longer than it
abbrev pub written : List ℕ → List ℕ → List ℕ
written xs buffer = cond (nat_le (length xs) (length buffer)) (xs ++ drop (length xs) buffer) buffer

-- what that answers
abbrev pub count_of : List ℕ → List ℕ → Result ℕ Refusal
count_of xs buffer = cond (nat_le (length xs) (length buffer)) (Ok (length xs)) (Err BufferTooShort)
