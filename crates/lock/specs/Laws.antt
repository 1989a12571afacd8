-- The laws that every kind of lock keeps.
use Rattle.std.specs.Prelude.{◌≡◌, ℕ, ◌<◌, ◌≤◌, true, false, not, ◌&&◌, ◌||◌, [], Some, None, Ok, ◌==◌, ◌≢◌}
use Rattle.lock.specs.declared.Reply.TheVariants.{Granted, Waits}
use Rattle.lock.specs.Words.{distinct}
use Rattle.lock.specs.Model.{LockModel, is_granted, is_waits, queued, member, crowd, holding}

-- what is owed by every kind, of the sound values, and all that the code above may use
pub record Laws {L : Type 0} (K : LockModel L) : Type 0 where
  -- set-up makes a sound lock that nobody holds and nobody waits for
  pub start_sound : (kind k m : ℕ) (l : L) → K.start kind k m ≡ Ok l → K.sound l
  pub start_unheld : (kind k m u : ℕ) (l : L) → K.start kind k m ≡ Ok l → K.holds l u ≡ false
  pub start_list : (kind k m : ℕ) (l : L) → K.start kind k m ≡ Ok l → K.list l ≡ []
  -- nobody both holds and waits, and if anyone waits, somebody holds
  pub apart : (l : L) (t : ℕ) → K.sound l → K.holds l t ≡ true → queued K l t ≡ false
  pub served : (l : L) (t : ℕ) → K.sound l → queued K l t ≡ true → (u : ℕ) × (K.holds l u ≡ true)
  -- a waiter has at least one turn to go; tasks are 0 to 63, none is listed twice, and each asked for a mode that fits
  pub some_turn : (l : L) (t : ℕ) → K.sound l → queued K l t ≡ true → 1 ≤ K.togo l t
  pub numbered : (l : L) (t : ℕ) → K.sound l → member K l t ≡ true → t < 64
  pub listed_once : (l : L) → K.sound l → distinct (K.list l) ≡ true
  pub mode_fits : (l : L) (t : ℕ) → K.sound l → member K l t ≡ true → K.fits l (K.mode l t) ≡ true
  -- the holders obey the kind's exclusion
  pub exclusive : (l : L) → K.sound l → K.allows l (holding K l) ≡ true
  -- a request: the newcomer joins as the reply says with the mode that it asks for, moves nobody and raises nobody's turns to go
  pub request_sound : (l : L) (t m : ℕ) → K.sound l → K.sound (K.requested l t m)
  pub request_holds : (l : L) (t m u : ℕ) → K.sound l → K.holds (K.requested l t m) u ≡ (K.holds l u || (t == u && is_granted (K.reply l t m)))
  pub request_queued : (l : L) (t m u : ℕ) → K.sound l → queued K (K.requested l t m) u ≡ (queued K l u || (t == u && is_waits (K.reply l t m)))
  pub request_togo : (l : L) (t m u : ℕ) → K.sound l → queued K l u ≡ true → K.togo (K.requested l t m) u ≤ K.togo l u
  pub request_mode : (l : L) (t m : ℕ) → K.sound l → (K.reply l t m ≢ None) → K.mode (K.requested l t m) t ≡ m
  pub request_modes : (l : L) (t m u : ℕ) → K.sound l → member K l u ≡ true → K.mode (K.requested l t m) u ≡ K.mode l u
  -- if anyone waits, the newcomer is not granted
  pub request_turn : (l : L) (t m u : ℕ) → K.sound l → queued K l u ≡ true → K.reply l t m ≢ Some Granted
  -- a newcomer's turns to go are within the limit for the number that held or waited, which never falls as that grows
  pub newcomer : (l : L) (t m : ℕ) → K.sound l → K.reply l t m ≡ Some Waits → K.togo (K.requested l t m) t ≤ K.limit l m (crowd K l)
  pub grows : (l : L) (m o p : ℕ) → o ≤ p → K.limit l m o ≤ K.limit l m p
  -- a completion: its task goes out, the granted alone go over from the waiting to the holders, and nobody's mode changes
  pub complete_sound : (l : L) (t : ℕ) → K.sound l → K.sound (K.completed l t)
  pub complete_holds : (l : L) (t u : ℕ) → K.sound l → K.holds l t ≡ true → K.holds (K.completed l t) u ≡ ((K.holds l u && not (t == u)) || K.grants l t u)
  pub complete_queued : (l : L) (t u : ℕ) → K.sound l → K.holds l t ≡ true → queued K (K.completed l t) u ≡ (queued K l u && not (K.grants l t u))
  pub complete_modes : (l : L) (t u : ℕ) → K.sound l → member K (K.completed l t) u ≡ true → K.mode (K.completed l t) u ≡ K.mode l u
  -- the granted are exactly those that waited before it and hold after it
  pub granted_are : (l : L) (t u : ℕ) → K.sound l → K.holds l t ≡ true → K.grants l t u ≡ (queued K l u && K.holds (K.completed l t) u)
  -- if no turn ended, nobody is granted and turns to go stay; if one ended, each remaining waiter has at least one turn fewer
  pub none_granted : (l : L) (t u : ℕ) → K.sound l → K.holds l t ≡ true → K.ends l t ≡ false → K.grants l t u ≡ false
  pub turns_stay : (l : L) (t u : ℕ) → K.sound l → K.holds l t ≡ true → K.ends l t ≡ false → queued K l u ≡ true → K.togo (K.completed l t) u ≡ K.togo l u
  pub turn_ends : (l : L) (t u : ℕ) → K.sound l → K.holds l t ≡ true → K.ends l t ≡ true → queued K (K.completed l t) u ≡ true → K.togo (K.completed l t) u < K.togo l u
  -- declined: a request by one who holds or waits, for an unfit mode, or by a task above 63, and nothing else
  pub busy : (l : L) (t m : ℕ) → K.sound l → member K l t ≡ true → K.reply l t m ≡ None
  pub unfit : (l : L) (t m : ℕ) → K.fits l m ≡ false → K.reply l t m ≡ None
  pub above : (l : L) (t m : ℕ) → 64 ≤ t → K.reply l t m ≡ None
  pub taken : (l : L) (t m : ℕ) → K.sound l → t < 64 → member K l t ≡ false → K.fits l m ≡ true → K.reply l t m ≢ None
  -- a declined call leaves the lock as it was
  pub request_declined : (l : L) (t m : ℕ) → K.reply l t m ≡ None → K.requested l t m ≡ l
  pub complete_declined : (l : L) (t : ℕ) → K.holds l t ≡ false → K.completed l t ≡ l
  -- limits, fit modes and the exclusion stay as set up
  pub request_limit : (l : L) (t m mode o : ℕ) → K.limit (K.requested l t m) mode o ≡ K.limit l mode o
  pub complete_limit : (l : L) (t mode o : ℕ) → K.limit (K.completed l t) mode o ≡ K.limit l mode o
  pub request_fits : (l : L) (t m mode : ℕ) → K.fits (K.requested l t m) mode ≡ K.fits l mode
  pub complete_fits : (l : L) (t mode : ℕ) → K.fits (K.completed l t) mode ≡ K.fits l mode
  pub request_allows : (l : L) (t m : ℕ) (c : ℕ → ℕ) → K.allows (K.requested l t m) c ≡ K.allows l c
  pub complete_allows : (l : L) (t : ℕ) (c : ℕ → ℕ) → K.allows (K.completed l t) c ≡ K.allows l c
