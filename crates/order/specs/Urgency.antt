-- What an order of jobs is: who goes first, by a mark that a job is given at its release and by its task's number.
use Rattle.std.specs.Prelude.{◌≡◌, ℕ, Bool, true, false, not, ◌≢◌}

-- which parameters a task may have, the mark of a job released at an instant, and whether one job goes before another
pub record Urgency (Mark : Type 0) : Type 0 where
  pub fits : ℕ → Bool
  pub mark : ℕ → ℕ → Mark
  pub before : Mark → ℕ → Mark → ℕ → Bool

-- no job goes before itself, what goes before carries on, and of two tasks' jobs exactly one goes before the other
pub record Lawful {Mark : Type 0} (before : Mark → ℕ → Mark → ℕ → Bool) : Type 0 where
  pub never_itself : (x : Mark) (t : ℕ) → before x t x t ≡ false
  pub carries : (x y z : Mark) (t u v : ℕ) → before x t y u ≡ true → before y u z v ≡ true → before x t z v ≡ true
  pub decides : (x y : Mark) (t u : ℕ) → (t ≢ u) → before x t y u ≡ not (before y u x t)
