-- A set of tasks is a test of their numbers, and as a number it has bit t set for each task t.
use Rattle.std.specs.Prelude.{ℕ, zero, suc, ◌+◌, ◌/◌, ◌%◌, ◌^◌, Bool, false, cond, not, ◌&&◌, ◌||◌, List, [], ◌∷◌, ◌++◌, ◌==◌, nat_lt}
use Rattle.task_set.specs.declared.TaskSet.{TaskSet}

-- the set whose tasks have their bit set in n
unfoldable pub bits : ℕ → ℕ → Bool
bits n u = n / 2 ^ u % 2 == 1

-- the number with the bit of t alone, or 0 where t is no task
abbrev pub bit : ℕ → ℕ
bit t = cond (nat_lt t 64) (2 ^ t) 0

-- how many numbers below n pass the test p
unfoldable pub tally : ℕ → (ℕ → Bool) → ℕ
tally zero p = 0
tally (suc n) p = cond (p n) 1 0 + tally n p

-- whether any number below n passes
unfoldable pub someone : ℕ → (ℕ → Bool) → Bool
someone zero p = false
someone (suc n) p = p n || someone n p

-- the numbers below n that pass, the least first
unfoldable pub upto : ℕ → (ℕ → Bool) → List ℕ
upto zero p = []
upto (suc n) p = upto n p ++ cond (p n) (n ∷ []) []

-- those of a set that are tasks: 0 to 63
abbrev pub tasks : (ℕ → Bool) → ℕ → Bool
tasks s u = s u && nat_lt u 64

-- the set of nobody
abbrev pub nobody : ℕ → Bool
nobody u = false

-- the set of t alone
abbrev pub only : ℕ → ℕ → Bool
only t u = t == u

-- the set of t, if it is a task
abbrev pub few : ℕ → ℕ → Bool
few t = tasks (only t)

-- a set with t
abbrev pub plus : (ℕ → Bool) → ℕ → ℕ → Bool
plus s t u = s u || t == u

-- a set without t
abbrev pub less : (ℕ → Bool) → ℕ → ℕ → Bool
less s t u = s u && not (t == u)

-- the tasks of a value, the least first
abbrev pub members : TaskSet → List ℕ
members s = upto 64 (bits s.bits)
