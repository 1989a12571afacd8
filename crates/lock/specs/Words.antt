-- A row is a list of tasks.
use Rattle.std.specs.Prelude.{ℕ, suc, Bool, true, false, cond, not, ◌&&◌, List, [], ◌∷◌, ◌==◌}
use Rattle.std.specs.List.{list_any}
use Rattle.task_set.specs.Sets.{tasks}

-- whether t is in the row
abbrev pub has : List ℕ → ℕ → Bool
has xs t = list_any (λ x. x == t) xs

-- whether no task is in the row twice
abbrev pub distinct : List ℕ → Bool
distinct [] = true
distinct (x ∷ xs) = not (has xs x) && distinct xs

-- the place of t, from 0, or the length
abbrev pub index : List ℕ → ℕ → ℕ
index [] t = 0
index (x ∷ xs) t = cond (x == t) 0 (suc (index xs t))

-- the row without its first t
abbrev pub removed : List ℕ → ℕ → List ℕ
removed [] t = []
removed (x ∷ xs) t = cond (x == t) xs (x ∷ removed xs t)

-- the set of a row's first
abbrev pub head_is : List ℕ → ℕ → Bool
head_is [] t = false
head_is (x ∷ _) t = x == t

-- the first of a row, if it is a task
abbrev pub first : List ℕ → ℕ → Bool
first xs = tasks (head_is xs)
