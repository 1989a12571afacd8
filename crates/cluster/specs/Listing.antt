-- A cluster's pending jobs as an ordered list of entries.
use Rattle.std.specs.Prelude.{◌≡◌, ℕ, ◌+◌, ◌-◌, ◌<◌, Bool, true, cond, ◌&&◌, List, [], ◌∷◌, ◌++◌, length, map, take, drop, ◌==◌, nat_le, nat_lt}
use Rattle.std.specs.List.{list_any}
use Rattle.ordered.specs.Ranks.{Sorted, ranked, found}
use Rattle.ordered.specs.Places.{closed}
use Rattle.model.specs.Words.{Plan, State, pending}
use Rattle.order.specs.declared.Entry.{Entry}
use Rattle.cluster.specs.declared.Span.{Span}

-- one pending job is more urgent than another
abbrev pub urgent : {Mark : Type 0} → (Mark → ℕ → Mark → ℕ → Bool) → Entry Mark → Entry Mark → Bool
urgent before a b = before a.mark a.task b.mark b.task

-- the tasks of the entries, in their order
abbrev pub tasks_of : {Mark : Type 0} → List (Entry Mark) → List ℕ
tasks_of es = map (λ e. e.task) es

-- is t one of them
abbrev pub has : List ℕ → ℕ → Bool
has xs t = list_any (λ x. x == t) xs

-- each entry has the mark of its task
abbrev pub Marked : {Mark : Type 0} → (ℕ → Mark) → List (Entry Mark) → Type 0
Marked mark [] = Unit {0}
Marked mark (e ∷ es) = (e.mark ≡ mark e.task) × Marked mark es

-- the entries are exactly the pending jobs of cluster k, with their marks, the most urgent first
pub record Listed {Mark : Type 0} (P : Plan Mark) (s : State Mark) (k : ℕ) (es : List (Entry Mark)) : Type 0 where
  pub sorted : Sorted (urgent P.order.before) es
  pub exactly : (t : ℕ) → has (tasks_of es) t ≡ (pending P s t && P.cluster t == k)
  pub marks : Marked s.mark es
  pub within : (t : ℕ) → has (tasks_of es) t ≡ true → t < P.tasks

-- the n places from a on
abbrev pub part : {A : Type 0} → ℕ → ℕ → List A → List A
part a n xs = take n (drop a xs)

-- the entries of the list that lies there
abbrev pub entries : {A : Type 0} → Span → List A → List A
entries l xs = take l.used (part l.from l.room xs)

-- xs with ys in the n places from a on
abbrev pub with_part : {A : Type 0} → ℕ → ℕ → List A → List A → List A
with_part a n xs ys = take a xs ++ (ys ++ drop n (drop a xs))

-- do the n places from a on exist
abbrev pub fits : {A : Type 0} → ℕ → ℕ → List A → Bool
fits a n xs = nat_le (a + n) (length xs)

-- a list in the first `used` of these places, with e put in its place; as it was where it is full
abbrev pub entered : {Mark : Type 0} → (Mark → ℕ → Mark → ℕ → Bool) → ℕ → Entry Mark → List (Entry Mark) → List (Entry Mark)
entered before used e es = cond (nat_lt used (length es)) (ranked (urgent before) e (take used es) ++ drop (used + 1) es) es

-- how many entries it has then
abbrev pub entered_count : ℕ → ℕ → ℕ
entered_count used room = cond (nat_lt used room) (used + 1) used

-- the same list without the entry of task t
abbrev pub departed : {Mark : Type 0} → ℕ → ℕ → List (Entry Mark) → List (Entry Mark)
departed used t es = closed used (found (λ e. e.task) t (take used es)) es

-- how many entries it has then
abbrev pub departed_count : {Mark : Type 0} → ℕ → ℕ → List (Entry Mark) → ℕ
departed_count used t es = cond (nat_lt (found (λ e. e.task) t (take used es)) used && nat_le used (length es)) (used - 1) used
