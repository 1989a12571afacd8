-- The steps of the loop over a list of entries
use Rattle.std.proofs.Common.{◌≡◌, ℕ, zero, suc, ◌+◌, ◌-◌, ◌<◌, ◌≤◌, List, [], ◌∷◌, length, get_or, take, drop, Some, None, Option, sym, refl, ap, ◌∙◌, sub-one}
use Rattle.std.specs.List.{fold, filter_map, cons_option}
use Rattle.std.proofs.lemmas.List.{at_drop_more, at_drop_all}
use Rattle.order.specs.declared.Entry.{Entry}
use Rattle.task_set.specs.declared.TaskSet.{TaskSet}
use Rattle.cluster.specs.Picks.{joined}
use Rattle.cluster.specs.Listing.{tasks_of}

module _ {M : Type 0} (xs : List (Entry M)) (i : ℕ) where
  module _ (x : Entry M) (l : i < length xs) (read : x ≡ get_or xs i x) where
    pub drop-tasks : {Y : Type 0} (F : List ℕ → Y) → F (tasks_of (drop i xs)) ≡ F (x.task ∷ tasks_of (drop (i + 1) xs))
    drop-tasks F = at_drop_more (λ ys. F (tasks_of ys)) xs i x l ∙ ap (λ y. F (y.task ∷ tasks_of (drop (i + 1) xs))) (sym read)

    module _ (pick : ℕ → Option ℕ) (set : TaskSet) (left : ℕ) where
      pub pick-none : pick x.task ≡ None → fold joined set (take left (filter_map pick (tasks_of (drop (i + 1) xs)))) ≡ fold joined set (take left (filter_map pick (tasks_of (drop i xs))))
      pick-none e = sym (drop-tasks (λ ts. fold joined set (take left (filter_map pick ts))) ∙ ap (λ o. fold joined set (take left (cons_option o (filter_map pick (tasks_of (drop (i + 1) xs)))))) e)

      take-one : (n u : ℕ) (us : List ℕ) → (n ≡ 0 → ⊥) → fold joined set (take n (u ∷ us)) ≡ fold joined (joined set u) (take (n - 1) us)
      take-one zero u us h = absurd (h refl)
      take-one (suc n) u us h = rw sub-one

      pub pick_some : (u : ℕ) → pick x.task ≡ Some u → (left ≡ 0 → ⊥) → fold joined (joined set u) (take (left - 1) (filter_map pick (tasks_of (drop (i + 1) xs)))) ≡ fold joined set (take left (filter_map pick (tasks_of (drop i xs))))
      pick_some u e h = sym (drop-tasks (λ ts. fold joined set (take left (filter_map pick ts))) ∙ (ap (λ o. fold joined set (take left (cons_option o (filter_map pick (tasks_of (drop (i + 1) xs)))))) e ∙ take-one left u _ h))

  pub picked_past : (pick : ℕ → Option ℕ) (set : TaskSet) (left : ℕ) → length xs ≤ i → fold joined set (take left (filter_map pick (tasks_of (drop i xs)))) ≡ set
  picked_past pick set left l = at_drop_all (λ ys. fold joined set (take left (filter_map pick (tasks_of ys)))) xs i l ∙ none left
    where
      none : (n : ℕ) → fold joined set (take n []) ≡ set
      none zero = refl
      none (suc n) = refl
