-- What moving the entries of a part by one place leaves.
use Rattle.std.proofs.Common.{◌≡◌, ℕ, suc, ◌+◌, ◌-◌, ◌<◌, ◌≤◌, Bool, true, false, cond, List, [], ◌∷◌, ◌++◌, length, get_or, take, drop, set, refl, sym, ap, ◌∙◌, add-one, arith}
use Rattle.std.specs.List.{insert, remove, copy_within}
use Rattle.std.proofs.lemmas.List.{append_assoc, take-take, drop-take, take_more, length-take-le, set_at}
use Rattle.ordered.specs.Ranks.{place, ranked}

one_more : (n : ℕ) → suc n ≡ 1 + n
one_more n = omega arith

pub ranked-is : {E : Type 0} (before : E → E → Bool) (e : E) (xs : List E) → ranked before e xs ≡ insert xs (place before e xs) e
ranked-is before e [] = refl
ranked-is before e (x ∷ xs) = let h = ranked-is before e xs in
    elim (before x e) as (λ b. cond b (x ∷ ranked before e xs) (e ∷ x ∷ xs) ≡ insert (x ∷ xs) (cond b (1 + place before e xs) 0) e)
    [ true ↦ ap (λ ys. x ∷ ys) h ∙ ap (λ n. insert (x ∷ xs) n e) (one_more (place before e xs)) | false ↦ refl ]

module _ {E : Type 0} (xs : List E) (at used : ℕ) where
  front : at ≤ used → take at xs ≡ take at (take used xs)
  front le = sym (take-take at used xs le)

  -- the entries from `at` to `used` moved back by one place, and e put in at `at`
  pub moved_in : (e : E) → at ≤ used → used < length xs → set (copy_within xs at used (at + 1)) at e ≡ insert (take used xs) at e ++ drop (used + 1) xs
  moved_in e le lt =
      let mid : take (used - at) (drop at xs) ≡ drop at (take used xs) = sym (drop-take at (used - at) xs) ∙ ap (λ n. drop at (take n xs)) (omega arith) in
      let end : at + 1 + (used - at) ≡ used + 1 = omega arith in
      let rest = drop at (take used xs) ++ drop (used + 1) xs in
      let long : length (take at xs) ≡ at = length-take-le at xs (omega arith) in
      let one : take (at + 1) xs ≡ take at xs ++ (get_or xs at e ∷ []) = take_more xs at e (omega arith) in
      ap (λ ys. set ys at e) (append_assoc (take (at + 1) xs) (take (used - at) (drop at xs)) (drop (at + 1 + (used - at)) xs))
      ∙ ap (λ ys. set (take (at + 1) xs ++ (ys ++ drop (at + 1 + (used - at)) xs)) at e) mid
      ∙ ap (λ n. set (take (at + 1) xs ++ (drop at (take used xs) ++ drop n xs)) at e) end
      ∙ ap (λ ys. set (ys ++ rest) at e) one
      ∙ ap (λ ys. set ys at e) (append_assoc (take at xs) (get_or xs at e ∷ []) rest)
      ∙ set_at (take at xs) (get_or xs at e) rest e at long
      ∙ ap (λ ys. ys ++ (e ∷ rest)) (front le)
      ∙ sym (append_assoc (take at (take used xs)) (e ∷ drop at (take used xs)) (drop (used + 1) xs))

  -- the entries behind `at` moved up by one place
  pub moved_out : at < used → used ≤ length xs → copy_within xs (at + 1) used at ≡ remove (take used xs) at ++ drop (used - 1) xs
  moved_out lt le =
      let mid : take (used - (at + 1)) (drop (at + 1) xs) ≡ drop (at + 1) (take used xs) = sym (drop-take (at + 1) (used - (at + 1)) xs) ∙ ap (λ n. drop (at + 1) (take n xs)) (omega arith) in
      let end : at + (used - (at + 1)) ≡ used - 1 = omega arith in
      append_assoc (take at xs) (take (used - (at + 1)) (drop (at + 1) xs)) (drop (at + (used - (at + 1))) xs)
      ∙ ap (λ ys. take at xs ++ (ys ++ drop (at + (used - (at + 1))) xs)) mid
      ∙ ap (λ n. take at xs ++ (drop (at + 1) (take used xs) ++ drop n xs)) end
      ∙ ap (λ n. take at xs ++ (drop n (take used xs) ++ drop (used - 1) xs)) (add-one at)
      ∙ ap (λ ys. ys ++ (drop (suc at) (take used xs) ++ drop (used - 1) xs)) (front (omega arith))
      ∙ sym (append_assoc (take at (take used xs)) (drop (suc at) (take used xs)) (drop (used - 1) xs))
