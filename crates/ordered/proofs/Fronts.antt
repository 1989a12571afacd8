-- The list that the first places hold after an insertion and after a removal, and which keys it has.
use Rattle.std.proofs.Common.{◌≡◌, ℕ, zero, suc, ◌+◌, ◌-◌, ◌<◌, ◌≤◌, Bool, true, false, cond, List, [], ◌∷◌, ◌++◌, length, take, drop, refl, ap, ◌∙◌, arith}
use Rattle.std.specs.List.{remove}
use Rattle.std.proofs.lemmas.List.Edits.{length-remove}
use Rattle.std.proofs.lemmas.List.{take_at, length-take-le}
use Rattle.std.proofs.lemmas.Bool.{cond-true}
use Rattle.ordered.specs.Ranks.{Fresh, ranked}
use Rattle.ordered.specs.Places.{closed}
use Rattle.ordered.proofs.Held.{held-yes}

module _ {E : Type 0} (before : E → E → Bool) (e : E) where
  pub length-ranked : (xs : List E) → length (ranked before e xs) ≡ length xs + 1
  length-ranked [] = refl
  length-ranked (x ∷ xs) =
      let h = length-ranked xs in
      elim (before x e) as (λ b. length (cond b (x ∷ ranked before e xs) (e ∷ x ∷ xs)) ≡ suc (length xs) + 1)
      [ true ↦ omega arith | false ↦ omega arith ]

  -- after an insertion there is one place more in use, and the list is the ranked one
  pub ranked-front : (xs : List E) (used : ℕ) → used < length xs → take (used + 1) (ranked before e (take used xs) ++ drop (used + 1) xs) ≡ ranked before e (take used xs)
  ranked-front xs used lt =
      let le : used ≤ length xs = omega arith in
      let long : length (ranked before e (take used xs)) ≡ used + 1 = omega (arith, length-ranked (take used xs), length-take-le used xs le) in
      take_at (ranked before e (take used xs)) (drop (used + 1) xs) (used + 1) long

  pub fresh_ranked : (key : E → ℕ) (k : ℕ) (xs : List E) → (key e ≡ k → ⊥) → Fresh key k xs → Fresh key k (ranked before e xs)
  fresh_ranked key k [] other f = (other, tt)
  fresh_ranked key k (x ∷ xs) other f =
      elim (before x e) as (λ b. Fresh key k (cond b (x ∷ ranked before e xs) (e ∷ x ∷ xs)))
      [ true ↦ (f.0, fresh_ranked key k xs other f.1) | false ↦ (other, f) ]

-- after a removal there is one place fewer in use, and the list is without the entry
pub closed-front : {E : Type 0} (xs : List E) (used at : ℕ) → at < used → used ≤ length xs → take (used - 1) (closed used at xs) ≡ remove (take used xs) at
closed-front xs used at lt le =
    let short : at < length (take used xs) = omega (arith, length-take-le used xs le) in
    let long : length (remove (take used xs) at) ≡ used - 1 = omega (arith, length-remove (take used xs) at short, length-take-le used xs le) in
    ap (take (used - 1)) (cond-true _ _ _ (held-yes xs used at lt le)) ∙ take_at (remove (take used xs) at) (drop (used - 1) xs) (used - 1) long

pub fresh_removed : {E : Type 0} (key : E → ℕ) (k : ℕ) (xs : List E) (i : ℕ) → Fresh key k xs → Fresh key k (remove xs i)
fresh_removed key k [] zero f = tt
fresh_removed key k [] (suc i) f = tt
fresh_removed key k (x ∷ xs) zero f = f.1
fresh_removed key k (x ∷ xs) (suc i) f = (f.0, fresh_removed key k xs i f.1)
