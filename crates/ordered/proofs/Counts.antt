-- How many elements pass a test: after an insertion and a removal, and of those before an element its rank.
use Rattle.std.proofs.Common.{◌≡◌, ℕ, zero, suc, ◌+◌, Bool, true, false, cond, not, List, [], ◌∷◌, Some, sym, refl, ap, ◌∙◌, arith}
use Rattle.std.specs.List.{slice_get, remove}
use Rattle.ordered.specs.Ranks.{Ranks, Leads, Sorted, Fresh, place, ranked, passing}
use Rattle.ordered.proofs.Sortedness.{leads_along}

module _ {E : Type 0} (p : E → Bool) where
  -- two neighbors in either order
  passing-turned : (x y : E) (xs : List E) → passing p (x ∷ y ∷ xs) ≡ passing p (y ∷ x ∷ xs)
  passing-turned x y xs =
      elim (p x) as (λ a. cond a (suc (cond (p y) (suc (passing p xs)) (passing p xs))) (cond (p y) (suc (passing p xs)) (passing p xs)) ≡ cond (p y) (suc (cond a (suc (passing p xs)) (passing p xs))) (cond a (suc (passing p xs)) (passing p xs)))
      [ true ↦ elim (p y) as (λ b. suc (cond b (suc (passing p xs)) (passing p xs)) ≡ cond b (suc (suc (passing p xs))) (suc (passing p xs))) [ true ↦ refl | false ↦ refl ] | false ↦ refl ]

  passing-behind : (x : E) (xs ys : List E) → passing p xs ≡ passing p ys → passing p (x ∷ xs) ≡ passing p (x ∷ ys)
  passing-behind x xs ys e = ap (λ n. cond (p x) (suc n) n) e

  pub passing-ranked : (before : E → E → Bool) (e : E) (xs : List E) → passing p (ranked before e xs) ≡ passing p (e ∷ xs)
  passing-ranked before e [] = refl
  passing-ranked before e (x ∷ xs) =
      let h = passing-behind x (ranked before e xs) (e ∷ xs) (passing-ranked before e xs) in
      elim (before x e) as (λ b. passing p (cond b (x ∷ ranked before e xs) (e ∷ x ∷ xs)) ≡ passing p (e ∷ x ∷ xs))
      [ true ↦ h ∙ passing-turned x e xs | false ↦ refl ]

  pub passing-removed : (xs : List E) (i : ℕ) (x : E) → slice_get xs i ≡ Some x → passing p (x ∷ remove xs i) ≡ passing p xs
  passing-removed [] zero x is = cc
  passing-removed [] (suc i) x is = cc
  passing-removed (y ∷ ys) zero x is = let same : y ≡ x = cc in ap (λ z. passing p (z ∷ ys)) (sym same)
  passing-removed (y ∷ ys) (suc i) x is = passing-turned x y (remove ys i) ∙ passing-behind y (x ∷ remove ys i) ys (passing-removed ys i x is)

leads_at : {E : Type 0} (before : E → E → Bool) (y : E) (ys : List E) (i : ℕ) (x : E) → Leads before y ys → slice_get ys i ≡ Some x → before y x ≡ true
leads_at before y [] zero x l is = cc
leads_at before y [] (suc i) x l is = cc
leads_at before y (z ∷ zs) zero x l is = let same : z ≡ x = cc in ap (before y) (sym same) ∙ l.0
leads_at before y (z ∷ zs) (suc i) x l is = leads_at before y zs i x l.1 is

module _ {E : Type 0} (before : E → E → Bool) (never : (x : E) → before x x ≡ false)
    (carries : (x y z : E) → before x y ≡ true → before y z ≡ true → before x z ≡ true) where
  pub never_back : (x y : E) → before x y ≡ true → before y x ≡ false
  never_back x y h =
      elim (before y x) as (λ b. before y x ≡ b → b ≡ false)
      [ true ↦ λ k. sym (carries x y x h k) ∙ never x | false ↦ λ _. refl ] refl

  -- none of those after e goes before it
  passing-after : (e : E) (xs : List E) → Leads before e xs → passing (λ x. before x e) xs ≡ 0
  passing-after e [] l = refl
  passing-after e (x ∷ xs) l = simp (never_back e x l.0) (passing-after e xs l.1)

  -- an element of a sorted list stands behind just those that go before it
  pub standing-rank : (xs : List E) (i : ℕ) (x : E) → Sorted before xs → slice_get xs i ≡ Some x → passing (λ y. before y x) xs ≡ i
  standing-rank [] zero x s is = cc
  standing-rank [] (suc i) x s is = cc
  standing-rank (y ∷ ys) zero x s is =
      let same : y ≡ x = cc in
      ap (λ z. passing (λ w. before w z) (y ∷ ys)) (sym same) ∙ simp (never y) (passing-after y ys s.0)
  standing-rank (y ∷ ys) (suc i) x s is = simp (leads_at before y ys i x s.0 is) (ap suc (standing-rank ys i x s.1 is))

module _ {E : Type 0} {key : E → ℕ} {before : E → E → Bool} (laws : Ranks key before) where
  -- a new element comes to stand behind just those that go before it
  pub place-rank : (e : E) (xs : List E) → Sorted before xs → Fresh key (key e) xs → place before e xs ≡ passing (λ x. before x e) xs
  place-rank e [] s f = refl
  place-rank e (x ∷ xs) s f =
      let p : E → Bool = λ y. before y e in
      elim (before x e) as (λ b. before x e ≡ b → cond b (1 + place before e xs) 0 ≡ cond b (suc (passing p xs)) (passing p xs)) [
        | true ↦ λ _. let h = place-rank e xs s.1 f.1 in omega (arith, h)
        | false ↦ λ h. sym (passing-after before laws.irreflexive laws.transitive e xs (leads_along laws e x xs (laws.different x e f.0 ∙ ap not h) s.0))
      ] refl
