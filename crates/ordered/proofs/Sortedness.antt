-- An insertion and a removal keep a list sorted.
use Rattle.std.proofs.Common.{◌≡◌, ℕ, zero, suc, Bool, true, false, cond, not, List, [], ◌∷◌, refl, ap, ◌∙◌}
use Rattle.std.specs.List.{remove}
use Rattle.ordered.specs.Ranks.{Ranks, Leads, Sorted, Fresh, ranked}

module _ {E : Type 0} {key : E → ℕ} {before : E → E → Bool} (laws : Ranks key before) where
  leads_ranked : (x e : E) (xs : List E) → before x e ≡ true → Leads before x xs → Leads before x (ranked before e xs)
  leads_ranked x e [] h l = (h, tt)
  leads_ranked x e (y ∷ ys) h l =
      elim (before y e) as (λ b. Leads before x (cond b (y ∷ ranked before e ys) (e ∷ y ∷ ys)))
      [ true ↦ (l.0, leads_ranked x e ys h l.1) | false ↦ (h, l) ]

  pub leads_along : (e x : E) (xs : List E) → before e x ≡ true → Leads before x xs → Leads before e xs
  leads_along e x [] h l = tt
  leads_along e x (y ∷ ys) h l = (laws.transitive e x y h l.0, leads_along e x ys h l.1)

  pub ranked-sorted : (e : E) (xs : List E) → Sorted before xs → Fresh key (key e) xs → Sorted before (ranked before e xs)
  ranked-sorted e [] s f = (tt, tt)
  ranked-sorted e (x ∷ xs) s f =
      elim (before x e) as (λ b. before x e ≡ b → Sorted before (cond b (x ∷ ranked before e xs) (e ∷ x ∷ xs))) [
        | true ↦ λ h. (leads_ranked x e xs h s.0, ranked-sorted e xs s.1 f.1)
        | false ↦ λ h. let first : before e x ≡ true = laws.different x e f.0 ∙ ap not h in ((first, leads_along e x xs first s.0), s)
      ] refl

module _ {E : Type 0} (before : E → E → Bool) where
  leads_removed : (x : E) (xs : List E) (i : ℕ) → Leads before x xs → Leads before x (remove xs i)
  leads_removed x [] zero l = tt
  leads_removed x [] (suc i) l = tt
  leads_removed x (y ∷ ys) zero l = l.1
  leads_removed x (y ∷ ys) (suc i) l = (l.0, leads_removed x ys i l.1)

  pub removed-sorted : (xs : List E) (i : ℕ) → Sorted before xs → Sorted before (remove xs i)
  removed-sorted [] zero s = tt
  removed-sorted [] (suc i) s = tt
  removed-sorted (x ∷ xs) zero s = s.1
  removed-sorted (x ∷ xs) (suc i) s = (leads_removed x xs i s.0, removed-sorted xs i s.1)
