-- The jobs of a cluster, by how many go before each.
use Rattle.std.proofs.Common.{◌≡◌, ℕ, ◌<◌, Bool, true, false, not, ◌&&◌, sym, ◌∙◌, ⊎_elim, arith}
use Rattle.std.proofs.lemmas.Bool.{cases_Bool, cases_eq, and_parts, and_from, and_right, not_from_false}
use Rattle.model.specs.Tally.{tally}
use Rattle.model.proofs.Count.{tally-more}

-- how many that pass P go before t
abbrev pub rank : ℕ → (ℕ → ℕ → Bool) → (ℕ → Bool) → ℕ → ℕ
rank n goes P t = tally n (λ u. P u && goes u t)

-- an order within each cluster
pub record Ordered (cl : ℕ → ℕ) (goes : ℕ → ℕ → Bool) : Type 0 where
  pub never : (t : ℕ) → goes t t ≡ false
  pub carries : (t u v : ℕ) → goes t u ≡ true → goes u v ≡ true → goes t v ≡ true
  pub decides : (t u : ℕ) → cl t ≡ cl u → (t ≡ u → ⊥) → goes t u ≡ not (goes u t)
  pub mates : (t u : ℕ) → goes t u ≡ true → cl t ≡ cl u

module _ (n : ℕ) (cl : ℕ → ℕ) (goes : ℕ → ℕ → Bool) (law : Ordered cl goes) where
  -- the more urgent of two mates has fewer ahead
  pub rank_less : (P : ℕ → Bool) (t u : ℕ) → u < n → P u ≡ true → goes u t ≡ true → rank n goes P u < rank n goes P t
  rank_less P t u l p g = tally-more n u _ _ l (and_right (P u) _ (law.never u)) (and_from (P u) _ p g)
      (λ v lv h. let a = and_parts (P v) _ h in and_from (P v) _ a.0 (law.carries v u t a.1 g))

  -- two mates of one rank are one
  pub rank-apart : (P : ℕ → Bool) (t u : ℕ) → t < n → u < n → P t ≡ true → P u ≡ true → cl t ≡ cl u → rank n goes P t ≡ rank n goes P u → t ≡ u
  rank-apart P t u lt lu pt pu k e = ⊎_elim (λ (y : t ≡ u). y)
      (λ (ne : t ≡ u → ⊥). absurd (⊎_elim
      (λ (b : goes t u ≡ true). let l : rank n goes P t < rank n goes P u = rank_less P u t lt pt b in omega arith)
      (λ (b : goes t u ≡ false).
      let b2 : goes u t ≡ true = law.decides u t (sym k) (λ z. ne (sym z)) ∙ not_from_false (goes t u) b in
      let l : rank n goes P u < rank n goes P t = rank_less P t u lu pu b2 in omega arith)
      (cases_Bool (goes t u))))
      (cases_eq t u)
