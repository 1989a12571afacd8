-- Tasks that may be absent, and `put`.
use Rattle.std.proofs.Common.{◌≡◌, ℕ, eqb, ◌⊎◌, Some, None, Option, sym, refl, subst, inl, inr, ⊎_elim}
use Rattle.std.proofs.lemmas.Bool.{cases_eq, eq-eqb, ne_eqb, cond-true, cond-false}
use Rattle.model.specs.Rules.{put}

pub cases_opt : (o : Option ℕ) → (o ≡ None) ⊎ ((d : ℕ) × (o ≡ Some d))
cases_opt None = inl refl
cases_opt (Some d) = inr (d, refl)

pub none_some : (o : Option ℕ) (d : ℕ) → o ≡ None → o ≡ Some d → ⊥
none_some o d p q = cc

pub some_same : (o : Option ℕ) (d e : ℕ) → o ≡ Some d → o ≡ Some e → d ≡ e
some_same o d e p q = cc

pub put-here : {A : Type 0} (f : ℕ → A) (t u : ℕ) (x : A) → u ≡ t → put f t x u ≡ x
put-here f t u x e = cond-true (eqb u t) x (f u) (eq-eqb u t e)

pub put-there : {A : Type 0} (f : ℕ → A) (t u : ℕ) (x : A) → (u ≡ t → ⊥) → put f t x u ≡ f u
put-there f t u x ne = cond-false (eqb u t) x (f u) (ne_eqb u t ne)

-- to show a thing of t: at x, and where t is not x
pub by_point : (Q : ℕ → Type 0) (x t : ℕ) → Q x → ((t ≡ x → ⊥) → Q t) → Q t
by_point Q x t q k = ⊎_elim (λ (e : t ≡ x). subst Q (sym e) q) k (cases_eq t x)
