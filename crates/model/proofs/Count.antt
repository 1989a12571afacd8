-- Counting by maps that are one to one.
use Rattle.std.proofs.Common.{◌≡◌, ℕ, zero, suc, ◌+◌, ◌<◌, ◌≤◌, Bool, true, false, cond, not, ◌&&◌, eqb, sym, refl, ap, ◌∙◌, ⊎_elim, arith}
use Rattle.std.proofs.lemmas.Bool.{cases_Bool, cases_eq, and_left, eq-eqb, ne_eqb, both_ways, not_from_true}
use Rattle.model.specs.Tally.{tally}

-- 1 for a test that passes
abbrev pub one : Bool → ℕ
one b = cond b 1 0

-- two tests that agree below n have one tally
pub tally-same : (n : ℕ) (p q : ℕ → Bool) → ((t : ℕ) → t < n → p t ≡ q t) → tally n p ≡ tally n q
tally-same zero p q h = refl
tally-same (suc n) p q h =
    let a : one (p n) ≡ one (q n) = ap one (h n (omega arith)) in
    let b : tally n p ≡ tally n q = tally-same n p q (λ t l. h t (omega arith)) in
    omega arith

abbrev pub without : (ℕ → Bool) → ℕ → ℕ → Bool
without q x u = not (eqb u x) && q u

pub without-here : (q : ℕ → Bool) (x u : ℕ) → u ≡ x → without q x u ≡ false
without-here q x u e = and_left (not (eqb u x)) (q u) (not_from_true (eqb u x) (eq-eqb u x e))

pub without-there : (q : ℕ → Bool) (x u : ℕ) → (u ≡ x → ⊥) → without q x u ≡ q u
without-there q x u ne = let e : eqb u x ≡ false = ne_eqb u x ne in rw e

-- taking out one that passes
pub tally-without : (m x : ℕ) (q : ℕ → Bool) → x < m → q x ≡ true → tally m q ≡ 1 + tally m (without q x)
tally-without zero x q l h = absurd (omega arith)
tally-without (suc m) x q l h = ⊎_elim
    (λ (e : m ≡ x).
    let a : one (q m) ≡ 1 = ap one (ap q e ∙ h) in
    let b : one (without q x m) ≡ 0 = ap one (without-here q x m e) in
    let s : tally m q ≡ tally m (without q x) = tally-same m q (without q x) (λ t lt. sym (without-there q x t (λ f. omega arith))) in
    omega arith)
    (λ (ne : m ≡ x → ⊥).
    let a : one (without q x m) ≡ one (q m) = ap one (without-there q x m ne) in
    let r : tally m q ≡ 1 + tally m (without q x) = tally-without m x q (omega arith) h in
    omega arith)
    (cases_eq m x)

-- what f maps, one to one, from p into q is no more than passes q
pub tally-into : (n m : ℕ) (p q : ℕ → Bool) (f : ℕ → ℕ) → ((t : ℕ) → t < n → p t ≡ true → (f t < m) × (q (f t) ≡ true))
    → ((t u : ℕ) → t < n → u < n → p t ≡ true → p u ≡ true → f t ≡ f u → t ≡ u) → tally n p ≤ tally m q
tally-into zero m p q f into inj = omega arith
tally-into (suc n) m p q f into inj = ⊎_elim
    (λ (y : p n ≡ true).
    let a : one (p n) ≡ 1 = ap one y in
    let h = into n (omega arith) y in
    let w : tally m q ≡ 1 + tally m (without q (f n)) = tally-without m (f n) q h.0 h.1 in
    let r : tally n p ≤ tally m (without q (f n)) = tally-into n m p (without q (f n)) f
    (λ t l pt. let g = into t (omega arith) pt in (g.0, without-there q (f n) (f t) (λ e. let z : t ≡ n = inj t n (omega arith) (omega arith) pt y e in omega arith) ∙ g.1))
    (λ t u l k. inj t u (omega arith) (omega arith)) in
    omega arith)
    (λ (no' : p n ≡ false).
    let a : one (p n) ≡ 0 = ap one no' in
    let r : tally n p ≤ tally m q = tally-into n m p q f (λ t l. into t (omega arith)) (λ t u l k. inj t u (omega arith) (omega arith)) in
    omega arith)
    (cases_Bool (p n))

pub tally-all : (c : ℕ) → tally c (λ _. true) ≡ c
tally-all zero = refl
tally-all (suc c) = let r : tally c (λ _. true) ≡ c = tally-all c in omega arith

-- a test that lets more pass, and one more besides
pub tally-more : (n x : ℕ) (p q : ℕ → Bool) → x < n → p x ≡ false → q x ≡ true → ((t : ℕ) → t < n → p t ≡ true → q t ≡ true) → tally n p < tally n q
tally-more n x p q l px qx h =
    let w : tally n q ≡ 1 + tally n (without q x) = tally-without n x q l qx in
    let s : tally n p ≤ tally n (without q x) = tally-into n n p (without q x) (λ t. t)
    (λ t lt pt. (lt, without-there q x t (λ e. both_ways (p x) px (ap p (sym e) ∙ pt)) ∙ h t lt pt))
    (λ t u _ _ _ _ e. e) in
    omega arith
