-- How many pass a test
use Rattle.std.specs.Prelude.{◌≡◌, ℕ, zero, suc, ◌+◌, ◌<◌, ◌≤◌, Bool, true, false, cond, not, ◌&&◌, ◌==◌, ◌≢◌, nat_eq, refl}
use Rattle.std.proofs.Common.{sym, ap, ◌∙◌, ⊎_elim, arith}
use Rattle.std.proofs.lemmas.Bool.{cases_Bool, cases_eq, and_left, eq-eqb, ne_eqb, not_from_true}
use Rattle.task_set.specs.Sets.{tally}
use Rattle.task_set.proofs.Passing.{tally-same}

abbrev pub one : Bool → ℕ
one b = cond b 1 0

abbrev pub without : (ℕ → Bool) → ℕ → ℕ → Bool
without q x u = not (u == x) && q u

pub without-here : (q : ℕ → Bool) (x u : ℕ) → u ≡ x → without q x u ≡ false
without-here q x u e = and_left (not (u == x)) (q u) (not_from_true (u == x) (eq-eqb u x e))

pub without-there : (q : ℕ → Bool) (x u : ℕ) → (u ≢ x) → without q x u ≡ q u
without-there q x u ne = let e : nat_eq u x ≡ false = ne_eqb u x ne in rw e

-- taking out one that passes
pub tally-without : (m x : ℕ) (q : ℕ → Bool) → x < m → q x ≡ true → tally m q ≡ 1 + tally m (without q x)
unfolding tally
tally-without zero x q l h = absurd (omega arith)
tally-without (suc m) x q l h = ⊎_elim
    (λ (e : m ≡ x).
    let a : one (q m) ≡ 1 = ap one (ap q e ∙ h) in
    let b : one (without q x m) ≡ 0 = ap one (without-here q x m e) in
    let s : tally m q ≡ tally m (without q x) = tally-same m q (without q x) (λ t lt. sym (without-there q x t (λ f. omega arith))) in
    omega arith)
    (λ (ne : m ≡ x → ⊥).
    let a : one (without q x m) ≡ one (q m) = ap one (without-there q x m ne) in
    let r : tally m q ≡ 1 + tally m (without q x) = tally-without m x q (omega arith) h in
    omega arith)
    (cases_eq m x)

pub tally-into : (n m : ℕ) (p q : ℕ → Bool) (f : ℕ → ℕ) → ((t : ℕ) → t < n → p t ≡ true → (f t < m) × (q (f t) ≡ true)) → ((t u : ℕ) → t < n → u < n → p t ≡ true → p u ≡ true → f t ≡ f u → t ≡ u) → tally n p ≤ tally m q
unfolding tally
tally-into zero m p q f into inj = omega arith
tally-into (suc n) m p q f into inj = ⊎_elim
    (λ (y : p n ≡ true).
    let a : one (p n) ≡ 1 = ap one y in
    let h = into n (omega arith) y in
    let w : tally m q ≡ 1 + tally m (without q (f n)) = tally-without m (f n) q h.0 h.1 in
    let r : tally n p ≤ tally m (without q (f n)) = tally-into n m p (without q (f n)) f
    (λ t l pt. let g = into t (omega arith) pt in (g.0, without-there q (f n) (f t) (λ e. let z : t ≡ n = inj t n (omega arith) (omega arith) pt y e in omega arith) ∙ g.1))
    (λ t u l k. inj t u (omega arith) (omega arith)) in
    omega arith)
    (λ (no' : p n ≡ false).
    let a : one (p n) ≡ 0 = ap one no' in
    let r : tally n p ≤ tally m q = tally-into n m p q f (λ t l. into t (omega arith)) (λ t u l k. inj t u (omega arith) (omega arith)) in
    omega arith)
    (cases_Bool (p n))

pub tally-none : (n : ℕ) (p : ℕ → Bool) → ((t : ℕ) → t < n → p t ≡ false) → tally n p ≡ 0
unfolding tally
tally-none zero p h = refl
tally-none (suc n) p h =
    let a : one (p n) ≡ 0 = ap one (h n (omega arith)) in
    let b : tally n p ≡ 0 = tally-none n p (λ t l. h t (omega arith)) in
    omega arith

pub tally-all : (c : ℕ) → tally c (λ _. true) ≡ c
unfolding tally
tally-all zero = refl
tally-all (suc c) = let r : tally c (λ _. true) ≡ c = tally-all c in omega arith

-- one alone
pub tally-one : (n x : ℕ) (p : ℕ → Bool) → x < n → ((u : ℕ) → p u ≡ (x == u)) → tally n p ≡ 1
tally-one n x p lt h =
    let w : tally n p ≡ 1 + tally n (without p x) = tally-without n x p lt (h x ∙ eq-eqb x x refl) in
    let z : tally n (without p x) ≡ 0 = tally-none n (without p x) (λ u _. none u) in
    omega arith
  where
    none : (u : ℕ) → without p x u ≡ false
    none u = ⊎_elim (λ (e : u ≡ x). without-here p x u e)
        (λ (ne : u ≡ x → ⊥). without-there p x u ne ∙ h u ∙ ne_eqb x u (λ e. ne (sym e))) (cases_eq u x)
