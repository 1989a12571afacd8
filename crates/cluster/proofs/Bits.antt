-- A set of tasks as a number, one task more at a time
use Rattle.std.proofs.Common.{◌≡◌, ℕ, zero, suc, ◌+◌, ◌-◌, ◌*◌, ◌/◌, ◌%◌, ◌^◌, ◌<◌, ◌≤◌, Bool, true, false, cond, ◌||◌, eqb, sym, refl, ap, ◌∙◌, ⊎_elim, mul_assoc, pow-suc, arith}
use native.Mathlib.Nat.{mul-add-div_right, mul-add-mod_self_right}
use lib.Bits.{bit_or, or_block, or_zero_r}
use Rattle.std.proofs.lemmas.Bool.{cases_eq, eq-eqb, ne_eqb}
use Rattle.std.proofs.lemmas.Nat.{pow_pos, pow_below, pow-add, div-mul-add}
use Rattle.model.proofs.Count.{one}
use Rattle.model.specs.Words.{members}

pub members-same : (n : ℕ) (p q : ℕ → Bool) → ((t : ℕ) → t < n → p t ≡ q t) → members n p ≡ members n q
members-same zero p q h = refl
members-same (suc n) p q h =
    let a : cond (p n) (2 ^ n) 0 ≡ cond (q n) (2 ^ n) 0 = ap (λ b. cond b (2 ^ n) 0) (h n (omega arith)) in
    let b : members n p ≡ members n q = members-same n p q (λ t l. h t (omega arith)) in
    omega arith

digit : (b : Bool) (x : ℕ) → cond b x 0 ≡ one b * x
digit true x = omega arith
digit false x = omega arith

digit_le : (b : Bool) (x : ℕ) → cond b x 0 ≤ x
digit_le true x = omega arith
digit_le false x = omega arith

pub members-lt : (n : ℕ) (p : ℕ → Bool) → members n p < 2 ^ n
members-lt zero p = omega arith
members-lt (suc n) p =
    let r : members n p < 2 ^ n = members-lt n p in
    let d : cond (p n) (2 ^ n) 0 ≤ 2 ^ n = digit_le (p n) (2 ^ n) in
    let e : 2 ^ suc n ≡ 2 ^ n * 2 = pow-suc 2 n in
    omega arith

or-one : (b : Bool) → bit_or (one b) 1 ≡ 1
or-one true = refl
or-one false = refl

-- one member more
pub members-more : (n x : ℕ) (p : ℕ → Bool) → x < n → bit_or (members n p) (2 ^ x) ≡ members n (λ u. p u || eqb x u)
members-more zero x p l = absurd (omega arith)
members-more (suc n) x p l =
    let d : members (suc n) p ≡ one (p n) * 2 ^ n + members n p = ap (λ k. k + members n p) (digit (p n) (2 ^ n)) in
    let b : members n p < 2 ^ n = members-lt n p in
    ⊎_elim
    (λ (e : x ≡ n).
    let y : 2 ^ x ≡ 1 * 2 ^ n + 0 = ap (λ k. 2 ^ k) e ∙ omega arith in
    let a : bit_or (members (suc n) p) (2 ^ x) ≡ bit_or (one (p n) * 2 ^ n + members n p) (1 * 2 ^ n + 0) = ap (λ k. bit_or k (2 ^ x)) d ∙ ap (bit_or (one (p n) * 2 ^ n + members n p)) y in
    let c : bit_or (one (p n) * 2 ^ n + members n p) (1 * 2 ^ n + 0) ≡ bit_or (one (p n)) 1 * 2 ^ n + bit_or (members n p) 0 = or_block n (one (p n)) 1 (members n p) 0 b (pow_pos n) in
    let f : bit_or (one (p n)) 1 * 2 ^ n ≡ 1 * 2 ^ n = ap (λ k. k * 2 ^ n) (or-one (p n)) in
    let g : bit_or (members n p) 0 ≡ members n p = or_zero_r (members n p) in
    let h : cond (p n || eqb x n) (2 ^ n) 0 ≡ 2 ^ n = ap (λ v. cond v (2 ^ n) 0) (or-true (p n) (eqb x n) (eq-eqb x n e)) in
    let i : members n (λ u. p u || eqb x u) ≡ members n p = members-same n _ _ (λ t lt. or_none (p t) (eqb x t) (ne_eqb x t (λ z. omega arith))) in
    omega arith)
    (λ (ne : x ≡ n → ⊥).
    let lx : x < n = omega arith in
    let q : 2 ^ x < 2 ^ n = pow_below x n lx in
    let y : 2 ^ x ≡ 0 * 2 ^ n + 2 ^ x = omega arith in
    let a : bit_or (members (suc n) p) (2 ^ x) ≡ bit_or (one (p n) * 2 ^ n + members n p) (0 * 2 ^ n + 2 ^ x) = ap (λ k. bit_or k (2 ^ x)) d ∙ ap (bit_or (one (p n) * 2 ^ n + members n p)) y in
    let c : bit_or (one (p n) * 2 ^ n + members n p) (0 * 2 ^ n + 2 ^ x) ≡ bit_or (one (p n)) 0 * 2 ^ n + bit_or (members n p) (2 ^ x) = or_block n (one (p n)) 0 (members n p) (2 ^ x) b q in
    let f : bit_or (one (p n)) 0 * 2 ^ n ≡ one (p n) * 2 ^ n = ap (λ k. k * 2 ^ n) (or_zero_r (one (p n))) in
    let h : cond (p n || eqb x n) (2 ^ n) 0 ≡ one (p n) * 2 ^ n = ap (λ v. cond v (2 ^ n) 0) (or_none (p n) (eqb x n) (ne_eqb x n ne)) ∙ digit (p n) (2 ^ n) in
    let i : bit_or (members n p) (2 ^ x) ≡ members n (λ u. p u || eqb x u) = members-more n x p lx in
    omega arith)
    (cases_eq x n)
  where
    or-true : (a b : Bool) → b ≡ true → (a || b) ≡ true
    or-true true b e = refl
    or-true false b e = e

    or_none : (a b : Bool) → b ≡ false → (a || b) ≡ a
    or_none true b e = refl
    or_none false b e = e

-- the bit of t says whether t is a member
pub members-bit : (n t : ℕ) (p : ℕ → Bool) → t < n → members n p / 2 ^ t % 2 ≡ one (p t)
members-bit zero t p l = absurd (omega arith)
members-bit (suc n) t p l =
    let d : members (suc n) p ≡ one (p n) * 2 ^ n + members n p = ap (λ k. k + members n p) (digit (p n) (2 ^ n)) in
    ⊎_elim
    (λ (e : t ≡ n).
    ap (λ k. members (suc n) p / 2 ^ k % 2) e
    ∙ (ap (λ k. k / 2 ^ n % 2) d
    ∙ (ap (λ k. k % 2) (div-mul-add (one (p n)) (2 ^ n) (members n p) (members-lt n p))
    ∙ (half (p n) ∙ ap (λ k. one (p k)) (sym e)))))
    (λ (ne : t ≡ n → ⊥).
    let i : ℕ = n - t - 1 in
    let s : n ≡ suc i + t = omega arith in
    let w : 2 ^ n ≡ 2 ^ i * 2 * 2 ^ t = ap (λ k. 2 ^ k) s ∙ (pow-add 2 (suc i) t ∙ ap (λ k. k * 2 ^ t) (pow-suc 2 i)) in
    let a : one (p n) * 2 ^ n ≡ one (p n) * 2 ^ i * 2 * 2 ^ t = ap (λ k. one (p n) * k) w ∙ (sym (mul_assoc (one (p n)) (2 ^ i * 2) (2 ^ t)) ∙ ap (λ k. k * 2 ^ t) (sym (mul_assoc (one (p n)) (2 ^ i) 2))) in
    ap (λ k. k / 2 ^ t % 2) (d ∙ ap (λ k. k + members n p) a)
    ∙ (ap (λ k. k % 2) (mul-add-div_right (pow_pos t) (one (p n) * 2 ^ i * 2) (members n p))
    ∙ (mul-add-mod_self_right (one (p n) * 2 ^ i) 2 (members n p / 2 ^ t)
    ∙ members-bit n t p (omega arith))))
    (cases_eq t n)
  where
    half : (b : Bool) → one b % 2 ≡ one b
    half true = refl
    half false = refl
