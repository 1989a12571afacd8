-- The bits of a set's number
use Rattle.std.proofs.Common.{◌≡◌, ℕ, zero, suc, ◌+◌, ◌*◌, ◌/◌, ◌%◌, ◌^◌, ◌<◌, ◌≤◌, max, Bool, true, false, cond, not, ◌||◌, ◌≢◌, eqb, bit_and, bit_or, count_ones, ◌∷◌, sym, ap, ◌∙◌, ⊎_elim, arith}
use Rattle.std.proofs.Math.Path.{fun_ext}
use Rattle.std.specs.Int.{w64, bit_at, bit_not, trailing_zeros}
use Rattle.std.specs.Int.Count.{ones_step}
use Rattle.std.proofs.Math.Nat.{pow-suc}
use Rattle.std.proofs.lemmas.Bool.{cases_eq, cases_lt, eqb-false, eq-eqb, ne_eqb, lt-ltb, le-ltb, cond-true, cond-false}
use Rattle.std.proofs.lemmas.Bool.Decides.{nat_tests}
use Rattle.std.proofs.lemmas.Nat.{one_shl, and_le_l, ones_le_self}
use Rattle.std.proofs.lemmas.Nat.Bits.{bit_at-lt, bit_at_or, bit_at-suc, bit_at-zero, bit_at_lowest, bit_at_above, bit_at-pow_same, bit_at-pow_other, bit_at_clear_same, bit_at_clear_other, bit_at-trailing_zeros}
use Rattle.task_set.specs.Sets.{bits, bit, tally, someone, upto, nobody, few, less}
use Rattle.task_set.proofs.Passing.{someone-at, someone-none, tally-low, tally-same, upto-first}

-- a digit as a test
set-digit : (n u : ℕ) → bit_at n u ≡ 1 → bits n u ≡ true
unfolding bits
set-digit n u e = eq-eqb (bit_at n u) 1 e

clear-digit : (n u : ℕ) → bit_at n u ≡ 0 → bits n u ≡ false
unfolding bits
clear-digit n u e = ap (λ x. eqb x 1) e

same-digit : (m n u : ℕ) → bit_at m u ≡ bit_at n u → bits m u ≡ bits n u
unfolding bits
same-digit m n u e = ap (λ x. eqb x 1) e

or-digit : (x y z : ℕ) → x < 2 → y < 2 → z ≡ max x y → eqb z 1 ≡ (eqb x 1 || eqb y 1)
or-digit x y z a b e = grind (arith, nat_tests)

pub zero-bits : bits 0 ≡ nobody
zero-bits = fun_ext (λ u. clear-digit 0 u (bit_at-zero u))

pub or-bit : (a b u : ℕ) → bits (bit_or a b) u ≡ (bits a u || bits b u)
unfolding bits
or-bit a b u = or-digit (bit_at a u) (bit_at b u) (bit_at (bit_or a b) u) (bit_at-lt a u) (bit_at-lt b u) (bit_at_or a b u)

-- a number of 64 bits has tasks alone
pub high-bit : (n u : ℕ) → n < 2 ^ 64 → 64 ≤ u → bits n u ≡ false
high-bit n u h k = clear-digit n u (bit_at_above n 64 u h k)

pow-bit : (t u : ℕ) → bits (2 ^ t) u ≡ eqb t u
pow-bit t u = ⊎_elim
    (λ (e : t ≡ u). ap (bits (2 ^ t)) (sym e) ∙ set-digit (2 ^ t) t (bit_at-pow_same t) ∙ sym (eq-eqb t u e))
    (λ (ne : t ≡ u → ⊥). clear-digit (2 ^ t) u (bit_at-pow_other t u (λ e. ne (sym e))) ∙ sym (ne_eqb t u ne))
    (cases_eq t u)

-- the bit of a task
pub bit-is : (t : ℕ) → t < 64 → (1 * 2 ^ t) % 2 ^ 64 ≡ bit t
bit-is t h = one_shl t 64 h ∙ sym (cond-true _ (2 ^ t) 0 (lt-ltb t 64 h))

pub bit-none : (t : ℕ) → 64 ≤ t → 0 ≡ bit t
bit-none t h = sym (cond-false _ (2 ^ t) 0 (le-ltb t 64 h))

pub bit-bits : (t : ℕ) → bits (bit t) ≡ few t
bit-bits t = fun_ext (λ u. ⊎_elim
    (λ (h : t < 64). ap (λ n. bits n u) (cond-true _ (2 ^ t) 0 (lt-ltb t 64 h)) ∙ pow-bit t u ∙ grind (arith, nat_tests))
    (λ (h : 64 ≤ t). ap (λ n. bits n u) (cond-false _ (2 ^ t) 0 (le-ltb t 64 h)) ∙ clear-digit 0 u (bit_at-zero u) ∙ grind (arith, nat_tests))
    (cases_lt t 64))

-- a set with one task more
pub with-bits : (n t : ℕ) → bits (bit_or n (bit t)) ≡ (λ u. bits n u || few t u)
with-bits n t = fun_ext (λ u. or-bit n (bit t) u ∙ ap (λ s. bits n u || s u) (bit-bits t))

-- a set without a task
pub without-bits : (n t : ℕ) → n < 2 ^ 64 → t < 64 → bits (bit_and n (bit_not w64 ((1 * 2 ^ t) % 2 ^ 64))) ≡ less (bits n) t
without-bits n t fits h = fun_ext (λ u. ⊎_elim
    (λ (e : u ≡ t). ap (bits m) e ∙ clear-digit m t (bit_at_clear_same w64 n t h) ∙ sym (gone u (eq-eqb t u (sym e))))
    (λ (ne : u ≡ t → ⊥). kept u ne ∙ sym (stays u (ne_eqb t u (λ e. ne (sym e)))))
    (cases_eq u t))
  where
    m : ℕ
    m = bit_and n (bit_not w64 ((1 * 2 ^ t) % 2 ^ 64))

    gone : (u : ℕ) → eqb t u ≡ true → less (bits n) t u ≡ false
    gone u e = grind (arith, e)

    stays : (u : ℕ) → eqb t u ≡ false → less (bits n) t u ≡ bits n u
    stays u e = grind (arith, e)

    kept : (u : ℕ) → (u ≢ t) → bits (bit_and n (bit_not w64 ((1 * 2 ^ t) % 2 ^ 64))) u ≡ bits n u
    kept u ne = ⊎_elim
        (λ (l : u < 64). same-digit _ n u (bit_at_clear_other w64 n t h u l ne))
        (λ (l : 64 ≤ u). high-bit _ u (let le = and_le_l n (bit_not w64 ((1 * 2 ^ t) % 2 ^ 64)) in omega arith) l ∙ sym (high-bit n u fits l))
        (cases_lt u 64)

pub without-none : (n t : ℕ) → n < 2 ^ 64 → 64 ≤ t → bits n ≡ less (bits n) t
without-none n t fits h = fun_ext (λ u. ⊎_elim
    (λ (e : t ≡ u). let a = high-bit n u fits (omega arith) in grind (arith, a))
    (λ (ne : t ≡ u → ⊥). let a = ne_eqb t u ne in grind (arith, a))
    (cases_eq t u))

pub empty-bits : (n : ℕ) → n < 2 ^ 64 → eqb n 0 ≡ not (someone 64 (bits n))
empty-bits n fits = ⊎_elim
    (λ (e : n ≡ 0). eq-eqb n 0 e ∙ ap not (sym (ap (λ k. someone 64 (bits k)) e ∙ someone-none 64 (bits 0) (λ u _. clear-digit 0 u (bit_at-zero u)))))
    (λ (ne : n ≡ 0 → ⊥).
    let w = bit_at-trailing_zeros w64 n (omega arith) fits in
    ne_eqb n 0 ne ∙ ap not (sym (someone-at 64 (bits n) _ w.0 (set-digit n _ w.1))))
    (cases_eq n 0)

-- the least task of a set that is not empty, and then the tasks of the set without it
pub first-bits : (n m : ℕ) (b : Bool) → n < 2 ^ 64 → b ≡ not (someone 64 (bits n)) → b ≡ false → bits m ≡ less (bits n) (trailing_zeros w64 n)
    → upto 64 (bits n) ≡ trailing_zeros w64 n ∷ upto 64 (bits m)
first-bits n m b fits is no' e =
    let w = bit_at-trailing_zeros w64 n (let ne = eqb-false n 0 (empty-bits n fits ∙ sym is ∙ no') in omega arith) fits in
    upto-first 64 (trailing_zeros w64 n) (bits n) w.0 (set-digit n _ w.1) (λ u l. clear-digit n u (w.2 u l))
    ∙ ap (λ s. trailing_zeros w64 n ∷ upto 64 s) (sym e)

digit-one : (x : ℕ) → x < 2 → cond (eqb x 1) 1 0 ≡ x
digit-one x l = grind (arith, nat_tests)

-- how many bits are set
pub ones-bits : (k n : ℕ) → n < 2 ^ k → count_ones n ≡ tally k (bits n)
unfolding tally bits
ones-bits zero n fits = let none : n ≡ 0 = omega arith in let few' = ones_le_self n in omega arith
ones-bits (suc k) n fits =
    let half : n / 2 < 2 ^ k = omega (arith, pow-suc 2 k) in
    let rest : tally k (bits (n / 2)) ≡ tally k (λ u. bits n (suc u)) = tally-same k _ _ (λ u _. same-digit' u) in
    let low : cond (bits n 0) 1 0 ≡ n % 2 = digit-one (bit_at n 0) (bit_at-lt n 0) ∙ bit_at_lowest n in
    ones_step n ∙ ap (λ m. n % 2 + m) (ones-bits k (n / 2) half ∙ rest) ∙ ap (λ m. m + tally k (λ u. bits n (suc u))) (sym low) ∙ sym (tally-low k (bits n))
  where
    same-digit' : (u : ℕ) → bits (n / 2) u ≡ bits n (suc u)
    same-digit' u = ap (λ x. eqb x 1) (sym (bit_at-suc n u))
