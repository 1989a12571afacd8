-- The numbers below n that pass a test: whether there are any, how many, and which
use Rattle.std.proofs.Common.{◌≡◌, ℕ, zero, suc, ◌+◌, ◌<◌, ◌≤◌, Bool, true, false, cond, not, ◌&&◌, ◌||◌, ◌≢◌, eqb, [], ◌∷◌, ◌++◌, length, sym, refl, ap, ◌∙◌, ⊎_elim, arith, length-append}
use Rattle.std.proofs.lemmas.Bool.{cases_eq, both_ways, false≢true, eq-eqb, ne_eqb, or_cases, or_left, or_right}
use Rattle.std.proofs.lemmas.List.{append-nil}
use Rattle.task_set.specs.Sets.{tally, someone, upto, less}

pub someone-at : (n : ℕ) (p : ℕ → Bool) (u : ℕ) → u < n → p u ≡ true → someone n p ≡ true
unfolding someone
someone-at zero p u l h = absurd (omega arith)
someone-at (suc n) p u l h = ⊎_elim
    (λ (e : u ≡ n). or_left (p n) _ (ap p (sym e) ∙ h))
    (λ (ne : u ≡ n → ⊥). or_right (p n) _ (someone-at n p u (omega arith) h))
    (cases_eq u n)

pub someone-is : (n : ℕ) (p : ℕ → Bool) → someone n p ≡ true → (u : ℕ) × (p u ≡ true)
unfolding someone
someone-is zero p h = absurd (false≢true h)
someone-is (suc n) p h = ⊎_elim
    (λ (y : p n ≡ true). (n, y))
    (λ (y : someone n p ≡ true). someone-is n p y)
    (or_cases (p n) _ h)

pub someone-none : (n : ℕ) (p : ℕ → Bool) → ((u : ℕ) → u < n → p u ≡ false) → someone n p ≡ false
unfolding someone
someone-none zero p h = refl
someone-none (suc n) p h = ap (λ b. b || someone n p) (h n (omega arith)) ∙ someone-none n p (λ u l. h u (omega arith))

pub upto-none : (n : ℕ) (p : ℕ → Bool) → ((u : ℕ) → u < n → p u ≡ false) → upto n p ≡ []
unfolding upto
upto-none zero p h = refl
upto-none (suc n) p h =
    ap (λ b. upto n p ++ cond b (n ∷ []) []) (h n (omega arith)) ∙ append-nil (upto n p) ∙ upto-none n p (λ u l. h u (omega arith))

pub upto-nobody : (n : ℕ) (p : ℕ → Bool) → someone n p ≡ false → upto n p ≡ []
upto-nobody n p h = upto-none n p (λ u l. else_false (p u) (λ y. both_ways _ h (someone-at n p u l y)))
  where
    else_false : (b : Bool) → (b ≢ true) → b ≡ false
    else_false true h = absurd (h refl)
    else_false false h = refl

-- two tests that agree below n
pub upto-same : (n : ℕ) (p q : ℕ → Bool) → ((u : ℕ) → u < n → p u ≡ q u) → upto n p ≡ upto n q
unfolding upto
upto-same zero p q h = refl
upto-same (suc n) p q h =
    ap (λ b. upto n p ++ cond b (n ∷ []) []) (h n (omega arith)) ∙ ap (λ xs. xs ++ cond (q n) (n ∷ []) []) (upto-same n p q (λ u l. h u (omega arith)))

pub length-upto : (n : ℕ) (p : ℕ → Bool) → length (upto n p) ≡ tally n p
unfolding upto tally
length-upto zero p = refl
length-upto (suc n) p = length-append (upto n p) (cond (p n) (n ∷ []) []) ∙ go (p n) (length-upto n p)
  where
    go : (b : Bool) → length (upto n p) ≡ tally n p → length (upto n p) + length (cond b (n ∷ []) []) ≡ cond b 1 0 + tally n p
    go true h = omega arith
    go false h = omega arith

-- the least that passes, and then the others
pub upto-first : (n t : ℕ) (p : ℕ → Bool) → t < n → p t ≡ true → ((u : ℕ) → u < t → p u ≡ false) → upto n p ≡ t ∷ upto n (less p t)
unfolding upto
upto-first zero t p l h first = absurd (omega arith)
upto-first (suc n) t p l h first = ⊎_elim
    (λ (e : t ≡ n).
    let none : upto n p ≡ [] = upto-none n p (λ u lt. first u (omega arith)) in
    let others : upto n (less p t) ≡ [] = upto-none n (less p t) (λ u lt. ap (λ b. b && not (eqb t u)) (first u (omega arith))) in
    let here : p n ≡ true = ap p (sym e) ∙ h in
    let gone : less p t n ≡ false = ap (λ b. p n && not b) (eq-eqb t n e) ∙ ap (λ b. b && false) here in
    ap (λ b. upto n p ++ cond b (n ∷ []) []) here ∙ ap (λ xs. xs ++ (n ∷ [])) none ∙ ap (λ x. x ∷ []) (sym e)
    ∙ ap (λ xs. t ∷ xs) (sym (ap (λ b. upto n (less p t) ++ cond b (n ∷ []) []) gone ∙ append-nil (upto n (less p t)) ∙ others)))
    (λ (ne : t ≡ n → ⊥).
    let stays : less p t n ≡ p n = ap (λ b. p n && not b) (ne_eqb t n ne) ∙ and-true (p n) in
    ap (λ xs. xs ++ cond (p n) (n ∷ []) []) (upto-first n t p (omega arith) h first)
    ∙ ap (λ b. t ∷ (upto n (less p t) ++ cond b (n ∷ []) [])) (sym stays))
    (cases_eq t n)
  where
    and-true : (b : Bool) → (b && true) ≡ b
    and-true true = refl
    and-true false = refl

-- the count from below
pub tally-low : (n : ℕ) (p : ℕ → Bool) → tally (suc n) p ≡ cond (p 0) 1 0 + tally n (λ u. p (suc u))
unfolding tally
tally-low zero p = refl
tally-low (suc n) p = let r = tally-low n p in omega arith

pub tally-same : (n : ℕ) (p q : ℕ → Bool) → ((t : ℕ) → t < n → p t ≡ q t) → tally n p ≡ tally n q
unfolding tally
tally-same zero p q h = refl
tally-same (suc n) p q h =
    ap (λ b. cond b 1 0 + tally n p) (h n (omega arith)) ∙ ap (λ m. cond (q n) 1 0 + m) (tally-same n p q (λ t l. h t (omega arith)))

pub tally-most : (n : ℕ) (p : ℕ → Bool) → tally n p ≤ n
unfolding tally
tally-most zero p = omega arith
tally-most (suc n) p = let r = tally-most n p in grind (arith, r)
