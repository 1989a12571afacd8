-- Rows of tasks without repeats, and sets of tasks
use Rattle.std.specs.Prelude.{◌≡◌, ℕ, zero, suc, ◌+◌, ◌-◌, ◌<◌, ◌≤◌, Bool, true, false, cond, not, ◌&&◌, ◌||◌, ltb, List, [], ◌∷◌, ◌++◌, length, take, drop, ◌==◌, ◌≢◌, nat_eq, nat_le, nat_lt, refl}
use Rattle.std.proofs.Common.{sym, ap, ◌∙◌, ⊎_elim, arith}
use Rattle.std.proofs.lemmas.Bool.{cases_eq, cases_lt, both_ways, false≢true, true≢false, and_parts, and_from, or_parts, or_left, eq-eqb, ne_eqb, eqb-true, not-true, or_cases, or_from, or_right}
use Rattle.std.proofs.lemmas.List.{append-nil}
use Rattle.std.proofs.lemmas.List.Folds.{list_any-append}
use Rattle.std.proofs.lemmas.Bool.Decides.{nat_tests}
use Rattle.task_set.specs.Sets.{tally, upto}
use Rattle.task_set.proofs.Passing.{tally-same, tally-most}
use Rattle.lock.specs.Words.{has, distinct, index, removed, head_is}
use Rattle.lock.specs.Count.{tally-into, tally-without, without}

pub eqb-sym : (a b : ℕ) → (a == b) ≡ (b == a)
eqb-sym a b = grind (arith, nat_tests)

pub else_false : (b : Bool) → (b ≢ true) → b ≡ false
else_false true h = absurd (h refl)
else_false false h = refl

pub index_short : (l : List ℕ) (u : ℕ) → has l u ≡ true → index l u < length l
index_short [] u h = absurd (false≢true h)
index_short (x ∷ xs) u h = let r = index_short xs u in grind (arith, nat_tests)

pub has-snoc : (l : List ℕ) (t u : ℕ) → has (l ++ (t ∷ [])) u ≡ (has l u || t == u)
has-snoc [] t u = grind (arith, nat_tests)
has-snoc (x ∷ xs) t u = let r = has-snoc xs t u in grind (arith, r)

pub index-snoc : (l : List ℕ) (t u : ℕ) → has l u ≡ true → index (l ++ (t ∷ [])) u ≡ index l u
index-snoc [] t u h = absurd (false≢true h)
index-snoc (x ∷ xs) t u h = let r = index-snoc xs t u in grind (arith, r, h)

pub index-last : (l : List ℕ) (t : ℕ) → has l t ≡ false → index (l ++ (t ∷ [])) t ≡ length l
index-last [] t h = grind (arith, nat_tests)
index-last (x ∷ xs) t h = let r = index-last xs t in grind (arith, r, h)

pub distinct_snoc : (l : List ℕ) (t : ℕ) → distinct l ≡ true → has l t ≡ false → distinct (l ++ (t ∷ [])) ≡ true
distinct_snoc [] t g h = refl
distinct_snoc (x ∷ xs) t g h = let r = distinct_snoc xs t in let s = has-snoc xs t x in grind (arith, nat_tests, r, s)

-- the first is nowhere else
pub head_once : (x : ℕ) (xs : List ℕ) (t : ℕ) → distinct (x ∷ xs) ≡ true → (x == t) ≡ true → has xs t ≡ false
head_once x xs t g e = ap (has xs) (sym (eqb-true x t e)) ∙ not-true (has xs x) (and_parts (not (has xs x)) _ g).0

pub distinct-rest : (x : ℕ) (xs : List ℕ) → distinct (x ∷ xs) ≡ true → distinct xs ≡ true
distinct-rest x xs g = (and_parts (not (has xs x)) _ g).1

pub has-removed : (l : List ℕ) (t u : ℕ) → distinct l ≡ true → has (removed l t) u ≡ (has l u && not (t == u))
has-removed [] t u g = refl
has-removed (x ∷ xs) t u g =
    let r = has-removed xs t u (distinct-rest x xs g) in
    let h = head_once x xs u g in
    grind (arith, nat_tests)

pub distinct-removed : (l : List ℕ) (t : ℕ) → distinct l ≡ true → distinct (removed l t) ≡ true
distinct-removed [] t g = refl
distinct-removed (x ∷ xs) t g =
    let d = distinct-rest x xs g in
    let r = distinct-removed xs t d in
    let h = has-removed xs t x d in
    grind (arith, nat_tests)

pub index-removed : (l : List ℕ) (t u : ℕ) → distinct l ≡ true → has l t ≡ true → has l u ≡ true → (t ≢ u) →
    index (removed l t) u ≡ cond (nat_lt (index l t) (index l u)) (index l u - 1) (index l u)
index-removed [] t u g ht hu ne = absurd (false≢true ht)
index-removed (x ∷ xs) t u g ht hu ne =
    let r = index-removed xs t u (distinct-rest x xs g) in
    let e : nat_eq t u ≡ false = ne_eqb t u ne in
    grind (arith, nat_tests, r)

pub has-drop : (k : ℕ) (l : List ℕ) (u : ℕ) → distinct l ≡ true → has (drop k l) u ≡ (has l u && nat_le k (index l u))
has-drop zero l u g = grind (arith, nat_tests)
has-drop (suc k) [] u g = refl
has-drop (suc k) (x ∷ xs) u g =
    let r = has-drop k xs u (distinct-rest x xs g) in
    let h = head_once x xs u g in
    grind (arith, nat_tests)

-- who is first behind k others
pub head_drop : (k : ℕ) (l : List ℕ) (u : ℕ) → distinct l ≡ true → head_is (drop k l) u ≡ (has l u && index l u == k)
head_drop zero [] u g = refl
head_drop (suc k) [] u g = refl
head_drop zero (x ∷ xs) u g = grind (arith, nat_tests)
head_drop (suc k) (x ∷ xs) u g =
    let r = head_drop k xs u (distinct-rest x xs g) in
    let h = head_once x xs u g in
    grind (arith, nat_tests)

pub index-once : (l : List ℕ) (t u : ℕ) → has l t ≡ true → has l u ≡ true → index l t ≡ index l u → t ≡ u
index-once [] t u a b e = absurd (false≢true a)
index-once (x ∷ xs) t u a b e = let r = index-once xs t u in grind (arith, nat_tests)

-- a list without repeats is as long as it has members
pub members : (l : List ℕ) (n : ℕ) → distinct l ≡ true → ((u : ℕ) → n ≤ u → has l u ≡ false) → length l ≤ tally n (has l)
members [] n g h = omega arith
members (x ∷ xs) n g h =
    let lt : x < n = ⊎_elim (λ (y : x < n). y) (λ (y : n ≤ x). absurd (both_ways _ (h x y) (or_left (x == x) _ (eq-eqb x x refl)))) (cases_lt x n) in
    let w : tally n (has (x ∷ xs)) ≡ 1 + tally n (without (has (x ∷ xs)) x) = tally-without n x (has (x ∷ xs)) lt (or_left (x == x) _ (eq-eqb x x refl)) in
    let e : tally n (without (has (x ∷ xs)) x) ≡ tally n (has xs) = tally-same n _ _ (λ u l. same (u == x) (x == u) (has xs u) (eqb-sym u x) (λ y. head_once x xs u g y)) in
    let r : length xs ≤ tally n (has xs) = members xs n (distinct-rest x xs g) (λ u l. (or_parts (x == u) (has xs u) (h u l)).1) in
    omega arith
  where
    same : (a b c : Bool) → a ≡ b → (b ≡ true → c ≡ false) → (not a && (b || c)) ≡ c
    same true true c e h = sym (h refl)
    same true false c e h = absurd (true≢false e)
    same false true c e h = absurd (false≢true e)
    same false false c e h = refl

pub tally-mono : (n : ℕ) (p q : ℕ → Bool) → ((u : ℕ) → p u ≡ true → q u ≡ true) → tally n p ≤ tally n q
tally-mono n p q h = tally-into n n p q (λ t. t) (λ t l y. (l, h t y)) (λ t u _ _ _ _ e. e)

-- one more of the 64 tasks has room
pub room : (l : List ℕ) (t : ℕ) → distinct l ≡ true → ((u : ℕ) → has l u ≡ true → u < 64) → t < 64 → has l t ≡ false → length l < 64
room l t g small lt h =
    let d : distinct (t ∷ l) ≡ true = and_from (not (has l t)) _ (ap not h) g in
    let m : length (t ∷ l) ≤ tally 64 (has (t ∷ l)) = members (t ∷ l) 64 d (λ u le. else_false _ (λ y. out u le y)) in
    let b : tally 64 (has (t ∷ l)) ≤ 64 = tally-most 64 (has (t ∷ l)) in
    trans2 m b
  where
    out : (u : ℕ) → 64 ≤ u → has (t ∷ l) u ≢ true
    out u le y = let s = small u in let e = eqb-true t u in ⊎_elim
        (λ (z : nat_eq t u ≡ true). let q : t ≡ u = e z in omega arith)
        (λ (z : has l u ≡ true). let q : u < 64 = s z in omega arith)
        (or_cases (t == u) (has l u) y)

    trans2 : {a b : ℕ} → suc a ≤ b → b ≤ 64 → a < 64
    trans2 x y = omega arith

pub has-upto : (n : ℕ) (p : ℕ → Bool) (u : ℕ) → has (upto n p) u ≡ (nat_lt u n && p u)
unfolding upto
has-upto zero p u = grind (arith, nat_tests)
has-upto (suc n) p u = list_any-append (λ x. x == u) (upto n p) (cond (p n) (n ∷ []) []) ∙ ap (λ b. b || has (cond (p n) (n ∷ []) []) u) (has-upto n p u) ∙ go (p n) refl
  where
    go : (b : Bool) → p n ≡ b → ((nat_lt u n && p u) || has (cond b (n ∷ []) []) u) ≡ (nat_lt u (suc n) && p u)
    go true e = ⊎_elim
        (λ (y : u ≡ n). let q : p u ≡ true = ap p y ∙ e in grind (arith, nat_tests))
        (λ (y : u ≡ n → ⊥). grind (arith, nat_tests)) (cases_eq u n)
    go false e = ⊎_elim
        (λ (y : u ≡ n). let q : p u ≡ false = ap p y ∙ e in grind (arith, nat_tests))
        (λ (y : u ≡ n → ⊥). grind (arith, nat_tests)) (cases_eq u n)

pub distinct-drop : (k : ℕ) (l : List ℕ) → distinct l ≡ true → distinct (drop k l) ≡ true
distinct-drop zero l g = g
distinct-drop (suc k) [] g = refl
distinct-drop (suc k) (x ∷ xs) g = distinct-drop k xs (distinct-rest x xs g)

pub distinct_append : (l m : List ℕ) → distinct l ≡ true → distinct m ≡ true → ((u : ℕ) → has l u ≡ true → has m u ≡ false) → distinct (l ++ m) ≡ true
distinct_append [] m g h k = h
distinct_append (x ∷ xs) m g h k =
    let d = and_parts (not (has xs x)) _ g in
    let r = distinct_append xs m d.1 h (λ u y. k u (or_right (x == u) _ y)) in
    let n : has (xs ++ m) x ≡ false = list_any-append (λ y. y == x) xs m ∙ or_from _ _ (not-true (has xs x) d.0) (k x (or_left (x == x) _ (eq-eqb x x refl))) in
    and_from (not (has (xs ++ m) x)) _ (ap not n) r

pub distinct-upto : (n : ℕ) (p : ℕ → Bool) → distinct (upto n p) ≡ true
unfolding upto
distinct-upto zero p = refl
distinct-upto (suc n) p = go (p n) (distinct-upto n p)
  where
    go : (b : Bool) → distinct (upto n p) ≡ true → distinct (upto n p ++ cond b (n ∷ []) []) ≡ true
    go true d = distinct_snoc (upto n p) n d (has-upto n p n ∙ (let e : ltb n n ≡ false = grind (arith, nat_tests) in ap (λ b. b && p n) e))
    go false d = ap distinct (append-nil (upto n p)) ∙ d

-- the first k of a row are those whose place is below k
pub has-take : (k : ℕ) (xs : List ℕ) (u : ℕ) → has (take k xs) u ≡ (has xs u && nat_lt (index xs u) k)
has-take zero xs u = grind (arith, nat_tests)
has-take (suc k) [] u = refl
has-take (suc k) (x ∷ xs) u = let r = has-take k xs u in grind (arith, nat_tests)
