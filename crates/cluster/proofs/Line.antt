-- The place of a task in a line is the count of those that go before it
use Rattle.std.proofs.Common.{◌≡◌, ℕ, zero, suc, ◌+◌, ◌<◌, ◌≤◌, Bool, true, false, cond, ◌&&◌, ◌||◌, eqb, ltb, List, [], ◌∷◌, length, get_or, take, sym, refl, ap, ◌∙◌, ⊎_elim, arith}
use Rattle.std.proofs.lemmas.Bool.{cases_Bool, cases_eq, and_from, and_left, and_right, or_cases, or_left, or_right, lt-ltb, le-ltb, both_ways, eqb-true, eq-eqb, ne_eqb, cases_lt}
use Rattle.std.proofs.lemmas.Option.{slice_get-get_or}
use Rattle.ordered.specs.Ranks.{Sorted, Leads, passing}
use Rattle.ordered.proofs.Counts.{standing-rank}
use Rattle.model.specs.Tally.{tally}
use Rattle.cluster.specs.Listing.{has}
use Rattle.model.proofs.Count.{one, tally-same, tally-without, without, without-here, without-there}

-- a line: the tasks that pass a test, each once, in an order
pub record Lines (goes : ℕ → ℕ → Bool) (P : ℕ → Bool) (ts : List ℕ) : Type 0 where
  pub sorted : Sorted goes ts
  pub exactly : (t : ℕ) → has ts t ≡ P t

-- one more is passed or not
passing-one : (q : ℕ → Bool) (t : ℕ) (ts : List ℕ) → passing q (t ∷ ts) ≡ one (q t) + passing q ts
passing-one q t ts = elim (q t) as (λ b. cond b (suc (passing q ts)) (passing q ts) ≡ one b + passing q ts) [ true ↦ omega arith | false ↦ omega arith ]

pub passing-all : (ts : List ℕ) → passing (λ _. true) ts ≡ length ts
passing-all [] = refl
passing-all (t ∷ ts) = ap suc (passing-all ts)

pub has-read : (ts : List ℕ) (i : ℕ) → i < length ts → has ts (get_or ts i 0) ≡ true
has-read [] i l = absurd (omega arith)
has-read (t ∷ ts) zero l = or_left (eqb t t) _ (eq-eqb t t refl)
has-read (t ∷ ts) (suc i) l = or_right (eqb t (get_or ts i 0)) _ (has-read ts i (omega arith))

pub has-at : (ts : List ℕ) (t : ℕ) → has ts t ≡ true → (i : ℕ) × (i < length ts) × (get_or ts i 0 ≡ t)
has-at [] t h = absurd (both_ways false refl h)
has-at (x ∷ xs) t h = ⊎_elim
    (λ (e : eqb x t ≡ true). (0, omega arith, eqb-true x t e))
    (λ (e : has xs t ≡ true). let r = has-at xs t e in let l : r.0 < length xs = r.1 in (suc r.0, omega arith, r.2))
    (or_cases (eqb x t) (has xs t) h)

pub has-front : (c : ℕ) (ts : List ℕ) (t : ℕ) → has (take c ts) t ≡ true → has ts t ≡ true
has-front zero ts t h = absurd (both_ways false refl h)
has-front (suc c) [] t h = h
has-front (suc c) (x ∷ xs) t h = ⊎_elim
    (λ (e : eqb x t ≡ true). or_left (eqb x t) _ e)
    (λ (e : has (take c xs) t ≡ true). or_right (eqb x t) _ (has-front c xs t e))
    (or_cases (eqb x t) (has (take c xs) t) h)

ltb-suc : (i c : ℕ) → ltb i c ≡ ltb (suc i) (suc c)
ltb-suc i c = ⊎_elim
    (λ (l : i < c). lt-ltb i c l ∙ sym (lt-ltb (suc i) (suc c) (omega arith)))
    (λ (l : c ≤ i). le-ltb i c l ∙ sym (le-ltb (suc i) (suc c) (omega arith)))
    (cases_lt i c)

module _ (goes : ℕ → ℕ → Bool) (never : (t : ℕ) → goes t t ≡ false) (carries : (t u v : ℕ) → goes t u ≡ true → goes u v ≡ true → goes t v ≡ true) where
  pub leads_has : (x : ℕ) (ts : List ℕ) (t : ℕ) → Leads goes x ts → has ts t ≡ true → goes x t ≡ true
  leads_has x [] t l h = absurd (both_ways false refl h)
  leads_has x (y ∷ ys) t l h = ⊎_elim
      (λ (e : eqb y t ≡ true). ap (goes x) (sym (eqb-true y t e)) ∙ l.0)
      (λ (e : has ys t ≡ true). leads_has x ys t l.1 e)
      (or_cases (eqb y t) (has ys t) h)

  pub fresh : (x : ℕ) (ts : List ℕ) → Leads goes x ts → has ts x ≡ false
  fresh x ts l = ⊎_elim (λ (h : has ts x ≡ true). absurd (both_ways (goes x x) (never x) (leads_has x ts x l h))) (λ (h : has ts x ≡ false). h) (cases_Bool (has ts x))

  -- the tasks of a line that pass are as many as pass along it
  pub tally-line : (n : ℕ) (ts : List ℕ) → Sorted goes ts → ((t : ℕ) → has ts t ≡ true → t < n) → (q : ℕ → Bool) → tally n (λ u. has ts u && q u) ≡ passing q ts
  tally-line n [] s b q = let r : tally n (λ u. has [] u && q u) ≡ tally n (λ _. false) = tally-same n _ _ (λ u l. refl) in r ∙ none n
    where
      none : (n : ℕ) → tally n (λ _. false) ≡ 0
      none zero = refl
      none (suc n) = let r : tally n (λ _. false) ≡ 0 = none n in omega arith
  tally-line n (x ∷ xs) s b q =
      let r : tally n (λ u. has xs u && q u) ≡ passing q xs = tally-line n xs s.1 (λ t h. b t (or_right (eqb x t) _ h)) q in
      let one_more : passing q (x ∷ xs) ≡ one (q x) + passing q xs = passing-one q x xs in
      let f : has xs x ≡ false = fresh x xs s.0 in
      let lx : x < n = b x (or_left (eqb x x) _ (eq-eqb x x refl)) in
      let off : (u : ℕ) → (u ≡ x → ⊥) → ((eqb x u || has xs u) && q u) ≡ (has xs u && q u) = λ u ne. let e : eqb x u ≡ false = ne_eqb x u (λ z. ne (sym z)) in rw e in
      let on : (u : ℕ) → u ≡ x → (has xs u && q u) ≡ false = λ u e. and_left (has xs u) _ (ap (has xs) e ∙ f) in
      ⊎_elim
      (λ (y : q x ≡ true).
      let a : one (q x) ≡ 1 = ap one y in
      let w : tally n (λ u. (eqb x u || has xs u) && q u) ≡ 1 + tally n (without (λ u. (eqb x u || has xs u) && q u) x)
      = tally-without n x (λ u. (eqb x u || has xs u) && q u) lx (and_from (eqb x x || has xs x) _ (or_left (eqb x x) _ (eq-eqb x x refl)) y) in
      let e : tally n (without (λ u. (eqb x u || has xs u) && q u) x) ≡ tally n (λ u. has xs u && q u) = tally-same n _ _ (λ u l. ⊎_elim
      (λ (z : u ≡ x). without-here (λ u. (eqb x u || has xs u) && q u) x u z ∙ sym (on u z))
      (λ (ne : u ≡ x → ⊥). without-there (λ u. (eqb x u || has xs u) && q u) x u ne ∙ off u ne)
      (cases_eq u x)) in
      omega arith)
      (λ (y : q x ≡ false).
      let a : one (q x) ≡ 0 = ap one y in
      let e : tally n (λ u. (eqb x u || has xs u) && q u) ≡ tally n (λ u. has xs u && q u) = tally-same n _ _ (λ u l. ⊎_elim
      (λ (z : u ≡ x). and_right (eqb x u || has xs u) (q u) (ap q z ∙ y) ∙ sym (on u z))
      (λ (ne : u ≡ x → ⊥). off u ne)
      (cases_eq u x)) in
      omega arith)
      (cases_Bool (q x))

  passing-at : (ts : List ℕ) (i : ℕ) → Sorted goes ts → i < length ts → passing (λ u. goes u (get_or ts i 0)) ts ≡ i
  passing-at ts i s l = standing-rank goes never carries ts i (get_or ts i 0) s (slice_get-get_or ts i 0 l)

  front_at : (c : ℕ) (ts : List ℕ) (i : ℕ) → Sorted goes ts → i < length ts → has (take c ts) (get_or ts i 0) ≡ ltb i c
  front_at zero ts i s l = sym (le-ltb i 0 (omega arith))
  front_at (suc c) [] i s l = absurd (omega arith)
  front_at (suc c) (x ∷ xs) zero s l = or_left (eqb x x) _ (eq-eqb x x refl) ∙ sym (lt-ltb 0 (suc c) (omega arith))
  front_at (suc c) (x ∷ xs) (suc i) s l =
      let g : goes x (get_or xs i 0) ≡ true = leads_has x xs (get_or xs i 0) s.0 (has-read xs i (omega arith)) in
      let e : eqb x (get_or xs i 0) ≡ false = ne_eqb x (get_or xs i 0) (λ z. both_ways (goes x x) (never x) (ap (goes x) z ∙ g)) in
      let r : has (take c xs) (get_or xs i 0) ≡ ltb i c = front_at c xs i s.1 (omega arith) in
      ap (λ b. b || has (take c xs) (get_or xs i 0)) e ∙ (r ∙ ltb-suc i c)

  module _ (n : ℕ) (P : ℕ → Bool) (ts : List ℕ) (line : Lines goes P ts) (bound : (t : ℕ) → has ts t ≡ true → t < n) where
    -- the task at i has just i before it
    pub rank-at : (i : ℕ) → i < length ts → tally n (λ u. P u && goes u (get_or ts i 0)) ≡ i
    rank-at i l =
        tally-same n _ _ (λ u lu. ap (λ b. b && goes u (get_or ts i 0)) (sym (line.exactly u)))
        ∙ (tally-line n ts line.sorted bound (λ u. goes u (get_or ts i 0)) ∙ passing-at ts i line.sorted l)

    -- and one of the line stands where it is ranked
    pub at_rank : (t : ℕ) → P t ≡ true → (tally n (λ u. P u && goes u t) < length ts) × (get_or ts (tally n (λ u. P u && goes u t)) 0 ≡ t)
    at_rank t p =
        let r = has-at ts t (line.exactly t ∙ p) in
        let e : tally n (λ u. P u && goes u t) ≡ r.0 = ap (λ v. tally n (λ u. P u && goes u v)) (sym r.2) ∙ rank-at r.0 r.1 in
        let l : r.0 < length ts = r.1 in
        (omega arith, ap (λ j. get_or ts j 0) e ∙ r.2)

    pub count-line : tally n P ≡ length ts
    count-line =
        tally-same n _ _ (λ u l. sym (line.exactly u) ∙ with_true (has ts u))
        ∙ (tally-line n ts line.sorted bound (λ _. true) ∙ passing-all ts)
      where
        with_true : (b : Bool) → b ≡ (b && true)
        with_true true = refl
        with_true false = refl

    -- the first c of the line
    pub fore-is : (c t : ℕ) → (P t && ltb (tally n (λ u. P u && goes u t)) c) ≡ has (take c ts) t
    fore-is c t = ⊎_elim
        (λ (h : has ts t ≡ true).
        let p : P t ≡ true = sym (line.exactly t) ∙ h in
        let r = at_rank t p in
        let a : has (take c ts) (get_or ts (tally n (λ u. P u && goes u t)) 0) ≡ ltb (tally n (λ u. P u && goes u t)) c = front_at c ts _ line.sorted r.0 in
        ap (λ b. b && ltb (tally n (λ u. P u && goes u t)) c) p ∙ (sym a ∙ ap (has (take c ts)) r.1))
        (λ (h : has ts t ≡ false).
        let no' : has (take c ts) t ≡ false = ⊎_elim (λ (y : has (take c ts) t ≡ true). absurd (both_ways (has ts t) h (has-front c ts t y))) (λ (y : has (take c ts) t ≡ false). y) (cases_Bool (has (take c ts) t)) in
        and_left (P t) _ (sym (line.exactly t) ∙ h) ∙ sym no')
        (cases_Bool (has ts t))
