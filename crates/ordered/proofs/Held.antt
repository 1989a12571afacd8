-- Which places are held, and what stands there: found by a key, and taken out.
use Rattle.std.proofs.Common.{◌≡◌, ℕ, zero, suc, ◌+◌, ◌<◌, ◌≤◌, Bool, true, false, cond, not, eqb, ltb, leb, List, [], ◌∷◌, length, get_or, take, Some, None, Option, sym, refl, ap, ◌∙◌, arith}
use Rattle.std.specs.Option.{is_some, option_map, unwrap_or}
use Rattle.std.specs.List.{slice_get, remove}
use Rattle.std.proofs.lemmas.Option.{slice_get-get_or}
use Rattle.std.proofs.lemmas.Bool.{ltb-true, ltb-false, lt-ltb, le-leb, eqb-false, and_from, and_parts}
use Rattle.ordered.specs.Ranks.{found, Fresh, passing}
use Rattle.ordered.specs.Places.{position, held, taken}
use Rattle.ordered.proofs.Counts.{passing-removed}

none_is_some : {X : Type 0} (x : X) → ◌≡◌ {A = Option X} None (Some x) → ⊥
none_is_some x e = let z : ◌≡◌ {A = ℕ} 0 1 = cc in omega arith

module _ {E : Type 0} (xs : List E) (used at : ℕ) where
  pub held-yes : at < used → used ≤ length xs → held used at xs ≡ true
  held-yes a b = and_from (ltb at used) (leb used (length xs)) (lt-ltb at used a) (le-leb used (length xs) b)

nth_take : {E : Type 0} (n i : ℕ) (xs : List E) → i < n → slice_get (take n xs) i ≡ slice_get xs i
nth_take zero i xs h = absurd (omega arith)
nth_take (suc n) i [] h = refl
nth_take (suc n) zero (x ∷ xs) h = refl
nth_take (suc n) (suc i) (x ∷ xs) h = nth_take n i xs (omega arith)

-- what is taken out stands among the entries
pub taken-stands : {E : Type 0} (xs : List E) (used at : ℕ) (x : E) → taken used at xs ≡ Some x → slice_get (take used xs) at ≡ Some x
taken-stands xs used at x =
    elim (held used at xs) as (λ b. held used at xs ≡ b → cond b (slice_get xs at) None ≡ Some x → slice_get (take used xs) at ≡ Some x)
    [ true ↦ λ h e. nth_take used at xs (ltb-true at used (and_parts (ltb at used) (leb used (length xs)) h).0) ∙ e | false ↦ λ _ e. cc ] refl

-- the entries are those that are left and the one that is taken out
pub taken-counts : {E : Type 0} (xs : List E) (used at : ℕ) (r : Option E) → r ≡ taken used at xs → (p : E → Bool) (x : E) → r ≡ Some x → passing p (x ∷ remove (take used xs) at) ≡ passing p (take used xs)
taken-counts xs used at r is p x e = passing-removed p (take used xs) at x (taken-stands xs used at x (sym is ∙ e))

module _ {E : Type 0} (key : E → ℕ) (k : ℕ) where
  found-fresh : (xs : List E) → length xs ≤ found key k xs → Fresh key k xs
  found-fresh [] le = tt
  found-fresh (x ∷ xs) le =
      elim (eqb (key x) k) as (λ b. eqb (key x) k ≡ b → suc (length xs) ≤ cond (not b) (1 + found key k xs) 0 → Fresh key k (x ∷ xs))
      [ true ↦ λ _ h. absurd (omega arith) | false ↦ λ e h. (eqb-false (key x) k e, found-fresh xs (omega arith)) ] refl le

  past_all : (xs : List E) → position key k xs ≡ None → length xs ≤ found key k xs
  past_all xs =
      elim (ltb (found key k xs) (length xs)) as (λ b. ltb (found key k xs) (length xs) ≡ b → cond b (Some (found key k xs)) None ≡ None → length xs ≤ found key k xs)
      [ true ↦ λ _ e. absurd (none_is_some (found key k xs) (sym e)) | false ↦ λ h _. ltb-false (found key k xs) (length xs) h ] refl

  pub position-fresh : (xs : List E) → position key k xs ≡ None → Fresh key k xs
  position-fresh xs e = found-fresh xs (past_all xs e)

-- the element that a read of a slice answers
pub read-is : {A B : Type 0} (f : B → A) (r : Option B) (xs : List A) (at : ℕ) (x : A) → is_some r ≡ ltb at (length xs) → option_map f r ≡ Some x → ((d : A) → unwrap_or (option_map f r) d ≡ get_or xs at d) → slice_get xs at ≡ Some x
read-is f None xs at x h e k = absurd cc
read-is f (Some b) xs at x h e k = slice_get-get_or xs at x (ltb-true at (length xs) (sym h)) ∙ ap Some (sym (k x) ∙ ap (λ o. unwrap_or o x) e)
