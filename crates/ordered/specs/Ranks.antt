-- An order of elements with keys, and a list kept by it.
use Rattle.std.specs.Prelude.{◌≡◌, ℕ, suc, Bool, true, false, cond, not, List, [], ◌∷◌, ◌≢◌, nat_eq}
use Rattle.std.specs.List.{prefix_len, position_or_len}

-- no element goes before itself, going before carries on, and of two elements with different keys exactly one goes before the other
pub record Ranks {E : Type 0} (key : E → ℕ) (before : E → E → Bool) : Type 0 where
  pub irreflexive : (a : E) → before a a ≡ false
  pub transitive : (a b c : E) → before a b ≡ true → before b c ≡ true → before a c ≡ true
  pub different : (a b : E) → (key a ≢ key b) → before b a ≡ not (before a b)

-- the place of e: after the elements at the front that go before it
abbrev pub place : {E : Type 0} → (E → E → Bool) → E → List E → ℕ
place before e xs = prefix_len (λ x. before x e) xs

-- the place of the first element with key k, or the length
abbrev pub found : {E : Type 0} → (E → ℕ) → ℕ → List E → ℕ
found key k xs = position_or_len (λ x. nat_eq (key x) k) xs

-- xs with e after the elements at the front that go before it
abbrev pub ranked : {E : Type 0} → (E → E → Bool) → E → List E → List E
ranked before e [] = e ∷ []
ranked before e (x ∷ xs) = cond (before x e) (x ∷ ranked before e xs) (e ∷ x ∷ xs)

-- x goes before each element
abbrev pub Leads : {E : Type 0} → (E → E → Bool) → E → List E → Type 0
Leads before x [] = Unit {0}
Leads before x (y ∷ ys) = (before x y ≡ true) × Leads before x ys

-- each element goes before all after it
abbrev pub Sorted : {E : Type 0} → (E → E → Bool) → List E → Type 0
Sorted before [] = Unit {0}
Sorted before (x ∷ xs) = Leads before x xs × Sorted before xs

-- no element has the key k
abbrev pub Fresh : {E : Type 0} → (E → ℕ) → ℕ → List E → Type 0
Fresh key k [] = Unit {0}
Fresh key k (x ∷ xs) = (key x ≢ k) × Fresh key k xs

-- how many elements pass the test
abbrev pub passing : {E : Type 0} → (E → Bool) → List E → ℕ
passing p [] = 0
passing p (x ∷ xs) = cond (p x) (suc (passing p xs)) (passing p xs)
