-- What is taken out of the first places of a slice, and what that leaves.
use Rattle.std.specs.Prelude.{ℕ, ◌-◌, Bool, cond, ◌&&◌, List, ◌++◌, length, take, drop, None, Option, nat_eq, nat_le, nat_lt}
use Rattle.std.specs.List as std
use Rattle.std.specs.List.{slice_get, remove}

-- the place of the first element with key k, if there is one
abbrev pub position : {E : Type 0} → (E → ℕ) → ℕ → List E → Option ℕ
position key k xs = std.position (λ x. nat_eq (key x) k) xs

-- whether there are more than `used` places
abbrev pub has_room : {E : Type 0} → ℕ → List E → Bool
has_room used xs = nat_lt used (length xs)

-- whether `at` is one of the first `used` places, all of which exist
abbrev pub held : {E : Type 0} → ℕ → ℕ → List E → Bool
held used at xs = nat_lt at used && nat_le used (length xs)

-- the entry that is taken out there, if one is held
abbrev pub taken : {E : Type 0} → ℕ → ℕ → List E → Option E
taken used at xs = cond (held used at xs) (slice_get xs at) None

-- what that leaves: the entries behind it move up by one place, and the last of them also stays where it was
abbrev pub closed : {E : Type 0} → ℕ → ℕ → List E → List E
closed used at xs = cond (held used at xs) (remove (take used xs) at ++ drop (used - 1) xs) xs
