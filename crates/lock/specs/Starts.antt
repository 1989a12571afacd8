-- What a start that succeeds says, and whom a completion grants
use Rattle.std.specs.Prelude.{◌≡◌, ℕ, Bool, true, false, not, ◌&&◌, ◌||◌, Ok, refl}
use Rattle.std.proofs.Common.{arith}
use Rattle.std.proofs.lemmas.Bool.Decides.{nat_tests}
use Rattle.lock.specs.Model.{started}

pub starts : {L : Type 0} (known fit : Bool) (x l : L) → started known fit x ≡ Ok l → (known ≡ true) × (fit ≡ true) × (x ≡ l)
starts true true x l e = (refl, refl, cc)
starts true false x l e = let z : ◌≡◌ {A = ℕ} 0 1 = cc in absurd (omega arith)
starts false fit x l e = let z : ◌≡◌ {A = ℕ} 0 1 = cc in absurd (omega arith)

-- a and b, who held and waited; t, whether it is the completing task; g, whether it is granted; h, whether it holds then
pub exact : (a b t g h : Bool) → (a ≡ true → b ≡ false) → (g ≡ true → b ≡ true) → h ≡ ((a && not t) || g) → g ≡ (b && h)
exact a b t g h p q r = grind (arith, nat_tests)
