-- What one condition implies of another word.
use Rattle.std.proofs.Common.{◌≡◌, true, refl}
use Rattle.std.proofs.lemmas.Bool.{false≢true}
use Rattle.model.specs.declared.Condition.{Condition}
use Rattle.model.specs.declared.Condition.TheVariants.{Idle, Computing, Wanting, Waiting, Holding, Done}
use Rattle.model.specs.Words.{is_pending, holds, is_open, runs}

pub runs-pending : (k : Condition) → runs k ≡ true → is_pending k ≡ true
runs-pending Idle h = h
runs-pending Computing h = refl
runs-pending (Wanting r m) h = refl
runs-pending (Waiting r m) h = refl
runs-pending (Holding r m) h = refl
runs-pending Done h = refl

pub holds-open : (k : Condition) → holds k ≡ true → (is_open k ≡ true) × (runs k ≡ true)
holds-open Idle h = absurd (false≢true h)
holds-open Computing h = absurd (false≢true h)
holds-open (Wanting r m) h = absurd (false≢true h)
holds-open (Waiting r m) h = absurd (false≢true h)
holds-open (Holding r m) h = (refl, refl)
holds-open Done h = absurd (false≢true h)

pub runs-open_holds : (k : Condition) → runs k ≡ true → is_open k ≡ true → holds k ≡ true
runs-open_holds Idle a b = b
runs-open_holds Computing a b = b
runs-open_holds (Wanting r m) a b = b
runs-open_holds (Waiting r m) a b = a
runs-open_holds (Holding r m) a b = refl
runs-open_holds Done a b = b
