-- The numbers of refusals, kinds and modes.
use Rattle.std.specs.Prelude.{ℕ, cond, Ok, Err, Result, ◌==◌}
use Rattle.lock.specs.declared.Refusal.{Refusal}
use Rattle.lock.specs.declared.Refusal.TheVariants.{NoSuchKind, CountUnfit, BufferTooShort}
use Rattle.lock.specs.declared.kind.Kind.{Kind}
use Rattle.lock.specs.declared.kind.Kind.TheVariants.{Mutex, ReaderWriter, Replicas}
use Rattle.lock.specs.declared.reader_writer.Access.{Access}
use Rattle.lock.specs.declared.reader_writer.Access.TheVariants.{Read, Write}

-- the number of a refusal
abbrev pub refusal_number : Refusal → ℕ
refusal_number NoSuchKind = 7
refusal_number CountUnfit = 8
refusal_number BufferTooShort = 19

-- the number of a kind
abbrev pub kind_number : Kind → ℕ
kind_number Mutex = 1
kind_number ReaderWriter = 2
kind_number Replicas = 3

-- the kind of a number
abbrev pub kind_of : ℕ → Result Kind Refusal
kind_of n = cond (n == 1) (Ok Mutex) (cond (n == 2) (Ok ReaderWriter) (cond (n == 3) (Ok Replicas) (Err NoSuchKind)))

-- the access of a mode
abbrev pub access_of : ℕ → Result Access (Unit {0})
access_of m = cond (m == 1) (Ok Read) (cond (m == 2) (Ok Write) (Err tt))
