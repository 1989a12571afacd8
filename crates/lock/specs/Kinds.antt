-- A lock of any kind.
use Rattle.std.specs.Prelude.{Ok, Err, Result}
use Rattle.lock.specs.declared.Refusal.{Refusal}
use Rattle.lock.specs.declared.Refusal.TheVariants.{NoSuchKind, CountUnfit, BufferTooShort}
use Rattle.lock.specs.Model.{LockModel}
use Rattle.lock.specs.Fifo.{Fifo, mutex, replicas}
use Rattle.lock.specs.PhaseFair.{Rw, rw}

-- one of two
pub data Either (A B : Type 0) : Type 0 where
  one : A → Either A B
  two : B → Either A B

module _ {A B : Type 0} where
  -- by cases
  abbrev pub either : {X : Type 0} → (A → X) → (B → X) → Either A B → X
  either f g (one a) = f a
  either f g (two b) = g b

  -- a property by cases
  abbrev pub EitherType : (A → Type 0) → (B → Type 0) → Either A B → Type 0
  EitherType f g (one a) = f a
  EitherType f g (two b) = g b

  -- the first of two, or the second if the first does not know the kind
  abbrev pub or_else : Result A Refusal → Result B Refusal → Result (Either A B) Refusal
  or_else (Ok a) r = Ok (one a)
  or_else (Err NoSuchKind) (Ok b) = Ok (two b)
  or_else (Err NoSuchKind) (Err e) = Err e
  or_else (Err CountUnfit) r = Err CountUnfit
  or_else (Err BufferTooShort) r = Err BufferTooShort

  -- two kinds as one
  abbrev pub sum : LockModel A → LockModel B → LockModel (Either A B)
  sum K M = record {
    sound = EitherType K.sound M.sound;
    start = λ kind k m. or_else (K.start kind k m) (M.start kind k m);
    holds = either K.holds M.holds;
    list = either K.list M.list;
    togo = either K.togo M.togo;
    mode = either K.mode M.mode;
    fits = either K.fits M.fits;
    limit = either K.limit M.limit;
    allows = either K.allows M.allows;
    reply = either K.reply M.reply;
    requested = either (λ l t m. one (K.requested l t m)) (λ l t m. two (M.requested l t m));
    completed = either (λ l t. one (K.completed l t)) (λ l t. two (M.completed l t));
    grants = either K.grants M.grants;
    ends = either K.ends M.ends;
  }

-- a mutex, a reader-writer lock or replicas
abbrev pub Any : Type 0
Any = Either Fifo (Either Rw Fifo)

-- what a lock of any kind does
abbrev pub any : LockModel Any
any = sum mutex (sum rw replicas)
