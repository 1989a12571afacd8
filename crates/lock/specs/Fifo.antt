-- Places in a row: the first `places` of the row hold, the others wait, by issue. A mutex is the row with one place.
use Rattle.std.specs.Prelude.{◌≡◌, ℕ, suc, ◌-◌, ◌<◌, ◌≤◌, Bool, true, cond, not, ◌&&◌, List, [], ◌∷◌, ◌++◌, length, drop, Some, None, Option, Ok, Result, ◌==◌, nat_le, nat_lt}
use Rattle.lock.specs.declared.Refusal.{Refusal}
use Rattle.lock.specs.declared.Reply.{Reply}
use Rattle.lock.specs.declared.Reply.TheVariants.{Granted, Waits}
use Rattle.lock.specs.Words.{first, has, distinct, index, removed}
use Rattle.lock.specs.Model.{LockModel, started}

-- the number of places, and the row
pub record Fifo : Type 0 where
  pub places : ℕ
  pub row : List ℕ

-- nobody is in the row twice, all are tasks, and there is a place
pub record FifoSound (l : Fifo) : Type 0 where
  pub apart : distinct l.row ≡ true
  pub small : (u : ℕ) → has l.row u ≡ true → u < 64
  pub some : 1 ≤ l.places

-- the first in the row hold
abbrev pub fifo_holds : Fifo → ℕ → Bool
fifo_holds l t = has l.row t && nat_lt (index l.row t) l.places

-- whether a request is not declined
abbrev pub fifo_admits : Fifo → ℕ → ℕ → Bool
fifo_admits l t m = m == 0 && (nat_lt t 64 && (nat_lt (length l.row) 64 && not (has l.row t)))

-- what a request is answered
abbrev pub fifo_reply : Fifo → ℕ → ℕ → Option Reply
fifo_reply l t m = cond (fifo_admits l t m) (Some (cond (nat_lt (length l.row) l.places) Granted Waits)) None

-- nobody in the row
abbrev pub fifo_empty : ℕ → Fifo
fifo_empty k = record { places = k; row = [] }

-- what a row with places does, whatever it is set up by
abbrev pub fifo : (ℕ → ℕ → ℕ → Result Fifo Refusal) → LockModel Fifo
fifo start = record {
  sound = FifoSound;
  start = start;
  holds = fifo_holds;
  list = λ l. drop l.places l.row;
  togo = λ l t. suc (index l.row t) - l.places;
  mode = λ l t. 0;
  fits = λ l m. (m == 0);
  limit = λ l m o. cond (nat_le l.places o) (suc o - l.places) 0;
  allows = λ l c. nat_le (c 0) l.places;
  reply = fifo_reply;
  requested = λ l t m. record { places = l.places; row = cond (fifo_admits l t m) (l.row ++ (t ∷ [])) l.row };
  completed = λ l t. record { places = l.places; row = cond (fifo_holds l t) (removed l.row t) l.row };
  grants = λ l t u. first (drop l.places l.row) u;
  ends = λ l t. true;
}

-- a start that makes nothing but a row of nobody with some places
abbrev pub Begins : (ℕ → ℕ → ℕ → Result Fifo Refusal) → Type 0
Begins start = (kind k m : ℕ) (l : Fifo) → start kind k m ≡ Ok l → (p : ℕ) × (1 ≤ p) × (fifo_empty p ≡ l)

-- kind 1, whose count is 0: one place
abbrev pub mutex : LockModel Fifo
mutex = fifo (λ kind k m. started (kind == 1) (k == 0) (fifo_empty 1))

-- kind 3, whose count is 1 to m: a place for each replica
abbrev pub replicas : LockModel Fifo
replicas = fifo (λ kind k m. started (kind == 3) (nat_le 1 k && nat_le k m) (fifo_empty k))
