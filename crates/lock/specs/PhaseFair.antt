-- A phase-fair reader-writer lock: mode 1 reads, mode 2 writes.
use Rattle.std.specs.Prelude.{◌≡◌, ℕ, ◌+◌, ◌*◌, Bool, true, false, cond, not, ◌&&◌, ◌||◌, List, [], ◌∷◌, ◌++◌, length, Some, None, ◌==◌, nat_lt}
use Rattle.lock.specs.declared.Reply.{Reply}
use Rattle.lock.specs.declared.Reply.TheVariants.{Granted, Waits}
use Rattle.task_set.specs.Sets.{someone, upto, nobody, only, plus, less}
use Rattle.lock.specs.Words.{first, has, distinct, index}
use Rattle.lock.specs.Model.{LockModel, started}

-- nobody holds, a set of readers does, or a writer
pub data Phase : Type 0 where
  idle : Phase
  reading : (ℕ → Bool) → Phase
  writing : ℕ → Phase

-- the waiting writers by issue, and the set of waiting readers
pub record Rw : Type 0 where
  pub phase : Phase
  pub writers : List ℕ
  pub readers : ℕ → Bool

-- who holds
abbrev pub holds_in : Phase → ℕ → Bool
holds_in idle u = false
holds_in (reading s) u = s u
holds_in (writing w) u = w == u

-- nobody is at two places, and everybody is a task
abbrev pub fine : Bool → Bool → Bool → ℕ → Bool
fine h w r u = not (h && w) && (not (h && r) && (not (w && r) && (not (h || (w || r)) || nat_lt u 64)))

-- nobody waits at rest, some reader reads, and readers wait for writers alone
abbrev pub RestIn : Phase → List ℕ → (ℕ → Bool) → Type 0
RestIn idle ws rs = (ws ≡ []) × ((u : ℕ) → rs u ≡ false)
RestIn (reading s) ws rs = ((u : ℕ) × (s u ≡ true)) × (ws ≡ [] → (u : ℕ) → rs u ≡ false)
RestIn (writing w) ws rs = Unit {0}

-- what is so of every lock that set-up and its steps make
pub record RwSound (l : Rw) : Type 0 where
  pub once : distinct l.writers ≡ true
  pub each : (u : ℕ) → fine (holds_in l.phase u) (has l.writers u) (l.readers u) u ≡ true
  pub rest : RestIn l.phase l.writers l.readers

-- the writer that holds
abbrev pub wrote : Phase → ℕ → Bool
wrote idle u = false
wrote (reading s) u = false
wrote (writing w) u = w == u

-- the mode that a holder or a waiter asked for
abbrev pub mode_in : Phase → List ℕ → ℕ → ℕ
mode_in ph ws u = cond (wrote ph u || has ws u) 2 1

-- whether a task may join: it is one, there is room for it, and it neither holds nor waits
abbrev pub rw_room : Rw → ℕ → Bool
rw_room l t = nat_lt t 64 && (nat_lt (length l.writers) 64 && not (holds_in l.phase t || (has l.writers t || l.readers t)))

-- whether a request is not declined
abbrev pub rw_admits : Rw → ℕ → ℕ → Bool
rw_admits l t m = (m == 1 || m == 2) && rw_room l t

-- the lock after a request of t that is not declined, by its phase: the flag says that it reads
abbrev pub asked_in : Phase → List ℕ → (ℕ → Bool) → ℕ → Bool → Rw
asked_in idle ws rs t true = record { phase = reading (only t); writers = ws; readers = rs }
asked_in idle ws rs t false = record { phase = writing t; writers = ws; readers = rs }
asked_in (reading s) [] rs t true = record { phase = reading (plus s t); writers = []; readers = rs }
asked_in (reading s) (w ∷ ws) rs t true = record { phase = reading s; writers = w ∷ ws; readers = plus rs t }
asked_in (reading s) [] rs t false = record { phase = reading s; writers = t ∷ []; readers = rs }
asked_in (reading s) (w ∷ ws) rs t false = record { phase = reading s; writers = (w ∷ ws) ++ (t ∷ []); readers = rs }
asked_in (writing x) ws rs t true = record { phase = writing x; writers = ws; readers = plus rs t }
asked_in (writing x) ws rs t false = record { phase = writing x; writers = ws ++ (t ∷ []); readers = rs }

-- what a request is answered, by the same flag
abbrev pub reply_in : Phase → List ℕ → Bool → Reply
reply_in idle ws r = Granted
reply_in (reading s) [] true = Granted
reply_in (reading s) (w ∷ ws) true = Waits
reply_in (reading s) [] false = Waits
reply_in (reading s) (w ∷ ws) false = Waits
reply_in (writing x) ws r = Waits

-- the longest-waiting writer's turn, if there is one
abbrev pub next_writer : List ℕ → (ℕ → Bool) → Rw
next_writer [] rs = record { phase = idle; writers = []; readers = rs }
next_writer (w ∷ ws) rs = record { phase = writing w; writers = ws; readers = rs }

-- the lock after a completion of t, by its phase
abbrev pub ended_in : Phase → List ℕ → (ℕ → Bool) → ℕ → Rw
ended_in idle ws rs t = record { phase = idle; writers = ws; readers = rs }
ended_in (reading s) ws rs t = cond (someone 64 (less s t)) (record { phase = reading (less s t); writers = ws; readers = rs }) (next_writer ws rs)
ended_in (writing x) ws rs t = cond (someone 64 rs) (record { phase = reading rs; writers = ws; readers = nobody }) (next_writer ws rs)

-- whether that ends a turn
abbrev pub ends_in : Phase → ℕ → Bool
ends_in idle t = false
ends_in (reading s) t = not (someone 64 (less s t))
ends_in (writing x) t = true

-- whom it grants
abbrev pub grants_in : Phase → List ℕ → (ℕ → Bool) → ℕ → ℕ → Bool
grants_in idle ws rs t u = false
grants_in (reading s) ws rs t u = cond (someone 64 (less s t)) false (first ws u)
grants_in (writing x) ws rs t u = cond (someone 64 rs) (rs u) (first ws u)

-- the turns to go of the writer behind i others
abbrev pub writer_turns : Phase → ℕ → ℕ
writer_turns idle i = 2 * i + 1
writer_turns (reading s) i = 2 * i + 1
writer_turns (writing x) i = 2 * (i + 1)

-- the turns to go of a reader
abbrev pub reader_turns : Phase → ℕ
reader_turns idle = 2
reader_turns (reading s) = 2
reader_turns (writing x) = 1

-- nobody holds and nobody waits
abbrev pub rw_empty : Rw
rw_empty = record { phase = idle; writers = []; readers = nobody }

-- kind 2, whose count is 0
abbrev pub rw : LockModel Rw
rw = record {
  sound = RwSound;
  start = λ kind k m. started (kind == 2) (k == 0) rw_empty;
  holds = λ l u. holds_in l.phase u;
  list = λ l. l.writers ++ upto 64 l.readers;
  togo = λ l u. cond (has l.writers u) (writer_turns l.phase (index l.writers u)) (reader_turns l.phase);
  mode = λ l u. mode_in l.phase l.writers u;
  fits = λ l m. (m == 1) || (m == 2);
  limit = λ l m o. cond (m == 1) 2 (2 * o + 1);
  allows = λ l c. (c 2 == 0) || (c 2 == 1 && c 1 == 0);
  reply = λ l t m. cond (rw_admits l t m) (Some (reply_in l.phase l.writers (m == 1))) None;
  requested = λ l t m. cond (rw_admits l t m) (asked_in l.phase l.writers l.readers t (m == 1)) l;
  completed = λ l t. cond (holds_in l.phase t) (ended_in l.phase l.writers l.readers t) l;
  grants = λ l t u. grants_in l.phase l.writers l.readers t u;
  ends = λ l t. ends_in l.phase t;
}
