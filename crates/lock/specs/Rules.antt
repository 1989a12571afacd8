-- The rules of each kind, over who holds, who waits and what they asked for.
use Rattle.std.specs.Prelude.{◌≡◌, ℕ, suc, ◌+◌, ◌-◌, ◌*◌, Bool, true, cond, not, ◌&&◌, [], ◌∷◌, ◌++◌, drop, Some, None, Ok, Err, Result, ◌==◌, ◌≢◌, nat_le, nat_lt}
use Rattle.lock.specs.declared.Refusal.{Refusal}
use Rattle.lock.specs.declared.Refusal.TheVariants.{NoSuchKind, CountUnfit}
use Rattle.lock.specs.declared.Reply.TheVariants.{Waits}
use Rattle.task_set.specs.Sets.{tally, someone, upto, less}
use Rattle.lock.specs.Words.{has, index, first}
use Rattle.lock.specs.Model.{is_granted, queued, member}
use Rattle.lock.specs.Fifo.{Fifo, FifoSound, fifo, fifo_empty, mutex, replicas}
use Rattle.lock.specs.PhaseFair.{Rw, RwSound, rw, rw_empty}
use Rattle.lock.specs.Kinds.{Any, one, two, any}

-- mutex and replicas, with k places, whatever they are set up by
pub record FifoRules (start : ℕ → ℕ → ℕ → Result Fifo Refusal) : Type 0 where
  -- a request is granted at issue exactly if fewer than k hold
  pub at_issue : (l : Fifo) (t m : ℕ) → FifoSound l → ((fifo start).reply l t m ≢ None) → is_granted ((fifo start).reply l t m) ≡ nat_lt (tally 64 ((fifo start).holds l)) l.places
  -- waiting is by issue
  pub by_issue : (l : Fifo) (t m : ℕ) → (fifo start).reply l t m ≡ Some Waits → (fifo start).list ((fifo start).requested l t m) ≡ (fifo start).list l ++ (t ∷ [])
  -- every completion ends a turn and grants the first waiter, who leaves the list
  pub turn_ends : (l : Fifo) (t : ℕ) → (fifo start).ends l t ≡ true
  pub grants_first : (l : Fifo) (t u : ℕ) → (fifo start).grants l t u ≡ first ((fifo start).list l) u
  pub moves_up : (l : Fifo) (t : ℕ) → (fifo start).holds l t ≡ true → (fifo start).list ((fifo start).completed l t) ≡ drop 1 ((fifo start).list l)
  -- turns to go are the place in the list, from 1
  pub turns : (l : Fifo) (u : ℕ) → FifoSound l → queued (fifo start) l u ≡ true → (fifo start).togo l u ≡ suc (index ((fifo start).list l) u)
  -- the limit is o - k + 1 if o is at least k, else 0
  pub limit : (l : Fifo) (m o : ℕ) → (fifo start).limit l m o ≡ cond (nat_le l.places o) (o - l.places + 1) 0
  -- the places stay as set up
  pub request_places : (l : Fifo) (t m : ℕ) → ((fifo start).requested l t m).places ≡ l.places
  pub complete_places : (l : Fifo) (t : ℕ) → ((fifo start).completed l t).places ≡ l.places

-- a mutex has one place: at most one holds, and the limit is o; replicas have k
pub record PlacesRules : Type 0 where
  pub mutex_places : (kind k m : ℕ) (l : Fifo) → mutex.start kind k m ≡ Ok l → l.places ≡ 1
  pub replicas_places : (kind k m : ℕ) (l : Fifo) → replicas.start kind k m ≡ Ok l → l.places ≡ k
  pub mutex_alone : (l : Fifo) (t u : ℕ) → l.places ≡ 1 → mutex.holds l t ≡ true → mutex.holds l u ≡ true → t ≡ u
  pub mutex_limit : (l : Fifo) (m o : ℕ) → l.places ≡ 1 → mutex.limit l m o ≡ o

-- whether a writer holds
abbrev pub writer_holds : Rw → Bool
writer_holds l = someone 64 (λ u. rw.holds l u && rw.mode l u == 2)

-- how many writers are before u, a holding one counted
abbrev pub writers_before : Rw → ℕ → ℕ
writers_before l u = index l.writers u + cond (writer_holds l) 1 0

-- phase-fair
pub record RwRules : Type 0 where
  -- a writer holds alone
  pub writer_alone : (l : Rw) (t u : ℕ) → RwSound l → rw.holds l t ≡ true → rw.mode l t ≡ 2 → rw.holds l u ≡ true → t ≡ u
  -- the waiting writers and the waiting readers, by the modes that they asked for
  pub waiting_writers : (l : Rw) (u : ℕ) → RwSound l → has l.writers u ≡ (queued rw l u && rw.mode l u == 2)
  pub waiting_readers : (l : Rw) (u : ℕ) → RwSound l → l.readers u ≡ (queued rw l u && rw.mode l u == 1)
  -- writers wait by issue: a newcomer is last, no other request moves them, and a completion takes the first out if it grants a writer
  pub writers_by_issue : (l : Rw) (t : ℕ) → rw.reply l t 2 ≡ Some Waits → (rw.requested l t 2).writers ≡ l.writers ++ (t ∷ [])
  pub row_stays : (l : Rw) (t m : ℕ) → (rw.reply l t m ≡ Some Waits → m ≢ 2) → (rw.requested l t m).writers ≡ l.writers
  pub moves_up : (l : Rw) (t : ℕ) → RwSound l → rw.holds l t ≡ true → (rw.completed l t).writers ≡ cond (someone 64 (λ u. has l.writers u && rw.grants l t u)) (drop 1 l.writers) l.writers
  -- the list shows writers by issue, then readers by task number
  pub shown : (l : Rw) → rw.list l ≡ l.writers ++ upto 64 l.readers
  -- a read is granted at issue exactly if no writer holds or waits, a write exactly if nobody holds
  pub read_at_issue : (l : Rw) (t : ℕ) → RwSound l → (rw.reply l t 1 ≢ None) → is_granted (rw.reply l t 1) ≡ not (someone 64 (λ u. member rw l u && rw.mode l u == 2))
  pub write_at_issue : (l : Rw) (t : ℕ) → RwSound l → (rw.reply l t 2 ≢ None) → is_granted (rw.reply l t 2) ≡ not (someone 64 (rw.holds l))
  -- a turn ends when the last holder completes
  pub turn_ends : (l : Rw) (t : ℕ) → RwSound l → rw.holds l t ≡ true → rw.ends l t ≡ not (someone 64 (less (rw.holds l) t))
  -- when the last reader completes, the longest-waiting writer is granted
  pub reader_completes : (l : Rw) (t u : ℕ) → RwSound l → rw.holds l t ≡ true → rw.mode l t ≡ 1 → rw.ends l t ≡ true → rw.grants l t u ≡ first l.writers u
  -- when a writer completes, all waiting readers are granted together; if none waits, the longest-waiting writer is
  pub writer_completes : (l : Rw) (t u : ℕ) → RwSound l → rw.holds l t ≡ true → rw.mode l t ≡ 2 → rw.grants l t u ≡ cond (someone 64 l.readers) (l.readers u) (first l.writers u)
  -- a reader has 1 turn to go while a writer holds, else 2; a writer with w writers before it has 2w while a writer holds, else 2w + 1
  pub reader_turns : (l : Rw) (u : ℕ) → RwSound l → queued rw l u ≡ true → rw.mode l u ≡ 1 → rw.togo l u ≡ cond (writer_holds l) 1 2
  pub writer_turns : (l : Rw) (u : ℕ) → RwSound l → queued rw l u ≡ true → rw.mode l u ≡ 2 → rw.togo l u ≡ cond (writer_holds l) (2 * writers_before l u) (2 * writers_before l u + 1)
  -- the limit is 2 for a read, 2o + 1 for a write
  pub read_limit : (l : Rw) (o : ℕ) → rw.limit l 1 o ≡ 2
  pub write_limit : (l : Rw) (o : ℕ) → rw.limit l 2 o ≡ 2 * o + 1

-- an empty lock of a kind, with k places if it is replicas
abbrev pub empty_of : ℕ → ℕ → Any
empty_of kind k = cond (kind == 1) (one (fifo_empty 1)) (cond (kind == 2) (two (one rw_empty)) (two (two (fifo_empty k))))

-- the kind is one of 1 to the last, then k is 1 to m for replicas and 0 for the others
abbrev pub SetUpRule : ℕ → Type 0
SetUpRule last = (kind k m : ℕ) → any.start kind k m ≡ cond (nat_le 1 kind && nat_le kind last)
    (cond (cond (kind == 3) (nat_le 1 k && nat_le k m) (k == 0)) (Ok (empty_of kind k)) (Err CountUnfit))
    (Err NoSuchKind)

-- the rules of the three kinds, and of set-up
pub record Rules (last : ℕ) : Type 0 where
  pub of_mutex : FifoRules mutex.start
  pub of_replicas : FifoRules replicas.start
  pub of_places : PlacesRules
  pub of_reader_writer : RwRules
  pub of_set_up : SetUpRule last
