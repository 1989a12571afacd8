-- What the values of the program mean.
use Rattle.std.specs.Prelude.{ℕ, Bool, true, false, List, take, Some, None, Option}
use Rattle.task_set.specs.Sets.{bits}
use Rattle.lock.specs.declared.Completion.{Completion}
use Rattle.lock.specs.declared.queue.Queue.{Queue}
use Rattle.lock.specs.declared.places.Row.{Row}
use Rattle.lock.specs.declared.reader_writer.Phase as stage
use Rattle.lock.specs.declared.reader_writer.Phase.TheVariants as stages
use Rattle.lock.specs.declared.reader_writer.Access.{Access}
use Rattle.lock.specs.declared.reader_writer.Access.TheVariants.{Read, Write}
use Rattle.lock.specs.declared.reader_writer.ReaderWriter.{ReaderWriter}
use Rattle.lock.specs.declared.any.AnyLock.{AnyLock}
use Rattle.lock.specs.declared.any.AnyLock.TheVariants as kinds
use Rattle.lock.specs.Model.{Outcome, took}
use Rattle.lock.specs.Fifo.{Fifo}
use Rattle.lock.specs.PhaseFair.{Rw, Phase, idle, reading, writing}
use Rattle.lock.specs.Kinds.{Any, one, two}

-- the tasks of a queue
abbrev pub row : Queue → List ℕ
row q = take q.len q.items

-- the answer of a completion
abbrev pub outcome_of : Option Completion → Option Outcome
outcome_of None = None
outcome_of (Some c) = took (bits c.granted.bits) c.ends_turn

-- a row, by how many its places are
abbrev pub row_view : {P : Type 0} → (P → ℕ) → Row P → Fifo
row_view count l = record { places = count l.places; row = row l.queue }

-- a phase
abbrev pub phase_of : stage.Phase → Phase
phase_of stages.Idle = idle
phase_of (stages.Reading s) = reading (bits s.bits)
phase_of (stages.Writing w) = writing w

-- a reader-writer lock
abbrev pub rw_view : ReaderWriter → Rw
rw_view l = record { phase = phase_of l.phase; writers = row l.writers; readers = bits l.readers.bits }

-- whether an access reads
abbrev pub reads : Access → Bool
reads Read = true
reads Write = false

-- a lock of any kind: a mutex has one place, replicas have theirs
abbrev pub any_view : AnyLock → Any
any_view (kinds.Mutex l) = one (row_view (λ _. 1) l)
any_view (kinds.ReaderWriter l) = two (one (rw_view l))
any_view (kinds.Replicas l) = two (two (row_view (λ p. p.replicas) l))
