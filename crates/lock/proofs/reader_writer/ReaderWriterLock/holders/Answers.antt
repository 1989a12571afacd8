-- A set of readers has tasks alone, since its number has 64 bits.
use Rattle.std.proofs.Common.{◌≡◌, ℕ, ◌^◌, ◌<◌, ◌≤◌, sym, ap, ◌∙◌, ⊎_elim, arith, rules}
use Rattle.std.proofs.Math.Path.{fun_ext}
use Rattle.std.proofs.lemmas.Bool.{cases_lt, lt-ltb}
use Rattle.task_set.specs.Sets.{bits, tasks}
use Rattle.task_set.proofs.Bits.{high-bit}
use Rattle.lock.specs.PhaseFair.{holds_in}
use Rattle.lock.specs.Views.{phase_of}
use Rattle.lock.proofs.reader_writer.ReaderWriterLock.holders.Goals as goal

tasks-alone : (s u : ℕ) → s < 2 ^ 64 → bits s u ≡ tasks (bits s) u
tasks-alone s u h = ⊎_elim
    (λ (l : u < 64). let a = lt-ltb u 64 l in grind (arith, a))
    (λ (l : 64 ≤ u). let a = high-bit s u h l in grind (arith, a))
    (cases_lt u 64)

pub returns-in-Reading : goal.returns-in-Reading
returns-in-Reading c =
    let fits : c.in-Reading.readers.bits < 2 ^ 64 = search rules in
    ap bits c.from.ensures ∙ fun_ext (λ u. tasks-alone c.in-Reading.readers.bits u fits) ∙ ap (λ p. tasks (holds_in (phase_of p))) (sym c.in-Reading.is)
