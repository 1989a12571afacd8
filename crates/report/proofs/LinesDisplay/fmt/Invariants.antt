use Rattle.std.proofs.Common.{◌≡◌, ◌+◌, ◌++◌, List, ℕ}
use Rattle.std.specs.Fmt.{HasWritten, IsPlainFormatter}
use Rattle.std.specs.Slice.Iter.{iter_rest}
use Rattle.std.specs.Iterator.Adapters.{zip_first, zip_second, enumerate_source, enumerate_count}
use Rattle.report.specs.Text.{lines_bytes}
use Rattle.report.proofs.LinesDisplay.fmt.Given as goal

abbrev pub invariant-loop-i : goal.invariant-loop-i
invariant-loop-i g l =
    IsPlainFormatter l.fn.f → (bs : List ℕ) × HasWritten g.W.Write.write_str_gives l.fn.f bs l.f
    × (bs ++ lines_bytes (enumerate_count l.i-iterator + 1) l.self.clusters (iter_rest (zip_first (enumerate_source l.i-iterator))) (iter_rest (zip_second (enumerate_source l.i-iterator)))
    ≡ lines_bytes 1 l.self.clusters l.self.events.now l.self.outcomes.now)
