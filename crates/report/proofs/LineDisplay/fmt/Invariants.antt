use Rattle.std.proofs.Common.{◌++◌, take, codes, decimal}
use Rattle.std.specs.Fmt.{HasWritten, IsPlainFormatter}
use Rattle.model.specs.Numbers.{event_kind, event_task}
use Rattle.report.specs.Text.{answer_text, sets_bytes}
use Rattle.report.proofs.LineDisplay.fmt.Given as goal

abbrev pub invariant-loop-set : goal.invariant-loop-set
invariant-loop-set g l =
    IsPlainFormatter l.fn.f → HasWritten g.W.Write.write_str_gives l.fn.f (decimal l.self.number ++ (codes " " ++ (decimal (event_kind l.self.event) ++ (codes " " ++ (decimal (event_task l.self.event) ++ (codes " " ++ (answer_text l.self.answer ++ sets_bytes (take l.set-index l.self.sets.now)))))))) l.f
