-- The loop holds that the script so far goes on to the script of the file.
use Rattle.std.proofs.Common.{length}
use Rattle.scenario.specs.Loading.{script_view, loaded_from}
use Rattle.scenario.proofs.Onward.{Onward}
use Rattle.scenario.proofs.Script.fill.Given as goal

abbrev pub invariant-loop-part : goal.invariant-loop-part
invariant-loop-part l =
    (goal.iterator-loop-part).can_next l.part-iterator ×
    (goal.iterator-loop-part).is_finite l.part-iterator ×
    Onward l.part-iterator.file.now l.file l.part-iterator.at (script_view l.self) (loaded_from (length l.file) l.file 0 (script_view l.initial.self))
