use Rattle.std.proofs.Common.{◌≡◌, ◌+◌, [], ◌++◌, take, sym, refl, ap, ◌∙◌, append-nil, rules}
use Rattle.std.specs.Slice.Iter.{iter_rest}
use Rattle.std.specs.Iterator.Adapters.{zip_second, enumerate_source}
use Rattle.std.proofs.lemmas.Slice.Zip.{Zip-more, either_empty_from_Zip}
use Rattle.std.proofs.Output.{has_written_append, has_written_of_eq, writes_in_calls_nil}
use Rattle.report.specs.Text.{line_bytes}
use Rattle.report.proofs.Text.{lines_more, lines_end}
use Rattle.report.proofs.LinesDisplay.fmt.Goals as goal

pub loop-i-init : goal.loop-i-init
loop-i-init g c = λ p.
    let s : iter_rest (zip_second c.zip.result) ≡ c.args.self.now.outcomes.now = c.zip.ensures.second.0 in
    ([], record { wrote = writes_in_calls_nil _ _; plain = p }, simp (c.into_iter-i-iterator.ensures.into_iter_gives, c.enumerate-i-items.ensures.source, c.enumerate-i-items.ensures.count, c.zip.ensures.first, s, c.iter.ensures.rest))

pub loop-i-preserved : goal.loop-i-preserved
loop-i-preserved g c = λ p.
    let old = c.loop-i.invariant p in
    let o = c.in-Some.outcome.now in
    let s = c.in-Some.ensures.steps in
    let z = Zip-more (enumerate_source c.loop-i.i-iterator) (enumerate_source c.next.new.self) _ (c.in-Some.event, c.in-Some.outcome) refl s.0 in (
      old.0 ++ line_bytes (c.in-Some.i + 1) c.in-Some.event.now o.answer (take c.min-shown.result o.scheduled),
      has_written_append _ _ _ _ _ _ old.1 (search rules),
      lines_more _ _ _ _ _ _ _ _ _ _ _ _ _ old.2 z.0 z.1 s.1 s.2 c.min-shown.ensures,
    )

pub returns-clause-writes : goal.returns-clause-writes
returns-clause-writes g c = λ p ok.
    let old = c.loop-i.invariant p in
    let s = c.in-None.ensures.steps in
    let z = either_empty_from_Zip (enumerate_source c.loop-i.i-iterator) (enumerate_source c.next.new.self) _ refl s.0 in
    has_written_of_eq _ _ _ _ _ (sym (append-nil _) ∙ ap (λ x. old.0 ++ x) (sym (lines_end _ _ _ _ z)) ∙ old.2) old.1
