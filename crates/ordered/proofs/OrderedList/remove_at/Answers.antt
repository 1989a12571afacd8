-- The entries behind the one taken out move up, or none is held there.
use Rattle.std.proofs.Common.{◌<◌, Some, length, take, sym, refl, ap, ◌∙◌, arith}
use Rattle.std.proofs.lemmas.Option.{slice_get_read}
use Rattle.std.proofs.lemmas.Bool.{cond-true}
use Rattle.ordered.proofs.Shifts.{moved_out}
use Rattle.ordered.proofs.Sortedness.{removed-sorted}
use Rattle.ordered.proofs.Held.{held-yes, taken-counts}
use Rattle.ordered.proofs.OrderedList.remove_at.Goals as goal

is_taken : goal.returns-clause-gives
is_taken g c =
    let l = c.args.self.now in
    let lt : c.args.at < length l.places.now = omega arith in
    ap Some (sym c.index-self-at.is) ∙ sym (cond-true _ _ _ (held-yes l.places.now l.used c.args.at c.if-at-used.false c.if-used-self.false) ∙ slice_get_read l.places.now _ c.args.at c.index-self-at.result refl lt c.index-self-at.is)

pub returns-then-at-used-clause-sorted : goal.returns-then-at-used-clause-sorted
returns-then-at-used-clause-sorted g c = removed-sorted g.R.Ranking.before (take c.args.self.now.used c.args.self.now.places.now) c.args.at

pub returns-clause-gives : goal.returns-clause-gives
returns-clause-gives g c = is_taken g c

pub returns-clause-after : goal.returns-clause-after
returns-clause-after g c =
    let l = c.args.self.now in
    c.copy_within.ensures.after ∙ moved_out l.places.now c.args.at l.used c.if-at-used.false c.if-used-self.false ∙ sym (cond-true _ _ _ (held-yes l.places.now l.used c.args.at c.if-at-used.false c.if-used-self.false))

pub returns-clause-sorted : goal.returns-clause-sorted
returns-clause-sorted g c = removed-sorted g.R.Ranking.before (take c.args.self.now.used c.args.self.now.places.now) c.args.at

pub returns-clause-counts : goal.returns-clause-counts
returns-clause-counts g c = taken-counts c.args.self.now.places.now c.args.self.now.used c.args.at _ (is_taken g c)
