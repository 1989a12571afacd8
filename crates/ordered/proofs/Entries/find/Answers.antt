-- Where no entry is found, none has the key.
use Rattle.std.proofs.Common.{take, sym, ap, ◌∙◌}
use Rattle.ordered.specs.Places.{position}
use Rattle.ordered.proofs.Held.{position-fresh}
use Rattle.ordered.proofs.Entries.find.Goals as goal

pub returns-clause-absent : goal.returns-clause-absent
returns-clause-absent g c e =
    position-fresh g.R.Ranking.key c.args.key (take c.args.self.now.used c.args.self.now.places.now)
    (ap (position g.R.Ranking.key c.args.key) (sym c.as_slice.ensures) ∙ sym c.position_of.ensures ∙ e)
