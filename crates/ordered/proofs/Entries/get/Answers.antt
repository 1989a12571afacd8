-- The place of the entry that is read is its rank.
use Rattle.std.proofs.Common.{take, sym, ap, ◌∙◌, arith}
use Rattle.std.specs.List.{slice_get}
use Rattle.ordered.proofs.Counts.{standing-rank}
use Rattle.ordered.proofs.Held.{read-is}
use Rattle.ordered.proofs.Entries.get.Goals as goal

pub returns-clause-rank : goal.returns-clause-rank
returns-clause-rank g c x e s =
    let at = c.args.at in let look = c.get.ensures.lookup in
    let read = read-is (λ b. b.now) c.get.result c.as_slice.result.now at x look.0 (sym c.copied.ensures ∙ e) (look.4 (omega arith)) in
    standing-rank g.R.Ranking.before g.met.R.Ranking.ranks.irreflexive g.met.R.Ranking.ranks.transitive (take c.args.self.now.used c.args.self.now.places.now) at x s
    (ap (λ xs. slice_get xs at) (sym c.as_slice.ensures) ∙ read)
