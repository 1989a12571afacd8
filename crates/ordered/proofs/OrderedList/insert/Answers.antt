-- The item comes in at its place and the entries behind it move back, or the list is full.
use Rattle.std.proofs.Common.{◌≡◌, ◌+◌, ◌≤◌, ◌++◌, take, drop, set, sym, ap, ◌∙◌}
use Rattle.std.specs.List.{insert}
use Rattle.std.proofs.lemmas.Bool.{cond_below}
use Rattle.ordered.specs.Ranks.{place}
use Rattle.ordered.proofs.Shifts.{ranked-is, moved_in}
use Rattle.ordered.proofs.Sortedness.{ranked-sorted}
use Rattle.ordered.proofs.Counts.{passing-ranked, place-rank}
use Rattle.ordered.proofs.OrderedList.insert.Goals as goal

pub returns-then-used-self-clause-sorted : goal.returns-then-used-self-clause-sorted
returns-then-used-self-clause-sorted g c = ranked-sorted g.met.R.Ranking.ranks c.args.item (take c.args.self.now.used c.args.self.now.places.now)

pub returns-then-used-self-clause-counts : goal.returns-then-used-self-clause-counts
returns-then-used-self-clause-counts g c p = passing-ranked p g.R.Ranking.before c.args.item (take c.args.self.now.used c.args.self.now.places.now)

pub returns-then-used-self-clause-rank : goal.returns-then-used-self-clause-rank
returns-then-used-self-clause-rank g c = place-rank g.met.R.Ranking.ranks c.args.item (take c.args.self.now.used c.args.self.now.places.now)

pub returns-clause-after : goal.returns-clause-after
returns-clause-after g c =
    let l = c.args.self.now in let at = c.place_of-at.result in let item = c.args.item in let before = g.R.Ranking.before in
    let most : at ≤ l.used = rw c.entries.ensures.used at c.place_of-at.ensures.within in
    let is : at ≡ place before item (take l.used l.places.now) =
    c.place_of-at.ensures.at ∙ ap (λ n. place before item (take n c.entries.result.places.now)) c.entries.ensures.used ∙ ap (λ xs. place before item (take l.used xs)) c.entries.ensures.places in
    ap (λ ys. set ys at item) c.copy_within.ensures.after
    ∙ moved_in l.places.now at l.used item most c.if-used-self.false
    ∙ ap (λ n. insert (take l.used l.places.now) n item ++ drop (l.used + 1) l.places.now) is
    ∙ ap (λ ys. ys ++ drop (l.used + 1) l.places.now) (sym (ranked-is before item (take l.used l.places.now)))
    ∙ cond_below l.used _ _ _ c.if-used-self.false

pub returns-clause-sorted : goal.returns-clause-sorted
returns-clause-sorted g c = ranked-sorted g.met.R.Ranking.ranks c.args.item (take c.args.self.now.used c.args.self.now.places.now)

pub returns-clause-counts : goal.returns-clause-counts
returns-clause-counts g c p = passing-ranked p g.R.Ranking.before c.args.item (take c.args.self.now.used c.args.self.now.places.now)

pub returns-clause-rank : goal.returns-clause-rank
returns-clause-rank g c = place-rank g.met.R.Ranking.ranks c.args.item (take c.args.self.now.used c.args.self.now.places.now)
