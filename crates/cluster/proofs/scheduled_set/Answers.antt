use Rattle.std.proofs.Common.{◌≡◌, sym, ap, ◌∙◌, subst}
use Rattle.cluster.specs.Claims.{IsScheduled}
use Rattle.cluster.specs.Listing.{entries}
use Rattle.cluster.specs.Picks.{picked_tasks, picked_set}
use Rattle.cluster.proofs.Whole.{set_holds}
use Rattle.cluster.proofs.scheduled_set.Goals as goal

pub returns-clause-means : goal.returns-clause-means
returns-clause-means g c =
    let before = g.O.Order.urgency.before in let js = c.args.jobs.now in let es = entries c.args.list c.args.places.now in
    let is : c.first_picked.result.bits ≡ picked_set js es c.args.size = ap (λ s. s.bits) (c.first_picked.ensures ∙ ap (λ xs. picked_tasks js xs c.args.size) c.entries_of.ensures) in
    subst (IsScheduled before js es c.args.size) (sym is) (set_holds before g.met.O.Order.lawful js es c.args.size)
