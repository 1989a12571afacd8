-- Each cluster's set is the answer of one call.
use Rattle.std.proofs.Common.{◌≡◌, ◌<◌, get_or, arith, rules}
use Rattle.std.proofs.lemmas.List.{ext_get_or}
use Rattle.arbiter.specs.Memory.{contents}
use Rattle.arbiter.specs.Outcomes.{sets}
use Rattle.arbiter.proofs.Runs.{by_eight}
use Rattle.arbiter.proofs.Arbiter.sets.Goals as goal

pub returns : goal.returns
returns g c =
    let all = sets g.O.Order.urgency c.args.system.now (contents c.args.self.now) in
    ext_get_or 0 c.map.result all c.map.ensures.items.long (λ i l.
    let lt : i < 8 = omega (arith, c.map.ensures.items.long, l) in
    by_eight (λ k. get_or c.map.result k 0 ≡ get_or all k 0)
    (search rules) (search rules) (search rules) (search rules) (search rules) (search rules) (search rules) (search rules) i lt)
