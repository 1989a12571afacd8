use Rattle.std.proofs.Common.{◌≡◌, length, ◌∙◌}
use Rattle.std.proofs.lemmas.List.{with_items_is}
use Rattle.replay.proofs.Whole.{ran_all}
use Rattle.replay.proofs.run_events.Goals as goal

pub returns : goal.returns
returns g c =
    let all = c.in_ok-all.all in
    let e : length c.as_mut_slice.result.now ≡ length c.args.events.now = c.as_mut_slice.ensures.len ∙ c.in_ok-all.ensures.len in
    with_items_is all c.run.new.outcomes (c.run.auto.outcomes ∙ c.as_mut_slice.ensures.len)
    ∙ ran_all g.O.Order.urgency c.args.system.now c.args.events.now _ _ _ _ _ c.run.ensures.ran e c.requires
