use Rattle.std.proofs.Common.{◌≡◌, ◌≤◌, length, refl, ◌∙◌, rules}
use Rattle.model.specs.Rules.{start}
use Rattle.scenario.specs.Loading.{script_view}
use Rattle.arbiter.specs.declared.System.{System}
use Rattle.arbiter.specs.Memory.{contents, plan_of}
use Rattle.arbiter.specs.Outcomes.{outcomes}
use Rattle.replay.proofs.Whole.{turned_away, ran_whole}
use Rattle.replay.proofs.run_under.Goals as goal

pub returns-in-Err : goal.returns-in-Err
returns-in-Err g c =
    let m = contents c.new-arbiter.result in
    let j : 64 ≤ length m.jobs = search rules in
    let p : 512 ≤ length m.places = search rules in
    rw c.into.ensures (turned_away g.O.Order.urgency c.args.header (script_view c.args.script.now) c.as_slice.result.now m c.as_slice.ensures.value j p
    c.in-Err.refusal _ c.in-Err.ensures.result.replies c.from-cause.ensures)

pub run_events-requires : goal.run_events-requires
run_events-requires g c = c.in_default.ensures.result.reaches

pub returns : goal.returns
returns g c =
    let order = g.O.Order.urgency in let m = contents c.new-arbiter.result in
    let y : System = record { clusters = c.args.header.clusters; cluster_size = c.args.header.cluster_size; tasks = c.as_slice.result } in
    let set_up = c.in_default.ensures.result in
    let j : 64 ≤ length m.jobs = search rules in
    let p : 512 ≤ length m.places = search rules in
    let os : c.as_slice-2.result.now ≡ outcomes (plan_of order y) (start (plan_of order y)) c.as_slice-events.result.now =
    c.as_slice-2.ensures.value ∙ c.in_ok-outcomes.ensures in
    ran_whole order c.args.header (script_view c.args.script.now) c.as_slice.result.now m c.as_slice.ensures.value j p
    y c.as_slice-events.result.now c.as_slice-2.result.now _ refl set_up.replies c.as_slice-events.ensures.value os c.in_ok-text.ensures
