use Rattle.std.proofs.Common.{◌≡◌, ◌<◌, ◌≤◌, length, ◌∙◌, arith}
use Rattle.std.proofs.lemmas.List.{get_or-take, length-take-le}
use Rattle.arbiter.specs.Memory.{contents}
use Rattle.arbiter.proofs.Runs.{run_step, write_step, ran}
use Rattle.arbiter.proofs.Arbiter.run.Goals as goal

pub loop-i-preserved : goal.loop-i-preserved
loop-i-preserved g c =
    let order = g.O.Order.urgency in let y = c.args.system.now in let m = contents c.loop-i.self in
    let es = c.args.events.now in let i = c.loop-i.i in let n = c.min-n.result in let h = c.loop-i.invariant in
    let most : n ≤ length es = omega (arith, c.min-n.ensures) in
    let below : i < n = omega (arith, length-take-le n es most, c.loop-i-test.true) in
    let l : i < length es = omega arith in
    let k : i < length c.args.outcomes.now = omega (arith, c.min-n.ensures) in
    let stores = c.outcome.ensures.stores in
    let value = c.outcome.ensures.value in (
      run_step order y (contents c.args.self.now) m es i _ l h.0 (contents c.outcome.new.self) (rw (get_or-take n es i _ below) at stores),
      write_step order y (contents c.args.self.now) m es i _ l h.0 c.args.outcomes.now c.loop-i.outcomes c.outcome.result k (rw (get_or-take n es i _ below) at value) h.1,
      (c.outcome.ensures.loans.0 ∙ h.2.0, c.outcome.ensures.loans.1 ∙ h.2.1),
    )

pub returns : goal.returns
returns g c =
    let es = c.args.events.now in let n = c.min-n.result in let h = c.loop-i.invariant in
    let most : n ≤ length es = omega (arith, c.min-n.ensures) in
    let e : c.loop-i.i ≡ n = omega (arith, length-take-le n es most, c.loop-i-test.false, c.loop-i.auto.i-end) in
    record {
      ran = ran g.O.Order.urgency c.args.system.now g.met.O.Order.lawful es c.args.outcomes.now (contents c.args.self.now) (contents c.loop-i.self) c.loop-i.outcomes n
          c.min-n.ensures (rw e at h.0) (rw e at h.1);
      loans = h.2;
    }
