use Rattle.std.proofs.Common.{◌≡◌, ℕ, ◌+◌, List, take, drop, sym, ap, ◌∙◌}
use Rattle.std.specs.List.{fold, filter_map}
use Rattle.cluster.specs.Picks.{joined, pick_at}
use Rattle.cluster.specs.Listing.{tasks_of}
use Rattle.cluster.proofs.Loops.{picked_past, pick_some, pick-none}
use Rattle.cluster.proofs.first_picked.Goals as goal
use Rattle.cluster.proofs.first_picked.Goals.{in-Some, in_default}

pub loop-entry-preserved : goal.loop-entry-preserved
loop-entry-preserved g c =
    let pick = pick_at c.args.jobs.now in
    let xs = c.args.entries.now in
    let i = c.loop-entry.entry-index in
    let rest : List ℕ = filter_map pick (tasks_of (drop (i + 1) xs)) in
    elim c.match-picked.branch [
      | in-Some w ↦
          let put : c.match-picked.set ≡ joined c.loop-entry.set w.in-Some.task = w.set-is ∙ ap (λ b. record { bits = b }) w.with-set.ensures.number in
          ap (λ x. fold joined x (take c.match-picked.left rest)) put
          ∙ (ap (λ n. fold joined (joined c.loop-entry.set w.in-Some.task) (take n rest)) w.left-is
          ∙ (pick_some xs i c.entry-item.result c.loop-entry-test.true c.entry-item.is pick c.loop-entry.set c.loop-entry.left w.in-Some.task (sym c.picked.ensures ∙ w.in-Some.is) c.if-left-eq0.false
          ∙ c.loop-entry.invariant))
      | in_default w ↦
          ap (λ x. fold joined x (take c.match-picked.left rest)) w.set-is
          ∙ (ap (λ n. fold joined c.loop-entry.set (take n rest)) w.left-is
          ∙ (pick-none xs i c.entry-item.result c.loop-entry-test.true c.entry-item.is pick c.loop-entry.set c.loop-entry.left (sym c.picked.ensures ∙ w.in_default.is)
          ∙ c.loop-entry.invariant))
    ]

pub returns : goal.returns
returns g c = sym (picked_past c.args.entries.now c.loop-entry.entry-index (pick_at c.args.jobs.now) c.loop-entry.set c.loop-entry.left c.loop-entry-test.false) ∙ c.loop-entry.invariant
