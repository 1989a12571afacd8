-- A task that holds is found among the first, and the first of those behind them is granted.
use Rattle.std.proofs.Common.{◌≡◌, ℕ, suc, true, false, cond, List, ◌++◌, take, drop, None, sym, ap, ◌∙◌}
use Rattle.std.proofs.lemmas.Bool.{and_parts}
use Rattle.lock.specs.Words.{first, has, removed}
use Rattle.lock.specs.Model.{took}
use Rattle.lock.specs.Fifo.{Fifo, fifo_holds}
use Rattle.lock.specs.Views.{row, row_view, outcome_of}
use Rattle.lock.proofs.Rows.{absent, present, removed-parts}
use Rattle.lock.proofs.places.RowLock.complete.Goals as goal

pub returns-in_err-at-clause-after : goal.returns-in_err-at-clause-after
returns-in_err-at-clause-after g c =
    let s = c.args.self.now in let xs = row s.queue in let p = g.P.Places.places s.places in let t = c.args.task in
    let mk : List ℕ → Fifo = λ r. record { places = p; row = r } in
    let out : fifo_holds (mk xs) t ≡ false = absent xs c.split.result.0.now p t (c.split.ensures.first ∙ ap (λ k. take k xs) c.count.ensures) (sym c.place_in.ensures ∙ c.in_err-at.was) in
    sym (ap (λ b. mk (cond b (removed xs t) xs)) out)

pub returns-in_err-at-clause-outcome : goal.returns-in_err-at-clause-outcome
returns-in_err-at-clause-outcome g c =
    let s = c.args.self.now in let xs = row s.queue in let p = g.P.Places.places s.places in let t = c.args.task in
    let out : fifo_holds (row_view g.P.Places.places s) t ≡ false = absent xs c.split.result.0.now p t (c.split.ensures.first ∙ ap (λ k. take k xs) c.count.ensures) (sym c.place_in.ensures ∙ c.in_err-at.was) in
    ap outcome_of c.from_residual.ensures ∙ sym (ap (λ b. cond b (took (first (drop p xs)) true) None) out)

pub returns-clause-after : goal.returns-clause-after
returns-clause-after g c =
    let s = c.args.self.now in let xs = row s.queue in let p = g.P.Places.places s.places in let t = c.args.task in
    let mk : List ℕ → Fifo = λ r. record { places = p; row = r } in
    let here = present xs c.split.result.0.now p t c.in_ok-at.at (c.split.ensures.first ∙ ap (λ k. take k xs) c.count.ensures) (sym c.place_in.ensures ∙ c.in_ok-at.was) in
    ap mk (c.remove.ensures.rest ∙ ap (λ k. take k xs ++ drop (suc k) xs) here.1 ∙ sym (removed-parts xs t (and_parts (has xs t) _ here.0).0))
    ∙ sym (ap (λ b. mk (cond b (removed xs t) xs)) here.0)

pub returns-clause-outcome : goal.returns-clause-outcome
returns-clause-outcome g c =
    let s = c.args.self.now in let xs = row s.queue in let p = g.P.Places.places s.places in let t = c.args.task in
    let here = present xs c.split.result.0.now p t c.in_ok-at.at (c.split.ensures.first ∙ ap (λ k. take k xs) c.count.ensures) (sym c.place_in.ensures ∙ c.in_ok-at.was) in
    c.ending.ensures ∙ ap (λ f. took f true) (c.set_of_first-granted.ensures ∙ ap first (c.split.ensures.others ∙ ap (λ k. drop k xs) c.count.ensures))
    ∙ sym (ap (λ b. cond b (took (first (drop p xs)) true) None) here.0)
