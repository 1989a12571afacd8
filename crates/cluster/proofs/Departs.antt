-- A job leaves its cluster's list
use Rattle.std.proofs.Common.{◌≡◌, ℕ, ◌<◌, ◌≤◌, true, List, length, take, refl, ◌∙◌, arith}
use Rattle.std.specs.List.{remove}
use Rattle.std.proofs.lemmas.List.{length-take-le}
use Rattle.std.proofs.lemmas.Bool.{and_from, eq-eqb}
use Rattle.order.specs.declared.Entry.{Entry}
use Rattle.ordered.specs.Ranks.{found}
use Rattle.order.specs.Urgency.{Lawful}
use Rattle.cluster.specs.Listing.{has}
use Rattle.model.specs.Words.{Plan, State, pending}
use Rattle.model.specs.declared.Condition.TheVariants.{Idle}
use Rattle.model.specs.Rules.{become}
use Rattle.cluster.specs.Listing.{Listed, tasks_of}
use Rattle.cluster.proofs.Keep.{listed_leave, found_at, length-tasks}

module _ {M : Type 0} (P : Plan M) (law : Lawful P.order.before) (s : State M) (t : ℕ) (p : pending P s t ≡ true)
    (old : List (Entry M)) (used : ℕ) (fits : used ≤ length old) (li : Listed P s (P.cluster t) (take used old)) where
  here : has (tasks_of (take used old)) t ≡ true
  here = li.exactly t ∙ and_from (pending P s t) _ p (eq-eqb _ _ refl)

  pub is_found : found (λ e. e.task) t (take used old) < used
  is_found =
      let a : found (λ e. e.task) t (take used old) < length (tasks_of (take used old)) = (found_at t (take used old) here).0 in
      let b : length (tasks_of (take used old)) ≡ length (take used old) = length-tasks (take used old) in
      let c : length (take used old) ≡ used = length-take-le used old fits in
      omega arith

  pub departs : Listed P (become s t Idle) (P.cluster t) (remove (take used old) (found (λ e. e.task) t (take used old)))
  departs = let f = found_at t (take used old) here in listed_leave P law s (P.cluster t) t _ (take used old) li f.0 f.1
