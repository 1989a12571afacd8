-- What is promised of every list of calls since an accepted set-up.
use Rattle.std.specs.Prelude.{◌≡◌, ℕ, ◌<◌, ◌≤◌, true, ◌&&◌, List, [], ◌∷◌, ◌==◌}
use Rattle.model.specs.Tally.{tally}
use Rattle.model.specs.Words.{Plan, State, ready, foremost, scheduled}
use Rattle.model.specs.Rules.{Call, after}

-- the tables that set-up accepts
pub record Accepted {Mark : Type 0} (P : Plan Mark) : Type 0 where
  pub some_cluster : 1 ≤ P.clusters
  pub few_clusters : P.clusters ≤ 8
  pub some_processor : 1 ≤ P.size
  pub few_processors : P.size ≤ 8
  pub some_task : 1 ≤ P.tasks
  pub few_tasks : P.tasks ≤ 64
  pub placed : (t : ℕ) → t < P.tasks → P.cluster t < P.clusters
  pub fitting : (t : ℕ) → t < P.tasks → P.order.fits (P.parameter t) ≡ true

-- in this state every ready job among its cluster's most urgent is scheduled and nobody else is,
-- and a cluster has no more scheduled jobs than processors
pub record Served {Mark : Type 0} (P : Plan Mark) (s : State Mark) : Type 0 where
  pub exactly : (t : ℕ) → scheduled P s t ≡ (ready P s t && foremost P s t)
  pub few : (k : ℕ) → tally P.tasks (λ t. scheduled P s t && P.cluster t == k) ≤ P.size

-- after set-up and after each call of the list
abbrev pub Kept : {Mark : Type 0} → Plan Mark → List Call → Type 0
Kept P [] = Served P (after P [])
Kept P (x ∷ xs) = Served P (after P (x ∷ xs)) × Kept P xs
