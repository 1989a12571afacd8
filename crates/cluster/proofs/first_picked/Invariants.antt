use Rattle.std.proofs.Common.{◌≡◌, take, drop}
use Rattle.std.specs.List.{fold, filter_map}
use Rattle.cluster.specs.Picks.{joined, pick_at, picked_tasks}
use Rattle.cluster.specs.Listing.{tasks_of}
use Rattle.cluster.proofs.first_picked.Given as goal

-- what is left gives the rest of the answer
abbrev pub invariant-loop-entry : goal.invariant-loop-entry
invariant-loop-entry g l = fold joined l.set (take l.left (filter_map (pick_at l.jobs) (tasks_of (drop l.entry-index l.entries)))) ≡ picked_tasks l.jobs l.entries l.size
