-- Each task of the row is put into the set.
use Rattle.std.proofs.Common.{◌≡◌, bit_or, fold, arith}
use Rattle.std.proofs.lemmas.Grind.{common_steps}
use Rattle.task_set.specs.declared.TaskSet.{TaskSet}
use Rattle.task_set.specs.Sets.{bit}
use Rattle.lock.proofs.Rows.{row-set}
use Rattle.lock.proofs.row.set_of.Goals as goal

pub returns : goal.returns
returns c =
    let all : c.fold.result ≡ fold (λ (s : TaskSet) t. record { bits = bit_or s.bits (bit t) }) (record { bits = 0 }) c.args.row.now = grind (arith, common_steps) in
    row-set c.fold.result c.args.row.now all
