use Rattle.std.proofs.Common.{◌≤◌, length, arith}
use Rattle.std.proofs.lemmas.List.{set_past}
use Rattle.cluster.proofs.store.Goals as goal

pub returns-else-place-xs : goal.returns-else-place-xs
returns-else-place-xs g c =
    let h : length c.args.xs.now ≤ c.args.i = omega arith in let e = set_past c.args.xs.now c.args.i c.args.a h in cc
