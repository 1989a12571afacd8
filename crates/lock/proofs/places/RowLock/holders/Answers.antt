-- The first of the row hold.
use Rattle.std.proofs.Common.{◌&&◌, ltb, take, ap, ◌∙◌}
use Rattle.std.proofs.Math.Path.{fun_ext}
use Rattle.task_set.specs.Sets.{tasks}
use Rattle.lock.specs.Words.{has}
use Rattle.lock.specs.Views.{row}
use Rattle.lock.specs.Lists.{has-take}
use Rattle.lock.proofs.places.RowLock.holders.Goals as goal

pub returns : goal.returns
returns g c =
    let xs = row c.args.self.now.queue in
    c.set_of.ensures
    ∙ ap (λ ys. tasks (has ys)) (c.split.ensures.first ∙ ap (λ n. take n xs) c.count.ensures)
    ∙ fun_ext (λ u. ap (λ b. b && ltb u 64) (has-take (g.P.Places.places c.args.self.now.places) xs u))
