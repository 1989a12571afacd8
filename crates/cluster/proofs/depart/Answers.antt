use Rattle.std.proofs.Common.{◌≡◌, ◌+◌, ◌-◌, ◌≤◌, length, sym, arith}
use Rattle.std.proofs.lemmas.Bool.{leb-true}
use Rattle.cluster.proofs.Moves.{depart_all}
use Rattle.cluster.proofs.depart.Goals as goal

pub returns : goal.returns
returns g c =
    let from = c.args.list.from in let room = c.args.list.room in let xs = c.args.places.now in
    let f : from + room ≤ length xs = leb-true (from + room) (length xs) (sym (c.if-not-lies_in.ensures)) in
    let e : from + room - from ≡ room = omega arith in
    depart_all g.O.Order.urgency.before g.met.O.Order.lawful xs c.remove.new.places from room (from + room - from) c.args.list.used e f c.remove.auto.places c.args.task
    c.remove.ensures.after c.remove.result c.remove.ensures.count
