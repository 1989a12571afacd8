use Rattle.std.proofs.Common.{◌≡◌, ◌+◌, ◌-◌, ◌≤◌, length, sym, arith}
use Rattle.std.proofs.lemmas.Bool.{leb-true}
use Rattle.cluster.proofs.Moves.{enter_all}
use Rattle.cluster.proofs.enter.Goals as goal

pub returns : goal.returns
returns g c =
    let from = c.args.list.from in let room = c.args.list.room in let xs = c.args.places.now in
    let f : from + room ≤ length xs = leb-true (from + room) (length xs) (sym (c.if-not-lies_in.ensures)) in
    let e : from + room - from ≡ room = omega arith in
    enter_all g.O.Order.urgency.before g.met.O.Order.lawful xs c.insert.new.places from room (from + room - from) c.args.list.used e f c.insert.auto.places c.args.entry
    c.insert.ensures.after c.insert.result c.insert.ensures.count
