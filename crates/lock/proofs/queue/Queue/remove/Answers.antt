-- Those behind the place have moved up.
use Rattle.std.proofs.Common.{◌≡◌, ◌+◌, ◌-◌, ◌≤◌, length, take, ap, ◌∙◌, arith, rules, length-take}
use Rattle.std.specs.List.{copy_within}
use Rattle.lock.proofs.Rows.{moved_up}
use Rattle.lock.proofs.queue.Queue.remove.Goals as goal

pub returns-clause-rest : goal.returns-clause-rest
returns-clause-rest c =
    let s = c.args.self.now in let at = c.args.at in
    let full : length s.items ≡ 64 = search rules in
    let room : s.len ≤ 64 = s.room in
    ap (take (s.len - 1)) (c.copy_within.ensures.after ∙ ap (λ n. copy_within s.items (at + 1) n at) c.from-len.ensures)
    ∙ moved_up s.items at s.len (omega (arith, c.requires, length-take s.len s.items)) (omega (arith, full, room))
