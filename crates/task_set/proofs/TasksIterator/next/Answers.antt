-- The least task comes first.
use Rattle.std.proofs.Common.{◌≡◌, ◌<◌, ◌^◌, [], length, sym, ap, ◌∙◌, rules, arith}
use Rattle.std.proofs.lemmas.Bool.{not-true}
use Rattle.task_set.specs.Sets.{members}
use Rattle.task_set.proofs.Passing.{upto-nobody}
use Rattle.task_set.proofs.Bits.{first-bits}
use Rattle.task_set.proofs.TasksIterator.next.Goals as goal

pub returns-then-is_empty-clause-steps : goal.returns-then-is_empty-clause-steps
returns-then-is_empty-clause-steps c =
    let none : members c.args.self.now.rest ≡ [] = upto-nobody 64 _ (not-true _ (sym c.is_empty.ensures ∙ c.if-is_empty.true)) in
    (none, none)

pub returns-clause-steps : goal.returns-clause-steps
returns-clause-steps c =
    let fits : c.args.self.now.rest.bits < 2 ^ 64 = search rules in
    first-bits c.args.self.now.rest.bits c.without-self.result.bits c.is_empty.result fits c.is_empty.ensures c.if-is_empty.false c.without-self.ensures

pub returns-clause-goes : goal.returns-clause-goes
returns-clause-goes c =
    let fits : c.args.self.now.rest.bits < 2 ^ 64 = search rules in
    let shorter = ap length (first-bits c.args.self.now.rest.bits c.without-self.result.bits c.is_empty.result fits c.is_empty.ensures c.if-is_empty.false c.without-self.ensures) in
    record { on = λ _. (tt, tt, omega (arith, shorter)); keeps = tt; rests = λ _. tt }
