-- A bit is read off by a shift.
use Rattle.std.proofs.Common.{◌<◌, ◌^◌, ◌&&◌, eqb, sym, ap, ◌∙◌, rules}
use Rattle.std.proofs.lemmas.Bool.{lt-ltb, le-ltb}
use Rattle.std.proofs.lemmas.Nat.Bits.{shr_and_one}
use Rattle.task_set.specs.Sets.{bits}
use Rattle.task_set.proofs.Bits.{high-bit}
use Rattle.task_set.proofs.TaskSet.contains.Goals as goal

pub returns-then-task-lt64-clause-member : goal.returns-then-task-lt64-clause-member
unfolding bits
returns-then-task-lt64-clause-member c = ap (λ x. eqb x 1) (shr_and_one c.args.self.bits c.args.task)

pub returns-then-task-lt64-clause-task : goal.returns-then-task-lt64-clause-task
unfolding bits
returns-then-task-lt64-clause-task c = ap (λ x. eqb x 1) (shr_and_one c.args.self.bits c.args.task) ∙ sym (ap (λ b. b && bits c.args.self.bits c.args.task) (lt-ltb c.args.task 64 c.if-task-lt64.true))

pub returns-else-task-lt64-clause-member : goal.returns-else-task-lt64-clause-member
returns-else-task-lt64-clause-member c = let fits : c.args.self.bits < 2 ^ 64 = search rules in le-ltb _ 64 c.if-task-lt64.false ∙ sym (high-bit c.args.self.bits c.args.task fits c.if-task-lt64.false)
