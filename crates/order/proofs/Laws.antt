-- The supplied orders keep the law.
use Rattle.std.proofs.Common.{rules}
use Rattle.order.specs.Urgency.{Lawful}
use Rattle.order.specs.Supplied.{earliest_deadline, level}

pub earliest_lawful : Lawful earliest_deadline.before
earliest_lawful = search rules

pub level-lawful : Lawful level.before
level-lawful = search rules
