use Rattle.std.proofs.Common.{ℕ, List}
use Rattle.order.specs.Supplied.{earliest_deadline, level}
use Rattle.order.proofs.Laws.{earliest_lawful, level-lawful}
use Rattle.scenario.specs.Loading.{loaded}
use Rattle.replay.specs.Trace.{Promised}
use Rattle.replay.proofs.Whole.{promised}
use Rattle.replay.proofs.trace_file.Goals as goal

-- the promise of a file's events, under both orders
both : (file : List ℕ) → Promised earliest_deadline (loaded file) × Promised level (loaded file)
both file = (promised earliest_deadline earliest_lawful (loaded file), promised level level-lawful (loaded file))

pub returns-in-Err-OutOfMemory-clause-promise : goal.returns-in-Err-OutOfMemory-clause-promise
returns-in-Err-OutOfMemory-clause-promise c = both c.args.file.now

pub returns-in_err-write-clause-promise : goal.returns-in_err-write-clause-promise
returns-in_err-write-clause-promise c = both c.args.file.now

pub returns-clause-promise : goal.returns-clause-promise
returns-clause-promise c = both c.args.file.now
