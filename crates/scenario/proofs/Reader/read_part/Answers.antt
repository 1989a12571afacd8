-- The part that is returned is the one that stands at the reader's place.
use Rattle.std.proofs.Common.{refl, arith}
use Rattle.std.proofs.lemmas.List.{take_rest}
use Rattle.scenario.proofs.Records.{read}
use Rattle.scenario.proofs.Reader.read_part.Goals as goal

pub returns-clause-part : goal.returns-clause-part
returns-clause-part c =
    let file = c.args.self.now.file.now in
    read file c.args.self.now.at _ _ c.in_ok-record.record c.in_ok-record.rest.now (omega arith) (take_rest file c.args.self.now.at) c.in_ok-record.ensures refl
