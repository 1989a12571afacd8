-- The text of an answer and of a refusal.
use Rattle.std.specs.Prelude.{ℕ, List, ◌++◌, codes, decimal}
use Rattle.model.specs.declared.Answer.{Answer}
use Rattle.model.specs.declared.Answer.TheVariants.{Accepted}
use Rattle.model.specs.declared.Refusal.{Refusal}
use Rattle.model.specs.Numbers.{refusal_number}

-- what an accepted event was answered
abbrev pub accepted_text : Answer → List ℕ
accepted_text Accepted = codes "ok"

-- no, and the refusal's number
abbrev pub refusal_text : Refusal → List ℕ
refusal_text f = codes "no" ++ decimal (refusal_number f)
