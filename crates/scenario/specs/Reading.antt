-- What the reader hands out as an iterator: a fault is handed out with its place, and nothing after it.
use Rattle.std.specs.Prelude.{◌≡◌, ℕ, cond, List, length, is_err, Some, None, Ok, Err, IfSome, IfErr, Option, Result, ⊤}
use Rattle.scenario.specs.declared.Part.{Part}
use Rattle.scenario.specs.declared.Record.{Record}
use Rattle.scenario.specs.declared.Fault.{Fault}
use Rattle.scenario.specs.declared.Stop.{Stop}
use Rattle.scenario.specs.declared.Reader.{Reader}
use Rattle.scenario.specs.Format.{next_at, place_after, part_view}

-- what was read, by what is handed out
abbrev pub read_of : Option (Result Part (Stop Fault)) → Result (Option Part) Fault
read_of None = Ok None
read_of (Some (Ok p)) = Ok (Some p)
read_of (Some (Err e)) = Err e.cause

-- the place after it in a file of n bytes: a fault leaves the reader at the end
abbrev pub place_behind : ℕ → ℕ → Result (Option (ℕ × List ℕ × Record)) Fault → ℕ
place_behind n p x = cond (is_err x) n (place_after p x)

-- one call of the reader s hands out r and leaves t
pub record Reads (s : Reader) (r : Option (Result Part (Stop Fault))) (t : Reader) : Type 0 where
  pub item : part_view (read_of r) ≡ next_at s.file.now s.at
  pub fault : IfSome r (λ x. IfErr x (λ e. e.at ≡ s.at))
  pub file : t.file.now ≡ s.file.now
  pub place : t.at ≡ place_behind (length s.file.now) s.at (next_at s.file.now s.at)

-- what ends a reading: a fault, or no record
abbrev pub IsEnd : Option (Result Part (Stop Fault)) → Type 0
IsEnd None = ⊤
IsEnd (Some (Ok p)) = ⊥
IsEnd (Some (Err e)) = ⊤

-- nothing comes after a fault, nor after the end: a reader that has handed out either hands out nothing
abbrev pub QuietAtEnd : Type 0
QuietAtEnd = (s t u : Reader) (q r : Option (Result Part (Stop Fault))) → Reads s q t → IsEnd q → Reads t r u → r ≡ None
