-- What a file's records make together: a header, then tasks, then events, up to the end or the first fault.
use Rattle.std.specs.Prelude.{ℕ, zero, suc, ◌+◌, Bool, true, false, cond, not, List, [], ◌∷◌, ◌++◌, length, is_some, Some, None, Ok, Err, vec_items, Option, Result, ◌==◌}
use Rattle.model.specs.declared.Task.{Task as TaskOf}
use Rattle.model.specs.declared.Event.{Event as EventOf}
use Rattle.scenario.specs.declared.Header.{Header as HeaderOf}
use Rattle.scenario.specs.declared.Record.{Record}
use Rattle.scenario.specs.declared.Record.TheVariants.{Header, Task, Event}
use Rattle.scenario.specs.declared.Fault.{Fault}
use Rattle.scenario.specs.declared.Fault.TheVariants.{HeaderMisplaced, TooLate}
use Rattle.scenario.specs.declared.Stop.{Stop}
use Rattle.scenario.specs.declared.Script.{Script}
use Rattle.scenario.specs.Format.{next_at}

-- a script with its tasks and events as lists
pub record Loaded : Type 0 where
  pub header : Option HeaderOf
  pub tasks : List TaskOf
  pub events : List EventOf
  pub start : ℕ
  pub stop : Option (Stop Fault)

-- what the code's script holds
abbrev pub script_view : Script → Loaded
script_view s = record { header = s.header; tasks = vec_items s.tasks; events = vec_items s.events; start = s.start; stop = s.stop }

-- why a record may not stand where it does, by whether a header and an event stand before it
abbrev pub misplaced : Bool → Bool → Record → Option Fault
misplaced false e (Header h) = None
misplaced false e (Task t) = Some HeaderMisplaced
misplaced false e (Event v) = Some HeaderMisplaced
misplaced true e (Header h) = Some HeaderMisplaced
misplaced true false (Task t) = None
misplaced true true (Task t) = Some TooLate
misplaced true e (Event v) = None

-- the same of a record that follows the records of a script
abbrev pub misplaced_in : Loaded → Record → Option Fault
misplaced_in s v = misplaced (is_some s.header) (not (length s.events == 0)) v

-- the script with one record more, which stands at p; the first event is the start
abbrev pub with_record : Loaded → ℕ → Record → Loaded
with_record s p (Header h) = record { header = Some h; tasks = s.tasks; events = s.events; start = s.start; stop = s.stop }
with_record s p (Task t) = record { header = s.header; tasks = s.tasks ++ t ∷ []; events = s.events; start = s.start; stop = s.stop }
with_record s p (Event e) =
    record { header = s.header; tasks = s.tasks; events = s.events ++ e ∷ []; start = cond (length s.events == 0) p s.start; stop = s.stop }

-- the script with a record that may stand there; one that may not leaves it as it is
abbrev pub taken : Loaded → ℕ → Record → Option Fault → Loaded
taken s p v None = with_record s p v
taken s p v (Some f) = s

-- the script that stops at p
abbrev pub stopped : Loaded → Fault → ℕ → Loaded
stopped s f p = record { header = s.header; tasks = s.tasks; events = s.events; start = s.start; stop = Some (record { cause = f; at = p }) }

-- the script at the end p of the file: one with no header stops there
abbrev pub ended : Loaded → ℕ → Loaded
ended s p = cond (is_some s.header) s (stopped s HeaderMisplaced p)

-- the script after the record v at p, by its fault; `on` goes on behind its n bytes
abbrev pub placed : (ℕ → Loaded → Loaded) → Loaded → ℕ → ℕ → Record → Option Fault → Loaded
placed on s p n v None = on (p + n) (with_record s p v)
placed on s p n v (Some f) = stopped s f p

-- the script after what is read at p; `on` goes on behind it
abbrev pub followed : (ℕ → Loaded → Loaded) → Loaded → ℕ → Result (Option (ℕ × List ℕ × Record)) Fault → Loaded
followed on s p (Ok None) = ended s p
followed on s p (Ok (Some part)) = placed on s p (length part.1) part.2 (misplaced_in s part.2)
followed on s p (Err f) = stopped s f p

-- the script s after the records from the place p on, behind which there are at most n bytes
unfoldable pub loaded_from : ℕ → List ℕ → ℕ → Loaded → Loaded
loaded_from zero file p s = ended s p
loaded_from (suc n) file p s = followed (loaded_from n file) s p (next_at file p)

-- the script of no records in a file of n bytes
abbrev pub blank : ℕ → Loaded
blank n = record { header = None; tasks = []; events = []; start = n; stop = None }

-- the script of a file
abbrev pub loaded : List ℕ → Loaded
loaded file = loaded_from (length file) file 0 (blank (length file))
