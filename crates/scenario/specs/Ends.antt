-- How the use of a file ends.
use Rattle.std.specs.Prelude.{ℕ, Some, None, Ok, Err, Option, Result, ⊤}
use Rattle.std.specs.Option.{option_map}
use Rattle.scenario.specs.declared.Fault.{Fault}
use Rattle.scenario.specs.declared.Stop.{Stop}
use Rattle.scenario.specs.declared.Failure.{Failure}
use Rattle.scenario.specs.declared.Failure.TheVariants.{OutOfMemory, Stopped}
use Rattle.scenario.specs.Loading.{Loaded, stopped}

-- memory ran out
abbrev pub IsOutOfMemory : {C : Type 0} → Failure C → Type 0
IsOutOfMemory (OutOfMemory e) = ⊤
IsOutOfMemory (Stopped e) = ⊥

-- P of what was made, and Q of what stopped it; nothing is said where memory ran out
abbrev pub MatchUnlessMemory : {A C : Type 0} → Result A (Failure C) → (A → Type 0) → (Stop C → Type 0) → Type 0
MatchUnlessMemory (Ok x) P Q = P x
MatchUnlessMemory (Err (OutOfMemory e)) P Q = ⊤
MatchUnlessMemory (Err (Stopped e)) P Q = Q e

-- unless memory ran out, P of what stopped the taking, if anything did
abbrev pub UnlessMemory : Result Unit (Failure Fault) → (Option (Stop Fault) → Type 0) → Type 0
UnlessMemory r P = MatchUnlessMemory r (λ _. P None) (λ e. P (Some e))

-- the stop of a fault at p
abbrev pub stop_at : ℕ → Option Fault → Option (Stop Fault)
stop_at p m = option_map (λ f. record { cause = f; at = p }) m

-- the script that was stopped so
abbrev pub stopped_by : Loaded → Option (Stop Fault) → Loaded
stopped_by s None = s
stopped_by s (Some e) = stopped s e.cause e.at
