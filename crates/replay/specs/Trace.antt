-- The trace of a scenario file.
use Rattle.std.specs.Prelude.{◌≡◌, ℕ, ◌*◌, cond, ◌&&◌, List, [], ◌∷◌, ◌++◌, length, is_some, Some, None, Ok, Err, string_bytes, Option, Result, ◌==◌, nat_lt}
use Rattle.std.specs.Option.{option_map}
use Rattle.std.specs.declared.string.String.{String}
use Rattle.order.specs.Urgency.{Urgency}
use Rattle.order.specs.Supplied.{earliest_deadline, level}
use Rattle.model.specs.declared.Event.{Event}
use Rattle.model.specs.declared.Refusal.{Refusal}
use Rattle.model.specs.declared.Refusal.TheVariants.{ClusterCount, ClusterSize, TaskCount, ClusterAbsent, ParameterUnfit}
use Rattle.model.specs.Numbers.{refusal_number}
use Rattle.model.specs.Rules.{first_of, start}
use Rattle.model.specs.Promise.{Kept}
use Rattle.arbiter.specs.declared.Outcome.{Outcome}
use Rattle.arbiter.specs.Memory.{Tables, tables, plan_by}
use Rattle.arbiter.specs.SetUp.{outside, absent, unfit}
use Rattle.arbiter.specs.Outcomes.{with_events, outcomes}
use Rattle.scenario.specs.declared.Header.{Header}
use Rattle.scenario.specs.declared.Stop.{Stop}
use Rattle.scenario.specs.declared.Failure.{Failure}
use Rattle.scenario.specs.declared.Fault.{Fault}
use Rattle.scenario.specs.declared.Fault.TheVariants.{HeaderMisplaced}
use Rattle.scenario.specs.Format.{fault_number}
use Rattle.scenario.specs.Ends.{MatchUnlessMemory}
use Rattle.scenario.specs.Loading.{Loaded, loaded}
use Rattle.report.specs.Text.{head_bytes, lines_bytes, stop_bytes}
use Rattle.replay.specs.declared.Cause.{Cause}
use Rattle.replay.specs.declared.Cause.TheVariants.{FileTooLong, Record, UnknownOrder, SetUp}
use Rattle.replay.specs.declared.Supplied.{Supplied}
use Rattle.replay.specs.declared.Supplied.TheVariants.{EarliestDeadline, Level}
use Rattle.replay.specs.declared.Trace.{Trace}

-- the number of what stopped a replay
abbrev pub cause_number : Cause → ℕ
cause_number FileTooLong = 24
cause_number (Record f) = fault_number f
cause_number UnknownOrder = 9
cause_number (SetUp f) = refusal_number f

-- what is printed, and where and why it stopped, if it did
pub record Printed : Type 0 where
  pub text : List ℕ
  pub stop : Option (Stop Cause)

-- what the code's trace holds
abbrev pub trace_view : Trace → Printed
trace_view t = record { text = string_bytes t.text; stop = t.stop }

-- a stop line after the text so far
abbrev pub stopped_after : List ℕ → Cause → ℕ → Printed
stopped_after text why place = record { text = text ++ stop_bytes (cause_number why) place; stop = Some (record { cause = why; at = place }) }

-- the stop that a file's fault makes
abbrev pub caused : Stop Fault → Stop Cause
caused x = record { cause = Record x.cause; at = x.at }

-- the text, and a stop line where it was stopped
abbrev pub closed : List ℕ → Option (Stop Cause) → Printed
closed text None = record { text = text; stop = None }
closed text (Some x) = stopped_after text x.cause x.at

-- the text, and a stop line where the file has a fault
abbrev pub ending : List ℕ → Option (Stop Fault) → Printed
ending text stop = closed text (option_map caused stop)

-- p is printed: what `whole` makes of a run, or a stop before any line; nothing is said where memory ran out
abbrev pub ComesTo : {A : Type 0} → (A → Printed) → Result A (Failure Cause) → Printed → Type 0
ComesTo whole r p = MatchUnlessMemory r (λ run. whole run ≡ p) (λ x. stopped_after [] x.cause x.at ≡ p)

-- p is printed where a run gave this text, behind which a fault may stop the file
abbrev pub Prints : {A : Type 0} → Result (String A) (Failure Cause) → Option (Stop Fault) → Printed → Type 0
Prints r stop p = ComesTo (λ text. ending (string_bytes text) stop) r p

-- the same of a trace that lacks the stop's line
abbrev pub Tells : Result Trace (Failure Cause) → Printed → Type 0
Tells r p = ComesTo (λ t. closed (string_bytes t.text) t.stop) r p

-- a file's tables
abbrev pub tables_of : Header → Loaded → Tables
tables_of h s = tables h.clusters h.cluster_size s.tasks

-- the first of set-up's tests that the tables fail
abbrev pub refused : {Mark : Type 0} → Urgency Mark → Tables → Option Refusal
refused order x = first_of (
    (outside 1 8 x.clusters, ClusterCount) ∷ (outside 1 8 x.size, ClusterSize) ∷ (outside 1 64 (length x.tasks), TaskCount)
    ∷ (absent x.clusters x.tasks, ClusterAbsent) ∷ (unfit order.fits x.tasks, ParameterUnfit) ∷ [])

-- the head line and a line for each event, with what it came to
abbrev pub system_text : Tables → List Event → List Outcome → List ℕ
system_text x es os = head_bytes x.clusters (x.clusters * x.size) (length x.tasks) ++ lines_bytes 1 x.clusters es os

-- the same by the rules from set-up on
abbrev pub run_text : {Mark : Type 0} → Urgency Mark → Tables → List Event → List ℕ
run_text order x es = system_text x es (outcomes (plan_by order x) (start (plan_by order x)) es)

-- set-up's refusal, or the run
abbrev pub ran_unless : Option Refusal → ℕ → Printed → Printed
ran_unless None place run = run
ran_unless (Some f) place run = stopped_after [] (SetUp f) place

-- a file run under an order
abbrev pub run_under : {Mark : Type 0} → Urgency Mark → Header → Loaded → Printed
run_under order h s = ran_unless (refused order (tables_of h s)) s.start (ending (run_text order (tables_of h s) s.events) s.stop)

-- the order that a number names
abbrev pub order_named : ℕ → Result Supplied Cause
order_named n = cond (n == 1) (Ok EarliestDeadline) (cond (n == 2) (Ok Level) (Err UnknownOrder))

-- a file run under the order that its header names
abbrev pub run_by : Result Supplied Cause → Header → Loaded → Printed
run_by (Ok EarliestDeadline) h s = run_under earliest_deadline h s
run_by (Ok Level) h s = run_under level h s
run_by (Err why) h s = stopped_after [] why s.start

-- a file that has its header
abbrev pub run_from : Option Header → Loaded → Printed
run_from None s = stopped_after [] (Record HeaderMisplaced) 0
run_from (Some h) s = run_by (order_named h.order) h s

-- a file that stops before its first event is not run
abbrev pub run_script : Loaded → Printed
run_script s = cond (length s.events == 0 && is_some s.stop) (ending [] s.stop) (run_from s.header s)

-- the trace of a file
abbrev pub traced : List ℕ → Printed
traced file = cond (nat_lt 65536 (length file)) (stopped_after [] FileTooLong 65536) (run_script (loaded file))

-- where set-up accepts the file's tables, the promise holds over the file's whole list of events
abbrev pub Promised : {Mark : Type 0} → Urgency Mark → Loaded → Type 0
Promised order s = (h : Header) → s.header ≡ Some h → refused order (tables_of h s) ≡ None → Kept (plan_by order (tables_of h s)) (with_events s.events [])
