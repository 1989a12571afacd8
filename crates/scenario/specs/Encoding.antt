-- The bytes of a scenario, and what loading them gives back.
use Rattle.std.specs.Prelude.{◌≡◌, ℕ, ◌/◌, ◌%◌, ◌^◌, ◌<◌, List, [], ◌∷◌, ◌++◌, length, Some, None}
use Rattle.std.specs.List.{flat_map, AllByRecursion}
use Rattle.model.specs.declared.Task.{Task}
use Rattle.model.specs.declared.Event.{Event}
use Rattle.model.specs.declared.Event.TheVariants.{Release, Finish}
use Rattle.scenario.specs.declared.Header.{Header}
use Rattle.scenario.specs.Loading.{Loaded}

-- the four bytes of a number, the lowest first
abbrev pub word_bytes : ℕ → List ℕ
word_bytes n = n % 256 ∷ n / 256 % 256 ∷ n / 65536 % 256 ∷ n / 16777216 % 256 ∷ []

-- the bytes of a header
abbrev pub encode_header : Header → List ℕ
encode_header h = 1 ∷ h.clusters ∷ h.cluster_size ∷ h.order ∷ []

-- the bytes of a task
abbrev pub encode_task : Task → List ℕ
encode_task t = 2 ∷ t.cluster ∷ word_bytes t.parameter

-- the bytes of an event
abbrev pub encode_event : Event → List ℕ
encode_event (Release t i) = 4 ∷ t ∷ word_bytes i
encode_event (Finish t) = 7 ∷ t ∷ []

-- the bytes of a scenario: the header, then the tasks, then the events
abbrev pub encode : Header → List Task → List Event → List ℕ
encode h ts es = encode_header h ++ (flat_map encode_task ts ++ flat_map encode_event es)

-- a header whose fields are bytes
abbrev pub HeaderFits : Header → Type 0
HeaderFits h = (h.clusters < 256) × (h.cluster_size < 256) × (h.order < 256)

-- a task whose fields have their widths
abbrev pub TaskFits : Task → Type 0
TaskFits t = (t.cluster < 256) × (t.parameter < 2 ^ 32)

-- an event whose fields have their widths
abbrev pub EventFits : Event → Type 0
EventFits (Release t i) = (t < 256) × (i < 2 ^ 32)
EventFits (Finish t) = t < 256

-- the script of a scenario: no stop, and the start where its events begin
abbrev pub scenario : Header → List Task → List Event → Loaded
scenario h ts es = record { header = Some h; tasks = ts; events = es; start = length (encode h ts []); stop = None }

-- what the bytes of any scenario are loaded as: that scenario
abbrev pub ReadsBack : List ℕ → Loaded → Type 0
ReadsBack file s =
    (h : Header) (ts : List Task) (es : List Event) → HeaderFits h → AllByRecursion TaskFits ts → AllByRecursion EventFits es → file ≡ encode h ts es → s ≡ scenario h ts es
