-- The text of a replay: its head, a line for each event, and where it stopped.
use Rattle.std.specs.Prelude.{ℕ, ◌+◌, min, List, [], ◌∷◌, ◌++◌, take, Ok, Err, codes, decimal, Result}
use Rattle.std.specs.List.{flat_map}
use Rattle.task_set.specs.Sets.{bits, upto}
use Rattle.model.specs.Numbers.{event_kind, event_task}
use Rattle.model.specs.Text.{accepted_text, refusal_text}
use Rattle.model.specs.declared.Answer.{Answer}
use Rattle.model.specs.declared.Refusal.{Refusal}
use Rattle.model.specs.declared.Event.{Event}
use Rattle.arbiter.specs.declared.Outcome.{Outcome}

-- what an event was answered: ok, or no and the refusal's number
abbrev pub answer_text : Result Answer Refusal → List ℕ
answer_text (Ok a) = accepted_text a
answer_text (Err f) = refusal_text f

-- tasks with commas in between, or a dash in place of nothing
abbrev pub listed : List ℕ → List ℕ
listed [] = codes "-"
listed (t ∷ ts) = decimal t ++ flat_map (λ u. codes "," ++ decimal u) ts

-- a set of tasks, which are below 64, ascending
abbrev pub set_bytes : ℕ → List ℕ
set_bytes s = listed (upto 64 (bits s))

-- each cluster's set after a space
abbrev pub sets_bytes : List ℕ → List ℕ
sets_bytes sets = flat_map (λ s. codes " " ++ set_bytes s) sets

-- the line of the event with the number n: its kind, its task, its answer and the clusters' sets
abbrev pub line_bytes : ℕ → Event → Result Answer Refusal → List ℕ → List ℕ
line_bytes n e a sets =
    decimal n ++ (codes " " ++ (decimal (event_kind e) ++ (codes " " ++ (decimal (event_task e) ++ (codes " " ++ (answer_text a ++ (sets_bytes sets ++ codes "\n")))))))

-- the lines of events with their outcomes, the first with the number n, of the first k of the eight sets
unfoldable pub lines_bytes : ℕ → ℕ → List Event → List Outcome → List ℕ
lines_bytes n k [] os = []
lines_bytes n k (e ∷ es) [] = []
lines_bytes n k (e ∷ es) (o ∷ os) = line_bytes n e o.answer (take (min k 8) o.scheduled) ++ lines_bytes (n + 1) k es os

-- the head: what the system is made of
abbrev pub head_bytes : ℕ → ℕ → ℕ → List ℕ
head_bytes clusters processors tasks =
    codes "clusters " ++ (decimal clusters ++ (codes " processors " ++ (decimal processors ++ (codes " tasks " ++ (decimal tasks ++ codes " resources 0\n")))))

-- where and why the file was read no further
abbrev pub stop_bytes : ℕ → ℕ → List ℕ
stop_bytes number place = codes "stop " ++ (decimal number ++ (codes " at " ++ (decimal place ++ codes "\n")))
