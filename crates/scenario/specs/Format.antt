-- The records of a scenario file: the kind byte, then a body whose length the kind fixes.
use Rattle.std.specs.Prelude.{ℕ, ◌+◌, ◌*◌, cond, List, length, take, drop, Some, None, Ok, Err, Option, Result, ◌==◌, nat_le, nat_lt, slice_index}
use Rattle.std.specs.Borrow.{Bor}
use Rattle.model.specs.declared.Event.TheVariants.{Release, Finish}
use Rattle.scenario.specs.declared.Part.{Part}
use Rattle.scenario.specs.declared.Record.{Record}
use Rattle.scenario.specs.declared.Record.TheVariants.{Header, Task, Event}
use Rattle.scenario.specs.declared.Fault.{Fault}
use Rattle.scenario.specs.declared.Fault.TheVariants.{UnknownKind, CutShort, HeaderMisplaced, TooLate}

-- the number of a fault
abbrev pub fault_number : Fault → ℕ
fault_number UnknownKind = 20
fault_number CutShort = 21
fault_number HeaderMisplaced = 22
fault_number TooLate = 23

-- the length of a record of kind k, the kind byte counted; 0 where the kind is unknown
abbrev pub span : ℕ → ℕ
span k = cond (k == 1) 4 (cond (k == 2) 6 (cond (k == 4) 6 (cond (k == 7) 2 0)))

-- the number in the four bytes from place i on, the lowest first
abbrev pub word : List ℕ → ℕ → ℕ
word s i = slice_index s i + slice_index s (i + 1) * 256 + slice_index s (i + 2) * 65536 + slice_index s (i + 3) * 16777216

-- what the bytes of a whole record say
abbrev pub meaning : List ℕ → Record
meaning s =
    cond (slice_index s 0 == 1) (Header (record { clusters = slice_index s 1; cluster_size = slice_index s 2; order = slice_index s 3 }))
    (cond (slice_index s 0 == 2) (Task (record { cluster = slice_index s 1; parameter = word s 2 }))
    (cond (slice_index s 0 == 4) (Event (Release (slice_index s 1) (word s 2))) (Event (Finish (slice_index s 1)))))

-- the record at the start of s and the bytes after it, or the fault of that record
abbrev pub record_at : List ℕ → Result (Record × List ℕ) Fault
record_at s =
    cond (span (slice_index s 0) == 0) (Err UnknownKind)
    (cond (nat_lt (length s) (span (slice_index s 0))) (Err CutShort) (Ok (meaning s, drop (span (slice_index s 0)) s)))

-- the same as the code has it, with the bytes after the record lent
abbrev pub split_view : Result (Record × Bor (List ℕ)) Fault → Result (Record × List ℕ) Fault
split_view (Ok p) = Ok (p.0, p.1.now)
split_view (Err f) = Err f

-- a record that was read at p at the start of s: its place, its bytes and what they say
abbrev pub part_of : ℕ → List ℕ → Result (Record × List ℕ) Fault → Result (Option (ℕ × List ℕ × Record)) Fault
part_of p s (Ok r) = Ok (Some (p, take (span (slice_index s 0)) s, r.0))
part_of p s (Err f) = Err f

-- what is read at the place p: nothing at or past the file's end
abbrev pub next_at : List ℕ → ℕ → Result (Option (ℕ × List ℕ × Record)) Fault
next_at file p = cond (nat_le (length file) p) (Ok None) (part_of p (drop p file) (record_at (drop p file)))

-- the place after it: behind the record's bytes, or p where no record was read
abbrev pub place_after : ℕ → Result (Option (ℕ × List ℕ × Record)) Fault → ℕ
place_after p (Ok None) = p
place_after p (Ok (Some part)) = p + length part.1
place_after p (Err f) = p

-- a part as the code has it, with its bytes lent
abbrev pub part_view : Result (Option Part) Fault → Result (Option (ℕ × List ℕ × Record)) Fault
part_view (Ok None) = Ok None
part_view (Ok (Some p)) = Ok (Some (p.at, p.bytes.now, p.record))
part_view (Err f) = Err f
