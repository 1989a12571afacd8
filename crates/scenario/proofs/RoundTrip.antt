-- The bytes of a scenario load as that scenario: each record is read back, with what follows it left.
use Rattle.std.proofs.Common.{◌≡◌, ℕ, pred, ◌+◌, ◌-◌, ◌*◌, ◌/◌, ◌%◌, ◌^◌, ◌<◌, ◌≤◌, false, eqb, List, [], ◌∷◌, ◌++◌, length, drop, Some, None, Ok, sym, refl, ap, ◌∙◌, append_assoc, append-nil, add-zero, arith, lit<, length-append, length-drop}
use Rattle.std.specs.List.{flat_map, AllByRecursion}
use Rattle.std.proofs.lemmas.List.{take_at, drop_at, drop-drop}
use Rattle.std.proofs.lemmas.Bool.{le-ltb, le-leb, ne_eqb}
use Rattle.model.specs.declared.Task.{Task as TaskOf}
use Rattle.model.specs.declared.Event.{Event as EventOf}
use Rattle.model.specs.declared.Event.TheVariants.{Release, Finish}
use Rattle.scenario.specs.declared.Header.{Header as HeaderOf}
use Rattle.scenario.specs.declared.Record.{Record}
use Rattle.scenario.specs.declared.Record.TheVariants.{Header, Task, Event}
use Rattle.scenario.specs.Format.{record_at, next_at}
use Rattle.scenario.specs.Loading.{Loaded, blank, misplaced_in, with_record, followed, placed, ended, loaded_from, loaded}
use Rattle.scenario.specs.Encoding.{encode_header, encode_task, encode_event, encode, TaskFits, EventFits, scenario, ReadsBack}
use Rattle.scenario.proofs.Records.{whole, read, read-long}
use Rattle.scenario.proofs.Onward.{one}

-- four bytes give back their number
word_back : (n : ℕ) → n < 2 ^ 32 → n % 256 + n / 256 % 256 * 256 + n / 65536 % 256 * 65536 + n / 16777216 % 256 * 16777216 ≡ n
word_back n h = omega arith

header-back : (h : HeaderOf) (rest : List ℕ) → Ok (Header h, rest) ≡ record_at (encode_header h ++ rest)
header-back h rest = rw (le-ltb (length (encode_header h ++ rest)) 4 (omega arith))

task-back : (t : TaskOf) (rest : List ℕ) → TaskFits t → Ok (Task t, rest) ≡ record_at (encode_task t ++ rest)
task-back t rest f = rw (le-ltb (length (encode_task t ++ rest)) 6 (omega arith), word_back t.parameter f.1)

event_back : (e : EventOf) (rest : List ℕ) → EventFits e → Ok (Event e, rest) ≡ record_at (encode_event e ++ rest)
event_back (Release t i) rest f = rw (le-ltb (length (encode_event (Release t i) ++ rest)) 6 (omega arith), word_back i f.1)
event_back (Finish t) rest f = rw (le-ltb (length (encode_event (Finish t) ++ rest)) 2 (omega arith))

-- the place p of the file has the bytes `rest` from there on, and at most n of them
record Before (file : List ℕ) (p n : ℕ) (rest : List ℕ) : Type 0 where
  enough : length file ≤ p + n
  within : p ≤ length file
  left : drop p file ≡ rest

-- a record that is read back is a part of the file, and the loading goes on behind it
over : (file : List ℕ) (p n : ℕ) (bytes rest : List ℕ) (v : Record) → Before file p n (bytes ++ rest) → Ok (v, rest) ≡ record_at (bytes ++ rest) → (Ok (Some (p, bytes, v)) ≡ next_at file p) × Before file (p + length bytes) (pred n) rest
over file p n bytes rest v b e =
    let w = whole (bytes ++ rest) v rest e in
    let d = ap length b.left in
    let m : length bytes ≡ length (bytes ++ rest) - length rest = simp length-append (omega arith) in
    let lt : p < length file = omega (arith, length-drop p file, d, w.within, w.long) in
    let q = read file p (bytes ++ rest) bytes v rest lt (sym b.left) e (sym (take_at bytes rest _ m)) in
    let l = read-long file p (p, bytes, v) q in (
      q,
      record {
        enough = omega (arith, b.enough, l.0, l.1);
        within = l.1;
        left = sym (drop-drop (length bytes) p file) ∙ ap (drop (length bytes)) b.left ∙ drop_at bytes rest (length bytes) refl;
      },
    )

-- the loading goes on with a record that may stand there
taking : (file : List ℕ) (p n : ℕ) (bytes rest : List ℕ) (v : Record) (s : Loaded) → Before file p n (bytes ++ rest) → Ok (v, rest) ≡ record_at (bytes ++ rest) → misplaced_in s v ≡ None → loaded_from n file p s ≡ loaded_from (pred n) file (p + length bytes) (with_record s p v)
taking file p n bytes rest v s b e m =
    one n file p s b.enough ∙ ap (followed (loaded_from (pred n) file) s p) (sym (over file p n bytes rest v b e).0) ∙ ap (placed (loaded_from (pred n) file) s p (length bytes) v) m

-- at the end of the file the loading ends
ending : (file : List ℕ) (p n : ℕ) (s : Loaded) → Before file p n [] → (p ≡ length file) × (loaded_from n file p s ≡ ended s p)
ending file p n s b =
    let d : length (drop p file) ≡ 0 = ap length b.left in
    let h : length file ≤ p = omega (arith, length-drop p file) in
    (omega (arith, b.within), one n file p s b.enough ∙ rw (le-leb (length file) p h))

-- a script that has a header and no stop
abbrev script : HeaderOf → List TaskOf → List EventOf → ℕ → Loaded
script h ts es start = record { header = Some h; tasks = ts; events = es; start = start; stop = None }

-- more events after the first
later : (es : List EventOf) (file : List ℕ) (p n : ℕ) (h : HeaderOf) (ts : List TaskOf) (done : List EventOf) (q : ℕ) → AllByRecursion EventFits es → 0 < length done → Before file p n (flat_map encode_event es) → loaded_from n file p (script h ts done q) ≡ script h ts (done ++ es) q
later [] file p n h ts done q f l b =
    (ending file p n (script h ts done q) b).1 ∙ ap (λ es. script h ts es q) (sym (append-nil done))
later (e ∷ es) file p n h ts done q f l b =
    let r = event_back e (flat_map encode_event es) f.0 in
    let some : eqb (length done) 0 ≡ false = ne_eqb (length done) 0 (λ z. omega arith) in
    let t = taking file p n (encode_event e) (flat_map encode_event es) (Event e) (script h ts done q) b r refl in
    let u : with_record (script h ts done q) p (Event e) ≡ script h ts (done ++ e ∷ []) q = rw some in
    let o = (over file p n (encode_event e) (flat_map encode_event es) (Event e) b r).1 in
    let g = later es file (p + length (encode_event e)) (pred n) h ts (done ++ e ∷ []) q f.1 (simp length-append (omega arith)) o in
    t ∙ ap (loaded_from (pred n) file (p + length (encode_event e))) u ∙ g ∙ ap (λ x. script h ts x q) (append_assoc done (e ∷ []) es)

-- the events from the first on, which is the start
events-back : (es : List EventOf) (file : List ℕ) (p n : ℕ) (h : HeaderOf) (ts : List TaskOf) → AllByRecursion EventFits es → Before file p n (flat_map encode_event es) → loaded_from n file p (script h ts [] (length file)) ≡ script h ts es p
events-back [] file p n h ts f b =
    let e = ending file p n (script h ts [] (length file)) b in
    e.1 ∙ ap (script h ts []) (sym e.0)
events-back (e ∷ es) file p n h ts f b =
    let r = event_back e (flat_map encode_event es) f.0 in
    let o = (over file p n (encode_event e) (flat_map encode_event es) (Event e) b r).1 in
    taking file p n (encode_event e) (flat_map encode_event es) (Event e) (script h ts [] (length file)) b r refl
    ∙ later es file (p + length (encode_event e)) (pred n) h ts (e ∷ []) p f.1 (lit< tt) o

-- the tasks, and then the events
tasks-back : (ts : List TaskOf) (es : List EventOf) (file : List ℕ) (p n : ℕ) (h : HeaderOf) (done : List TaskOf) → AllByRecursion TaskFits ts → AllByRecursion EventFits es → Before file p n (flat_map encode_task ts ++ flat_map encode_event es) → loaded_from n file p (script h done [] (length file)) ≡ script h (done ++ ts) es (p + length (flat_map encode_task ts))
tasks-back [] es file p n h done f g b =
    events-back es file p n h done g b ∙ rw (append-nil, add-zero)
tasks-back (t ∷ ts) es file p n h done f g b =
    let rest = flat_map encode_task ts ++ flat_map encode_event es in
    let r = task-back t rest f.0 in
    let o = (over file p n (encode_task t) rest (Task t) b r).1 in
    let k : p + length (encode_task t) + length (flat_map encode_task ts) ≡ p + length (encode_task t ++ flat_map encode_task ts) = simp length-append (omega arith) in
    taking file p n (encode_task t) rest (Task t) (script h done [] (length file)) b r refl
    ∙ tasks-back ts es file (p + length (encode_task t)) (pred n) h (done ++ t ∷ []) f.1 g o
    ∙ ap (λ x. script h x es (p + length (encode_task t) + length (flat_map encode_task ts))) (append_assoc done (t ∷ []) ts)
    ∙ ap (script h (done ++ t ∷ ts) es) k

round_trip : (h : HeaderOf) (ts : List TaskOf) (es : List EventOf) → AllByRecursion TaskFits ts → AllByRecursion EventFits es → loaded (encode h ts es) ≡ scenario h ts es
round_trip h ts es ft fe =
    let file = encode h ts es in
    let rest = flat_map encode_task ts ++ flat_map encode_event es in
    let b : Before file 0 (length file) (encode_header h ++ rest) = record { enough = omega arith; within = omega arith; left = refl } in
    let o = (over file 0 (length file) (encode_header h) rest (Header h) b (header-back h rest)).1 in
    let k : 4 + length (flat_map encode_task ts) ≡ length (encode h ts []) = simp append-nil (omega arith) in
    taking file 0 (length file) (encode_header h) rest (Header h) (blank (length file)) b (header-back h rest) refl
    ∙ tasks-back ts es file 4 (pred (length file)) h [] ft fe o
    ∙ ap (script h ts es) k

pub reads_back : (file : List ℕ) (s : Loaded) → s ≡ loaded file → ReadsBack file s
reads_back file s e h ts es fh ft fe f = e ∙ ap loaded f ∙ round_trip h ts es ft fe
