-- The kinds keep their own rules, and set-up keeps its
use Rattle.std.proofs.Common.{◌≡◌, ℕ, zero, suc, ◌+◌, ◌*◌, ◌<◌, ◌≤◌, min, Bool, true, false, cond, not, ◌&&◌, ◌||◌, eqb, ltb, leb, List, [], ◌∷◌, ◌++◌, length, take, drop, Some, None, Ok, Err, Result, sym, refl, ap, ◌∙◌, ⊎_elim, arith, length-take}
use Rattle.std.proofs.lemmas.List.{drop-append-le, drop-drop}
use Rattle.std.proofs.lemmas.Bool.{or_left, or_right, not-true, and_right, and_from, ne_eqb, true≢false, cases_lt, cases_eq, lt-ltb, le-ltb, ltb-true, ltb-false, cond-true, cond-false, and_parts, eq-eqb, eqb-true, false≢true, both_ways}
use Rattle.std.proofs.lemmas.Bool.Decides.{nat_tests}
use Rattle.lock.specs.declared.Refusal.{Refusal}
use Rattle.lock.specs.declared.Refusal.TheVariants.{NoSuchKind, CountUnfit}
use Rattle.lock.specs.declared.Reply.TheVariants.{Granted, Waits}
use Rattle.task_set.specs.Sets.{tally, someone, less, nobody}
use Rattle.task_set.proofs.Passing.{tally-same, someone-at, someone-is}
use Rattle.lock.specs.Words.{has, index, distinct, removed, first}
use Rattle.lock.specs.Model.{is_granted, queued, member, started}
use Rattle.lock.specs.Fifo.{Fifo, FifoSound, fifo_holds, fifo_admits, fifo_reply, fifo_empty, mutex, replicas}
use Rattle.lock.specs.PhaseFair.{Rw, RwSound, rw_admits, rw, rw_empty, Phase, idle, reading, writing, holds_in, wrote, mode_in, asked_in, reply_in, ended_in, next_writer, RestIn, ends_in, grants_in}
use Rattle.lock.specs.Kinds.{Any, one, two, or_else, any}
use Rattle.lock.specs.Rules.{FifoRules, PlacesRules, RwRules, SetUpRule, Rules, writer_holds, empty_of}
use Rattle.lock.specs.Count.{tally-into, tally-all}
use Rattle.lock.specs.Lists.{else_false, index_short, index-once, members, distinct-rest, has-drop}
use Rattle.lock.specs.Lists.{has-take}
use Rattle.lock.specs.Starts.{starts}
use Rattle.lock.specs.RwLaws.{q, small, mem, by_request}

-- a request that is not declined is admitted
admitted : {A : Type 0} (b : Bool) (x y : A) → (cond b x y ≡ y → ⊥) → b ≡ true
admitted true x y h = refl
admitted false x y h = absurd (h refl)

distinct-take : (k : ℕ) (xs : List ℕ) → distinct xs ≡ true → distinct (take k xs) ≡ true
distinct-take zero xs g = refl
distinct-take (suc k) [] g = refl
distinct-take (suc k) (x ∷ xs) g = let r = distinct-take k xs (distinct-rest x xs g) in let h = has-take k xs x in grind (arith, nat_tests)

-- a row has fewer than its places where fewer hold
fewer : (l : Fifo) → FifoSound l → ltb (length l.row) l.places ≡ ltb (tally 64 (fifo_holds l)) l.places
fewer l g = ⊎_elim
    (λ (h : length l.row < l.places).
    let a : tally 64 (fifo_holds l) ≤ tally (length l.row) (λ _. true) = tally-into 64 (length l.row) (fifo_holds l) (λ _. true) (index l.row)
    (λ t lt y. (index_short l.row t (and_parts (has l.row t) _ y).0, refl))
    (λ t u _ _ y z e. index-once l.row t u (and_parts (has l.row t) _ y).0 (and_parts (has l.row u) _ z).0 e) in
    let b = tally-all (length l.row) in
    lt-ltb _ _ h ∙ sym (lt-ltb (tally 64 (fifo_holds l)) l.places (below a b h)))
    (λ (h : l.places ≤ length l.row).
    let xs = take l.places l.row in
    let a : length xs ≤ tally 64 (has xs) = members xs 64 (distinct-take l.places l.row g.apart)
    (λ u y. else_false _ (λ z. let s : u < 64 = g.small u (and_parts (has l.row u) _ (sym (has-take l.places l.row u) ∙ z)).0 in omega arith)) in
    let b : tally 64 (has xs) ≡ tally 64 (fifo_holds l) = tally-same 64 _ _ (λ u _. has-take l.places l.row u) in
    le-ltb _ _ h ∙ sym (le-ltb (tally 64 (fifo_holds l)) l.places (more (length-take l.places l.row) a b h)))
    (cases_lt (length l.row) l.places)
  where
    below : {x y n k : ℕ} → x ≤ y → y ≡ n → n < k → x < k
    below p q r = omega arith

    more : {a b c k n : ℕ} → a ≡ min k n → a ≤ b → b ≡ c → k ≤ n → k ≤ c
    more p q r s = omega arith

granted_if : (b : Bool) → is_granted (Some (cond b Granted Waits)) ≡ b
granted_if true = refl
granted_if false = refl

-- who waits comes behind the places
waiting-row : (l : Fifo) (t m : ℕ) → fifo_reply l t m ≡ Some Waits → (fifo_admits l t m ≡ true) × (l.places ≤ length l.row)
waiting-row l t m = go (fifo_admits l t m) (ltb (length l.row) l.places) refl
  where
    go : (b d : Bool) → ltb (length l.row) l.places ≡ d → cond b (Some (cond d Granted Waits)) None ≡ Some Waits → (b ≡ true) × (l.places ≤ length l.row)
    go true true e h = let z : ◌≡◌ {A = ℕ} 0 1 = cc in absurd (omega arith)
    go true false e h = (refl, ltb-false _ _ e)
    go false d e h = let z : ◌≡◌ {A = ℕ} 0 1 = cc in absurd (omega arith)

-- the row behind the places without a holder
drop-removed : (k : ℕ) (xs : List ℕ) (t : ℕ) → (has xs t && ltb (index xs t) k) ≡ true → drop k (removed xs t) ≡ drop (suc k) xs
drop-removed k [] t h = absurd (false≢true h)
drop-removed zero (x ∷ xs) t h = let z : ◌≡◌ {A = ℕ} 0 1 = grind (arith, nat_tests) in absurd (omega arith)
drop-removed (suc k) (x ∷ xs) t h = go (eqb x t) refl (λ e. drop-removed k xs t (grind (arith, nat_tests)))
  where
    go : (b : Bool) → eqb x t ≡ b → (eqb x t ≡ false → drop k (removed xs t) ≡ drop (suc k) xs) → drop (suc k) (cond b xs (x ∷ removed xs t)) ≡ drop (suc k) xs
    go true e r = refl
    go false e r = r e

index-drop : (k : ℕ) (xs : List ℕ) (u : ℕ) → (has xs u && leb k (index xs u)) ≡ true → index (drop k xs) u + k ≡ index xs u
index-drop zero xs u h = omega arith
index-drop (suc k) [] u h = absurd (false≢true h)
index-drop (suc k) (x ∷ xs) u h = let r = index-drop k xs u in grind (arith, nat_tests)

pub fifo-rules : (start : ℕ → ℕ → ℕ → Result Fifo Refusal) → FifoRules start
fifo-rules start = record {
  at_issue = λ l t m g h. let reply = Some (cond (ltb (length l.row) l.places) Granted Waits) in ap is_granted (cond-true _ reply None (admitted _ reply None h)) ∙ granted_if (ltb (length l.row) l.places) ∙ fewer l g;
  by_issue = λ l t m h. let w = waiting-row l t m h in
      ap (λ b. drop l.places (cond b (l.row ++ (t ∷ [])) l.row)) w.0 ∙ drop-append-le l.places l.row (t ∷ []) w.1;
  turn_ends = λ l t. refl;
  grants_first = λ l t u. refl;
  moves_up = λ l t h. ap (λ b. drop l.places (cond b (removed l.row t) l.row)) h ∙ drop-removed l.places l.row t h
      ∙ (let one : suc l.places ≡ l.places + 1 = omega arith in ap (λ n. drop n l.row) one) ∙ sym (drop-drop 1 l.places l.row);
  turns = λ l u g h. let e = index-drop l.places l.row u (sym (has-drop l.places l.row u g.apart) ∙ h) in omega arith;
  limit = λ l m o. grind (arith, nat_tests);
  request_places = λ l t m. refl;
  complete_places = λ l t. refl;
}

places-rules : PlacesRules
places-rules = record {
  mutex_places = λ kind k m l e. ap (λ (x : Fifo). x.places) (sym (starts (eqb kind 1) (eqb k 0) (fifo_empty 1) l e).2);
  replicas_places = λ kind k m l e. ap (λ (x : Fifo). x.places) (sym (starts (eqb kind 3) (leb 1 k && leb k m) (fifo_empty k) l e).2);
  mutex_alone = λ l t u e h k.
      let a = and_parts (has l.row t) _ h in let b = and_parts (has l.row u) _ k in
      let c = ltb-true _ _ a.1 in let d = ltb-true _ _ b.1 in
      index-once l.row t u a.0 b.0 (omega arith);
  mutex_limit = λ l m o e. grind (arith, nat_tests, e);
}

someone-none : (p : ℕ → Bool) → ((u : ℕ) → p u ≡ false) → someone 64 p ≡ false
someone-none p h = else_false _ (λ y. let w = someone-is 64 p y in both_ways (p w.0) (h w.0) w.1)

wrote-holds : (ph : Phase) (u : ℕ) → wrote ph u ≡ true → holds_in ph u ≡ true
wrote-holds idle u h = h
wrote-holds (reading s) u h = absurd (false≢true h)
wrote-holds (writing w) u h = h

-- a mode is 2 for the writers, holding or waiting
module _ (l : Rw) (u : ℕ) (g : RwSound l) where
  writers-are : (member rw l u && eqb (rw.mode l u) 2) ≡ (wrote l.phase u || has l.writers u)
  writers-are = let a = mem l u g in let w = wrote-holds l.phase u in grind (arith, nat_tests)

  writer_is : (rw.holds l u && eqb (rw.mode l u) 2) ≡ wrote l.phase u
  writer_is = let e = g.each u in let w = wrote-holds l.phase u in grind (arith, nat_tests)

  waiting_writers : has l.writers u ≡ (queued rw l u && eqb (rw.mode l u) 2)
  waiting_writers = let a = q l u g in let e = g.each u in let w = wrote-holds l.phase u in grind (arith, nat_tests)

  waiting_readers : l.readers u ≡ (queued rw l u && eqb (rw.mode l u) 1)
  waiting_readers = let a = q l u g in let e = g.each u in let w = wrote-holds l.phase u in grind (arith, nat_tests)

held-once : (l : Rw) (t : ℕ) → RwSound l → holds_in l.phase t ≡ true → has l.writers t ≡ false
held-once l t g h = let e = g.each t in grind (arith, nat_tests)

-- the steps by their phase
write_waits : (ph : Phase) (ws : List ℕ) (rs : ℕ → Bool) (t : ℕ) → Some (reply_in ph ws false) ≡ Some Waits → (asked_in ph ws rs t false).writers ≡ ws ++ (t ∷ [])
write_waits idle ws rs t h = let z : ◌≡◌ {A = ℕ} 0 1 = cc in absurd (omega arith)
write_waits (reading s) [] rs t h = refl
write_waits (reading s) (w ∷ ws) rs t h = refl
write_waits (writing x) ws rs t h = refl

-- a request that is admitted and does not read writes
writes-mode : (l : Rw) (t m : ℕ) → rw_admits l t m ≡ true → eqb m 1 ≡ false → m ≡ 2
writes-mode l t m e r = eqb-true m 2 (grind (arith, nat_tests))

row_kept : (ph : Phase) (ws : List ℕ) (rs : ℕ → Bool) (t : ℕ) (reads : Bool) → (Some (reply_in ph ws reads) ≡ Some Waits → reads ≡ false → ⊥) → (asked_in ph ws rs t reads).writers ≡ ws
row_kept idle ws rs t true h = refl
row_kept idle ws rs t false h = refl
row_kept (reading s) [] rs t true h = refl
row_kept (reading s) (w ∷ ws) rs t true h = refl
row_kept (reading s) [] rs t false h = absurd (h refl refl)
row_kept (reading s) (w ∷ ws) rs t false h = absurd (h refl refl)
row_kept (writing x) ws rs t true h = refl
row_kept (writing x) ws rs t false h = absurd (h refl refl)

-- the row after the turn of its first
next_row : (ws : List ℕ) (rs : ℕ → Bool) → ((u : ℕ) → has ws u ≡ true → u < 64) → (next_writer ws rs).writers ≡ cond (someone 64 (λ u. has ws u && first ws u)) (drop 1 ws) ws
next_row [] rs lt = sym (cond-false _ _ _ (someone-none _ (λ u. refl)))
next_row (w ∷ ws) rs lt = let y : has (w ∷ ws) w ≡ true = or_left (eqb w w) _ (eq-eqb w w refl) in
    sym (cond-true _ _ _ (someone-at 64 (λ u. has (w ∷ ws) u && first (w ∷ ws) u) w (lt w y) (and_from _ _ y (and_from _ _ (eq-eqb w w refl) (lt-ltb w 64 (lt w y))))))

row-moves : (ph : Phase) (ws : List ℕ) (rs : ℕ → Bool) (t : ℕ) → ((u : ℕ) → has ws u ≡ true → u < 64) → ((u : ℕ) → (has ws u && rs u) ≡ false) → holds_in ph t ≡ true
    → (ended_in ph ws rs t).writers ≡ cond (someone 64 (λ u. has ws u && grants_in ph ws rs t u)) (drop 1 ws) ws
row-moves idle ws rs t lt apart h = absurd (false≢true h)
row-moves (reading s) ws rs t lt apart h = go (someone 64 (less s t))
  where
    go : (b : Bool) → (cond b (record { phase = reading (less s t); writers = ws; readers = rs }) (next_writer ws rs)).writers ≡ cond (someone 64 (λ u. has ws u && cond b false (first ws u))) (drop 1 ws) ws
    go true = sym (cond-false _ _ _ (someone-none _ (λ u. and_right (has ws u) _ refl)))
    go false = next_row ws rs lt
row-moves (writing x) ws rs t lt apart h = go (someone 64 rs)
  where
    go : (b : Bool) → (cond b (record { phase = reading rs; writers = ws; readers = nobody }) (next_writer ws rs)).writers ≡ cond (someone 64 (λ u. has ws u && cond b (rs u) (first ws u))) (drop 1 ws) ws
    go true = sym (cond-false _ _ _ (someone-none _ apart))
    go false = next_row ws rs lt

read-in : (ph : Phase) (ws : List ℕ) (rs : ℕ → Bool) (p : ℕ → Bool) → RestIn ph ws rs → ((u : ℕ) → p u ≡ (wrote ph u || has ws u)) → ((u : ℕ) → p u ≡ true → u < 64) → is_granted (Some (reply_in ph ws true)) ≡ not (someone 64 p)
read-in idle ws rs p r is lt = sym (ap not (someone-none p (λ u. is u ∙ ap (λ xs. has xs u) r.0)))
read-in (reading s) [] rs p r is lt = sym (ap not (someone-none p is))
read-in (reading s) (w ∷ ws) rs p r is lt = let y : p w ≡ true = is w ∙ or_left (eqb w w) _ (eq-eqb w w refl) in sym (ap not (someone-at 64 p w (lt w y) y))
read-in (writing x) ws rs p r is lt = let y : p x ≡ true = is x ∙ or_left (eqb x x) _ (eq-eqb x x refl) in sym (ap not (someone-at 64 p x (lt x y) y))

write_in : (ph : Phase) (ws : List ℕ) (rs : ℕ → Bool) → RestIn ph ws rs → ((u : ℕ) → holds_in ph u ≡ true → u < 64) → is_granted (Some (reply_in ph ws false)) ≡ not (someone 64 (λ u. holds_in ph u))
write_in idle ws rs r lt = sym (ap not (someone-none (λ u. false) (λ u. refl)))
write_in (reading s) [] rs r lt = sym (ap not (someone-at 64 s r.0.0 (lt r.0.0 r.0.1) r.0.1))
write_in (reading s) (w ∷ ws) rs r lt = sym (ap not (someone-at 64 s r.0.0 (lt r.0.0 r.0.1) r.0.1))
write_in (writing x) ws rs r lt = sym (ap not (someone-at 64 (eqb x) x (lt x (eq-eqb x x refl)) (eq-eqb x x refl)))

ends_by : (ph : Phase) (t : ℕ) → holds_in ph t ≡ true → ends_in ph t ≡ not (someone 64 (less (λ u. holds_in ph u) t))
ends_by idle t h = absurd (false≢true h)
ends_by (reading s) t h = refl
ends_by (writing x) t h = sym (ap not (someone-none (less (eqb x) t) (λ u. let e = eqb-true x t h in grind (arith, nat_tests))))

last_read : (ph : Phase) (ws : List ℕ) (rs : ℕ → Bool) (t u : ℕ) → holds_in ph t ≡ true → mode_in ph ws t ≡ 1 → ends_in ph t ≡ true → grants_in ph ws rs t u ≡ first ws u
last_read idle ws rs t u h m e = absurd (false≢true h)
last_read (reading s) ws rs t u h m e = cond-false _ _ _ (not-true _ e)
last_read (writing x) ws rs t u h m e = let z : ◌≡◌ {A = ℕ} 0 1 = grind (arith, nat_tests) in absurd (omega arith)

after_write : (ph : Phase) (ws : List ℕ) (rs : ℕ → Bool) (t u : ℕ) → (holds_in ph t ≡ true → has ws t ≡ false) → holds_in ph t ≡ true → mode_in ph ws t ≡ 2 → grants_in ph ws rs t u ≡ cond (someone 64 rs) (rs u) (first ws u)
after_write idle ws rs t u n h m = absurd (false≢true h)
after_write (reading s) ws rs t u n h m = let y = n h in let z : ◌≡◌ {A = ℕ} 0 1 = grind (arith, nat_tests) in absurd (omega arith)
after_write (writing x) ws rs t u n h m = refl

alone-in : (ph : Phase) (ws : List ℕ) (t u : ℕ) → (holds_in ph t ≡ true → has ws t ≡ false) → holds_in ph t ≡ true → mode_in ph ws t ≡ 2 → holds_in ph u ≡ true → t ≡ u
alone-in idle ws t u n h m k = absurd (false≢true h)
alone-in (reading s) ws t u n h m k = let y = n h in let z : ◌≡◌ {A = ℕ} 0 1 = grind (arith, nat_tests) in absurd (omega arith)
alone-in (writing x) ws t u n h m k = sym (eqb-true x t h) ∙ eqb-true x u k

abbrev writes : Phase → Bool
writes idle = false
writes (reading s) = false
writes (writing w) = true

someone-wrote : (ph : Phase) (p : ℕ → Bool) → ((u : ℕ) → p u ≡ wrote ph u) → ((u : ℕ) → p u ≡ true → u < 64) → someone 64 p ≡ writes ph
someone-wrote idle p is lt = someone-none p is
someone-wrote (reading s) p is lt = someone-none p is
someone-wrote (writing w) p is lt = let y : p w ≡ true = is w ∙ eq-eqb w w refl in someone-at 64 p w (lt w y) y

writer_holds-is : (l : Rw) → RwSound l → writer_holds l ≡ writes l.phase
writer_holds-is l g = someone-wrote l.phase (λ u. rw.holds l u && eqb (rw.mode l u) 2) (λ u. writer_is l u g) (λ u y. small l u g (or_left _ _ (and_parts (rw.holds l u) _ y).0))

read-turns : (ph : Phase) → Rattle.lock.specs.PhaseFair.reader_turns ph ≡ cond (writes ph) 1 2
read-turns idle = refl
read-turns (reading s) = refl
read-turns (writing w) = refl

write_turns : (ph : Phase) (i : ℕ) → Rattle.lock.specs.PhaseFair.writer_turns ph i ≡ cond (writes ph) (2 * (i + cond (writes ph) 1 0)) (2 * (i + cond (writes ph) 1 0) + 1)
write_turns idle i = omega arith
write_turns (reading s) i = omega arith
write_turns (writing w) i = refl

rw-rules : RwRules
rw-rules = record {
  writer_alone = λ l t u g h m k. alone-in l.phase l.writers t u (held-once l t g) h m k;
  waiting_writers = waiting_writers;
  waiting_readers = waiting_readers;
  writers_by_issue = λ l t. by_request l t 2 (λ x r. r ≡ Some Waits → x.writers ≡ l.writers ++ (t ∷ [])) (λ e. write_waits l.phase l.writers l.readers t) (λ h. let z : ◌≡◌ {A = ℕ} 0 1 = cc in absurd (omega arith));
  row_stays = λ l t m. by_request l t m (λ x r. (r ≡ Some Waits → m ≡ 2 → ⊥) → x.writers ≡ l.writers)
      (λ e n. row_kept l.phase l.writers l.readers t (eqb m 1) (λ w r. n w (writes-mode l t m e r)))
      (λ n. refl);
  moves_up = λ l t g h. ap (λ b. (cond b (ended_in l.phase l.writers l.readers t) l).writers) h
      ∙ row-moves l.phase l.writers l.readers t (λ u y. small l u g (or_right _ _ (or_left _ _ y))) (λ u. let e = g.each u in grind (arith, nat_tests)) h;
  shown = λ l. refl;
  read_at_issue = λ l t g h. let reply = Some (reply_in l.phase l.writers true) in ap is_granted (cond-true _ reply None (admitted _ reply None h))
      ∙ read-in l.phase l.writers l.readers (λ u. member rw l u && eqb (rw.mode l u) 2) g.rest (λ u. writers-are l u g) (λ u y. small l u g (sym (mem l u g) ∙ (and_parts (member rw l u) _ y).0));
  write_at_issue = λ l t g h. let reply = Some (reply_in l.phase l.writers false) in ap is_granted (cond-true _ reply None (admitted _ reply None h))
      ∙ write_in l.phase l.writers l.readers g.rest (λ u y. small l u g (or_left _ _ y));
  turn_ends = λ l t g h. ends_by l.phase t h;
  reader_completes = λ l t u g h m e. last_read l.phase l.writers l.readers t u h m e;
  writer_completes = λ l t u g h m. after_write l.phase l.writers l.readers t u (held-once l t g) h m;
  reader_turns = λ l u g h m.
      let n : has l.writers u ≡ false = waiting_writers l u g ∙ ap (λ k. queued rw l u && eqb k 2) m ∙ and_right _ _ refl in
      cond-false _ _ _ n ∙ read-turns l.phase ∙ ap (λ b. cond b 1 2) (sym (writer_holds-is l g));
  writer_turns = λ l u g h m.
      let y : has l.writers u ≡ true = waiting_writers l u g ∙ and_from _ _ h (ap (λ k. eqb k 2) m) in
      cond-true _ _ _ y ∙ write_turns l.phase (index l.writers u)
      ∙ ap (λ b. cond b (2 * (index l.writers u + cond b 1 0)) (2 * (index l.writers u + cond b 1 0) + 1)) (sym (writer_holds-is l g));
  read_limit = λ l o. refl;
  write_limit = λ l o. refl;
}

-- set-up by the kind
abbrev by_kind : ℕ → ℕ → ℕ → Result Any Refusal
by_kind kind k m = cond (leb 1 kind && leb kind 3) (cond (cond (eqb kind 3) (leb 1 k && leb k m) (eqb k 0)) (Ok (empty_of kind k)) (Err CountUnfit)) (Err NoSuchKind)

set_up_rule : SetUpRule 3
set_up_rule kind k m = ⊎_elim
    (λ (e : kind ≡ 1). ap (λ x. any.start x k m) e ∙ first_kind (eqb k 0) ∙ sym (ap (λ x. by_kind x k m) e))
    (λ (n : kind ≡ 1 → ⊥). ⊎_elim
    (λ (e : kind ≡ 2). ap (λ x. any.start x k m) e ∙ second_kind (eqb k 0) ∙ sym (ap (λ x. by_kind x k m) e))
    (λ (n2 : kind ≡ 2 → ⊥). ⊎_elim
    (λ (e : kind ≡ 3). ap (λ x. any.start x k m) e ∙ third_kind (leb 1 k && leb k m) ∙ sym (ap (λ x. by_kind x k m) e))
    (λ (n3 : kind ≡ 3 → ⊥).
    let a : eqb kind 1 ≡ false = ne_eqb kind 1 n in let b : eqb kind 2 ≡ false = ne_eqb kind 2 n2 in let c : eqb kind 3 ≡ false = ne_eqb kind 3 n3 in
    let d : (leb 1 kind && leb kind 3) ≡ false = grind (arith, nat_tests) in
    other (eqb kind 1) (eqb kind 2) (eqb kind 3) a b c ∙ sym (cond-false _ _ _ d))
    (cases_eq kind 3))
    (cases_eq kind 2))
    (cases_eq kind 1)
  where
    first_kind : (b : Bool) → or_else (started true b (fifo_empty 1)) (or_else (started false b rw_empty) (started false (leb 1 k && leb k m) (fifo_empty k))) ≡ cond b (Ok (one (fifo_empty 1))) (Err CountUnfit)
    first_kind true = refl
    first_kind false = refl

    second_kind : (b : Bool) → or_else (started false b (fifo_empty 1)) (or_else (started true b rw_empty) (started false (leb 1 k && leb k m) (fifo_empty k))) ≡ cond b (Ok (two (one rw_empty))) (Err CountUnfit)
    second_kind true = refl
    second_kind false = refl

    third_kind : (b : Bool) → or_else (started false (eqb k 0) (fifo_empty 1)) (or_else (started false (eqb k 0) rw_empty) (started true b (fifo_empty k))) ≡ cond b (Ok (two (two (fifo_empty k)))) (Err CountUnfit)
    third_kind true = refl
    third_kind false = refl

    other : (x y z : Bool) → x ≡ false → y ≡ false → z ≡ false → or_else (started x (eqb k 0) (fifo_empty 1)) (or_else (started y (eqb k 0) rw_empty) (started z (leb 1 k && leb k m) (fifo_empty k))) ≡ Err NoSuchKind
    other false false false a b c = refl
    other true y z a b c = absurd (true≢false a)
    other false true z a b c = absurd (true≢false b)
    other false false true a b c = absurd (true≢false c)

pub rules : Rules 3
rules = record { of_mutex = fifo-rules mutex.start; of_replicas = fifo-rules replicas.start; of_places = places-rules; of_reader_writer = rw-rules; of_set_up = set_up_rule }
