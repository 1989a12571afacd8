-- A row with places keeps the laws of locks, and so do mutex and replicas
use Rattle.std.specs.Prelude.{◌≡◌, ℕ, zero, suc, ◌-◌, ◌<◌, ◌≤◌, Bool, true, false, cond, not, ◌&&◌, ◌||◌, List, [], ◌∷◌, ◌++◌, length, drop, Some, None, Result, ◌==◌, ◌≢◌, nat_eq, nat_le, nat_lt, refl}
use Rattle.std.proofs.Common.{sym, ap, ◌∙◌, subst, ⊎_elim, arith}
use Rattle.std.proofs.lemmas.Bool.{true≢false, le-leb, leb-true, cases_eq, false≢true, and_parts, or_cases, eq-eqb, eqb-true, ltb-true, cond-true}
use Rattle.std.proofs.lemmas.Bool.Decides.{nat_tests}
use Rattle.lock.specs.declared.Refusal.{Refusal}
use Rattle.lock.specs.declared.Reply.TheVariants.{Granted, Waits}
use Rattle.task_set.specs.Sets.{tally}
use Rattle.task_set.proofs.Passing.{tally-same}
use Rattle.lock.specs.Words.{first, has, index, removed}
use Rattle.lock.specs.Model.{queued, member, is_granted, is_waits}
use Rattle.lock.specs.Laws.{Laws}
use Rattle.lock.specs.Fifo.{Fifo, FifoSound, fifo, mutex, replicas, fifo_holds, fifo_admits, fifo_reply, fifo_empty, Begins}
use Rattle.lock.specs.Count.{tally-into, tally-all}
use Rattle.lock.specs.Lists.{else_false, index_short, has-snoc, index-snoc, index-last, distinct_snoc, has-removed, distinct-removed, index-removed, distinct-drop, has-drop, head_drop, index-once, members, room}
use Rattle.lock.specs.Starts.{starts, exact}

-- the waiting, by their places in the row
q : (l : Fifo) (u : ℕ) → FifoSound l → queued mutex l u ≡ (has l.row u && nat_le l.places (index l.row u))
q l u g = has-drop l.places l.row u g.apart

mem : (l : Fifo) (u : ℕ) → FifoSound l → member mutex l u ≡ has l.row u
mem l u g = let a = q l u g in grind (arith, nat_tests)

apart : (l : Fifo) (t : ℕ) → FifoSound l → fifo_holds l t ≡ true → queued mutex l t ≡ false
apart l t g h = let a = q l t g in grind (arith, nat_tests)

served : (l : Fifo) (t : ℕ) → FifoSound l → queued mutex l t ≡ true → (u : ℕ) × (fifo_holds l u ≡ true)
served l t g h = let a = q l t g in first l.row (and_parts (has l.row t) _ (sym a ∙ h)).0
  where
    first : (xs : List ℕ) → has xs t ≡ true → (u : ℕ) × ((has xs u && nat_lt (index xs u) l.places) ≡ true)
    first [] h = absurd (false≢true h)
    first (x ∷ xs) h = let s = g.some in let e = eq-eqb x x refl in (x, grind (arith, nat_tests))

some_turn : (l : Fifo) (t : ℕ) → FifoSound l → queued mutex l t ≡ true → 1 ≤ suc (index l.row t) - l.places
some_turn l t g h = let a = q l t g in grind (arith, nat_tests)

pub crowded : (l : Fifo) (n : ℕ) → tally n (fifo_holds l) ≤ l.places
crowded l n =
    let a : tally n (fifo_holds l) ≤ tally l.places (λ _. true) = tally-into n l.places (fifo_holds l) (λ _. true) (index l.row)
    (λ t lt y. (ltb-true _ _ (and_parts (has l.row t) _ y).1, refl))
    (λ t u _ _ y z e. index-once l.row t u (and_parts (has l.row t) _ y).0 (and_parts (has l.row u) _ z).0 e) in
    let b : tally l.places (λ _. true) ≡ l.places = tally-all l.places in
    omega arith

-- a lock with another row
abbrev with_row : Fifo → List ℕ → Fifo
with_row l xs = record { places = l.places; row = xs }

free : (l : Fifo) (t m : ℕ) → fifo_admits l t m ≡ true → (has l.row t ≡ false) × (t < 64)
free l t m e = (grind (arith, nat_tests), grind (arith, nat_tests))

snoc_good : (l : Fifo) (t : ℕ) → FifoSound l → has l.row t ≡ false → t < 64 → FifoSound (with_row l (l.row ++ (t ∷ [])))
snoc_good l t g h lt = record {
  apart = distinct_snoc l.row t g.apart h;
  small = λ u y. ⊎_elim (g.small u) (λ (z : nat_eq t u ≡ true). subst (λ x. x < 64) (eqb-true t u z) lt) (or_cases (has l.row u) _ (sym (has-snoc l.row t u) ∙ y));
  some = g.some;
}

request_good : (l : Fifo) (t m : ℕ) → FifoSound l → FifoSound (mutex.requested l t m)
request_good l t m g = go (fifo_admits l t m) refl
  where
    go : (b : Bool) → fifo_admits l t m ≡ b → FifoSound (with_row l (cond b (l.row ++ (t ∷ [])) l.row))
    go true e = let f = free l t m e in snoc_good l t g f.0 f.1
    go false e = g

request_holds : (l : Fifo) (t m u : ℕ) → FifoSound l → fifo_holds (mutex.requested l t m) u ≡ (fifo_holds l u || (t == u && is_granted (fifo_reply l t m)))
request_holds l t m u g = go (fifo_admits l t m) refl
  where
    go : (b : Bool) → fifo_admits l t m ≡ b → fifo_holds (with_row l (cond b (l.row ++ (t ∷ [])) l.row)) u ≡ (fifo_holds l u || (t == u && is_granted (cond b (Some (cond (nat_lt (length l.row) l.places) Granted Waits)) None)))
    go true e = let f = free l t m e in let a = has-snoc l.row t u in let b = index-snoc l.row t u in let c = index-last l.row t f.0 in
        ⊎_elim (λ (y : t ≡ u). let n : has l.row u ≡ false = ap (has l.row) (sym y) ∙ f.0 in let c2 : index (l.row ++ (t ∷ [])) u ≡ length l.row = ap (index (l.row ++ (t ∷ []))) (sym y) ∙ c in grind (arith, nat_tests))
        (λ (y : t ≡ u → ⊥). grind (arith, nat_tests)) (cases_eq t u)
    go false e = grind (arith, nat_tests)

request_queued : (l : Fifo) (t m u : ℕ) → FifoSound l → queued mutex (mutex.requested l t m) u ≡ (queued mutex l u || (t == u && is_waits (fifo_reply l t m)))
request_queued l t m u g =
    let x = q (mutex.requested l t m) u (request_good l t m g) in
    let y = q l u g in x ∙ go (fifo_admits l t m) refl ∙ ap (λ b. b || (t == u && is_waits (fifo_reply l t m))) (sym y)
  where
    go : (b : Bool) → fifo_admits l t m ≡ b → (has (cond b (l.row ++ (t ∷ [])) l.row) u && nat_le l.places (index (cond b (l.row ++ (t ∷ [])) l.row) u)) ≡ ((has l.row u && nat_le l.places (index l.row u)) || (t == u && is_waits (cond b (Some (cond (nat_lt (length l.row) l.places) Granted Waits)) None)))
    go true e = let f = free l t m e in let a = has-snoc l.row t u in let b = index-snoc l.row t u in let c = index-last l.row t f.0 in
        ⊎_elim (λ (y : t ≡ u). let n : has l.row u ≡ false = ap (has l.row) (sym y) ∙ f.0 in let c2 : index (l.row ++ (t ∷ [])) u ≡ length l.row = ap (index (l.row ++ (t ∷ []))) (sym y) ∙ c in grind (arith, nat_tests))
        (λ (y : t ≡ u → ⊥). grind (arith, nat_tests)) (cases_eq t u)
    go false e = grind (arith, nat_tests)

request_togo : (l : Fifo) (t m u : ℕ) → FifoSound l → queued mutex l u ≡ true → mutex.togo (mutex.requested l t m) u ≤ mutex.togo l u
request_togo l t m u g h = let a = q l u g in go (fifo_admits l t m)
  where
    go : (b : Bool) → suc (index (cond b (l.row ++ (t ∷ [])) l.row) u) - l.places ≤ suc (index l.row u) - l.places
    go true = let a = q l u g in let b : index (l.row ++ (t ∷ [])) u ≡ index l.row u = index-snoc l.row t u (and_parts (has l.row u) _ (sym a ∙ h)).0 in omega arith
    go false = omega arith

request_turn : (l : Fifo) (t m u : ℕ) → FifoSound l → queued mutex l u ≡ true → fifo_reply l t m ≢ Some Granted
request_turn l t m u g h e = let a = q l u g in let b = index_short l.row u in let z : ◌≡◌ {A = ℕ} 0 1 = grind (arith, nat_tests) in omega arith

newcomer : (l : Fifo) (t m n : ℕ) → FifoSound l → ((u : ℕ) → n ≤ u → member mutex l u ≡ false) → fifo_reply l t m ≡ Some Waits → mutex.togo (mutex.requested l t m) t ≤ mutex.limit l m (tally n (member mutex l))
newcomer l t m n g out e =
    let f = free l t m (grind (arith, nat_tests)) in
    let k : l.places ≤ length l.row = grind (arith, nat_tests) in
    let a : fifo_admits l t m ≡ true = grind (arith, nat_tests) in
    let i : index (l.row ++ (t ∷ [])) t ≡ length l.row = index-last l.row t f.0 in
    let b : length l.row ≤ tally n (has l.row) = members l.row n g.apart (λ u y. sym (mem l u g) ∙ out u y) in
    let c : tally n (member mutex l) ≡ tally n (has l.row) = tally-same n _ _ (λ u y. mem l u g) in
    let j : index (cond (fifo_admits l t m) (l.row ++ (t ∷ [])) l.row) t ≡ length l.row = ap (λ b. index (cond b (l.row ++ (t ∷ [])) l.row) t) a ∙ i in
    let o : l.places ≤ tally n (member mutex l) = omega arith in
    let w : mutex.limit l m (tally n (member mutex l)) ≡ suc (tally n (member mutex l)) - l.places = cond-true _ _ _ (le-leb _ _ o) in
    omega arith

grows : (l : Fifo) (m o p : ℕ) → o ≤ p → mutex.limit l m o ≤ mutex.limit l m p
grows l m o p h = grind (arith, nat_tests)

removed-good : (l : Fifo) (t : ℕ) → FifoSound l → FifoSound (with_row l (removed l.row t))
removed-good l t g = record {
  apart = distinct-removed l.row t g.apart;
  small = λ u y. g.small u (and_parts (has l.row u) _ (sym (has-removed l.row t u g.apart) ∙ y)).0;
  some = g.some;
}

complete_good : (l : Fifo) (t : ℕ) → FifoSound l → FifoSound (mutex.completed l t)
complete_good l t g = go (fifo_holds l t)
  where
    go : (b : Bool) → FifoSound (with_row l (cond b (removed l.row t) l.row))
    go true = removed-good l t g
    go false = g

gr : (l : Fifo) (u : ℕ) → FifoSound l → first (drop l.places l.row) u ≡ (has l.row u && index l.row u == l.places)
gr l u g = let a = head_drop l.places l.row u g.apart in let s = g.small u in grind (arith, nat_tests)

-- what the row without a holder says of another
module _ (l : Fifo) (t u : ℕ) (g : FifoSound l) (h : fifo_holds l t ≡ true) where
  after : mutex.completed l t ≡ with_row l (removed l.row t)
  after = ap (λ b. with_row l (cond b (removed l.row t) l.row)) h

  after-has : has (removed l.row t) u ≡ (has l.row u && not (t == u))
  after-has = has-removed l.row t u g.apart

  after-index : has l.row u ≡ true → (t ≢ u) → index (removed l.row t) u ≡ cond (nat_lt (index l.row t) (index l.row u)) (index l.row u - 1) (index l.row u)
  after-index = index-removed l.row t u g.apart (and_parts (has l.row t) _ h).0

  here : t ≡ u → fifo_holds l u ≡ true
  here e = ap (fifo_holds l) (sym e) ∙ h

  complete_holds : fifo_holds (mutex.completed l t) u ≡ ((fifo_holds l u && not (t == u)) || (has l.row u && index l.row u == l.places))
  complete_holds = ap (λ x. fifo_holds x u) after ∙ (let a = after-has in let b = after-index in let c = here in grind (arith, nat_tests))

  after-queued : queued mutex (mutex.completed l t) u ≡ (has (removed l.row t) u && nat_le l.places (index (removed l.row t) u))
  after-queued = ap (λ x. queued mutex x u) after ∙ q (with_row l (removed l.row t)) u (removed-good l t g)

  complete_queued : queued mutex (mutex.completed l t) u ≡ (queued mutex l u && not (has l.row u && index l.row u == l.places))
  complete_queued = after-queued ∙ (let a = after-has in let b = after-index in let c = here in let d = q l u g in grind (arith, nat_tests))

  turn_ends : queued mutex (mutex.completed l t) u ≡ true → mutex.togo (mutex.completed l t) u < mutex.togo l u
  turn_ends y =
      let k : (has (removed l.row t) u && nat_le l.places (index (removed l.row t) u)) ≡ true = sym after-queued ∙ y in
      let e : mutex.togo (mutex.completed l t) u ≡ suc (index (removed l.row t) u) - l.places = ap (λ x. mutex.togo x u) after in
      let s : suc (index (removed l.row t) u) - l.places < suc (index l.row u) - l.places =
      (let a = after-has in let b = after-index in let c = here in grind (arith, nat_tests)) in
      omega arith

reply-not : (l : Fifo) (t m : ℕ) → fifo_admits l t m ≡ false → fifo_reply l t m ≡ None
reply-not l t m e = ap (λ b. cond b (Some (cond (nat_lt (length l.row) l.places) Granted Waits)) None) e

busy : (l : Fifo) (t m : ℕ) → FifoSound l → member mutex l t ≡ true → fifo_reply l t m ≡ None
busy l t m g h = let a = mem l t g in reply-not l t m (grind (arith, nat_tests))

taken : (l : Fifo) (t m : ℕ) → FifoSound l → t < 64 → member mutex l t ≡ false → (m == 0) ≡ true → fifo_reply l t m ≢ None
taken l t m g lt h f e =
    let a : has l.row t ≡ false = sym (mem l t g) ∙ h in
    let r = room l.row t g.apart g.small lt a in
    let z : ◌≡◌ {A = ℕ} 0 1 = grind (arith, nat_tests) in omega arith

request_declined : (l : Fifo) (t m : ℕ) → fifo_reply l t m ≡ None → mutex.requested l t m ≡ l
request_declined l t m h = go (fifo_admits l t m) h
  where
    go : (b : Bool) → cond b (Some (cond (nat_lt (length l.row) l.places) Granted Waits)) None ≡ None → with_row l (cond b (l.row ++ (t ∷ [])) l.row) ≡ l
    go true e = let z : ◌≡◌ {A = ℕ} 0 1 = grind (arith, e) in absurd (omega arith)
    go false e = refl

pub fifo-lawful : (start : ℕ → ℕ → ℕ → Result Fifo Refusal) → Begins start → Laws (fifo start)
fifo-lawful start begins = record {
  start_sound = λ kind k m l e. let b = begins kind k m l e in subst FifoSound b.2 (record { apart = refl; small = λ u h. absurd (false≢true h); some = b.1 });
  start_unheld = λ kind k m u l e. ap (λ x. fifo_holds x u) (sym (begins kind k m l e).2);
  start_list = λ kind k m l e. let b = begins kind k m l e in ap mutex.list (sym b.2) ∙ drop-none b.0;
  apart = apart;
  served = served;
  some_turn = some_turn;
  numbered = numbered;
  listed_once = λ l g. distinct-drop l.places l.row g.apart;
  mode_fits = λ l t g h. refl;
  exclusive = λ l g. le-leb _ _ (crowd-by_mode l (crowded l 64) (tally-same 64 _ _ (λ u _. and-true (fifo_holds l u))));
  request_sound = request_good;
  request_holds = request_holds;
  request_queued = request_queued;
  request_togo = request_togo;
  request_mode = λ l t m g h. asked-0 l t m h;
  request_modes = λ l t m u g h. refl;
  request_turn = request_turn;
  newcomer = λ l t m g. newcomer l t m 64 g (λ u h. else_false _ (λ y. above-all u h (numbered l u g y)));
  grows = grows;
  complete_sound = complete_good;
  complete_holds = λ l t u g h. moved_holds l t u g h;
  complete_queued = λ l t u g h. complete_queued l t u g h ∙ ap (λ b. queued mutex l u && not b) (sym (gr l u g));
  complete_modes = λ l t u g h. refl;
  granted_are = λ l t u g h. exact (fifo_holds l u) (queued mutex l u) (t == u) (mutex.grants l t u) _ (apart l u g) (waited l u g) (moved_holds l t u g h);
  none_granted = λ l t u g h e. absurd (true≢false e);
  turns_stay = λ l t u g h e. absurd (true≢false e);
  turn_ends = λ l t u g h e y. turn_ends l t u g h y;
  busy = busy;
  unfit = λ l t m h. reply-not l t m (grind (arith, nat_tests));
  above = λ l t m h. reply-not l t m (grind (arith, nat_tests));
  taken = taken;
  request_declined = request_declined;
  complete_declined = λ l t h. ap (λ b. with_row l (cond b (removed l.row t) l.row)) h;
  request_limit = λ l t m mode o. refl;
  complete_limit = λ l t mode o. refl;
  request_fits = λ l t m mode. refl;
  complete_fits = λ l t mode. refl;
  request_allows = λ l t m c. refl;
  complete_allows = λ l t c. refl;
}
  where
    drop-none : (k : ℕ) → drop {A = ℕ} k [] ≡ []
    drop-none zero = refl
    drop-none (suc k) = refl

    numbered : (l : Fifo) (t : ℕ) → FifoSound l → member mutex l t ≡ true → t < 64
    numbered l t g h = g.small t (sym (mem l t g) ∙ h)

    and-true : (b : Bool) → (b && true) ≡ b
    and-true true = refl
    and-true false = refl

    crowd-by_mode : (l : Fifo) {a b : ℕ} → a ≤ l.places → b ≡ a → b ≤ l.places
    crowd-by_mode l p q = omega arith

    above-all : (u : ℕ) → 64 ≤ u → u < 64 → ⊥
    above-all u h k = omega arith

    asked-0 : (l : Fifo) (t m : ℕ) → (fifo_reply l t m ≢ None) → 0 ≡ m
    asked-0 l t m h = ⊎_elim (λ (e : m ≡ 0). sym e) (λ (ne : m ≡ 0 → ⊥). absurd (h (reply-not l t m (grind (arith, nat_tests))))) (cases_eq m 0)

    moved_holds : (l : Fifo) (t u : ℕ) → FifoSound l → fifo_holds l t ≡ true → fifo_holds (mutex.completed l t) u ≡ ((fifo_holds l u && not (t == u)) || mutex.grants l t u)
    moved_holds l t u g h = complete_holds l t u g h ∙ ap (λ b. (fifo_holds l u && not (t == u)) || b) (sym (gr l u g))

    waited : (l : Fifo) (u : ℕ) → FifoSound l → first (drop l.places l.row) u ≡ true → queued mutex l u ≡ true
    waited l u g y = let a = q l u g in let b = sym (gr l u g) ∙ y in grind (arith, nat_tests)

pub mutex-begins : Begins mutex.start
mutex-begins kind k m l e = let s = starts (kind == 1) (k == 0) (fifo_empty 1) l e in (1, omega arith, s.2)

pub replicas-begins : Begins replicas.start
replicas-begins kind k m l e = let s = starts (kind == 3) (nat_le 1 k && nat_le k m) (fifo_empty k) l e in (k, leb-true 1 k (and_parts (nat_le 1 k) _ s.1).0, s.2)

pub mutex-lawful : Laws mutex
mutex-lawful = fifo-lawful mutex.start mutex-begins

pub replicas-lawful : Laws replicas
replicas-lawful = fifo-lawful replicas.start replicas-begins
