-- A phase-fair reader-writer lock keeps the laws of locks
use Rattle.std.specs.Prelude.{◌≡◌, ℕ, zero, suc, ◌+◌, ◌*◌, ◌<◌, ◌≤◌, Bool, true, false, cond, not, ◌&&◌, ◌||◌, List, [], ◌∷◌, ◌++◌, length, Some, None, Option, Ok, ◌==◌, ◌≢◌, nat_eq, nat_lt, refl}
use Rattle.std.proofs.Common.{sym, ap, ◌∙◌, subst, ⊎_elim, arith}
use Rattle.std.proofs.lemmas.Bool.{cases_Bool, both_ways, false≢true, true≢false, and_from, or_left, or_right, eq-eqb, eqb-true, cond-true, cond-false}
use Rattle.std.proofs.lemmas.Bool.Decides.{nat_tests}
use Rattle.std.proofs.lemmas.List.Folds.{list_any-append}
use Rattle.lock.specs.declared.Reply.{Reply}
use Rattle.lock.specs.declared.Reply.TheVariants.{Granted, Waits}
use Rattle.task_set.specs.Sets.{tally, someone, upto, nobody, less}
use Rattle.task_set.proofs.Passing.{tally-same, someone-at, someone-is}
use Rattle.lock.specs.Words.{first, has, distinct, index}
use Rattle.lock.specs.Model.{queued, member, holding, is_granted, is_waits}
use Rattle.lock.specs.Laws.{Laws}
use Rattle.lock.specs.PhaseFair.{Phase, idle, reading, writing, Rw, holds_in, wrote, mode_in, RestIn, RwSound, rw_admits, asked_in, reply_in, next_writer, ended_in, ends_in, grants_in, writer_turns, reader_turns, rw, rw_empty}
use Rattle.lock.specs.Count.{tally-none, tally-one}
use Rattle.lock.specs.Starts.{starts, exact}
use Rattle.lock.specs.Lists.{distinct_append, distinct-upto, else_false, has-snoc, index-snoc, index-last, distinct_snoc, distinct-rest, head_once, has-upto, members, tally-mono, room}

-- a lock by its parts
abbrev pub mk : Phase → List ℕ → (ℕ → Bool) → Rw
mk ph ws rs = record { phase = ph; writers = ws; readers = rs }

abbrev togo : Phase → List ℕ → ℕ → ℕ
togo ph ws u = cond (has ws u) (writer_turns ph (index ws u)) (reader_turns ph)

nil_not : (x : ℕ) (xs : List ℕ) → (x ∷ xs) ≢ []
nil_not x xs e = let z : ◌≡◌ {A = ℕ} 0 1 = cc in omega arith

pub q : (l : Rw) (u : ℕ) → RwSound l → queued rw l u ≡ (has l.writers u || l.readers u)
q l u g = list_any-append (λ x. x == u) l.writers (upto 64 l.readers) ∙ ap (λ b. has l.writers u || b) (has-upto 64 l.readers u) ∙ (let e = g.each u in grind (arith, nat_tests))

pub small : (l : Rw) (u : ℕ) → RwSound l → (holds_in l.phase u || (has l.writers u || l.readers u)) ≡ true → u < 64
small l u g h = let e = g.each u in grind (arith, nat_tests)

pub mem : (l : Rw) (u : ℕ) → RwSound l → member rw l u ≡ (holds_in l.phase u || (has l.writers u || l.readers u))
mem l u g = ap (λ b. holds_in l.phase u || b) (q l u g)

served : (ph : Phase) (ws : List ℕ) (rs : ℕ → Bool) (t : ℕ) → RestIn ph ws rs → (has ws t || rs t) ≡ true → (u : ℕ) × (holds_in ph u ≡ true)
served idle ws rs t r h = absurd (both_ways (has ws t || rs t) (let a : has ws t ≡ false = ap (λ x. has x t) r.0 in let b = r.1 t in grind (arith, nat_tests)) h)
served (reading s) ws rs t r h = r.0
served (writing w) ws rs t r h = (w, eq-eqb w w refl)

some_turn : (ph : Phase) (ws : List ℕ) (t : ℕ) → 1 ≤ togo ph ws t
some_turn idle ws t = grind (arith, nat_tests)
some_turn (reading s) ws t = grind (arith, nat_tests)
some_turn (writing w) ws t = grind (arith, nat_tests)

-- the holders by their modes
exclusive : (ph : Phase) (ws : List ℕ) (rs : ℕ → Bool) → RwSound (mk ph ws rs) → rw.allows (mk ph ws rs) (holding rw (mk ph ws rs)) ≡ true
exclusive idle ws rs g = or_left _ _ (eq-eqb _ 0 (tally-none 64 _ (λ u _. refl)))
exclusive (reading s) ws rs g = or_left _ _ (eq-eqb _ 0 (tally-none 64 (λ u. s u && mode_in (reading s) ws u == 2) (λ u _. let e = g.each u in grind (arith, nat_tests))))
exclusive (writing w) ws rs g =
    let lt : w < 64 = small (mk (writing w) ws rs) w g (or_left (w == w) _ (eq-eqb w w refl)) in
    or_right _ _ (and_from _ _ (eq-eqb _ 1 (tally-one 64 w (λ u. (w == u) && mode_in (writing w) ws u == 2) lt (λ u. grind (arith, nat_tests)))) (eq-eqb _ 0 (tally-none 64 (λ u. (w == u) && mode_in (writing w) ws u == 1) (λ u _. grind (arith, nat_tests)))))

-- a request, by what is admitted
pub by_request : (l : Rw) (t m : ℕ) (P : Rw → Option Reply → Type 0) → (rw_admits l t m ≡ true → P (asked_in l.phase l.writers l.readers t (m == 1)) (Some (reply_in l.phase l.writers (m == 1)))) → P l None → P (rw.requested l t m) (rw.reply l t m)
by_request l t m P yes-case no-case = go (rw_admits l t m) refl
  where
    go : (b : Bool) → rw_admits l t m ≡ b → P (cond b (asked_in l.phase l.writers l.readers t (m == 1)) l) (cond b (Some (reply_in l.phase l.writers (m == 1))) None)
    go true e = yes-case e
    go false e = no-case

-- who asks is nowhere yet
abbrev free : Phase → List ℕ → (ℕ → Bool) → ℕ → Bool
free ph ws rs t = nat_lt t 64 && not (holds_in ph t || (has ws t || rs t))

freed : (l : Rw) (t m : ℕ) → rw_admits l t m ≡ true → free l.phase l.writers l.readers t ≡ true
freed l t m e = grind (arith, nat_tests)

module _ (rs : ℕ → Bool) (t : ℕ) where
  free-at : (ph : Phase) (ws : List ℕ) (u : ℕ) → free ph ws rs t ≡ true → (t == u) ≡ true → free ph ws rs u ≡ true
  free-at ph ws u f e = subst (λ x. free ph ws rs x ≡ true) (eqb-true t u e) f

  asked-good : (ph : Phase) (ws : List ℕ) (r : Bool) → RwSound (mk ph ws rs) → free ph ws rs t ≡ true → RwSound (asked_in ph ws rs t r)
  asked-good idle ws true g f = record { once = g.once; each = λ u. let e = g.each u in let k = free-at idle ws u f in grind (arith, nat_tests); rest = ((t, eq-eqb t t refl), λ _. g.rest.1) }
  asked-good idle ws false g f = record { once = g.once; each = λ u. let e = g.each u in let k = free-at idle ws u f in grind (arith, nat_tests); rest = tt }
  asked-good (reading s) [] true g f = record { once = refl; each = λ u. let e = g.each u in let k = free-at (reading s) [] u f in grind (arith, nat_tests); rest = ((g.rest.0.0, or_left _ _ g.rest.0.1), g.rest.1) }
  asked-good (reading s) (w ∷ ws) true g f = record { once = g.once; each = λ u. let e = g.each u in let k = free-at (reading s) (w ∷ ws) u f in grind (arith, nat_tests); rest = (g.rest.0, λ e. absurd (nil_not w ws e)) }
  asked-good (reading s) [] false g f = record { once = refl; each = λ u. let e = g.each u in let k = free-at (reading s) [] u f in grind (arith, nat_tests); rest = (g.rest.0, λ e. absurd (nil_not t [] e)) }
  asked-good (reading s) (w ∷ ws) false g f = record {
    once = distinct_snoc (w ∷ ws) t g.once (grind (arith, nat_tests));
    each = λ u. let e = g.each u in let k = free-at (reading s) (w ∷ ws) u f in let a = has-snoc (w ∷ ws) t u in grind (arith, nat_tests);
    rest = (g.rest.0, λ e. absurd (nil_not w (ws ++ (t ∷ [])) e));
  }
  asked-good (writing x) ws true g f = record { once = g.once; each = λ u. let e = g.each u in let k = free-at (writing x) ws u f in grind (arith, nat_tests); rest = tt }
  asked-good (writing x) ws false g f = record {
    once = distinct_snoc ws t g.once (grind (arith, nat_tests));
    each = λ u. let e = g.each u in let k = free-at (writing x) ws u f in let a = has-snoc ws t u in grind (arith, nat_tests);
    rest = tt;
  }

  asked-holds : (ph : Phase) (ws : List ℕ) (r : Bool) (u : ℕ) → holds_in (asked_in ph ws rs t r).phase u ≡ (holds_in ph u || (t == u && is_granted (Some (reply_in ph ws r))))
  asked-holds idle ws true u = grind (arith, nat_tests)
  asked-holds idle ws false u = grind (arith, nat_tests)
  asked-holds (reading s) [] true u = grind (arith, nat_tests)
  asked-holds (reading s) (w ∷ ws) true u = grind (arith, nat_tests)
  asked-holds (reading s) [] false u = grind (arith, nat_tests)
  asked-holds (reading s) (w ∷ ws) false u = grind (arith, nat_tests)
  asked-holds (writing x) ws true u = grind (arith, nat_tests)
  asked-holds (writing x) ws false u = grind (arith, nat_tests)

  asked-queued : (ph : Phase) (ws : List ℕ) (r : Bool) (u : ℕ) → (has (asked_in ph ws rs t r).writers u || (asked_in ph ws rs t r).readers u) ≡ ((has ws u || rs u) || (t == u && is_waits (Some (reply_in ph ws r))))
  asked-queued idle ws true u = grind (arith, nat_tests)
  asked-queued idle ws false u = grind (arith, nat_tests)
  asked-queued (reading s) [] true u = grind (arith, nat_tests)
  asked-queued (reading s) (w ∷ ws) true u = grind (arith, nat_tests)
  asked-queued (reading s) [] false u = grind (arith, nat_tests)
  asked-queued (reading s) (w ∷ ws) false u = let a = has-snoc (w ∷ ws) t u in grind (arith, nat_tests)
  asked-queued (writing x) ws true u = grind (arith, nat_tests)
  asked-queued (writing x) ws false u = let a = has-snoc ws t u in grind (arith, nat_tests)

  -- nobody waits where a request is granted
  asked-turn : (ph : Phase) (ws : List ℕ) (r : Bool) (u : ℕ) → RestIn ph ws rs → (has ws u || rs u) ≡ true → Some (reply_in ph ws r) ≢ Some Granted
  asked-turn idle ws r u k h e = both_ways (has ws u || rs u) (let a : has ws u ≡ false = ap (λ x. has x u) k.0 in let b = k.1 u in grind (arith, nat_tests)) h
  asked-turn (reading s) [] true u k h e = both_ways (rs u) (k.1 refl u) h
  asked-turn (reading s) (w ∷ ws) true u k h e = let z : ◌≡◌ {A = ℕ} 0 1 = cc in omega arith
  asked-turn (reading s) [] false u k h e = let z : ◌≡◌ {A = ℕ} 0 1 = cc in omega arith
  asked-turn (reading s) (w ∷ ws) false u k h e = let z : ◌≡◌ {A = ℕ} 0 1 = cc in omega arith
  asked-turn (writing x) ws r u k h e = let z : ◌≡◌ {A = ℕ} 0 1 = cc in omega arith

  -- one more writer behind the others
  snoc_turns : (ph : Phase) (ws : List ℕ) (u : ℕ) → (has ws u ≡ false → (t == u) ≡ false) → togo ph (ws ++ (t ∷ [])) u ≡ togo ph ws u
  snoc_turns ph ws u ne = ⊎_elim
      (λ (y : has ws u ≡ true). let a : has (ws ++ (t ∷ [])) u ≡ true = has-snoc ws t u ∙ or_left _ _ y in cond-true _ _ _ a ∙ ap (writer_turns ph) (index-snoc ws t u y) ∙ sym (cond-true _ _ _ y))
      (λ (y : has ws u ≡ false). let a : has (ws ++ (t ∷ [])) u ≡ false = has-snoc ws t u ∙ ap (λ b. b || t == u) y ∙ ne y in cond-false _ _ _ a ∙ sym (cond-false _ _ _ y))
      (cases_Bool (has ws u))

  le_of : {a b : ℕ} → a ≡ b → a ≤ b
  le_of e = omega arith

  asked-togo : (ph : Phase) (ws : List ℕ) (r : Bool) (u : ℕ) → RestIn ph ws rs → free ph ws rs t ≡ true → (has ws u || rs u) ≡ true → togo (asked_in ph ws rs t r).phase (asked_in ph ws rs t r).writers u ≤ togo ph ws u
  asked-togo idle ws r u k f h = absurd (asked-turn idle ws true u k h refl)
  asked-togo (reading s) [] true u k f h = absurd (asked-turn (reading s) [] true u k h refl)
  asked-togo (reading s) (w ∷ ws) true u k f h = le_of refl
  asked-togo (reading s) [] false u k f h = absurd (asked-turn (reading s) [] true u k h refl)
  asked-togo (reading s) (w ∷ ws) false u k f h = le_of (snoc_turns (reading s) (w ∷ ws) u (λ y. let j = free-at (reading s) (w ∷ ws) u f in grind (arith, nat_tests)))
  asked-togo (writing x) ws true u k f h = le_of refl
  asked-togo (writing x) ws false u k f h = le_of (snoc_turns (writing x) ws u (λ y. let j = free-at (writing x) ws u f in grind (arith, nat_tests)))

  last_turns : (ph : Phase) (ws : List ℕ) → has ws t ≡ false → togo ph (ws ++ (t ∷ [])) t ≡ writer_turns ph (length ws)
  last_turns ph ws h = let a : has (ws ++ (t ∷ [])) t ≡ true = has-snoc ws t t ∙ or_right _ _ (eq-eqb t t refl) in cond-true _ _ _ a ∙ ap (writer_turns ph) (index-last ws t h)

  asked-new : (ph : Phase) (ws : List ℕ) (r : Bool) (n : ℕ) → RwSound (mk ph ws rs) → free ph ws rs t ≡ true → ((u : ℕ) → n ≤ u → (holds_in ph u || (has ws u || rs u)) ≡ false) → Some (reply_in ph ws r) ≡ Some Waits →
      togo (asked_in ph ws rs t r).phase (asked_in ph ws rs t r).writers t ≤ cond r 2 (2 * tally n (λ u. holds_in ph u || (has ws u || rs u)) + 1)
  asked-new idle ws r n g f out e = let z : ◌≡◌ {A = ℕ} 0 1 = cc in absurd (omega arith)
  asked-new (reading s) [] true n g f out e = let z : ◌≡◌ {A = ℕ} 0 1 = cc in absurd (omega arith)
  asked-new (reading s) (w ∷ ws) true n g f out e = let z : has (w ∷ ws) t ≡ false = grind (arith, nat_tests) in le_of (cond-false _ _ _ z)
  asked-new (reading s) [] false n g f out e = let i : togo (reading s) (t ∷ []) t ≡ 1 = last_turns (reading s) [] refl in omega arith
  asked-new (reading s) (w ∷ ws) false n g f out e =
      let i : togo (reading s) ((w ∷ ws) ++ (t ∷ [])) t ≡ 2 * length (w ∷ ws) + 1 = last_turns (reading s) (w ∷ ws) (grind (arith, nat_tests)) in
      let a : length (w ∷ ws) ≤ tally n (has (w ∷ ws)) = members (w ∷ ws) n g.once (λ u y. let o = out u y in grind (arith, nat_tests)) in
      let b : tally n (has (w ∷ ws)) ≤ tally n (λ u. s u || (has (w ∷ ws) u || rs u)) = tally-mono n _ _ (λ u y. or_right (s u) _ (or_left (has (w ∷ ws) u) _ y)) in
      omega arith
  asked-new (writing x) ws true n g f out e = let z : has ws t ≡ false = grind (arith, nat_tests) in let k : togo (writing x) ws t ≡ 1 = cond-false _ _ _ z in omega arith
  asked-new (writing x) ws false n g f out e =
      let i : togo (writing x) (ws ++ (t ∷ [])) t ≡ 2 * (length ws + 1) = last_turns (writing x) ws (grind (arith, nat_tests)) in
      let h : has ws x ≡ false = (let j = g.each x in let k = eq-eqb x x refl in grind (arith, nat_tests)) in
      let d : distinct (x ∷ ws) ≡ true = and_from (not (has ws x)) _ (ap not h) g.once in
      let a : length (x ∷ ws) ≤ tally n (has (x ∷ ws)) = members (x ∷ ws) n d (λ u y. let o = out u y in grind (arith, nat_tests)) in
      let b : tally n (has (x ∷ ws)) ≤ tally n (λ u. (x == u) || (has ws u || rs u)) = tally-mono n _ _ (λ u y. grind (arith, nat_tests)) in
      let c : length (x ∷ ws) ≡ suc (length ws) = refl in
      omega arith

  -- the modes after a request
  asked-mode : (ph : Phase) (ws : List ℕ) (r : Bool) → free ph ws rs t ≡ true → mode_in (asked_in ph ws rs t r).phase (asked_in ph ws rs t r).writers t ≡ cond r 1 2
  asked-mode idle ws true f = grind (arith, nat_tests)
  asked-mode idle ws false f = grind (arith, nat_tests)
  asked-mode (reading s) [] true f = refl
  asked-mode (reading s) (w ∷ ws) true f = grind (arith, nat_tests)
  asked-mode (reading s) [] false f = grind (arith, nat_tests)
  asked-mode (reading s) (w ∷ ws) false f = let a = has-snoc (w ∷ ws) t t in let e = eq-eqb t t refl in grind (arith, nat_tests)
  asked-mode (writing x) ws true f = grind (arith, nat_tests)
  asked-mode (writing x) ws false f = let a = has-snoc ws t t in let e = eq-eqb t t refl in grind (arith, nat_tests)

  asked-modes : (ph : Phase) (ws : List ℕ) (r : Bool) (u : ℕ) → free ph ws rs t ≡ true → (holds_in ph u || (has ws u || rs u)) ≡ true → mode_in (asked_in ph ws rs t r).phase (asked_in ph ws rs t r).writers u ≡ mode_in ph ws u
  asked-modes idle ws true u f h = refl
  asked-modes idle ws false u f h = let k = free-at idle ws u f in grind (arith, nat_tests)
  asked-modes (reading s) [] true u f h = refl
  asked-modes (reading s) (w ∷ ws) true u f h = refl
  asked-modes (reading s) [] false u f h = let k = free-at (reading s) [] u f in grind (arith, nat_tests)
  asked-modes (reading s) (w ∷ ws) false u f h = let k = free-at (reading s) (w ∷ ws) u f in let a = has-snoc (w ∷ ws) t u in grind (arith, nat_tests)
  asked-modes (writing x) ws true u f h = refl
  asked-modes (writing x) ws false u f h = let k = free-at (writing x) ws u f in let a = has-snoc ws t u in grind (arith, nat_tests)

-- a completion, by its six ways: `ph` and `ws` before, the lock after, the granted, and whether a turn ended
module _ (rs : ℕ → Bool) (t : ℕ) (P : Phase → List ℕ → Rw → (ℕ → Bool) → Bool → Type 0)
    (read-on : (s : ℕ → Bool) (ws : List ℕ) → someone 64 (less s t) ≡ true → P (reading s) ws (mk (reading (less s t)) ws rs) nobody false)
    (read-last : (s : ℕ → Bool) → someone 64 (less s t) ≡ false → P (reading s) [] (mk idle [] rs) nobody true)
    (read-write : (s : ℕ → Bool) (w : ℕ) (ws : List ℕ) → someone 64 (less s t) ≡ false → P (reading s) (w ∷ ws) (mk (writing w) ws rs) (λ u. (w == u) && nat_lt u 64) true)
    (write_read : (x : ℕ) (ws : List ℕ) → someone 64 rs ≡ true → P (writing x) ws (mk (reading rs) ws nobody) rs true)
    (write-last : (x : ℕ) → someone 64 rs ≡ false → P (writing x) [] (mk idle [] rs) nobody true)
    (write-write : (x w : ℕ) (ws : List ℕ) → someone 64 rs ≡ false → P (writing x) (w ∷ ws) (mk (writing w) ws rs) (λ u. (w == u) && nat_lt u 64) true) where
  by_complete : (ph : Phase) (ws : List ℕ) → holds_in ph t ≡ true → P ph ws (ended_in ph ws rs t) (λ u. grants_in ph ws rs t u) (ends_in ph t)
  by_complete idle ws h = absurd (false≢true h)
  by_complete (reading s) ws h = go (someone 64 (less s t)) ws refl
    where
      go : (b : Bool) (ws : List ℕ) → someone 64 (less s t) ≡ b → P (reading s) ws (cond b (mk (reading (less s t)) ws rs) (next_writer ws rs)) (λ u. cond b false (first ws u)) (not b)
      go true ws e = read-on s ws e
      go false [] e = read-last s e
      go false (w ∷ ws) e = read-write s w ws e
  by_complete (writing x) ws h = go (someone 64 rs) ws refl
    where
      go : (b : Bool) (ws : List ℕ) → someone 64 rs ≡ b → P (writing x) ws (cond b (mk (reading rs) ws nobody) (next_writer ws rs)) (λ u. cond b (rs u) (first ws u)) true
      go true ws e = write_read x ws e
      go false [] e = write-last x e
      go false (w ∷ ws) e = write-write x w ws e

module _ (rs : ℕ → Bool) (t : ℕ) where
  -- when the last reader is out there is no other, and when no reader waits there is none
  alone : (s : ℕ → Bool) (ws : List ℕ) → RwSound (mk (reading s) ws rs) → someone 64 (less s t) ≡ false → (u : ℕ) → s u ≡ true → (t == u) ≡ true
  alone s ws g n u h = ⊎_elim (λ (y : nat_eq t u ≡ true). y)
      (λ (y : nat_eq t u ≡ false). absurd (both_ways _ n (someone-at 64 (less s t) u (small (mk (reading s) ws rs) u g (or_left _ _ h)) (and_from (s u) _ h (ap not y)))))
      (cases_Bool (t == u))

  unread : (ph : Phase) (ws : List ℕ) → RwSound (mk ph ws rs) → someone 64 rs ≡ false → (u : ℕ) → rs u ≡ false
  unread ph ws g n u = else_false _ (λ y. both_ways _ n (someone-at 64 rs u (small (mk ph ws rs) u g (or_right (holds_in ph u) _ (or_right (has ws u) _ y))) y))

  abbrev Sound : Phase → List ℕ → Rw → (ℕ → Bool) → Bool → Type 0
  Sound ph ws l gr e = RwSound (mk ph ws rs) → RwSound l

  ended-good : (ph : Phase) (ws : List ℕ) → holds_in ph t ≡ true → RwSound (mk ph ws rs) → RwSound (ended_in ph ws rs t)
  ended-good = by_complete rs t Sound
      (λ s ws e g. record { once = g.once; each = λ u. let k = g.each u in grind (arith, nat_tests); rest = (someone-is 64 (less s t) e, g.rest.1) })
      (λ s e g. record { once = refl; each = λ u. let k = g.each u in grind (arith, nat_tests); rest = (refl, g.rest.1 refl) })
      (λ s w ws e g. record { once = distinct-rest w ws g.once; each = λ u. let k = g.each u in let o = head_once w ws u g.once in grind (arith, nat_tests); rest = tt })
      (λ x ws e g. record { once = g.once; each = λ u. let k = g.each u in grind (arith, nat_tests); rest = (someone-is 64 rs e, λ _ u. refl) })
      (λ x e g. record { once = refl; each = λ u. let k = g.each u in grind (arith, nat_tests); rest = (refl, unread (writing x) [] g e) })
      (λ x w ws e g. record { once = distinct-rest w ws g.once; each = λ u. let k = g.each u in let o = head_once w ws u g.once in grind (arith, nat_tests); rest = tt })

  -- who moves
  abbrev Moves : ℕ → Phase → List ℕ → Rw → (ℕ → Bool) → Bool → Type 0
  Moves u ph ws l gr e = RwSound (mk ph ws rs) → holds_in ph t ≡ true →
      (holds_in l.phase u ≡ ((holds_in ph u && not (t == u)) || gr u)) × ((has l.writers u || l.readers u) ≡ ((has ws u || rs u) && not (gr u))) × (gr u ≡ true → (has ws u || rs u) ≡ true)

  ended-moves : (u : ℕ) (ph : Phase) (ws : List ℕ) → (h : holds_in ph t ≡ true) → Moves u ph ws (ended_in ph ws rs t) (λ u. grants_in ph ws rs t u) (ends_in ph t)
  ended-moves u = by_complete rs t (Moves u)
      (λ s ws e g h. (grind (arith, nat_tests), grind (arith, nat_tests), λ y. absurd (false≢true y)))
      (λ s e g h. let a = alone s [] g e u in (grind (arith, nat_tests), grind (arith, nat_tests), λ y. absurd (false≢true y)))
      (λ s w ws e g h. let a = alone s (w ∷ ws) g e u in let k = g.each u in let o = head_once w ws u g.once in (grind (arith, nat_tests), grind (arith, nat_tests), λ y. grind (arith, nat_tests)))
      (λ x ws e g h. let k = g.each u in (grind (arith, nat_tests), grind (arith, nat_tests), λ y. grind (arith, nat_tests)))
      (λ x e g h. (grind (arith, nat_tests), grind (arith, nat_tests), λ y. absurd (false≢true y)))
      (λ x w ws e g h. let k = g.each u in let o = head_once w ws u g.once in (grind (arith, nat_tests), grind (arith, nat_tests), λ y. grind (arith, nat_tests)))

  abbrev Turns : ℕ → Phase → List ℕ → Rw → (ℕ → Bool) → Bool → Type 0
  Turns u ph ws l gr e = RwSound (mk ph ws rs) →
      (e ≡ false → (gr u ≡ false) × (togo l.phase l.writers u ≡ togo ph ws u)) × (e ≡ true → (has l.writers u || l.readers u) ≡ true → togo l.phase l.writers u < togo ph ws u)

  ended-turns : (u : ℕ) (ph : Phase) (ws : List ℕ) → (h : holds_in ph t ≡ true) → Turns u ph ws (ended_in ph ws rs t) (λ u. grants_in ph ws rs t u) (ends_in ph t)
  ended-turns u = by_complete rs t (Turns u)
      (λ s ws e g. ((λ _. (refl, refl)), λ y. absurd (false≢true y)))
      (λ s e g. ((λ y. absurd (true≢false y)), λ _ h. absurd (both_ways (rs u) (g.rest.1 refl u) h)))
      (λ s w ws e g. ((λ y. absurd (true≢false y)), λ _ h. let k = g.each u in let o = head_once w ws u g.once in grind (arith, nat_tests)))
      (λ x ws e g. ((λ y. absurd (true≢false y)), λ _ h. grind (arith, nat_tests)))
      (λ x e g. ((λ y. absurd (true≢false y)), λ _ h. absurd (both_ways (rs u) (unread (writing x) [] g e u) h)))
      (λ x w ws e g. ((λ y. absurd (true≢false y)), λ _ h. let k = g.each u in let n = unread (writing x) (w ∷ ws) g e u in let o = head_once w ws u g.once in grind (arith, nat_tests)))

  -- the modes after a completion
  abbrev Modes : ℕ → Phase → List ℕ → Rw → (ℕ → Bool) → Bool → Type 0
  Modes u ph ws l gr e = RwSound (mk ph ws rs) → (holds_in l.phase u || (has l.writers u || l.readers u)) ≡ true → mode_in l.phase l.writers u ≡ mode_in ph ws u

  ended-modes : (u : ℕ) (ph : Phase) (ws : List ℕ) → (h : holds_in ph t ≡ true) → Modes u ph ws (ended_in ph ws rs t) (λ u. grants_in ph ws rs t u) (ends_in ph t)
  ended-modes u = by_complete rs t (Modes u)
      (λ s ws e g h. refl)
      (λ s e g h. refl)
      (λ s w ws e g h. grind (arith, nat_tests))
      (λ x ws e g h. let k = g.each u in grind (arith, nat_tests))
      (λ x e g h. absurd (both_ways (rs u) (unread (writing x) [] g e u) h))
      (λ x w ws e g h. let k = g.each u in let n = unread (writing x) (w ∷ ws) g e u in let o = head_once w ws u g.once in grind (arith, nat_tests))

-- the lock after a completion that is taken
module _ (l : Rw) (t : ℕ) (h : holds_in l.phase t ≡ true) where
  after : rw.completed l t ≡ ended_in l.phase l.writers l.readers t
  after = cond-true _ _ _ h

complete_good : (l : Rw) (t : ℕ) → RwSound l → RwSound (rw.completed l t)
complete_good l t g = go (holds_in l.phase t) refl
  where
    go : (b : Bool) → holds_in l.phase t ≡ b → RwSound (cond b (ended_in l.phase l.writers l.readers t) l)
    go true e = ended-good l.readers t l.phase l.writers e g
    go false e = g

request_good : (l : Rw) (t m : ℕ) → RwSound l → RwSound (rw.requested l t m)
request_good l t m g = by_request l t m (λ x r. RwSound x) (λ e. asked-good l.readers t l.phase l.writers (m == 1) g (freed l t m e)) g

or_none : (a b : Bool) → a ≡ (a || (b && false))
or_none true b = refl
or_none false true = refl
or_none false false = refl

request_holds : (l : Rw) (t m u : ℕ) → RwSound l → rw.holds (rw.requested l t m) u ≡ (rw.holds l u || (t == u && is_granted (rw.reply l t m)))
request_holds l t m u g = by_request l t m (λ x r. holds_in x.phase u ≡ (holds_in l.phase u || (t == u && is_granted r)))
    (λ e. asked-holds l.readers t l.phase l.writers (m == 1) u) (or_none (holds_in l.phase u) (t == u))

request_queued : (l : Rw) (t m u : ℕ) → RwSound l → queued rw (rw.requested l t m) u ≡ (queued rw l u || (t == u && is_waits (rw.reply l t m)))
request_queued l t m u g = q (rw.requested l t m) u (request_good l t m g)
    ∙ by_request l t m (λ x r. (has x.writers u || x.readers u) ≡ ((has l.writers u || l.readers u) || (t == u && is_waits r)))
    (λ e. asked-queued l.readers t l.phase l.writers (m == 1) u) (or_none (has l.writers u || l.readers u) (t == u))
    ∙ ap (λ b. b || (t == u && is_waits (rw.reply l t m))) (sym (q l u g))

request_togo : (l : Rw) (t m u : ℕ) → RwSound l → queued rw l u ≡ true → rw.togo (rw.requested l t m) u ≤ rw.togo l u
request_togo l t m u g h = by_request l t m (λ x r. togo x.phase x.writers u ≤ togo l.phase l.writers u)
    (λ e. asked-togo l.readers t l.phase l.writers (m == 1) u g.rest (freed l t m e) (sym (q l u g) ∙ h)) (omega arith)

request_turn : (l : Rw) (t m u : ℕ) → RwSound l → queued rw l u ≡ true → rw.reply l t m ≢ Some Granted
request_turn l t m u g h = by_request l t m (λ x r. r ≢ Some Granted)
    (λ e. asked-turn l.readers t l.phase l.writers (m == 1) u g.rest (sym (q l u g) ∙ h)) (λ e. let z : ◌≡◌ {A = ℕ} 0 1 = cc in omega arith)

newcomer : (l : Rw) (t m n : ℕ) → RwSound l → ((u : ℕ) → n ≤ u → member rw l u ≡ false) → rw.reply l t m ≡ Some Waits → rw.togo (rw.requested l t m) t ≤ rw.limit l m (tally n (member rw l))
newcomer l t m n g out = by_request l t m (λ x r. r ≡ Some Waits → togo x.phase x.writers t ≤ rw.limit l m (tally n (member rw l)))
    (λ e y. subst (λ k. togo (asked_in l.phase l.writers l.readers t (m == 1)).phase (asked_in l.phase l.writers l.readers t (m == 1)).writers t ≤ cond (m == 1) 2 (2 * k + 1))
    (tally-same n _ _ (λ u _. sym (mem l u g)))
    (asked-new l.readers t l.phase l.writers (m == 1) n g (freed l t m e) (λ u k. sym (mem l u g) ∙ out u k) y))
    (λ e. let z : ◌≡◌ {A = ℕ} 0 1 = cc in absurd (omega arith))

complete_holds : (l : Rw) (t u : ℕ) → RwSound l → rw.holds l t ≡ true → rw.holds (rw.completed l t) u ≡ ((rw.holds l u && not (t == u)) || rw.grants l t u)
complete_holds l t u g h = ap (λ x. holds_in x.phase u) (after l t h) ∙ (ended-moves l.readers t u l.phase l.writers h g h).0

complete_queued : (l : Rw) (t u : ℕ) → RwSound l → rw.holds l t ≡ true → queued rw (rw.completed l t) u ≡ (queued rw l u && not (rw.grants l t u))
complete_queued l t u g h = q (rw.completed l t) u (complete_good l t g)
    ∙ ap (λ (x : Rw). has x.writers u || x.readers u) (after l t h)
    ∙ (ended-moves l.readers t u l.phase l.writers h g h).1
    ∙ ap (λ b. b && not (rw.grants l t u)) (sym (q l u g))

turn_ends : (l : Rw) (t u : ℕ) → RwSound l → rw.holds l t ≡ true → rw.ends l t ≡ true → queued rw (rw.completed l t) u ≡ true → rw.togo (rw.completed l t) u < rw.togo l u
turn_ends l t u g h e y = subst (λ (x : Rw). togo x.phase x.writers u < togo l.phase l.writers u) (sym (after l t h))
    ((ended-turns l.readers t u l.phase l.writers h g).1 e (sym (ap (λ (x : Rw). has x.writers u || x.readers u) (after l t h)) ∙ sym (q (rw.completed l t) u (complete_good l t g)) ∙ y))

reply-not : (l : Rw) (t m : ℕ) → rw_admits l t m ≡ false → rw.reply l t m ≡ None
reply-not l t m e = cond-false _ _ _ e

reply-some : (r : Reply) → Some r ≢ None
reply-some r e = let z : ◌≡◌ {A = ℕ} 0 1 = cc in omega arith

taken : (l : Rw) (t m : ℕ) → RwSound l → t < 64 → member rw l t ≡ false → rw.fits l m ≡ true → rw.reply l t m ≢ None
taken l t m g lt h f e =
    let a : (holds_in l.phase t || (has l.writers t || l.readers t)) ≡ false = sym (mem l t g) ∙ h in
    let r : length l.writers < 64 = room l.writers t g.once (λ u y. small l u g (or_right _ _ (or_left _ _ y))) lt (grind (arith, nat_tests)) in
    let k : rw_admits l t m ≡ true = grind (arith, nat_tests) in
    reply-some (reply_in l.phase l.writers (m == 1)) (sym (cond-true _ _ _ k) ∙ e)

empty-good : RwSound rw_empty
empty-good = record { once = refl; each = λ u. refl; rest = (refl, λ u. refl) }

request_mode : (l : Rw) (t m : ℕ) → RwSound l → (rw.reply l t m ≢ None) → rw.mode (rw.requested l t m) t ≡ m
request_mode l t m g = by_request l t m (λ x r. (r ≢ None) → mode_in x.phase x.writers t ≡ m)
    (λ e h. asked-mode l.readers t l.phase l.writers (m == 1) (freed l t m e) ∙ grind (arith, nat_tests))
    (λ h. absurd (h refl))

request_modes : (l : Rw) (t m u : ℕ) → RwSound l → member rw l u ≡ true → rw.mode (rw.requested l t m) u ≡ rw.mode l u
request_modes l t m u g h = by_request l t m (λ x r. mode_in x.phase x.writers u ≡ rw.mode l u)
    (λ e. asked-modes l.readers t l.phase l.writers (m == 1) u (freed l t m e) (sym (mem l u g) ∙ h)) refl

complete_modes : (l : Rw) (t u : ℕ) → RwSound l → member rw (rw.completed l t) u ≡ true → rw.mode (rw.completed l t) u ≡ rw.mode l u
complete_modes l t u g h = go (holds_in l.phase t) refl (sym (mem (rw.completed l t) u (complete_good l t g)) ∙ h)
  where
    go : (b : Bool) → holds_in l.phase t ≡ b → (let x = cond b (ended_in l.phase l.writers l.readers t) l in (holds_in x.phase u || (has x.writers u || x.readers u)) ≡ true → mode_in x.phase x.writers u ≡ rw.mode l u)
    go true e k = ended-modes l.readers t u l.phase l.writers e g k
    go false e k = refl

apart : (l : Rw) (t : ℕ) → RwSound l → rw.holds l t ≡ true → queued rw l t ≡ false
apart l t g h = q l t g ∙ (let e = g.each t in grind (arith, nat_tests))

grants-waited : (l : Rw) (t u : ℕ) → RwSound l → rw.holds l t ≡ true → rw.grants l t u ≡ true → queued rw l u ≡ true
grants-waited l t u g h y = q l u g ∙ (ended-moves l.readers t u l.phase l.writers h g h).2 y

numbered : (l : Rw) (t : ℕ) → RwSound l → member rw l t ≡ true → t < 64
numbered l t g h = small l t g (sym (mem l t g) ∙ h)

mode_fits : (b : Bool) → (cond b 2 1 == 1 || cond b 2 1 == 2) ≡ true
mode_fits true = refl
mode_fits false = refl

starts_empty : (kind k m : ℕ) (l : Rw) → rw.start kind k m ≡ Ok l → rw_empty ≡ l
starts_empty kind k m l e = (starts (kind == 2) (k == 0) rw_empty l e).2

nobody-listed : (n : ℕ) → upto n nobody ≡ []
unfolding upto
nobody-listed zero = refl
nobody-listed (suc n) = ap (λ xs. xs ++ []) (nobody-listed n)

pub rw-lawful : Laws rw
rw-lawful = record {
  start_sound = λ kind k m l e. subst RwSound (starts_empty kind k m l e) empty-good;
  start_unheld = λ kind k m u l e. ap (λ (x : Rw). holds_in x.phase u) (sym (starts_empty kind k m l e));
  start_list = λ kind k m l e. ap rw.list (sym (starts_empty kind k m l e)) ∙ nobody-listed 64;
  apart = apart;
  served = λ l t g h. served l.phase l.writers l.readers t g.rest (sym (q l t g) ∙ h);
  some_turn = λ l t g h. some_turn l.phase l.writers t;
  numbered = numbered;
  listed_once = λ l g. distinct_append l.writers (upto 64 l.readers) g.once (distinct-upto 64 l.readers)
      (λ u y. has-upto 64 l.readers u ∙ (let e = g.each u in grind (arith, nat_tests)));
  mode_fits = λ l t g h. mode_fits (wrote l.phase t || has l.writers t);
  exclusive = λ l g. exclusive l.phase l.writers l.readers g;
  request_sound = request_good;
  request_holds = request_holds;
  request_queued = request_queued;
  request_togo = request_togo;
  request_mode = request_mode;
  request_modes = request_modes;
  request_turn = request_turn;
  newcomer = λ l t m g. newcomer l t m 64 g (λ u h. else_false _ (λ y. let k = numbered l u g y in omega arith));
  grows = λ l m o p h. grind (arith, nat_tests);
  complete_sound = complete_good;
  complete_holds = complete_holds;
  complete_queued = complete_queued;
  complete_modes = complete_modes;
  granted_are = λ l t u g h. exact (rw.holds l u) (queued rw l u) (t == u) (rw.grants l t u) _ (apart l u g) (grants-waited l t u g h) (complete_holds l t u g h);
  none_granted = λ l t u g h e. ((ended-turns l.readers t u l.phase l.writers h g).0 e).0;
  turns_stay = λ l t u g h e y. ap (λ (x : Rw). togo x.phase x.writers u) (after l t h) ∙ ((ended-turns l.readers t u l.phase l.writers h g).0 e).1;
  turn_ends = turn_ends;
  busy = λ l t m g h. reply-not l t m (let a = mem l t g in grind (arith, nat_tests));
  unfit = λ l t m h. reply-not l t m (grind (arith, nat_tests));
  above = λ l t m h. reply-not l t m (grind (arith, nat_tests));
  taken = taken;
  request_declined = λ l t m. by_request l t m (λ x r. r ≡ None → x ≡ l) (λ e y. absurd (reply-some (reply_in l.phase l.writers (m == 1)) y)) (λ y. refl);
  complete_declined = λ l t h. cond-false _ _ _ h;
  request_limit = λ l t m mode o. refl;
  complete_limit = λ l t mode o. refl;
  request_fits = λ l t m mode. refl;
  complete_fits = λ l t mode. refl;
  request_allows = λ l t m c. refl;
  complete_allows = λ l t c. refl;
}
