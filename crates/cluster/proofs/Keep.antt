-- What keeps a cluster's list true: one more, one fewer, and changes that leave who is pending
use Rattle.std.proofs.Common.{◌≡◌, ℕ, zero, suc, ◌+◌, ◌<◌, Bool, true, false, cond, not, ◌&&◌, ◌||◌, eqb, List, [], ◌∷◌, length, get_or, sym, refl, ap, ◌∙◌, subst, ⊎_elim, arith}
use Rattle.std.specs.List.{remove}
use Rattle.std.proofs.lemmas.Bool.{cases_Bool, cases_eq, and_parts, and_from, and_left, and_right, or_cases, or_parts, or_left, or_right, both_ways, eqb-true, eqb-false, eq-eqb, ne_eqb, not_from_true, not_from_false}
use Rattle.order.specs.declared.Entry.{Entry}
use Rattle.ordered.specs.Ranks.{Ranks, Sorted, Fresh, ranked, found}
use Rattle.ordered.proofs.Sortedness.{ranked-sorted, removed-sorted}
use Rattle.order.specs.Urgency.{Lawful}
use Rattle.cluster.specs.Listing.{has}
use Rattle.model.specs.Tally.{tally}
use Rattle.model.specs.declared.Condition.TheVariants.{Idle}
use Rattle.model.specs.Words.{Plan, State, is_pending, pending, goes}
use Rattle.model.specs.Rules.{arrive, become}
use Rattle.model.proofs.Count.{tally-all, tally-more}
use Rattle.model.proofs.Basics.{put-here, put-there}
use Rattle.model.proofs.Schedule.{ordered}
use Rattle.cluster.specs.Listing.{Listed, tasks_of, Marked, urgent}
use Rattle.cluster.proofs.Line.{has-read, leads_has, fresh}
use Rattle.cluster.proofs.Bridge.{line, count-is}

or_swap : (a b c : Bool) → (a || (b || c)) ≡ (b || (a || c))
or_swap true true c = refl
or_swap true false c = refl
or_swap false b c = refl

pub ranks : {M : Type 0} (before : M → ℕ → M → ℕ → Bool) → Lawful before → Ranks {E = Entry M} (λ e. e.task) (urgent before)
ranks before law = record {
  irreflexive = λ a. law.never_itself a.mark a.task;
  transitive = λ a b c p q. law.carries a.mark b.mark c.mark a.task b.task c.task p q;
  different = λ a b ne. law.decides b.mark a.mark b.task a.task (λ e. ne (sym e));
}

module _ {M : Type 0} (before : Entry M → Entry M → Bool) where
  pub has-ranked : (e : Entry M) (es : List (Entry M)) (u : ℕ) → has (tasks_of (ranked before e es)) u ≡ (eqb e.task u || has (tasks_of es) u)
  has-ranked e [] u = refl
  has-ranked e (x ∷ xs) u = elim (before x e) as (λ b. has (tasks_of (cond b (x ∷ ranked before e xs) (e ∷ x ∷ xs))) u ≡ (eqb e.task u || (eqb x.task u || has (tasks_of xs) u)))
      [ true ↦ ap (λ b. eqb x.task u || b) (has-ranked e xs u) ∙ or_swap (eqb x.task u) (eqb e.task u) _ | false ↦ refl ]

  marked_ranked : (mark : ℕ → M) (e : Entry M) (es : List (Entry M)) → e.mark ≡ mark e.task → Marked mark es → Marked mark (ranked before e es)
  marked_ranked mark e [] m ms = (m, tt)
  marked_ranked mark e (x ∷ xs) m ms = elim (before x e) as (λ b. Marked mark (cond b (x ∷ ranked before e xs) (e ∷ x ∷ xs)))
      [ true ↦ (ms.0, marked_ranked mark e xs m ms.1) | false ↦ (m, ms) ]

marked_removed : {M : Type 0} (mark : ℕ → M) (es : List (Entry M)) (i : ℕ) → Marked mark es → Marked mark (remove es i)
marked_removed mark [] zero s = tt
marked_removed mark [] (suc i) s = tt
marked_removed mark (e ∷ es) zero s = s.1
marked_removed mark (e ∷ es) (suc i) s = (s.0, marked_removed mark es i s.1)

pub tasks-removed : {M : Type 0} (es : List (Entry M)) (i : ℕ) → tasks_of (remove es i) ≡ remove (tasks_of es) i
tasks-removed [] zero = refl
tasks-removed [] (suc i) = refl
tasks-removed (e ∷ es) zero = refl
tasks-removed (e ∷ es) (suc i) = ap (λ ts. e.task ∷ ts) (tasks-removed es i)

marked_same : {M : Type 0} (old new : ℕ → M) (es : List (Entry M)) → ((t : ℕ) → has (tasks_of es) t ≡ true → new t ≡ old t) → Marked old es → Marked new es
marked_same old new [] h ms = tt
marked_same old new (e ∷ es) h ms =
    (ms.0 ∙ sym (h e.task (or_left (eqb e.task e.task) _ (eq-eqb e.task e.task refl))), marked_same old new es (λ t y. h t (or_right (eqb e.task t) _ y)) ms.1)

fresh_key : {M : Type 0} (t : ℕ) (es : List (Entry M)) → has (tasks_of es) t ≡ false → Fresh (λ e. e.task) t es
fresh_key t [] h = tt
fresh_key t (e ∷ es) h = let p = or_parts (eqb e.task t) _ h in (eqb-false e.task t p.0, fresh_key t es p.1)

pub length-tasks : {M : Type 0} (es : List (Entry M)) → length (tasks_of es) ≡ length es
length-tasks [] = refl
length-tasks (e ∷ es) = let r : length (tasks_of es) ≡ length es = length-tasks es in omega arith

-- where the list is searched for a task that it has
pub found_at : {M : Type 0} (t : ℕ) (es : List (Entry M)) → has (tasks_of es) t ≡ true → (found (λ e. e.task) t es < length (tasks_of es)) × (get_or (tasks_of es) (found (λ e. e.task) t es) 0 ≡ t)
found_at t [] h = absurd (both_ways false refl h)
found_at t (e ∷ es) h = ⊎_elim
    (λ (y : eqb e.task t ≡ true).
    let z : found (λ e. e.task) t (e ∷ es) ≡ 0 = ap (λ b. cond (not b) (1 + found (λ e. e.task) t es) 0) y in
    (omega arith, ap (λ i. get_or (e.task ∷ tasks_of es) i 0) z ∙ eqb-true e.task t y))
    (λ (y : eqb e.task t ≡ false).
    let z : found (λ e. e.task) t (e ∷ es) ≡ suc (found (λ e. e.task) t es) = ap (λ b. cond (not b) (1 + found (λ e. e.task) t es) 0) y ∙ omega arith in
    let r = found_at t es (ap (λ b. b || has (tasks_of es) t) (sym y) ∙ h) in
    let l : found (λ e. e.task) t es < length (tasks_of es) = r.0 in
    (omega arith, ap (λ i. get_or (e.task ∷ tasks_of es) i 0) z ∙ r.1))
    (cases_Bool (eqb e.task t))

has-removed : (goes : ℕ → ℕ → Bool) → ((t : ℕ) → goes t t ≡ false) → ((t u v : ℕ) → goes t u ≡ true → goes u v ≡ true → goes t v ≡ true)
    → (ts : List ℕ) (i u : ℕ) → Sorted goes ts → i < length ts → has (remove ts i) u ≡ (not (eqb u (get_or ts i 0)) && has ts u)
has-removed goes never carries [] i u s l = absurd (omega arith)
has-removed goes never carries (x ∷ xs) zero u s l = ⊎_elim
    (λ (e : u ≡ x).
    let f : has xs u ≡ false = ap (has xs) e ∙ fresh goes never carries x xs s.0 in
    f ∙ sym (and_left (not (eqb u x)) _ (not_from_true (eqb u x) (eq-eqb u x e))))
    (λ (ne : u ≡ x → ⊥).
    let a : eqb u x ≡ false = ne_eqb u x ne in
    let b : eqb x u ≡ false = ne_eqb x u (λ z. ne (sym z)) in
    rw (a, b))
    (cases_eq u x)
has-removed goes never carries (x ∷ xs) (suc i) u s l =
    let r : has (remove xs i) u ≡ (not (eqb u (get_or xs i 0)) && has xs u) = has-removed goes never carries xs i u s.1 (omega arith) in
    ⊎_elim
    (λ (e : u ≡ x).
    let g : goes x (get_or xs i 0) ≡ true = leads_has goes never carries x xs (get_or xs i 0) s.0 (has-read xs i (omega arith)) in
    let a : eqb x u ≡ true = eq-eqb x u (sym e) in
    let b : eqb u (get_or xs i 0) ≡ false = ne_eqb u (get_or xs i 0) (λ z. both_ways (goes x x) (never x) (ap (goes x) (sym e ∙ z) ∙ g)) in
    or_left (eqb x u) _ a ∙ sym (and_from (not (eqb u (get_or xs i 0))) _ (not_from_false _ b) (or_left (eqb x u) _ a)))
    (λ (ne : u ≡ x → ⊥).
    let b : eqb x u ≡ false = ne_eqb x u (λ z. ne (sym z)) in
    rw b r)
    (cases_eq u x)

module _ {M : Type 0} (P : Plan M) where
  -- nobody of the cluster becomes pending or leaves, and marks stay
  pub listed_kept : (s z : State M) (k : ℕ) (es : List (Entry M)) → Listed P s k es
      → ((t : ℕ) → P.cluster t ≡ k → pending P z t ≡ pending P s t)
      → ((t : ℕ) → P.cluster t ≡ k → z.mark t ≡ s.mark t)
      → Listed P z k es
  listed_kept s z k es li p m = record {
    sorted = li.sorted;
    exactly = λ t. li.exactly t ∙ ⊎_elim
        (λ (c : P.cluster t ≡ k). ap (λ b. b && eqb (P.cluster t) k) (sym (p t c)))
        (λ (c : P.cluster t ≡ k → ⊥). and_right (pending P s t) _ (ne_eqb _ _ c) ∙ sym (and_right (pending P z t) _ (ne_eqb _ _ c)))
        (cases_eq (P.cluster t) k);
    marks = marked_same s.mark z.mark es (λ t h. m t (eqb-true _ _ (and_parts (pending P s t) _ (sym (li.exactly t) ∙ h)).1)) li.marks;
    within = li.within;
  }

  module _ (law : Lawful P.order.before) where
    -- t becomes pending
    pub listed_insert : (s z : State M) (k t : ℕ) (x : M) (es : List (Entry M)) → Listed P s k es
        → t < P.tasks → P.cluster t ≡ k → pending P s t ≡ false → pending P z t ≡ true → z.mark t ≡ x
        → ((u : ℕ) → (u ≡ t → ⊥) → pending P z u ≡ pending P s u)
        → ((u : ℕ) → (u ≡ t → ⊥) → z.mark u ≡ s.mark u)
        → Listed P z k (ranked (urgent P.order.before) (record { mark = x; task = t }) es)
    listed_insert s z k t x es li lt c no' is mt p m =
        let f : has (tasks_of es) t ≡ false = li.exactly t ∙ and_left (pending P s t) _ no' in
        record {
          sorted = ranked-sorted (ranks P.order.before law) (record { mark = x; task = t }) es li.sorted (fresh_key t es f);
          exactly = λ u. has-ranked (urgent P.order.before) (record { mark = x; task = t }) es u ∙ ⊎_elim
              (λ (e : u ≡ t). or_left (eqb t u) _ (eq-eqb t u (sym e)) ∙ sym (and_from (pending P z u) _ (ap (pending P z) e ∙ is) (eq-eqb _ _ (ap P.cluster e ∙ c))))
              (λ (ne : u ≡ t → ⊥). let b : eqb t u ≡ false = ne_eqb t u (λ q. ne (sym q)) in
              ap (λ b. b || has (tasks_of es) u) b ∙ (li.exactly u ∙ ap (λ b. b && eqb (P.cluster u) k) (sym (p u ne))))
              (cases_eq u t);
          marks = marked_ranked (urgent P.order.before) z.mark (record { mark = x; task = t }) es (sym mt) (marked_same s.mark z.mark es (λ u h. m u (λ e. both_ways (has (tasks_of es) t) f (ap (has (tasks_of es)) (sym e) ∙ h))) li.marks);
          within = λ u h. ⊎_elim
              (λ (e : eqb t u ≡ true). subst (λ v. v < P.tasks) (eqb-true t u e) lt)
              (λ (e : has (tasks_of es) u ≡ true). li.within u e)
              (or_cases (eqb t u) _ (sym (has-ranked (urgent P.order.before) (record { mark = x; task = t }) es u) ∙ h));
        }

    -- t, which stands at i, leaves
    pub listed_remove : (s z : State M) (k t i : ℕ) (es : List (Entry M)) → Listed P s k es
        → i < length (tasks_of es) → get_or (tasks_of es) i 0 ≡ t → pending P z t ≡ false
        → ((u : ℕ) → (u ≡ t → ⊥) → pending P z u ≡ pending P s u)
        → ((u : ℕ) → (u ≡ t → ⊥) → z.mark u ≡ s.mark u)
        → Listed P z k (remove es i)
    listed_remove s z k t i es li l at' no' p m =
        let h : (u : ℕ) → has (tasks_of (remove es i)) u ≡ (not (eqb u t) && has (tasks_of es) u) = λ u.
        ap (λ ts. has ts u) (tasks-removed es i) ∙ (has-removed (goes P s) (ordered P law s).never (ordered P law s).carries (tasks_of es) i u (line P s law k es li).sorted l
        ∙ ap (λ v. not (eqb u v) && has (tasks_of es) u) at') in
        record {
          sorted = removed-sorted (urgent P.order.before) es i li.sorted;
          exactly = λ u. h u ∙ ⊎_elim
              (λ (e : u ≡ t). and_left (not (eqb u t)) _ (not_from_true (eqb u t) (eq-eqb u t e)) ∙ sym (and_left (pending P z u) _ (ap (pending P z) e ∙ no')))
              (λ (ne : u ≡ t → ⊥). ap (λ b. not b && has (tasks_of es) u) (ne_eqb u t ne) ∙ (li.exactly u ∙ ap (λ b. b && eqb (P.cluster u) k) (sym (p u ne))))
              (cases_eq u t);
          marks = marked_same s.mark z.mark (remove es i) (λ u y. m u (λ e. both_ways (has (tasks_of (remove es i)) u) (h u ∙ and_left (not (eqb u t)) _ (not_from_true (eqb u t) (eq-eqb u t e))) y)) (marked_removed s.mark es i li.marks);
          within = λ u y. li.within u (and_parts (not (eqb u t)) _ (sym (h u) ∙ y)).1;
        }

    -- the model's own moves
    pub listed_arrive : (s : State M) (k t : ℕ) (x : M) (es : List (Entry M)) → Listed P s k es → t < P.tasks → P.cluster t ≡ k → pending P s t ≡ false
        → Listed P (arrive s t x) k (ranked (urgent P.order.before) (record { mark = x; task = t }) es)
    listed_arrive s k t x es li lt c no' = listed_insert s (arrive s t x) k t x es li lt c no'
        (ap is_pending (put-here s.condition t t _ refl)) (put-here s.mark t t x refl)
        (λ u ne. ap is_pending (put-there s.condition t u _ ne)) (λ u ne. put-there s.mark t u x ne)

    pub listed_leave : (s : State M) (k t i : ℕ) (es : List (Entry M)) → Listed P s k es → i < length (tasks_of es) → get_or (tasks_of es) i 0 ≡ t
        → Listed P (become s t Idle) k (remove es i)
    listed_leave s k t i es li l at' = listed_remove s (become s t Idle) k t i es li l at'
        (ap is_pending (put-here s.condition t t Idle refl))
        (λ u ne. ap is_pending (put-there s.condition t u Idle ne)) (λ u ne. refl)

module _ {M : Type 0} (P : Plan M) where
  -- none is pending
  pub listed_none : (s : State M) (k : ℕ) → ((t : ℕ) → s.condition t ≡ Idle) → Listed P s k []
  listed_none s k h = record {
    sorted = tt;
    marks = tt;
    exactly = λ t. sym (and_left (pending P s t) _ (ap is_pending (h t)));
    within = λ t y. absurd (both_ways false refl y);
  }

  -- another cluster's list stays as a job comes or leaves
  pub listed_apart : (s z : State M) (k t : ℕ) (es : List (Entry M)) → Listed P s k es → (P.cluster t ≡ k → ⊥)
      → ((u : ℕ) → (u ≡ t → ⊥) → pending P z u ≡ pending P s u) → ((u : ℕ) → (u ≡ t → ⊥) → z.mark u ≡ s.mark u) → Listed P z k es
  listed_apart s z k t es li ne p m = listed_kept P s z k es li (λ u c. p u (λ e. ne (ap P.cluster (sym e) ∙ c))) (λ u c. m u (λ e. ne (ap P.cluster (sym e) ∙ c)))

  -- there is room for one that is not pending
  pub room : Lawful P.order.before → (s : State M) (k t : ℕ) (es : List (Entry M)) → Listed P s k es → t < P.tasks → pending P s t ≡ false → length es < P.tasks
  room law s k t es li l p =
      let a : tally P.tasks (λ u. pending P s u && eqb (P.cluster u) k) < tally P.tasks (λ _. true) = tally-more P.tasks t _ (λ _. true) l (and_left (pending P s t) _ p) refl (λ u lu h. refl) in
      let b : tally P.tasks (λ _. true) ≡ P.tasks = tally-all P.tasks in
      let c : tally P.tasks (λ u. pending P s u && eqb (P.cluster u) k) ≡ length (tasks_of es) = count-is P s law k es li in
      let d : length (tasks_of es) ≡ length es = length-tasks es in
      omega arith
