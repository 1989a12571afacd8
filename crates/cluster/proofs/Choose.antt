-- The ready jobs of a cluster, by the places at which they count
use Rattle.std.proofs.Common.{◌≡◌, ℕ, ◌<◌, Bool, true, false, cond, ◌&&◌, eqb, ltb, List, [], ◌∷◌, take, Some, None, Option, sym, refl, ap, ◌∙◌, subst, ⊎_elim}
use Rattle.std.proofs.lemmas.Bool.{cases_Bool, cases_eq, and_parts, and_from, and_left, and_right, or_cases, or_left, or_right, both_ways, eqb-true, eq-eqb, ne_eqb, cond-true, cond-false, not-true, not_from_false}
use Rattle.order.specs.declared.Entry.{Entry}
use Rattle.ordered.specs.Ranks.{Sorted, Leads}
use Rattle.model.specs.Tally.{tally}
use Rattle.order.specs.Urgency.{Lawful}
use Rattle.cluster.specs.Listing.{has}
use Rattle.model.specs.Words.{Plan, State, holds, runs, on, is_some, or_else, pending, goes, ready, place, scheduled}
use Rattle.model.proofs.Basics.{none_some, some_same}
use Rattle.model.proofs.Conditions.{runs-pending, holds-open, runs-open_holds}
use Rattle.cluster.specs.Picks.{pick}
use Rattle.std.specs.List.{filter_map, cons_option}
use Rattle.cluster.specs.Listing.{Listed, tasks_of}
use Rattle.cluster.specs.Claims.{Tied}
use Rattle.cluster.proofs.Line.{Lines, fore-is}
use Rattle.cluster.proofs.Bridge.{line, tally-mates, and_one}

-- a line of picks
module _ (goes by : ℕ → ℕ → Bool) (P Q : ℕ → Bool) (pick : ℕ → Option ℕ) (place : ℕ → ℕ)
    (down : (p u : ℕ) → P p ≡ true → pick p ≡ Some u → (place u ≡ p) × (Q u ≡ true))
    (up : (u : ℕ) → Q u ≡ true → (P (place u) ≡ true) × (pick (place u) ≡ Some u))
    (along : (u v : ℕ) → Q u ≡ true → Q v ≡ true → goes (place u) (place v) ≡ true → by u v ≡ true) where
  chosen-has : (ts : List ℕ) (p u : ℕ) → has ts p ≡ true → pick p ≡ Some u → has (filter_map pick ts) u ≡ true
  chosen-has [] p u h e = absurd (both_ways false refl h)
  chosen-has (t ∷ ts) p u h e = ⊎_elim
      (λ (y : eqb t p ≡ true). ap (λ o. has (cons_option o (filter_map pick ts)) u) (ap pick (eqb-true t p y) ∙ e) ∙ or_left (eqb u u) _ (eq-eqb u u refl))
      (λ (y : has ts p ≡ true). more (pick t) (chosen-has ts p u y e))
      (or_cases (eqb t p) _ h)
    where
      more : (o : Option ℕ) → has (filter_map pick ts) u ≡ true → has (cons_option o (filter_map pick ts)) u ≡ true
      more None h = h
      more (Some v) h = or_right (eqb v u) _ h

  has_chosen : (ts : List ℕ) (u : ℕ) → has (filter_map pick ts) u ≡ true → (p : ℕ) × (has ts p ≡ true) × (pick p ≡ Some u)
  has_chosen [] u h = absurd (both_ways false refl h)
  has_chosen (t ∷ ts) u h = split (has_chosen ts u) (pick t) refl h
    where
      split : (has (filter_map pick ts) u ≡ true → (p : ℕ) × (has ts p ≡ true) × (pick p ≡ Some u)) → (o : Option ℕ) → pick t ≡ o → has (cons_option o (filter_map pick ts)) u ≡ true → (p : ℕ) × (has (t ∷ ts) p ≡ true) × (pick p ≡ Some u)
      split ih None e y = let r = ih y in (r.0, or_right (eqb t r.0) _ r.1, r.2)
      split ih (Some v) e y = ⊎_elim
          (λ (z : eqb v u ≡ true). (t, or_left (eqb t t) _ (eq-eqb t t refl), e ∙ ap Some (eqb-true v u z)))
          (λ (z : has (filter_map pick ts) u ≡ true). let r = ih z in (r.0, or_right (eqb t r.0) _ r.1, r.2))
          (or_cases (eqb v u) _ y)

  leads_chosen : (ts : List ℕ) (u : ℕ) → Q u ≡ true → ((p : ℕ) → has ts p ≡ true → P p ≡ true) → Leads goes (place u) ts → Leads by u (filter_map pick ts)
  leads_chosen [] u q all l = tt
  leads_chosen (t ∷ ts) u q all l = split (leads_chosen ts u q (λ p h. all p (or_right (eqb t p) _ h)) l.1) (pick t) refl
    where
      split : Leads by u (filter_map pick ts) → (o : Option ℕ) → pick t ≡ o → Leads by u (cons_option o (filter_map pick ts))
      split rest None e = rest
      split rest (Some v) e = let d = down t v (all t (or_left (eqb t t) _ (eq-eqb t t refl))) e in (along u v q d.1 (ap (goes (place u)) d.0 ∙ l.0), rest)

  sorted-chosen : (ts : List ℕ) → ((p : ℕ) → has ts p ≡ true → P p ≡ true) → Sorted goes ts → Sorted by (filter_map pick ts)
  sorted-chosen [] all s = tt
  sorted-chosen (t ∷ ts) all s = split (sorted-chosen ts (λ p h. all p (or_right (eqb t p) _ h)) s.1) (pick t) refl
    where
      split : Sorted by (filter_map pick ts) → (o : Option ℕ) → pick t ≡ o → Sorted by (cons_option o (filter_map pick ts))
      split rest None e = rest
      split rest (Some v) e = let d = down t v (all t (or_left (eqb t t) _ (eq-eqb t t refl))) e in
          (leads_chosen ts v d.1 (λ p h. all p (or_right (eqb t p) _ h)) (subst (λ p. Leads goes p ts) (sym d.0) s.0), rest)

  pub line_chosen : (ts : List ℕ) → Lines goes P ts → Lines by Q (filter_map pick ts)
  line_chosen ts li = record {
    sorted = sorted-chosen ts (λ p h. sym (li.exactly p) ∙ h) li.sorted;
    exactly = λ u. ⊎_elim
        (λ (q : Q u ≡ true). let w = up u q in chosen-has ts (place u) u (li.exactly (place u) ∙ w.0) w.1 ∙ sym q)
        (λ (q : Q u ≡ false). ⊎_elim
        (λ (h : has (filter_map pick ts) u ≡ true). let r = has_chosen ts u h in absurd (both_ways (Q u) q (down r.0 u (sym (li.exactly r.0) ∙ r.1) r.2).1))
        (λ (h : has (filter_map pick ts) u ≡ false). h ∙ sym q)
        (cases_Bool (has (filter_map pick ts) u)))
        (cases_Bool (Q u));
  }

module _ {M : Type 0} (P : Plan M) (s : State M) (law : Lawful P.order.before) (tied : Tied P s) (k : ℕ) where
  abbrev pub by_place : ℕ → ℕ → Bool
  by_place u t = eqb (P.cluster u) (P.cluster t) && P.order.before (s.mark (place P s u)) (place P s u) (s.mark (place P s t)) (place P s t)

  abbrev pub ready_in : ℕ → Bool
  ready_in t = ready P s t && eqb (P.cluster t) k

  abbrev pub picks : ℕ → Option ℕ
  picks = pick s.condition s.donor s.recipient

  -- the same by the values of the two links and the condition, to split on
  down_at : (p u : ℕ) (r d : Option ℕ) → s.recipient p ≡ r → s.donor p ≡ d → (h b : Bool) → on r (λ q. holds (s.condition q)) ≡ h → runs (s.condition p) ≡ b
      → cond h r (cond (is_some d) None (cond b (Some p) None)) ≡ Some u → (place P s u ≡ p) × ((ready P s u ≡ true) × (P.cluster u ≡ P.cluster p))
  down_at p u None d er ed true b eh eb e = absurd (both_ways false refl eh)
  down_at p u (Some q) d er ed true b eh eb e =
      let i : q ≡ u = some_same (Some q) q u refl e in
      let g : s.recipient p ≡ Some u = er ∙ ap Some i in
      let h : holds (s.condition u) ≡ true = ap (λ v. holds (s.condition v)) (sym i) ∙ eh in
      let o = holds-open (s.condition u) h in
      let n : s.recipient u ≡ None = tied.plain u o.0 in
      let f : s.donor u ≡ Some p = tied.taker p u g in
      (ap (λ o. or_else o u) f, (and_from (runs (s.condition u)) _ o.1 (rw n), sym (tied.mates u p f)))
  down_at p u r (Some d) er ed false b eh eb e = absurd (none_some None u refl e)
  down_at p u r None er ed false false eh eb e = absurd (none_some None u refl e)
  down_at p u r None er ed false true eh eb e =
      let i : p ≡ u = some_same (Some p) p u refl e in
      let re : ready P s p ≡ true = and_from (runs (s.condition p)) _ eb (not_from_false _ (ap (λ o. on o (λ q. holds (s.condition q))) er ∙ eh)) in
      subst (λ v. (place P s v ≡ p) × ((ready P s v ≡ true) × (P.cluster v ≡ P.cluster p))) i (ap (λ o. or_else o p) ed, (re, refl))

  down : (p u : ℕ) → (pending P s p && eqb (P.cluster p) k) ≡ true → picks p ≡ Some u → (place P s u ≡ p) × (ready_in u ≡ true)
  down p u h e =
      let r = down_at p u (s.recipient p) (s.donor p) refl refl _ _ refl refl e in
      let c : P.cluster p ≡ k = eqb-true _ _ (and_parts (pending P s p) _ h).1 in
      (r.0, and_from (ready P s u) _ r.1.0 (eq-eqb _ _ (r.1.1 ∙ c)))

  up_at : (u : ℕ) (d : Option ℕ) → s.donor u ≡ d → ready P s u ≡ true → (pending P s (or_else d u) ≡ true) × ((P.cluster (or_else d u) ≡ P.cluster u) × (picks (or_else d u) ≡ Some u))
  up_at u None e h =
      let a = and_parts (runs (s.condition u)) _ h in
      let n : on (s.recipient u) (λ q. holds (s.condition q)) ≡ false = not-true _ a.1 in
      let r : runs (s.condition u) ≡ true = a.0 in (
        runs-pending (s.condition u) a.0,
        (
          refl,
          cond-false (on (s.recipient u) (λ q. holds (s.condition q))) _ _ n ∙ (ap (λ o. cond (is_some o) None (cond (runs (s.condition u)) (Some u) None)) e ∙ cond-true (runs (s.condition u)) (Some u) None r),
        ),
      )
  up_at u (Some d) e h =
      let a = and_parts (runs (s.condition u)) _ h in
      let y : holds (s.condition u) ≡ true = runs-open_holds (s.condition u) a.0 (tied.takes u d e) in
      let g : s.recipient d ≡ Some u = tied.giver u d e in
      let n : on (s.recipient d) (λ q. holds (s.condition q)) ≡ true = ap (λ o. on o (λ q. holds (s.condition q))) g ∙ y in
      (tied.gives u d e, (tied.mates u d e, cond-true (on (s.recipient d) (λ q. holds (s.condition q))) _ _ n ∙ g))

  up : (u : ℕ) → ready_in u ≡ true → ((pending P s (place P s u) && eqb (P.cluster (place P s u)) k) ≡ true) × (picks (place P s u) ≡ Some u)
  up u h =
      let a = and_parts (ready P s u) _ h in
      let r = up_at u (s.donor u) refl a.0 in
      (and_from (pending P s (place P s u)) _ r.0 (eq-eqb _ _ (r.1.0 ∙ eqb-true _ _ a.1)), r.1.1)

  along : (u v : ℕ) → ready_in u ≡ true → ready_in v ≡ true → goes P s (place P s u) (place P s v) ≡ true → by_place u v ≡ true
  along u v a b g =
      let c : P.cluster u ≡ k = eqb-true _ _ (and_parts (ready P s u) _ a).1 in
      let d : P.cluster v ≡ k = eqb-true _ _ (and_parts (ready P s v) _ b).1 in
      and_from (eqb (P.cluster u) (P.cluster v)) _ (eq-eqb _ _ (c ∙ sym d)) (and_parts (eqb (P.cluster (place P s u)) (P.cluster (place P s v))) _ g).1

  by_never : (t : ℕ) → by_place t t ≡ false
  by_never t = and_right (eqb (P.cluster t) (P.cluster t)) _ (law.never_itself (s.mark (place P s t)) (place P s t))

  by_carries : (t u v : ℕ) → by_place t u ≡ true → by_place u v ≡ true → by_place t v ≡ true
  by_carries t u v a b =
      let p = and_parts (eqb (P.cluster t) (P.cluster u)) _ a in let q = and_parts (eqb (P.cluster u) (P.cluster v)) _ b in
      and_from (eqb (P.cluster t) (P.cluster v)) _ (eq-eqb _ _ (eqb-true _ _ p.0 ∙ eqb-true _ _ q.0)) (law.carries _ _ _ (place P s t) (place P s u) (place P s v) p.1 q.1)

  -- the scheduled jobs of a cluster are the first that are picked along its list
  module _ (es : List (Entry M)) (li : Listed P s k es) where
    pub chosen-line : Lines by_place ready_in (filter_map picks (tasks_of es))
    chosen-line = line_chosen (goes P s) by_place (λ t. pending P s t && eqb (P.cluster t) k) ready_in picks (place P s) down up along (tasks_of es) (line P s law k es li)

    pub chosen-within : (t : ℕ) → has (filter_map picks (tasks_of es)) t ≡ true → t < P.tasks
    chosen-within t h =
        let a = and_parts (ready P s t) _ (sym (chosen-line.exactly t) ∙ h) in
        li.within t (li.exactly t ∙ and_from (pending P s t) _ (runs-pending (s.condition t) (and_parts (runs (s.condition t)) _ a.0).0) a.1)

    pub scheduled-is : (t : ℕ) → (eqb (P.cluster t) k && scheduled P s t) ≡ has (take P.size (filter_map picks (tasks_of es))) t
    scheduled-is t = ⊎_elim
        (λ (c : P.cluster t ≡ k).
        let e : tally P.tasks (λ u. ready P s u && by_place u t) ≡ tally P.tasks (λ u. ready_in u && by_place u t)
        = tally-mates P.tasks k P.cluster (ready P s) (λ u. P.order.before (s.mark (place P s u)) (place P s u) (s.mark (place P s t)) (place P s t)) (P.cluster t) c in
        ap (λ b. b && scheduled P s t) (eq-eqb (P.cluster t) k c)
        ∙ (ap (λ i. ready P s t && ltb i P.size) e
        ∙ (ap (λ b. b && ltb (tally P.tasks (λ u. ready_in u && by_place u t)) P.size) (and_one (ready P s t) ∙ ap (λ b. ready P s t && b) (sym (eq-eqb (P.cluster t) k c)))
        ∙ fore-is by_place by_never by_carries P.tasks ready_in (filter_map picks (tasks_of es)) chosen-line chosen-within P.size t)))
        (λ (c : P.cluster t ≡ k → ⊥).
        let z : ready_in t ≡ false = and_right (ready P s t) _ (ne_eqb _ _ c) in
        and_left (eqb (P.cluster t) k) _ (ne_eqb _ _ c)
        ∙ (sym (and_left (ready_in t) _ z)
        ∙ fore-is by_place by_never by_carries P.tasks ready_in (filter_map picks (tasks_of es)) chosen-line chosen-within P.size t))
        (cases_eq (P.cluster t) k)
