-- A cluster's list stays true as one job comes or leaves.
use Rattle.std.proofs.Common.{◌≡◌, ℕ, ◌+◌, ◌-◌, ◌<◌, ◌≤◌, Bool, true, false, ◌&&◌, ltb, leb, List, ◌++◌, length, take, drop, sym, refl, ap, ◌∙◌, subst, ⊎_elim, arith, length-append, length-drop}
use borrow.Rule.Slice.PartMut.{put_mid}
use Rattle.std.specs.List.{remove}
use Rattle.std.proofs.lemmas.List.{take_all, length-take-le}
use Rattle.std.proofs.lemmas.Bool.{cases_Bool, cases_lt, ltb-true, leb-true, lt-ltb, le-ltb, cond-true, cond-false, and_from, and_parts, le-leb}
use Rattle.std.proofs.lemmas.List.Edits.{length-remove}
use Rattle.ordered.proofs.Fronts.{length-ranked, ranked-front, closed-front}
use Rattle.order.specs.Urgency.{Lawful}
use Rattle.ordered.specs.Ranks.{ranked, found}
use Rattle.ordered.specs.Places.{held, closed}
use Rattle.model.specs.declared.Condition.TheVariants.{Idle}
use Rattle.model.specs.Rules.{arrive, become}
use Rattle.order.specs.declared.Entry.{Entry}
use Rattle.cluster.specs.Listing.{Listed, urgent, part, fits, entered, entered_count, departed, departed_count}
use Rattle.cluster.specs.Claims.{ListedOnArrival, ListedOnLeaving, Entering, Departing}
use Rattle.cluster.proofs.Keep.{listed_arrive, room}
use Rattle.cluster.proofs.Parting.{written, here, elsewhere, part_length}
use Rattle.cluster.proofs.Departs.{is_found, departs}

module _ {M : Type 0} (before : M → ℕ → M → ℕ → Bool) (law : Lawful before) where
  pub arrives : (old : List (Entry M)) (used : ℕ) (e : Entry M) → ListedOnArrival before old used e (entered before used e old) (entered_count used (length old))
  arrives old used e P s b fewer lt no' li =
      let good : Lawful P.order.before = subst Lawful (sym b) law in
      ⊎_elim
      (λ (l : used < length old).
      let n : entered_count used (length old) ≡ used + 1 = cond-true (ltb used (length old)) _ _ (lt-ltb used (length old) l) in
      let x : entered before used e old ≡ ranked (urgent before) e (take used old) ++ drop (used + 1) old = cond-true (ltb used (length old)) _ _ (lt-ltb used (length old) l) in
      let y : take (entered_count used (length old)) (entered before used e old) ≡ ranked (urgent P.order.before) e (take used old) =
      ap (λ i. take i (entered before used e old)) n ∙ (ap (take (used + 1)) x ∙ (ranked-front (urgent before) e old used l ∙ ap (λ f. ranked (urgent f) e (take used old)) (sym b))) in
      subst (Listed P (arrive s e.task e.mark) (P.cluster e.task)) (sym y)
      (listed_arrive P good s (P.cluster e.task) e.task e.mark (take used old) li lt refl no'))
      (λ (l : length old ≤ used).
      let r : length (take used old) < P.tasks = room P good s (P.cluster e.task) e.task (take used old) li lt no' in
      let q : length (take used old) ≡ length old = ap length (take_all used old l) in
      absurd (omega arith))
      (cases_lt used (length old))

  pub leaves : (old : List (Entry M)) (used t : ℕ) → ListedOnLeaving before old used t (departed used t old) (departed_count used t old)
  leaves old used t P s b most p li =
      let good : Lawful P.order.before = subst Lawful (sym b) law in
      let f : found (λ e. e.task) t (take used old) < used = is_found P good s t p old used most li in
      let h : (ltb (found (λ e. e.task) t (take used old)) used && leb used (length old)) ≡ true = and_from (ltb (found (λ e. e.task) t (take used old)) used) _ (lt-ltb _ _ f) (le-leb used (length old) most) in
      let n : departed_count used t old ≡ used - 1 = cond-true _ _ _ h in
      subst (Listed P (become s t Idle) (P.cluster t)) (sym (ap (λ i. take i (departed used t old)) n ∙ closed-front old used (found (λ e. e.task) t (take used old)) f most)) (departs P good s t p old used most li)

-- the same of a list in a part of a slice
module _ {M : Type 0} (before : M → ℕ → M → ℕ → Bool) (law : Lawful before) (xs last : List (Entry M)) (from room j used : ℕ)
    (e : j ≡ room) (f : from + room ≤ length xs) (kept : length last ≡ length (take j (drop from xs))) where
  lent : length (take j (drop from xs)) ≡ room
  lent = ap (λ n. length (take n (drop from xs))) e ∙ part_length xs last from room j (λ _. last) e f refl kept

  module _ (entry : Entry M) (is : last ≡ entered before used entry (take j (drop from xs))) where
    pub enter_all : (r : ℕ) → r ≡ entered_count used (length (take j (drop from xs)))
        → Entering before xs from room used entry (put_mid from j xs last) r
    enter_all r q =
        let count : r ≡ entered_count used room = q ∙ ap (entered_count used) lent in
        record {
          count = count ∙ sym (cond-true (fits from room xs) _ used (le-leb (from + room) (length xs) f));
          after = written xs last from room j (entered before used entry) e f is kept;
          keeps = λ _. subst (λ new. ListedOnArrival before (part from room xs) used entry new r) (sym (here xs last from room j (entered before used entry) e f is kept))
              (subst (ListedOnArrival before (part from room xs) used entry (entered before used entry (part from room xs)))
              (sym (count ∙ ap (entered_count used) (sym (part_length xs last from room j (entered before used entry) e f is kept)))) (arrives before law (part from room xs) used entry));
          others = elsewhere xs last from room j (entered before used entry) e f is kept;
        }

  module _ (t : ℕ) (is : last ≡ departed used t (take j (drop from xs))) where
    pub depart_all : (r : ℕ) → r ≡ departed_count used t (take j (drop from xs))
        → Departing before xs from room used t (put_mid from j xs last) r
    depart_all r q =
        let count : r ≡ departed_count used t (part from room xs) = q ∙ ap (λ n. departed_count used t (take n (drop from xs))) e in
        record {
          count = count ∙ sym (cond-true (fits from room xs) _ used (le-leb (from + room) (length xs) f));
          after = written xs last from room j (departed used t) e f is kept;
          keeps = λ _. subst (λ new. ListedOnLeaving before (part from room xs) used t new r) (sym (here xs last from room j (departed used t) e f is kept))
              (subst (ListedOnLeaving before (part from room xs) used t (departed used t (part from room xs))) (sym count) (leaves before law (part from room xs) used t));
          others = elsewhere xs last from room j (departed used t) e f is kept;
        }

-- neither changes how many places there are
pub length-entered : {M : Type 0} (before : M → ℕ → M → ℕ → Bool) (used : ℕ) (e : Entry M) (es : List (Entry M)) → length (entered before used e es) ≡ length es
length-entered before used e es = ⊎_elim
    (λ (l : used < length es).
    let a : length (ranked (urgent before) e (take used es)) ≡ length (take used es) + 1 = length-ranked (urgent before) e (take used es) in
    let b : length (take used es) ≡ used = length-take-le used es (omega arith) in
    let d : length (drop (used + 1) es) ≡ length es - (used + 1) = length-drop (used + 1) es in
    let f : length (ranked (urgent before) e (take used es) ++ drop (used + 1) es) ≡ length (ranked (urgent before) e (take used es)) + length (drop (used + 1) es) = length-append (ranked (urgent before) e (take used es)) (drop (used + 1) es) in
    ap length (cond-true (ltb used (length es)) _ es (lt-ltb used (length es) l)) ∙ (f ∙ omega arith))
    (λ (l : length es ≤ used). ap length (cond-false (ltb used (length es)) _ es (le-ltb used (length es) l)))
    (cases_lt used (length es))

pub length-closed : {A : Type 0} (used at : ℕ) (es : List A) → length (closed used at es) ≡ length es
length-closed used at es = ⊎_elim
    (λ (h : held used at es ≡ true).
    let p = and_parts (ltb at used) _ h in
    let a : at < used = ltb-true at used p.0 in
    let b : used ≤ length es = leb-true used (length es) p.1 in
    let c : length (take used es) ≡ used = length-take-le used es b in
    let d : length (remove (take used es) at) + 1 ≡ length (take used es) = length-remove (take used es) at (omega arith) in
    let e : length (drop (used - 1) es) ≡ length es - (used - 1) = length-drop (used - 1) es in
    let f : length (remove (take used es) at ++ drop (used - 1) es) ≡ length (remove (take used es) at) + length (drop (used - 1) es) = length-append (remove (take used es) at) (drop (used - 1) es) in
    ap length (cond-true (held used at es) _ es h) ∙ (f ∙ omega arith))
    (λ (h : held used at es ≡ false). ap length (cond-false (held used at es) _ es h))
    (cases_Bool (held used at es))
