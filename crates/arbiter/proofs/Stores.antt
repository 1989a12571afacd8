-- An accepted event takes memory that stands for a state to memory that stands for the next one.
use Rattle.std.proofs.Common.{◌≡◌, ℕ, zero, suc, ◌+◌, ◌-◌, ◌*◌, ◌<◌, ◌≤◌, false, List, [], ◌∷◌, length, take, drop, set, Some, None, Option, sym, refl, ap, ◌∙◌, subst, ⊎_elim, suc-mul, arith, length-drop, length-set}
use borrow.Rule.Slice.PartMut.{same_len_mid}
use Rattle.std.specs.List.{slice_get}
use Rattle.std.proofs.lemmas.Nat.{mul-le}
use Rattle.std.proofs.lemmas.List.{length-take-le}
use Rattle.std.proofs.lemmas.Bool.{cases_eq, or_parts, or_from, ltb-false, le-ltb}
use Rattle.order.specs.Urgency.{Urgency}
use Rattle.model.specs.declared.Condition.{Condition}
use Rattle.model.specs.Words.{State}
use Rattle.model.specs.Rules.{put}
use Rattle.model.proofs.Basics.{put-here, put-there, by_point}
use Rattle.order.specs.declared.Entry.{Entry}
use Rattle.cluster.specs.declared.Job.{Job}
use Rattle.cluster.specs.Listing.{Listed, part, with_part}
use Rattle.cluster.specs.Claims.{Shows}
use Rattle.cluster.specs.Picks.{read, condition_at, donor_at, recipient_at}
use Rattle.cluster.proofs.Parting.{this_part, same-part, far_apart}
use Rattle.arbiter.specs.declared.System.{System}
use Rattle.arbiter.specs.Memory.{Contents, task_count, count_at, plan_of, with_condition, too_small}
use Rattle.arbiter.specs.Meaning.{Represents}

nth_here : {A : Type 0} (xs : List A) (i : ℕ) (a : A) → i < length xs → slice_get (set xs i a) i ≡ Some a
nth_here [] i a l = absurd (omega arith)
nth_here (x ∷ xs) zero a l = refl
nth_here (x ∷ xs) (suc i) a l = nth_here xs i a (omega arith)

nth_there : {A : Type 0} (xs : List A) (i j : ℕ) (a : A) → (j ≡ i → ⊥) → slice_get (set xs i a) j ≡ slice_get xs j
nth_there [] i j a ne = refl
nth_there (x ∷ xs) zero zero a ne = absurd (ne refl)
nth_there (x ∷ xs) zero (suc j) a ne = refl
nth_there (x ∷ xs) (suc i) zero a ne = refl
nth_there (x ∷ xs) (suc i) (suc j) a ne = nth_there xs i j a (λ e. ne (ap suc e))

nth_some : {A : Type 0} (xs : List A) (i : ℕ) → i < length xs → (x : A) × (slice_get xs i ≡ Some x)
nth_some [] i l = absurd (omega arith)
nth_some (x ∷ xs) zero l = (x, refl)
nth_some (x ∷ xs) (suc i) l = nth_some xs i (omega arith)

-- a count that is stored is read again, and the others stay
count-here : (ns : List ℕ) (k v : ℕ) → k < length ns → count_at (set ns k v) k ≡ v
count-here ns k v l = ap (read (λ n. n) 0) (nth_here ns k v l)

count-there : (ns : List ℕ) (k j v : ℕ) → (j ≡ k → ⊥) → count_at (set ns k v) j ≡ count_at ns j
count-there ns k j v ne = ap (read (λ n. n) 0) (nth_there ns k j v ne)

-- the records show a task's new condition
module _ {Mark : Type 0} (s : State Mark) (js : List Job) (t : ℕ) (k : Condition) (x : ℕ → Mark) (l : t < length js) (shows : Shows s js) where
  pub shows-become : Shows (record { condition = put s.condition t k; mark = x; donor = s.donor; recipient = s.recipient }) (with_condition (slice_get js t) js t k)
  shows-become =
      let old = nth_some js t l in
      let j : Job = record { condition = k; donor = old.0.donor; recipient = old.0.recipient } in
      let e : with_condition (slice_get js t) js t k ≡ set js t j = ap (λ o. with_condition o js t k) old.1 in
      let h : slice_get (set js t j) t ≡ Some j = nth_here js t j l in
      subst (Shows (record { condition = put s.condition t k; mark = x; donor = s.donor; recipient = s.recipient })) (sym e) (record {
        conditions = λ u. by_point (λ u. put s.condition t k u ≡ condition_at (set js t j) u) t u
            (put-here s.condition t t k refl ∙ sym (ap (read (λ j. j.condition) _) h))
            (λ ne. put-there s.condition t u k ne ∙ (shows.conditions u ∙ sym (ap (read (λ j. j.condition) _) (nth_there js t u j ne))));
        donors = λ u. by_point (λ u. s.donor u ≡ donor_at (set js t j) u) t u
            (shows.donors t ∙ (ap (read (λ j. j.donor) None) old.1 ∙ sym (ap (read (λ j. j.donor) None) h)))
            (λ ne. shows.donors u ∙ sym (ap (read (λ j. j.donor) None) (nth_there js t u j ne)));
        recipients = λ u. by_point (λ u. s.recipient u ≡ recipient_at (set js t j) u) t u
            (shows.recipients t ∙ (ap (read (λ j. j.recipient) None) old.1 ∙ sym (ap (read (λ j. j.recipient) None) h)))
            (λ ne. shows.recipients u ∙ sym (ap (read (λ j. j.recipient) None) (nth_there js t u j ne)));
      })

pub length-condition : (o : Option Job) (js : List Job) (t : ℕ) (k : Condition) → length (with_condition o js t k) ≡ length js
length-condition None js t k = refl
length-condition (Some j) js t k = length-set js t _

module _ {Mark : Type 0} (order : Urgency Mark) (y : System) where
  -- what there is in memory that suffices
  pub sizes : (m : Contents Mark) → too_small order y m ≡ false → (task_count y ≤ 64) × (task_count y ≤ length m.jobs) × (y.clusters * task_count y ≤ length m.places)
  sizes m e =
      let p = or_parts _ _ e in let q = or_parts _ _ p.1 in
      (ltb-false _ _ p.0, ltb-false _ _ q.0, ltb-false _ _ q.1)

  pub suffices : (m : Contents Mark) → task_count y ≤ 64 → task_count y ≤ length m.jobs → y.clusters * task_count y ≤ length m.places → too_small order y m ≡ false
  suffices m a b c = or_from _ _ (le-ltb _ _ a) (or_from _ _ (le-ltb _ _ b) (le-ltb _ _ c))

  -- the places of each cluster's list exist
  pub exist : (m : Contents Mark) → too_small order y m ≡ false → (k : ℕ) → k < y.clusters → k * task_count y + task_count y ≤ length m.places
  exist m e k l =
      let a : suc k * task_count y ≡ k * task_count y + task_count y = suc-mul k (task_count y) in
      let b : suc k * task_count y ≤ y.clusters * task_count y = mul-le (suc k) (task_count y) y.clusters (task_count y) (omega arith) (omega arith) in
      let c : y.clusters * task_count y ≤ length m.places = (sizes m e).2 in
      omega arith

  -- the list of cluster c has changed, and with it the state from s to z
  module _ (m : Contents Mark) (s z : State Mark) (rep : Represents order y m s) (c : ℕ) (lc : c < y.clusters) (c8 : y.clusters ≤ 8)
      (js : List Job) (lj : length js ≡ length m.jobs) (shows : Shows z js)
      (new : List (Entry Mark)) (long : length new ≡ task_count y) (count : ℕ) (most : count ≤ task_count y)
      (here : Listed (plan_of order y) z c (take count new))
      (there : (k : ℕ) → (k ≡ c → ⊥) → (es : List (Entry Mark)) → Listed (plan_of order y) s k es → Listed (plan_of order y) z k es) where
    pub changed : Represents order y (record { jobs = js; places = with_part (c * task_count y) (task_count y) m.places new; counts = set m.counts c count }) z
    changed =
        let fit : c * task_count y + task_count y ≤ length m.places = exist m rep.enough c lc in
        let q = sizes m rep.enough in
        let d : length (drop (c * task_count y) m.places) ≡ length m.places - c * task_count y = length-drop (c * task_count y) m.places in
        let p : length (part (c * task_count y) (task_count y) m.places) ≡ task_count y = length-take-le (task_count y) (drop (c * task_count y) m.places) (omega arith) in
        let w : length (with_part (c * task_count y) (task_count y) m.places new) ≡ length m.places = same_len_mid (c * task_count y) (task_count y) m.places new (long ∙ sym p) in
        let e8 : length m.counts ≡ 8 = rep.eight in
        record {
          enough = suffices (record { jobs = js; places = with_part (c * task_count y) (task_count y) m.places new; counts = set m.counts c count }) q.0 (subst (λ i. task_count y ≤ i) (sym lj) q.1) (subst (λ i. y.clusters * task_count y ≤ i) (sym w) q.2);
          eight = length-set m.counts c count ∙ e8;
          shows = shows;
          counted = λ k l. by_point (λ k. count_at (set m.counts c count) k ≤ task_count y) c k
              (subst (λ i. i ≤ task_count y) (sym (count-here m.counts c count (omega arith))) most)
              (λ ne. subst (λ i. i ≤ task_count y) (sym (count-there m.counts c k count ne)) (rep.counted k l));
          lists = λ k l. ⊎_elim
              (λ (e : k ≡ c). subst (λ k. Listed (plan_of order y) z k (take (count_at (set m.counts c count) k) (part (k * task_count y) (task_count y) (with_part (c * task_count y) (task_count y) m.places new)))) (sym e)
              (subst (λ i. Listed (plan_of order y) z c (take i (part (c * task_count y) (task_count y) (with_part (c * task_count y) (task_count y) m.places new)))) (sym (count-here m.counts c count (omega arith)))
              (subst (λ es. Listed (plan_of order y) z c (take count es)) (sym (this_part m.places new (c * task_count y) (task_count y) fit long)) here)))
              (λ (ne : k ≡ c → ⊥).
              subst (λ i. Listed (plan_of order y) z k (take i (part (k * task_count y) (task_count y) (with_part (c * task_count y) (task_count y) m.places new)))) (sym (count-there m.counts c k count ne))
              (subst (λ es. Listed (plan_of order y) z k (take (count_at m.counts k) es)) (sym (same-part m.places new (k * task_count y) (task_count y) (c * task_count y) (task_count y) fit long (far_apart k c (task_count y) ne)))
              (there k ne _ (rep.lists k l))))
              (cases_eq k c);
        }
