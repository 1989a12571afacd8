-- A call that keeps its code's equations keeps all that is said of it.
use Rattle.std.proofs.Common.{◌≡◌, ℕ, ◌+◌, ◌-◌, ◌*◌, ◌<◌, ◌≤◌, Bool, true, false, cond, ltb, List, ◌∷◌, length, take, drop, set, is_ok, Some, None, Option, Result, sym, refl, ap, ◌∙◌, subst, ⊎_elim, arith, length-drop}
use Rattle.std.specs.List.{slice_get}
use Rattle.std.proofs.lemmas.List.{length-take-le}
use Rattle.std.proofs.lemmas.Bool.{cases_lt, le-leb, ltb-true, lt-ltb, le-ltb, cond-true, cond-false, not-false, true≢false}
use Rattle.order.specs.Urgency.{Urgency, Lawful}
use Rattle.ordered.specs.Ranks.{found}
use Rattle.ordered.specs.Places.{held}
use Rattle.model.specs.declared.Condition.{Condition}
use Rattle.model.specs.declared.Condition.TheVariants.{Idle, Computing}
use Rattle.model.specs.declared.Event.{Event}
use Rattle.model.specs.declared.Event.TheVariants.{Release, Finish}
use Rattle.model.specs.declared.Answer.{Answer}
use Rattle.model.specs.declared.Answer.TheVariants.{Accepted as OkAnswer}
use Rattle.model.specs.declared.Refusal.{Refusal}
use Rattle.model.specs.Words.{State, is_pending, pending}
use Rattle.model.specs.Rules.{Question, scheduled_set_of, condition_of_job, acting, asking, put, arrive, become, after, refusal, moved, unless, kept_if}
use Rattle.model.specs.Promise.{Accepted}
use Rattle.model.proofs.Basics.{put-there}
use Rattle.model.proofs.Runs.{kept}
use Rattle.order.specs.declared.Entry.{Entry}
use Rattle.cluster.specs.Listing.{Listed, part, with_part, fits, entered, entered_count, departed, departed_count}
use Rattle.cluster.proofs.Keep.{listed_apart}
use Rattle.cluster.proofs.Moves.{arrives, leaves, length-entered, length-closed}
use Rattle.arbiter.specs.declared.System.{System}
use Rattle.arbiter.specs.Memory.{Contents, task_count, count_at, cluster_at, parameter_at, plan_of, with_condition, turned_away, stored, replied, afterwards, asked_set, asked_condition}
use Rattle.arbiter.specs.Meaning.{Represents, Acted, Asked, AskedSet, AskedCondition}
use Rattle.arbiter.proofs.Replies.{turned_away-is, asked_set-is, asked_condition-is}
use Rattle.arbiter.proofs.Stores.{shows-become, length-condition, sizes, exist, changed}

-- no test of a table was met: not the first, and none of the others
pub passed : (b : Bool) (f : Refusal) (o : Option Refusal) → cond b (Some f) o ≡ None → (b ≡ false) × (o ≡ None)
passed true f o e = let z : ◌≡◌ {A = ℕ} 0 1 = cc in absurd (omega arith)
passed false f o e = (refl, e)

entered-most : (used n : ℕ) → used ≤ n → entered_count used n ≤ n
entered-most used n l = ⊎_elim
    (λ (h : used < n). let e : entered_count used n ≡ used + 1 = cond-true (ltb used n) _ _ (lt-ltb used n h) in omega arith)
    (λ (h : n ≤ used). let e : entered_count used n ≡ used = cond-false (ltb used n) _ _ (le-ltb used n h) in omega arith)
    (cases_lt used n)

less_one : (b : Bool) (used n : ℕ) → used ≤ n → cond b (used - 1) used ≤ n
less_one true used n l = omega arith
less_one false used n l = l

module _ {Mark : Type 0} (order : Urgency Mark) (law : Lawful order.before) (y : System) where
  module _ (m : Contents Mark) (s : State Mark) (ok : Accepted (plan_of order y)) (rep : Represents order y m s) (t : ℕ) (lt : t < task_count y) where
    -- the places of its cluster's list
    abbrev c : ℕ
    c = cluster_at y.tasks.now t

    abbrev old : List (Entry Mark)
    old = part (c * task_count y) (task_count y) m.places

    here : c < y.clusters
    here = ok.placed t lt

    fit : c * task_count y + task_count y ≤ length m.places
    fit = exist order y m rep.enough c here

    fit-test : fits (c * task_count y) (task_count y) m.places ≡ true
    fit-test = le-leb _ _ fit

    old-length : length old ≡ task_count y
    old-length =
        let f : c * task_count y + task_count y ≤ length m.places = fit in
        let d : length (drop (c * task_count y) m.places) ≡ length m.places - c * task_count y = length-drop (c * task_count y) m.places in
        length-take-le (task_count y) (drop (c * task_count y) m.places) (omega arith)

    recorded : t < length m.jobs
    recorded = let q : task_count y ≤ length m.jobs = (sizes order y m rep.enough).1 in omega arith

    pub released : (i : ℕ) → pending (plan_of order y) s t ≡ false → Represents order y (stored order y m (Release t i)) (moved (plan_of order y) s (Release t i))
    released i no' =
        let e : Entry Mark = record { mark = order.mark (parameter_at y.tasks.now t) i; task = t } in
        let used = count_at m.counts c in
        let P = plan_of order y in
        let z : State Mark = arrive s t e.mark in
        let came : Listed P z c (take (entered_count used (length old)) (entered order.before used e old)) =
        arrives order.before law old used e P s refl (subst (λ n. task_count y ≤ n) (sym old-length) (omega arith)) lt no' (rep.lists c here) in
        subst (λ b. Represents order y (record {
          jobs = with_condition (slice_get m.jobs t) m.jobs t Computing;
          places = cond b (with_part (c * task_count y) (task_count y) m.places (entered order.before used e old)) m.places;
          counts = set m.counts c (cond b (entered_count used (task_count y)) used);
        }) z) (sym fit-test)
        (changed order y m s z rep c here ok.few_clusters (with_condition (slice_get m.jobs t) m.jobs t Computing) (length-condition (slice_get m.jobs t) m.jobs t Computing)
        (shows-become s m.jobs t Computing (put s.mark t e.mark) recorded rep.shows)
        (entered order.before used e old) (length-entered order.before used e old ∙ old-length)
        (entered_count used (task_count y)) (entered-most used (task_count y) (rep.counted c here))
        (subst (λ n. Listed P z c (take (entered_count used n) (entered order.before used e old))) old-length came)
        (λ k ne es li. listed_apart P s z k t es li (λ x. ne (sym x)) (λ u nu. ap is_pending (put-there s.condition t u Computing nu)) (λ u nu. put-there s.mark t u e.mark nu)))

    pub finished : pending (plan_of order y) s t ≡ true → Represents order y (stored order y m (Finish t)) (moved (plan_of order y) s (Finish t))
    finished yes' =
        let used = count_at m.counts c in
        let P = plan_of order y in
        let z : State Mark = become s t Idle in
        let gone : Listed P z c (take (departed_count used t old) (departed used t old)) =
        leaves order.before law old used t P s refl (subst (λ n. used ≤ n) (sym old-length) (rep.counted c here)) yes' (rep.lists c here) in
        subst (λ b. Represents order y (record {
          jobs = with_condition (slice_get m.jobs t) m.jobs t Idle;
          places = cond b (with_part (c * task_count y) (task_count y) m.places (departed used t old)) m.places;
          counts = set m.counts c (cond b (departed_count used t old) used);
        }) z) (sym fit-test)
        (changed order y m s z rep c here ok.few_clusters (with_condition (slice_get m.jobs t) m.jobs t Idle) (length-condition (slice_get m.jobs t) m.jobs t Idle)
        (shows-become s m.jobs t Idle s.mark recorded rep.shows)
        (departed used t old) (length-closed used (found (λ e. e.task) t (take used old)) old ∙ old-length)
        (departed_count used t old) (less_one (held used (found (λ e. e.task) t (take used old)) old) used (task_count y) (rep.counted c here))
        gone
        (λ k ne es li. listed_apart P s z k t es li (λ x. ne (sym x)) (λ u nu. ap is_pending (put-there s.condition t u Idle nu)) (λ u nu. refl)))

  -- an accepted event
  accepts : (m : Contents Mark) (s : State Mark) → Accepted (plan_of order y) → Represents order y m s → (e : Event) → refusal (plan_of order y) s e ≡ None
      → Represents order y (stored order y m e) (moved (plan_of order y) s e)
  accepts m s ok rep (Release t i) h =
      let a = passed _ _ _ h in let b = passed _ _ _ a.1 in
      released m s ok rep t (ltb-true t (task_count y) (not-false _ a.0)) i b.0
  accepts m s ok rep (Finish t) h =
      let a = passed _ _ _ h in let b = passed _ _ _ a.1 in
      finished m s ok rep t (ltb-true t (task_count y) (not-false _ a.0)) (not-false _ b.0)

  -- refused or not
  either : (m n : Contents Mark) (s z : State Mark) (o : Option Refusal) → Represents order y m s → (o ≡ None → Represents order y n z) → Represents order y (kept_if o m n) (kept_if o s z)
  either m n s z None rep h = h refl
  either m n s z (Some f) rep h = rep

  still : (o : Option Refusal) (m n : Contents Mark) → is_ok (unless o OkAnswer) ≡ false → kept_if o m n ≡ m
  still None m n e = absurd (true≢false e)
  still (Some f) m n e = refl

  pub acted : (e : Event) (old new : Contents Mark) (r : Result Answer Refusal) → r ≡ replied order y old e → new ≡ afterwards order y old e → Acted order y e old new r
  acted e old new r re st = record {
    replies = re;
    stores = st;
    unchanged = λ h. st ∙ still (turned_away order y old e) old (stored order y old e) (ap is_ok (sym re) ∙ h);
    answers = λ calls at. re ∙ ap (λ o. unless o OkAnswer) (turned_away-is order law y old calls at e);
    reaches = λ calls at. record {
      accepted = at.accepted;
      stands = subst (λ x. Represents order y x (after (plan_of order y) (acting e ∷ calls))) (sym (st ∙ ap (λ o. kept_if o old (stored order y old e)) (turned_away-is order law y old calls at e)))
          (either old (stored order y old e) (after (plan_of order y) calls) (moved (plan_of order y) (after (plan_of order y) calls) e) (refusal (plan_of order y) (after (plan_of order y) calls) e) at.stands
          (accepts old (after (plan_of order y) calls) at.accepted at.stands e));
    };
    promise = λ calls at. kept (plan_of order y) law (acting e ∷ calls);
  }

  asked : (q : Question) (m : Contents Mark) → Asked order y q m
  asked q m = record {
    reaches = λ calls at. record { accepted = at.accepted; stands = at.stands };
    promise = λ calls at. kept (plan_of order y) law (asking q ∷ calls);
  }

  pub asked-the_set : (k : ℕ) (m : Contents Mark) (r : Result ℕ Refusal) → r ≡ asked_set order y m k → AskedSet order y k m r
  asked-the_set k m r e = record { replies = e; answers = λ calls at. e ∙ asked_set-is order law y m calls at k; asked = asked (scheduled_set_of k) m }

  pub asked-the_condition : (t : ℕ) (m : Contents Mark) (r : Result Condition Refusal) → r ≡ asked_condition order y m t → AskedCondition order y t m r
  asked-the_condition t m r e = record { replies = e; answers = λ calls at. e ∙ asked_condition-is order law y m calls at t; asked = asked (condition_of_job t) m }
