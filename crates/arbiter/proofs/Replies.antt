-- Memory that stands for a state answers as the rules do.
use Rattle.std.proofs.Common.{◌≡◌, ℕ, ◌/◌, ◌%◌, ◌^◌, ◌<◌, ◌≤◌, Bool, true, false, cond, not, ◌&&◌, eqb, ltb, List, Some, None, sym, refl, ap, ◌∙◌, ⊎_elim, arith}
use Rattle.std.proofs.lemmas.Bool.{cases_lt, lt-ltb, le-ltb, eq-eqb, cond-true, cond-false, not_from_false}
use Rattle.task_set.specs.Sets.{bits}
use Rattle.order.specs.Urgency.{Urgency, Lawful}
use Rattle.model.specs.declared.Event.{Event}
use Rattle.model.specs.declared.Event.TheVariants.{Release, Finish}
use Rattle.model.specs.declared.Refusal.TheVariants.{NoSuchTask, AlreadyPending, NotPending, NotScheduled, NoSuchCluster}
use Rattle.model.specs.Words.{Plan, State, is_pending, pending, scheduled, scheduled_set}
use Rattle.model.specs.Rules.{Call, after, refusal, unless, scheduled_answer, condition_answer}
use Rattle.model.proofs.Basics.{none_some}
use Rattle.model.proofs.Count.{one}
use Rattle.model.proofs.Schedule.{Plain}
use Rattle.model.proofs.Runs.{plain-after}
use Rattle.cluster.specs.Claims.{Tied}
use Rattle.cluster.specs.Picks.{condition_at}
use Rattle.cluster.proofs.Bits.{members-bit}
use Rattle.cluster.proofs.Whole.{set_holds}
use Rattle.arbiter.specs.declared.System.{System}
use Rattle.arbiter.specs.Memory.{Contents, task_count, cluster_at, plan_of, in_set, too_small, list_of, running, turned_away, asked_set, asked_condition}
use Rattle.arbiter.specs.Meaning.{Reached}

-- where nobody donates, nobody's links are at odds
tied : {Mark : Type 0} (P : Plan Mark) (s : State Mark) → Plain P s → Tied P s
tied P s plain = record {
  giver = λ t d e. absurd (none_some (s.donor t) d (plain.no_donor t) e);
  taker = λ d t e. absurd (none_some (s.recipient d) t (plain.no_recipient d) e);
  mates = λ t d e. absurd (none_some (s.donor t) d (plain.no_donor t) e);
  gives = λ t d e. absurd (none_some (s.donor t) d (plain.no_donor t) e);
  takes = λ t d e. absurd (none_some (s.donor t) d (plain.no_donor t) e);
  plain = λ t o. plain.no_recipient t;
}

is_one : (b : Bool) → eqb (one b) 1 ≡ b
is_one true = refl
is_one false = refl

module _ {Mark : Type 0} (order : Urgency Mark) (law : Lawful order.before) (y : System) (m : Contents Mark) (calls : List Call) (re : Reached order y m calls) where
  abbrev P : Plan Mark
  P = plan_of order y

  abbrev s : State Mark
  s = after P calls

  -- what runs on a cluster is its scheduled set
  pub running-is : (k : ℕ) → k < y.clusters → running order y m k ≡ scheduled_set P s k
  running-is k l = set_holds order.before law m.jobs (list_of order y m k) y.cluster_size P s k refl refl re.accepted.few_tasks
      re.stands.shows (tied P s (plain-after P calls)) (re.stands.lists k l)

  -- a task is in its cluster's set if it is scheduled
  in_running : (t : ℕ) → t < task_count y → in_set (running order y m (cluster_at y.tasks.now t)) t ≡ scheduled P s t
  unfolding bits
  in_running t l =
      let few : task_count y ≤ 64 = re.accepted.few_tasks in
      let k = cluster_at y.tasks.now t in
      ap (λ b. b && eqb (running order y m k / 2 ^ t % 2) 1) (lt-ltb t 64 (omega arith))
      ∙ (ap (λ x. eqb (x / 2 ^ t % 2) 1) (running-is k (re.accepted.placed t l))
      ∙ (ap (λ x. eqb x 1) (members-bit 64 t (λ u. eqb (P.cluster u) k && scheduled P s u) (omega arith))
      ∙ (is_one _ ∙ ap (λ b. b && scheduled P s t) (eq-eqb k k refl))))

  enough : {A : Type 0} (x z : A) → cond (too_small order y m) x z ≡ z
  enough x z = cond-false (too_small order y m) x z re.stands.enough

  -- two lists of tests that agree for a task agree
  by_task : {A : Type 0} (t : ℕ) (f : A) (a b : A) → (t < task_count y → a ≡ b) → cond (not (ltb t (task_count y))) f a ≡ cond (not (ltb t (task_count y))) f b
  by_task t f a b h = ⊎_elim
      (λ (l : t < task_count y). ap (λ x. cond (not (ltb t (task_count y))) f x) (h l))
      (λ (l : task_count y ≤ t). let e : not (ltb t (task_count y)) ≡ true = not_from_false _ (le-ltb t (task_count y) l) in cond-true _ f a e ∙ sym (cond-true _ f b e))
      (cases_lt t (task_count y))

  -- an event is turned away for the same reason
  pub turned_away-is : (e : Event) → turned_away order y m e ≡ refusal P s e
  turned_away-is (Release t i) = enough _ _
      ∙ ap (λ k. cond (not (ltb t (task_count y))) (Some NoSuchTask) (cond (is_pending k) (Some AlreadyPending) None)) (sym (re.stands.shows.conditions t))
  turned_away-is (Finish t) = enough _ _
      ∙ by_task t (Some NoSuchTask) _ _ (λ l.
      ap (λ k. cond (not (is_pending k)) (Some NotPending) (cond (not (in_set (running order y m (cluster_at y.tasks.now t)) t)) (Some NotScheduled) None)) (sym (re.stands.shows.conditions t))
      ∙ ap (λ b. cond (not (pending P s t)) (Some NotPending) (cond (not b) (Some NotScheduled) None)) (in_running t l))

  pub asked_set-is : (k : ℕ) → asked_set order y m k ≡ scheduled_answer P s k
  asked_set-is k = ap (λ o. unless o (running order y m k)) (enough _ _) ∙ ⊎_elim
      (λ (l : k < y.clusters). ap (λ x. unless (cond (not (ltb k y.clusters)) (Some NoSuchCluster) None) x) (running-is k l))
      (λ (l : y.clusters ≤ k).
      let e : cond (not (ltb k y.clusters)) (Some NoSuchCluster) None ≡ Some NoSuchCluster = cond-true _ _ _ (not_from_false _ (le-ltb k y.clusters l)) in
      ap (λ o. unless o (running order y m k)) e ∙ sym (ap (λ o. unless o (scheduled_set P s k)) e))
      (cases_lt k y.clusters)

  pub asked_condition-is : (t : ℕ) → asked_condition order y m t ≡ condition_answer P s t
  asked_condition-is t = ap (λ o. unless o (condition_at m.jobs t)) (enough _ _)
      ∙ ap (λ k. unless (cond (not (ltb t (task_count y))) (Some NoSuchTask) None) k) (sym (re.stands.shows.conditions t))
