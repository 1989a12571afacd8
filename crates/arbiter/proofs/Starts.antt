-- An accepted set-up leaves memory that stands for the state in which every task is idle.
use Rattle.std.proofs.Common.{◌≡◌, ℕ, zero, suc, ◌*◌, ◌<◌, ◌≤◌, Bool, true, false, not, ltb, List, [], ◌∷◌, length, take, replicate, IfOk, Some, None, Ok, Err, Option, Result, sym, refl, ap, ◌∙◌, subst, arith}
use lib.ListN.{length-replicate}
use Rattle.std.specs.List.{slice_get}
use Rattle.std.proofs.lemmas.Bool.{or_parts, ltb-true, ltb-false, not-false}
use Rattle.order.specs.Urgency.{Urgency, Lawful}
use Rattle.model.specs.declared.Task.{Task}
use Rattle.model.specs.declared.Refusal.{Refusal}
use Rattle.model.specs.Rules.{start, unless, kept_if}
use Rattle.model.specs.Promise.{Kept}
use Rattle.model.proofs.Runs.{kept}
use Rattle.cluster.specs.Listing.{Listed, part}
use Rattle.cluster.specs.Picks.{read}
use Rattle.cluster.proofs.Keep.{listed_none}
use Rattle.arbiter.specs.declared.System.{System}
use Rattle.arbiter.specs.Memory.{said, Contents, count_at, cluster_at, parameter_at, task_count, plan_of}
use Rattle.arbiter.specs.Meaning.{Reached}
use Rattle.arbiter.specs.SetUp.{outside, absent, unfit, idle_job, unaccepted, cleared, SetUp}
use Rattle.arbiter.proofs.Steps.{passed}
use Rattle.arbiter.proofs.Stores.{suffices}

-- what every record of a cleared memory says
all_same : {A B : Type 0} (f : A → B) (a : A) (n t : ℕ) → f a ≡ read f (f a) (slice_get (replicate n a) t)
all_same f a zero t = refl
all_same f a (suc n) zero = refl
all_same f a (suc n) (suc t) = all_same f a n t

-- a table with nothing absent or unfit, task by task
present : (clusters : ℕ) (ts : List Task) → absent clusters ts ≡ false → (t : ℕ) → t < length ts → cluster_at ts t < clusters
present clusters [] e t l = absurd (omega arith)
present clusters (x ∷ ts) e zero l = ltb-true _ _ (not-false _ (or_parts _ _ e).0)
present clusters (x ∷ ts) e (suc t) l = present clusters ts (or_parts (not (ltb x.cluster clusters)) _ e).1 t (omega arith)

fitting : (fits : ℕ → Bool) (ts : List Task) → unfit fits ts ≡ false → (t : ℕ) → t < length ts → fits (parameter_at ts t) ≡ true
fitting fits [] e t l = absurd (omega arith)
fitting fits (x ∷ ts) e zero l = not-false _ (or_parts _ _ e).0
fitting fits (x ∷ ts) e (suc t) l = fitting fits ts (or_parts (not (fits x.parameter)) _ e).1 t (omega arith)

inside : (low high n : ℕ) → outside low high n ≡ false → (low ≤ n) × (n ≤ high)
inside low high n e = let p = or_parts _ _ e in (ltb-false _ _ p.0, ltb-false _ _ p.1)

-- the reason of a refusal, and none where there is none
pub refused-for : (o : Option Refusal) (f : Refusal) → ◌≡◌ {A = Result (Unit {0}) Refusal} (Err f) (unless o tt) → o ≡ Some f
refused-for None f e = absurd cc
refused-for (Some x) f e = cc

pub accepted-for : (o : Option Refusal) → ◌≡◌ {A = Result (Unit {0}) Refusal} (Ok tt) (unless o tt) → o ≡ None
accepted-for None e = refl
accepted-for (Some f) e = absurd cc

module _ {Mark : Type 0} (order : Urgency Mark) (law : Lawful order.before) where
  starts : (y : System) (m : Contents Mark) → unaccepted order (said y) m ≡ None → Reached order y (cleared order m) []
  starts y m e =
      let a = passed _ _ _ e in let b = passed _ _ _ a.1 in let c = passed _ _ _ b.1 in
      let d = passed _ _ _ c.1 in let f = passed _ _ _ d.1 in let h = passed _ _ _ f.1 in
      let i = inside 1 8 y.clusters a.0 in
      let j = inside 1 8 y.cluster_size b.0 in
      let k = inside 1 64 (task_count y) c.0 in
      let q = or_parts _ _ d.0 in
      let n : length (replicate (length m.jobs) idle_job) ≡ length m.jobs = length-replicate (length m.jobs) idle_job in
      record {
        accepted = record {
          some_cluster = i.0;
          few_clusters = i.1;
          some_processor = j.0;
          few_processors = j.1;
          some_task = k.0;
          few_tasks = k.1;
          placed = present y.clusters y.tasks.now f.0;
          fitting = fitting order.fits y.tasks.now h.0;
        };
        stands = record {
          enough = suffices order y (cleared order m) k.1 (subst (λ z. task_count y ≤ z) (sym n) (ltb-false _ _ q.0)) (ltb-false _ _ q.1);
          eight = refl;
          shows = record {
            conditions = all_same (λ j. j.condition) idle_job (length m.jobs);
            donors = all_same (λ j. j.donor) idle_job (length m.jobs);
            recipients = all_same (λ j. j.recipient) idle_job (length m.jobs);
          };
          counted = λ k l. subst (λ z. z ≤ task_count y) (none k) (omega arith);
          lists = λ k l. subst (λ z. Listed (plan_of order y) (start (plan_of order y)) k (take z (part (k * task_count y) (task_count y) m.places))) (none k) (listed_none (plan_of order y) (start (plan_of order y)) k (λ t. refl));
        };
      }
    where
      none : (k : ℕ) → 0 ≡ count_at (replicate 8 0) k
      none = all_same (λ z. z) 0 8

  pub set_up_all : (y : System) (old new : Contents Mark) (r : Result Unit Refusal) (o : Option Refusal) → unaccepted order (said y) old ≡ o
      → r ≡ unless o tt → new ≡ kept_if o old (cleared order old) → SetUp order y old new r
  set_up_all y old new r None is re st = record {
    replies = re ∙ ap (λ o. unless o tt) (sym is);
    stores = st ∙ ap (λ o. kept_if o old (cleared order old)) (sym is);
    reaches = subst (λ r. IfOk r (λ _. Reached order y new [])) (sym re) (subst (λ m. Reached order y m []) (sym st) (starts y old is));
    promise = subst (λ r. IfOk r (λ _. Kept (plan_of order y) [])) (sym re) (kept (plan_of order y) law []);
  }
  set_up_all y old new r (Some f) is re st = record {
    replies = re ∙ ap (λ o. unless o tt) (sym is);
    stores = st ∙ ap (λ o. kept_if o old (cleared order old)) (sym is);
    reaches = subst (λ r. IfOk r (λ _. Reached order y new [])) (sym re) tt;
    promise = subst (λ r. IfOk r (λ _. Kept (plan_of order y) [])) (sym re) tt;
  }
