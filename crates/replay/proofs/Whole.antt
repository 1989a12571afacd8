-- A run in memory that is large enough is the run by the rules.
use Rattle.std.proofs.Common.{◌≡◌, ℕ, ◌*◌, ◌≤◌, min, Bool, true, false, cond, ◌||◌, ltb, List, [], ◌∷◌, ◌++◌, length, take, drop, Some, None, Ok, Err, Option, Result, sym, refl, ap, ◌∙◌, append-nil, arith}
use Rattle.std.proofs.lemmas.Nat.{mul-le}
use Rattle.std.proofs.lemmas.List.{take_all, drop_all}
use Rattle.std.proofs.lemmas.Bool.{or_parts, or_from, ltb-false, le-ltb}
use Rattle.order.specs.Urgency.{Urgency, Lawful}
use Rattle.model.specs.declared.Task.{Task}
use Rattle.model.specs.declared.Event.{Event}
use Rattle.model.specs.declared.Refusal.{Refusal}
use Rattle.model.specs.declared.Refusal.TheVariants.{ClusterCount, ClusterSize, TaskCount, MemoryTooSmall, ClusterAbsent, ParameterUnfit}
use Rattle.model.specs.Rules.{first_of, start, unless}
use Rattle.model.proofs.Runs.{kept}
use Rattle.arbiter.specs.declared.System.{System}
use Rattle.arbiter.specs.declared.Outcome.{Outcome}
use Rattle.arbiter.specs.Memory.{Tables, Contents, tables, said, plan_by, plan_of}
use Rattle.arbiter.specs.Meaning.{Reached}
use Rattle.arbiter.specs.SetUp.{outside, absent, unfit, unaccepted}
use Rattle.arbiter.proofs.Starts.{refused-for, accepted-for}
use Rattle.arbiter.specs.Outcomes.{with_events, outcomes, written, Ran}
use Rattle.scenario.specs.declared.Header.{Header}
use Rattle.scenario.specs.Loading.{Loaded}
use Rattle.replay.specs.declared.Cause.{Cause}
use Rattle.replay.specs.declared.Cause.TheVariants.{SetUp}
use Rattle.replay.specs.Trace.{Printed, tables_of, refused, stopped_after, ending, system_text, run_text, ran_unless, run_under, Promised}

module _ {Mark : Type 0} (order : Urgency Mark) where
  -- a place for each outcome: all events are run
  pub ran_all : (y : System) (es : List Event) (places : List Outcome) (old new : Contents Mark) (out : List Outcome) (r : ℕ) → Ran order y es places old new out r
      → length places ≡ length es → Reached order y old [] → out ≡ outcomes (plan_of order y) (start (plan_of order y)) es
  ran_all y es places old new out r ran e at =
      let c : r ≡ min (length es) (length places) = ran.count in
      let n : r ≡ length es = c ∙ (ap (min (length es)) e ∙ same (length es)) in
      let t : take r es ≡ es = take_all r es (omega arith) in
      let d : drop r places ≡ [] = drop_all r places (omega arith) in
      ran.writes
      ∙ (ap (λ z. written order y old (take r es) ++ z) d
      ∙ (append-nil (written order y old (take r es))
      ∙ (ran.answers [] at ∙ ap (outcomes (plan_of order y) (start (plan_of order y))) t)))
    where
      same : (k : ℕ) → min k k ≡ k
      same k = omega arith

  skip-test : {A : Type 0} (a b c d : Bool) (f g h i z : A) → (a ≡ false → c ≡ false → d ≡ false) → cond a f (cond b g (cond c h (cond d i z))) ≡ cond a f (cond b g (cond c h z))
  skip-test true b c d f g h i z k = refl
  skip-test false true c d f g h i z k = refl
  skip-test false false true d f g h i z k = refl
  skip-test false false false d f g h i z k = ap (λ x. cond x i z) (k refl refl)

  -- memory for 64 tasks and 8 clusters is enough for any tables
  pub enough-memory : (x : Tables) (m : Contents Mark) → 64 ≤ length m.jobs → 512 ≤ length m.places → unaccepted order x m ≡ refused order x
  enough-memory x m j p = skip-test (outside 1 8 x.clusters) (outside 1 8 x.size) (outside 1 64 (length x.tasks))
      (ltb (length m.jobs) (length x.tasks) || ltb (length m.places) (x.clusters * length x.tasks))
      (Some ClusterCount) (Some ClusterSize) (Some TaskCount) (Some MemoryTooSmall)
      (first_of ((absent x.clusters x.tasks, ClusterAbsent) ∷ (unfit order.fits x.tasks, ParameterUnfit) ∷ [])) (λ a c.
      let k : x.clusters ≤ 8 = ltb-false 8 x.clusters (or_parts (ltb x.clusters 1) (ltb 8 x.clusters) a).1 in
      let n : length x.tasks ≤ 64 = ltb-false 64 (length x.tasks) (or_parts (ltb (length x.tasks) 1) (ltb 64 (length x.tasks)) c).1 in
      let q : x.clusters * length x.tasks ≤ 8 * 64 = mul-le x.clusters (length x.tasks) 8 64 k n in
      let a1 : length x.tasks ≤ length m.jobs = omega arith in
      let a2 : x.clusters * length x.tasks ≤ length m.places = omega arith in
      or_from _ _ (le-ltb _ _ a1) (le-ltb _ _ a2))

  module _ (h : Header) (s : Loaded) (ts : List Task) (m : Contents Mark) (same : ts ≡ s.tasks) (j : 64 ≤ length m.jobs) (p : 512 ≤ length m.places) where
    -- what set-up is given
    abbrev given : Tables
    given = tables h.clusters h.cluster_size ts

    abbrev pub answer : Result Unit Refusal
    answer = unless (unaccepted order given m) tt

    is-given : given ≡ tables_of h s
    is-given = ap (tables h.clusters h.cluster_size) same

    -- the tests of the file's tables come out as those of what is given
    tested : (o : Option Refusal) → unaccepted order given m ≡ o → refused order (tables_of h s) ≡ o
    tested o e = ap (refused order) (sym is-given) ∙ sym (enough-memory given m j p) ∙ e

    abbrev run : Printed
    run = ending (run_text order (tables_of h s) s.events) s.stop

    -- a run that set-up turns away
    pub turned_away : (f : Refusal) (why : Cause) → Err f ≡ answer → why ≡ SetUp f → stopped_after [] why s.start ≡ run_under order h s
    turned_away f why e w =
        ap (λ z. stopped_after [] z s.start) w
        ∙ sym (ap (λ o. ran_unless o s.start run) (tested (Some f) (refused-for _ f e)))

    -- a run that it accepts
    pub ran_whole : (y : System) (es : List Event) (os : List Outcome) (text : List ℕ) → said y ≡ given → Ok tt ≡ answer → es ≡ s.events → os ≡ outcomes (plan_of order y) (start (plan_of order y)) es
        → text ≡ system_text (said y) es os → ending text s.stop ≡ run_under order h s
    ran_whole y es os text ye e ee eo t =
        let r : text ≡ run_text order (tables_of h s) s.events =
        t ∙ ap (system_text (said y) es) eo
        ∙ ap (λ z. run_text order z es) (ye ∙ is-given) ∙ ap (run_text order (tables_of h s)) ee in
        ap (λ z. ending z s.stop) r ∙ sym (ap (λ o. ran_unless o s.start run) (tested None (accepted-for _ e)))

-- every file's list of events keeps the promise
pub promised : {Mark : Type 0} (order : Urgency Mark) → Lawful order.before → (s : Loaded) → Promised order s
promised order law s h e ok = kept (plan_by order (tables_of h s)) law (with_events s.events [])
