-- Where nobody donates: every pending job is ready, and the scheduled are just the foremost.
use Rattle.std.proofs.Common.{◌≡◌, ℕ, ◌<◌, ◌≤◌, Bool, true, false, not, ◌&&◌, eqb, ltb, None, sym, refl, ap, ◌∙◌, ⊎_elim, arith}
use Rattle.std.proofs.lemmas.Bool.{cases_lt, both_ways, and_parts, and_from, and_right, eq-eqb, eqb-true, ltb-true}
use Rattle.order.specs.Urgency.{Lawful}
use Rattle.model.specs.declared.Condition.TheVariants.{Idle}
use Rattle.model.specs.Tally.{tally}
use Rattle.model.specs.Words.{Plan, State, is_pending, holds, runs, or_else, on, pending, goes, ahead, foremost, ready, place, precedes, scheduled}
use Rattle.model.specs.Promise.{Served}
use Rattle.model.proofs.Count.{tally-same, tally-into, tally-all}
use Rattle.model.proofs.Rank.{Ordered, rank-apart}

module _ {Mark : Type 0} (P : Plan Mark) (law : Lawful P.order.before) (s : State Mark) where
  -- the order of a cluster's jobs by their own marks
  pub ordered : Ordered P.cluster (goes P s)
  ordered = record {
    never = λ t. and_right (eqb (P.cluster t) (P.cluster t)) _ (law.never_itself (s.mark t) t);
    carries = λ t u v a b.
        let p = and_parts (eqb (P.cluster t) (P.cluster u)) _ a in
        let q = and_parts (eqb (P.cluster u) (P.cluster v)) _ b in
        and_from (eqb (P.cluster t) (P.cluster v)) _ (eq-eqb _ _ (eqb-true _ _ p.0 ∙ eqb-true _ _ q.0)) (law.carries _ _ _ t u v p.1 q.1);
    decides = λ t u k ne.
        let a : eqb (P.cluster t) (P.cluster u) ≡ true = eq-eqb _ _ k in
        let b : eqb (P.cluster u) (P.cluster t) ≡ true = eq-eqb _ _ (sym k) in
        rw (a, b) (law.decides (s.mark t) (s.mark u) t u ne);
    mates = λ t u g. eqb-true _ _ (and_parts (eqb (P.cluster t) (P.cluster u)) _ g).0;
  }

  -- a cluster has at most as many foremost jobs as processors
  pub few-foremost : (k : ℕ) → tally P.tasks (λ t. foremost P s t && eqb (P.cluster t) k) ≤ P.size
  few-foremost k =
      let r : tally P.tasks (λ t. foremost P s t && eqb (P.cluster t) k) ≤ tally P.size (λ _. true) = tally-into P.tasks P.size _ (λ _. true) (ahead P s)
      (λ t l h. let a = and_parts (foremost P s t) _ h in (ltb-true _ _ (and_parts (pending P s t) _ a.0).1, refl))
      (λ t u lt lu ht hu e.
      let a = and_parts (foremost P s t) _ ht in
      let b = and_parts (foremost P s u) _ hu in
      rank-apart P.tasks P.cluster (goes P s) ordered (pending P s) t u lt lu (and_parts (pending P s t) _ a.0).0 (and_parts (pending P s u) _ b.0).0 (eqb-true _ _ a.1 ∙ sym (eqb-true _ _ b.1)) e) in
      let z : tally P.size (λ _. true) ≡ P.size = tally-all P.size in
      omega arith

-- nobody donates, every pending job computes, and only tasks have jobs
pub record Plain {Mark : Type 0} (P : Plan Mark) (s : State Mark) : Type 0 where
  pub computes : (t : ℕ) → runs (s.condition t) ≡ is_pending (s.condition t)
  pub no_donor : (t : ℕ) → s.donor t ≡ None
  pub no_recipient : (t : ℕ) → s.recipient t ≡ None
  pub beyond : (t : ℕ) → P.tasks ≤ t → s.condition t ≡ Idle

module _ {Mark : Type 0} (P : Plan Mark) (s : State Mark) (plain : Plain P s) where
  pub within : (t : ℕ) → pending P s t ≡ true → t < P.tasks
  within t p = ⊎_elim (λ (l : t < P.tasks). l) (λ (l : P.tasks ≤ t). absurd (both_ways (pending P s t) (ap is_pending (plain.beyond t l)) p)) (cases_lt t P.tasks)

  ready-is : (t : ℕ) → ready P s t ≡ pending P s t
  ready-is t = ap (λ o. runs (s.condition t) && not (on o (λ r. holds (s.condition r)))) (plain.no_recipient t) ∙ (and-all (runs (s.condition t)) ∙ plain.computes t)
    where
      and-all : (b : Bool) → (b && true) ≡ b
      and-all true = refl
      and-all false = refl

  place_is : (t : ℕ) → place P s t ≡ t
  place_is t = ap (λ o. or_else o t) (plain.no_donor t)

  precedes-is : (u t : ℕ) → precedes P s u t ≡ goes P s u t
  precedes-is u t = ap (λ v. eqb (P.cluster u) (P.cluster t) && P.order.before (s.mark v) v (s.mark (place P s t)) (place P s t)) (place_is u)
      ∙ ap (λ v. eqb (P.cluster u) (P.cluster t) && P.order.before (s.mark u) u (s.mark v) v) (place_is t)

  -- the scheduled are the foremost
  pub scheduled-is : (t : ℕ) → scheduled P s t ≡ foremost P s t
  scheduled-is t =
      let n : tally P.tasks (λ u. ready P s u && precedes P s u t) ≡ ahead P s t = tally-same P.tasks _ _ (λ u _. ap (λ b. b && precedes P s u t) (ready-is u) ∙ ap (λ b. pending P s u && b) (precedes-is u t)) in
      ap (λ b. b && ltb (tally P.tasks (λ u. ready P s u && precedes P s u t)) P.size) (ready-is t) ∙ ap (λ i. pending P s t && ltb i P.size) n

  pub served : Lawful P.order.before → Served P s
  served law = record {
    exactly = λ t. scheduled-is t ∙ (again (pending P s t) (ltb (ahead P s t) P.size) ∙ ap (λ b. b && foremost P s t) (sym (ready-is t)));
    few = λ k.
        let e : tally P.tasks (λ t. scheduled P s t && eqb (P.cluster t) k) ≡ tally P.tasks (λ t. foremost P s t && eqb (P.cluster t) k) = tally-same P.tasks _ _ (λ t _. ap (λ b. b && eqb (P.cluster t) k) (scheduled-is t)) in
        let l : tally P.tasks (λ t. foremost P s t && eqb (P.cluster t) k) ≤ P.size = few-foremost P law s k in
        omega arith;
  }
    where
      again : (a b : Bool) → (a && b) ≡ (a && (a && b))
      again true b = refl
      again false b = refl
