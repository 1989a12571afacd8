-- What a list of a cluster's pending jobs says of the words that count
use Rattle.std.proofs.Common.{◌≡◌, ℕ, ◌<◌, Bool, true, false, ◌&&◌, eqb, ltb, List, [], ◌∷◌, length, get_or, take, sym, refl, ap, ◌∙◌, arith}
use Rattle.std.proofs.lemmas.Bool.{and_parts, and_from, or_left, or_right, eqb-true, eq-eqb}
use Rattle.order.specs.declared.Entry.{Entry}
use Rattle.ordered.specs.Ranks.{Sorted, Leads}
use Rattle.model.specs.Tally.{tally}
use Rattle.order.specs.Urgency.{Lawful}
use Rattle.cluster.specs.Listing.{has}
use Rattle.model.specs.Words.{Plan, State, pending, goes, ahead, foremost}
use Rattle.model.proofs.Count.{tally-same}
use Rattle.model.proofs.Schedule.{ordered}
use Rattle.cluster.specs.Listing.{Listed, tasks_of, Marked, urgent}
use Rattle.cluster.proofs.Line.{Lines, has-read, rank-at, at_rank, count-line, fore-is}

pub and-twice : (a e b : Bool) → (a && (e && b)) ≡ ((a && e) && (e && b))
and-twice true true b = refl
and-twice true false b = refl
and-twice false e b = refl

pub and_one : (a : Bool) → a ≡ (a && true)
and_one true = refl
and_one false = refl

-- a tally of those of one cluster
pub tally-mates : (n k : ℕ) (cl : ℕ → ℕ) (P b : ℕ → Bool) (j : ℕ) → j ≡ k → tally n (λ u. P u && (eqb (cl u) j && b u)) ≡ tally n (λ u. (P u && eqb (cl u) k) && (eqb (cl u) j && b u))
tally-mates n k cl P b j e = tally-same n _ _ (λ u l. and-twice (P u) (eqb (cl u) j) (b u) ∙ ap (λ x. (P u && eqb (cl u) x) && (eqb (cl u) j && b u)) e)

module _ {M : Type 0} (P : Plan M) (s : State M) (law : Lawful P.order.before) (k : ℕ) where
  leads_tasks : (e : Entry M) (fs : List (Entry M)) → e.mark ≡ s.mark e.task → P.cluster e.task ≡ k → Marked s.mark fs → ((t : ℕ) → has (tasks_of fs) t ≡ true → P.cluster t ≡ k) → Leads (urgent P.order.before) e fs → Leads (goes P s) e.task (tasks_of fs)
  leads_tasks e [] m c ms cs l = tt
  leads_tasks e (f ∷ fs) m c ms cs l = (
    and_from (eqb (P.cluster e.task) (P.cluster f.task)) _ (eq-eqb _ _ (c ∙ sym (cs f.task (or_left (eqb f.task f.task) _ (eq-eqb f.task f.task refl)))))
        (ap (λ x. P.order.before x e.task (s.mark f.task) f.task) (sym m) ∙ (ap (λ y. P.order.before e.mark e.task y f.task) (sym ms.0) ∙ l.0)),
    leads_tasks e fs m c ms.1 (λ t h. cs t (or_right (eqb f.task t) _ h)) l.1,
  )

  sorted-tasks : (es : List (Entry M)) → Marked s.mark es → ((t : ℕ) → has (tasks_of es) t ≡ true → P.cluster t ≡ k) → Sorted (urgent P.order.before) es → Sorted (goes P s) (tasks_of es)
  sorted-tasks [] ms cs so = tt
  sorted-tasks (e ∷ es) ms cs so = (
    leads_tasks e es ms.0 (cs e.task (or_left (eqb e.task e.task) _ (eq-eqb e.task e.task refl))) ms.1 (λ t h. cs t (or_right (eqb e.task t) _ h)) so.0,
    sorted-tasks es ms.1 (λ t h. cs t (or_right (eqb e.task t) _ h)) so.1,
  )

  module _ (es : List (Entry M)) (li : Listed P s k es) where
    pub mine : (t : ℕ) → has (tasks_of es) t ≡ true → (pending P s t ≡ true) × (P.cluster t ≡ k)
    mine t h = let a = and_parts (pending P s t) _ (sym (li.exactly t) ∙ h) in (a.0, eqb-true _ _ a.1)

    pub line : Lines (goes P s) (λ t. pending P s t && eqb (P.cluster t) k) (tasks_of es)
    line = record { sorted = sorted-tasks es li.marks (λ t h. (mine t h).1) li.sorted; exactly = li.exactly }

    ahead-is : (t : ℕ) → P.cluster t ≡ k → ahead P s t ≡ tally P.tasks (λ u. (pending P s u && eqb (P.cluster u) k) && goes P s u t)
    ahead-is t c = tally-mates P.tasks k P.cluster (pending P s) (λ u. P.order.before (s.mark u) u (s.mark t) t) (P.cluster t) c

    -- the entry at i has i ahead
    pub ahead-at : (i : ℕ) → i < length (tasks_of es) → ahead P s (get_or (tasks_of es) i 0) ≡ i
    ahead-at i l =
        ahead-is (get_or (tasks_of es) i 0) (mine _ (has-read (tasks_of es) i l)).1
        ∙ rank-at (goes P s) (ordered P law s).never (ordered P law s).carries P.tasks _ (tasks_of es) line li.within i l

    -- a pending job stands at the place that counts those ahead
    pub at_ahead : (t : ℕ) → pending P s t ≡ true → P.cluster t ≡ k → (ahead P s t < length (tasks_of es)) × (get_or (tasks_of es) (ahead P s t) 0 ≡ t)
    at_ahead t p c =
        let r = at_rank (goes P s) (ordered P law s).never (ordered P law s).carries P.tasks _ (tasks_of es) line li.within t (and_from (pending P s t) _ p (eq-eqb _ _ c)) in
        let e : ahead P s t ≡ tally P.tasks (λ u. (pending P s u && eqb (P.cluster u) k) && goes P s u t) = ahead-is t c in
        let l : tally P.tasks (λ u. (pending P s u && eqb (P.cluster u) k) && goes P s u t) < length (tasks_of es) = r.0 in
        (omega arith, ap (λ i. get_or (tasks_of es) i 0) e ∙ r.1)

    -- the number of the cluster's pending jobs
    pub count-is : tally P.tasks (λ t. pending P s t && eqb (P.cluster t) k) ≡ length (tasks_of es)
    count-is = count-line (goes P s) (ordered P law s).never (ordered P law s).carries P.tasks _ (tasks_of es) line li.within

    -- the foremost are the first of the list
    pub foremost-is : (t : ℕ) → P.cluster t ≡ k → foremost P s t ≡ has (take P.size (tasks_of es)) t
    foremost-is t c =
        ap (λ i. pending P s t && ltb i P.size) (ahead-is t c)
        ∙ (ap (λ b. b && ltb (tally P.tasks (λ u. (pending P s u && eqb (P.cluster u) k) && goes P s u t)) P.size) (and_one (pending P s t) ∙ ap (λ b. pending P s t && b) (sym (eq-eqb (P.cluster t) k c)))
        ∙ fore-is (goes P s) (ordered P law s).never (ordered P law s).carries P.tasks _ (tasks_of es) line li.within P.size t)
