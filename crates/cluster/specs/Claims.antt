-- What the code's answers mean, for every plan and state that the memory stands for.
use Rattle.std.specs.Prelude.{◌≡◌, ℕ, ◌+◌, ◌<◌, ◌≤◌, Bool, true, false, cond, ◌⊎◌, List, length, take, Some, None}
use Rattle.model.specs.declared.Condition.TheVariants.{Idle}
use Rattle.model.specs.Words.{Plan, State, is_open, pending, scheduled_set}
use Rattle.model.specs.Rules.{arrive, become}
use Rattle.order.specs.declared.Entry.{Entry}
use Rattle.cluster.specs.declared.Job.{Job}
use Rattle.cluster.specs.Listing.{Listed, part, with_part, fits, entered, entered_count, departed, departed_count}
use Rattle.cluster.specs.Picks.{condition_at, donor_at, recipient_at}

-- the records show the jobs' conditions and links
pub record Shows {Mark : Type 0} (s : State Mark) (js : List Job) : Type 0 where
  pub conditions : (t : ℕ) → s.condition t ≡ condition_at js t
  pub donors : (t : ℕ) → s.donor t ≡ donor_at js t
  pub recipients : (t : ℕ) → s.recipient t ≡ recipient_at js t

-- donors and recipients are each other's, of one cluster; a donor is pending, a recipient has an open request and is no donor
pub record Tied {Mark : Type 0} (P : Plan Mark) (s : State Mark) : Type 0 where
  pub giver : (t d : ℕ) → s.donor t ≡ Some d → s.recipient d ≡ Some t
  pub taker : (d t : ℕ) → s.recipient d ≡ Some t → s.donor t ≡ Some d
  pub mates : (t d : ℕ) → s.donor t ≡ Some d → P.cluster d ≡ P.cluster t
  pub gives : (t d : ℕ) → s.donor t ≡ Some d → pending P s d ≡ true
  pub takes : (t d : ℕ) → s.donor t ≡ Some d → is_open (s.condition t) ≡ true
  pub plain : (t : ℕ) → is_open (s.condition t) ≡ true → s.recipient t ≡ None

module _ {Mark : Type 0} (before : Mark → ℕ → Mark → ℕ → Bool) where
  -- r is the scheduled set of the cluster whose list this is
  abbrev pub IsScheduled : List Job → List (Entry Mark) → ℕ → ℕ → Type 0
  IsScheduled js es size r = (P : Plan Mark) (s : State Mark) (k : ℕ) → P.order.before ≡ before → P.size ≡ size → P.tasks ≤ 64
      → Shows s js → Tied P s → Listed P s k es → r ≡ scheduled_set P s k

  -- a list of a cluster's pending jobs stays one as the job of t comes
  abbrev pub ListedOnArrival : List (Entry Mark) → ℕ → Entry Mark → List (Entry Mark) → ℕ → Type 0
  ListedOnArrival old used e new r = (P : Plan Mark) (s : State Mark) → P.order.before ≡ before → P.tasks ≤ length old → e.task < P.tasks
      → pending P s e.task ≡ false → Listed P s (P.cluster e.task) (take used old)
      → Listed P (arrive s e.task e.mark) (P.cluster e.task) (take r new)

  -- and as it leaves
  abbrev pub ListedOnLeaving : List (Entry Mark) → ℕ → ℕ → List (Entry Mark) → ℕ → Type 0
  ListedOnLeaving old used t new r = (P : Plan Mark) (s : State Mark) → P.order.before ≡ before → used ≤ length old
      → pending P s t ≡ true → Listed P s (P.cluster t) (take used old)
      → Listed P (become s t Idle) (P.cluster t) (take r new)

-- n places from a on share none with m places from b on
abbrev pub Apart : ℕ → ℕ → ℕ → ℕ → Type 0
Apart a n b m = (a + n ≤ b) ⊎ (b + m ≤ a)

module _ {Mark : Type 0} (before : Mark → ℕ → Mark → ℕ → Bool) (old : List (Entry Mark)) (from room used : ℕ) where
  -- the list in the first `used` of the `room` places from `from` on has taken e: r entries, the new places, what the list still is, and the other places
  pub record Entering (e : Entry Mark) (new : List (Entry Mark)) (r : ℕ) : Type 0 where
    pub count : r ≡ cond (fits from room old) (entered_count used room) used
    pub after : new ≡ cond (fits from room old) (with_part from room old (entered before used e (part from room old))) old
    pub keeps : from + room ≤ length old → ListedOnArrival before (part from room old) used e (part from room new) r
    pub others : (a n : ℕ) → Apart a n from room → part a n new ≡ part a n old

  -- the same where it has lost the entry of task t
  pub record Departing (t : ℕ) (new : List (Entry Mark)) (r : ℕ) : Type 0 where
    pub count : r ≡ cond (fits from room old) (departed_count used t (part from room old)) used
    pub after : new ≡ cond (fits from room old) (with_part from room old (departed used t (part from room old))) old
    pub keeps : from + room ≤ length old → ListedOnLeaving before (part from room old) used t (part from room new) r
    pub others : (a n : ℕ) → Apart a n from room → part a n new ≡ part a n old
