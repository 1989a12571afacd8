-- The answers of the code, for whatever the memory is sound for
use Rattle.std.proofs.Common.{◌≡◌, ℕ, zero, suc, ◌^◌, ◌<◌, Bool, true, false, ◌||◌, eqb, ltb, List, [], ◌∷◌, take, sym, refl, ap, ◌∙◌, subst, arith}
use mathlib.Core.Path.{fun_ext}
use lib.Bits.{bit_or}
use Rattle.std.specs.List.{fold, filter_map}
use Rattle.std.proofs.lemmas.Bool.{or_left, or_right, eq-eqb, lt-ltb, cond-true}
use Rattle.order.specs.declared.Entry.{Entry}
use Rattle.order.specs.Urgency.{Lawful}
use Rattle.cluster.specs.Listing.{has}
use Rattle.model.specs.Words.{members}
use Rattle.cluster.specs.declared.Job.{Job}
use Rattle.cluster.specs.Picks.{pick, pick_at, donor_at, recipient_at, joined, picked_set}
use Rattle.task_set.specs.Sets.{bit}
use Rattle.task_set.specs.declared.TaskSet.{TaskSet}
use Rattle.cluster.specs.Listing.{tasks_of}
use Rattle.cluster.specs.Claims.{IsScheduled}
use Rattle.cluster.proofs.Line.{has-front}
use Rattle.cluster.proofs.Choose.{chosen-within, scheduled-is}
use Rattle.cluster.proofs.Bits.{members-same, members-more}

-- a number as a set
abbrev set_of : ℕ → TaskSet
set_of n = record { bits = n }

-- tasks put into a set
members-joined : (ts : List ℕ) (p : ℕ → Bool) → ((t : ℕ) → has ts t ≡ true → t < 64) → (fold joined (set_of (members 64 p)) ts).bits ≡ members 64 (λ u. p u || has ts u)
members-joined [] p b = members-same 64 _ _ (λ u l. or_off (p u))
  where
    or_off : (b : Bool) → b ≡ (b || false)
    or_off true = refl
    or_off false = refl
members-joined (t ∷ ts) p b =
    let l : t < 64 = b t (or_left (eqb t t) _ (eq-eqb t t refl)) in
    let e : bit_or (members 64 p) (bit t) ≡ members 64 (λ u. p u || eqb t u) = ap (bit_or (members 64 p)) (cond-true (ltb t 64) (2 ^ t) 0 (lt-ltb t 64 l)) ∙ members-more 64 t p l in
    ap (λ x. (fold joined (set_of x) ts).bits) e ∙ (members-joined ts (λ u. p u || eqb t u) (λ u h. b u (or_right (eqb t u) _ h)) ∙ members-same 64 _ _ (λ u l. or_assoc (p u) (eqb t u) (has ts u)))
  where
    or_assoc : (a b c : Bool) → ((a || b) || c) ≡ (a || (b || c))
    or_assoc true b c = refl
    or_assoc false b c = refl

no_members : (n : ℕ) → members n (λ _. false) ≡ 0
no_members zero = refl
no_members (suc n) = let r : members n (λ _. false) ≡ 0 = no_members n in omega arith

-- what is picked along a cluster's list is its scheduled set
pub set_holds : {M : Type 0} (before : M → ℕ → M → ℕ → Bool) → Lawful before → (js : List Job) (es : List (Entry M)) (size : ℕ) → IsScheduled before js es size (picked_set js es size)
set_holds before law js es size P s k b c few shows tied li =
    let good : Lawful P.order.before = subst Lawful (sym b) law in
    let same : pick_at js ≡ pick s.condition s.donor s.recipient =
    ap (λ f. pick f (donor_at js) (recipient_at js)) (fun_ext (λ t. sym (shows.conditions t)))
    ∙ (ap (λ f. pick s.condition f (recipient_at js)) (fun_ext (λ t. sym (shows.donors t)))
    ∙ ap (λ f. pick s.condition s.donor f) (fun_ext (λ t. sym (shows.recipients t)))) in
    let ts = take P.size (filter_map (pick s.condition s.donor s.recipient) (tasks_of es)) in
    ap (λ f. (fold joined (set_of 0) (take size (filter_map f (tasks_of es)))).bits) same
    ∙ (ap (λ n. (fold joined (set_of 0) (take n (filter_map (pick s.condition s.donor s.recipient) (tasks_of es)))).bits) (sym c)
    ∙ (ap (λ x. (fold joined (set_of x) ts).bits) (sym (no_members 64))
    ∙ (members-joined ts (λ _. false) (λ t h. let l : t < P.tasks = chosen-within P s good tied k es li t (has-front P.size _ t h) in omega arith)
    ∙ members-same 64 _ _ (λ t l. sym (scheduled-is P s good tied k es li t)))))
