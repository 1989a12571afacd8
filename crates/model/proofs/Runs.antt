-- Every list of calls since an accepted set-up keeps the promise.
use Rattle.std.proofs.Common.{◌≡◌, ℕ, ◌<◌, ◌≤◌, cond, not, ltb, List, [], ◌∷◌, Some, None, Option, sym, refl, ap, ◌∙◌, ⊎_elim, arith}
use Rattle.std.proofs.lemmas.Bool.{cases_lt, le-ltb, cond-true, not_from_false}
use Rattle.order.specs.Urgency.{Lawful}
use Rattle.model.specs.declared.Condition.{Condition}
use Rattle.model.specs.declared.Condition.TheVariants.{Idle, Computing}
use Rattle.model.specs.declared.Event.{Event}
use Rattle.model.specs.declared.Event.TheVariants.{Release, Finish}
use Rattle.model.specs.declared.Refusal.{Refusal}
use Rattle.model.specs.Words.{Plan, State, is_pending, runs}
use Rattle.model.specs.Rules.{Call, acting, asking, put, start, refusal, moved, act, after, kept_if}
use Rattle.model.specs.Promise.{Kept}
use Rattle.model.proofs.Basics.{put-here, put-there, by_point}
use Rattle.model.proofs.Schedule.{Plain, served}

module _ {Mark : Type 0} (P : Plan Mark) where
  pub plain-start : Plain P (start P)
  plain-start = record { computes = λ t. refl; no_donor = λ t. refl; no_recipient = λ t. refl; beyond = λ t l. refl }

  -- a task's condition becomes idle or computing
  becomes : (s : State Mark) → Plain P s → (t : ℕ) (k : Condition) → t < P.tasks → runs k ≡ is_pending k → (x : ℕ → Mark)
      → Plain P (record { condition = put s.condition t k; mark = x; donor = s.donor; recipient = s.recipient })
  becomes s plain t k l e x = record {
    computes = λ u. by_point (λ u. runs (put s.condition t k u) ≡ is_pending (put s.condition t k u)) t u
        (ap runs (put-here s.condition t t k refl) ∙ (e ∙ sym (ap is_pending (put-here s.condition t t k refl))))
        (λ ne. ap runs (put-there s.condition t u k ne) ∙ (plain.computes u ∙ sym (ap is_pending (put-there s.condition t u k ne))));
    no_donor = plain.no_donor;
    no_recipient = plain.no_recipient;
    beyond = λ u lu. put-there s.condition t u k (λ z. omega arith) ∙ plain.beyond u lu;
  }

  -- an event that is not refused names a task
  names_task : (t : ℕ) (f : Refusal) (o : Option Refusal) → cond (not (ltb t P.tasks)) (Some f) o ≡ None → t < P.tasks
  names_task t f o e = ⊎_elim (λ (l : t < P.tasks). l)
      (λ (l : P.tasks ≤ t). absurd (some-none f (sym (cond-true (not (ltb t P.tasks)) (Some f) o (not_from_false _ (le-ltb t P.tasks l))) ∙ e)))
      (cases_lt t P.tasks)
    where
      some-none : (f : Refusal) → Some f ≡ None → ⊥
      some-none f e = cc

  -- what holds of the state before, and of the state after an accepted event, holds after the event
  kept_or : (Q : State Mark → Type 0) (o : Option Refusal) (s z : State Mark) → Q s → (o ≡ None → Q z) → Q (kept_if o s z)
  kept_or Q None s z a b = b refl
  kept_or Q (Some f) s z a b = a

  plain-act : (s : State Mark) → Plain P s → (e : Event) → Plain P (act P s e)
  plain-act s plain (Release t i) = kept_or (Plain P) (refusal P s (Release t i)) s (moved P s (Release t i)) plain
      (λ e. becomes s plain t Computing (names_task t _ _ e) refl (put s.mark t (P.order.mark (P.parameter t) i)))
  plain-act s plain (Finish t) = kept_or (Plain P) (refusal P s (Finish t)) s (moved P s (Finish t)) plain
      (λ e. becomes s plain t Idle (names_task t _ _ e) refl s.mark)

  pub plain-after : (calls : List Call) → Plain P (after P calls)
  plain-after [] = plain-start
  plain-after (acting e ∷ xs) = plain-act (after P xs) (plain-after xs) e
  plain-after (asking q ∷ xs) = plain-after xs

  pub kept : Lawful P.order.before → (calls : List Call) → Kept P calls
  kept law [] = served P (after P []) (plain-after []) law
  kept law (x ∷ xs) = (served P (after P (x ∷ xs)) (plain-after (x ∷ xs)) law, kept law xs)
