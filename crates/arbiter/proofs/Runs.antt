-- A list of events run on the memory is that list run by the rules.
use Rattle.std.proofs.Common.{◌≡◌, ℕ, zero, suc, ◌+◌, ◌<◌, min, List, [], ◌∷◌, ◌++◌, length, get_or, take, drop, set, sym, refl, ap, ◌∙◌, subst, append_assoc, arith}
use Rattle.std.proofs.lemmas.List.{take_more, drop_more, set_at, length-take-le}
use Rattle.order.specs.Urgency.{Urgency, Lawful}
use Rattle.model.specs.declared.Event.{Event}
use Rattle.model.specs.Rules.{Call, acting, after, answer, act, scheduled_answer}
use Rattle.model.proofs.Runs.{kept}
use Rattle.arbiter.specs.declared.System.{System}
use Rattle.arbiter.specs.declared.Outcome.{Outcome}
use Rattle.arbiter.specs.Memory.{Contents, plan_of, replied, afterwards}
use Rattle.arbiter.specs.Meaning.{Reached}
use Rattle.arbiter.specs.Outcomes.{or_none, eight, with_events, outcomes, sets, outcome, ran_on, written, Ran}
use Rattle.arbiter.proofs.Replies.{asked_set-is}
use Rattle.arbiter.proofs.Steps.{acted}

same-eight : (f g : ℕ → ℕ) → ((k : ℕ) → f k ≡ g k) → eight f ≡ eight g
same-eight f g h =
    let a = h 0 in let b = h 1 in let c = h 2 in let d = h 3 in let e = h 4 in let i = h 5 in let j = h 6 in let k = h 7 in cc

-- what holds of 0 to 7 holds of each number below 8
module _ (P : ℕ → Type 0) (a : P 0) (b : P 1) (c : P 2) (d : P 3) (e : P 4) (f : P 5) (g : P 6) (h : P 7) where
  pub by_eight : (i : ℕ) → i < 8 → P i
  by_eight zero lt = a
  by_eight (suc zero) lt = b
  by_eight (suc (suc zero)) lt = c
  by_eight (suc (suc (suc zero))) lt = d
  by_eight (suc (suc (suc (suc zero)))) lt = e
  by_eight (suc (suc (suc (suc (suc zero))))) lt = f
  by_eight (suc (suc (suc (suc (suc (suc zero)))))) lt = g
  by_eight (suc (suc (suc (suc (suc (suc (suc zero))))))) lt = h
  by_eight (suc (suc (suc (suc (suc (suc (suc (suc i)))))))) lt = absurd (omega arith)

module _ {Mark : Type 0} (order : Urgency Mark) (y : System) where
  -- one event more
  pub ran_more : (m : Contents Mark) (es : List Event) (e : Event) → ran_on order y m (es ++ (e ∷ [])) ≡ afterwards order y (ran_on order y m es) e
  ran_more m [] e = refl
  ran_more m (x ∷ es) e = ran_more (afterwards order y m x) es e

  pub written-more : (m : Contents Mark) (es : List Event) (e : Event) → written order y m (es ++ (e ∷ [])) ≡ written order y m es ++ (outcome order y (ran_on order y m es) e ∷ [])
  written-more m [] e = refl
  written-more m (x ∷ es) e = ap (λ os. outcome order y m x ∷ os) (written-more (afterwards order y m x) es e)

  pub length-written : (m : Contents Mark) (es : List Event) → length (written order y m es) ≡ length es
  length-written m [] = refl
  length-written m (e ∷ es) = ap suc (length-written (afterwards order y m e) es)

  module _ (law : Lawful order.before) where
    next : (m : Contents Mark) (calls : List Call) → Reached order y m calls → (e : Event) → Reached order y (afterwards order y m e) (acting e ∷ calls)
    next m calls at e = (acted order law y e m (afterwards order y m e) (replied order y m e) refl refl).reaches calls at

    reached-all : (es : List Event) (m : Contents Mark) (calls : List Call) → Reached order y m calls → Reached order y (ran_on order y m es) (with_events es calls)
    reached-all [] m calls at = at
    reached-all (e ∷ es) m calls at = reached-all es (afterwards order y m e) (acting e ∷ calls) (next m calls at e)

    written_is : (es : List Event) (m : Contents Mark) (calls : List Call) → Reached order y m calls → written order y m es ≡ outcomes (plan_of order y) (after (plan_of order y) calls) es
    written_is [] m calls at = refl
    written_is (e ∷ es) m calls at =
        let n = next m calls at e in
        let a : replied order y m e ≡ answer (plan_of order y) (after (plan_of order y) calls) e = (acted order law y e m (afterwards order y m e) (replied order y m e) refl refl).answers calls at in
        let b : sets order y (afterwards order y m e) ≡ eight (λ k. or_none (scheduled_answer (plan_of order y) (act (plan_of order y) (after (plan_of order y) calls) e) k)) =
        same-eight _ _ (λ k. ap or_none (asked_set-is order law y (afterwards order y m e) (acting e ∷ calls) n k)) in
        let c : written order y (afterwards order y m e) es ≡ outcomes (plan_of order y) (act (plan_of order y) (after (plan_of order y) calls) e) es = written_is es (afterwards order y m e) (acting e ∷ calls) n in
        cc

    pub ran : (es : List Event) (places : List Outcome) (old new : Contents Mark) (out : List Outcome) (r : ℕ) → r ≡ min (length es) (length places)
        → new ≡ ran_on order y old (take r es) → out ≡ written order y old (take r es) ++ drop r places → Ran order y es places old new out r
    ran es places old new out r c s w = record {
      count = c;
      stores = s;
      writes = w;
      answers = λ calls at. written_is (take r es) old calls at;
      reaches = λ calls at. subst (λ m. Reached order y m (with_events (take r es) calls)) (sym s) (reached-all (take r es) old calls at);
      promise = λ calls at. kept (plan_of order y) law (with_events (take r es) calls);
    }

  -- a turn of the loop: the memory, and the outcomes
  module _ (old m : Contents Mark) (es : List Event) (i : ℕ) (d : Event) (l : i < length es) (at : m ≡ ran_on order y old (take i es)) where
    pub run_step : (new : Contents Mark) → new ≡ afterwards order y m (get_or es i d) → new ≡ ran_on order y old (take (i + 1) es)
    run_step new e = e ∙ (ap (λ z. afterwards order y z (get_or es i d)) at ∙ (sym (ran_more old (take i es) (get_or es i d)) ∙ ap (ran_on order y old) (sym (take_more es i d l))))

    pub write_step : (places out : List Outcome) (o : Outcome) → i < length places → o ≡ outcome order y m (get_or es i d)
        → out ≡ written order y old (take i es) ++ drop i places → set out i o ≡ written order y old (take (i + 1) es) ++ drop (i + 1) places
    write_step places out o k e w =
        let a : length (written order y old (take i es)) ≡ i = length-written old (take i es) ∙ length-take-le i es (omega arith) in
        let b : out ≡ written order y old (take i es) ++ (get_or places i o ∷ drop (i + 1) places) = w ∙ ap (λ z. written order y old (take i es) ++ z) (drop_more places i o k) in
        let f : o ≡ outcome order y (ran_on order y old (take i es)) (get_or es i d) = e ∙ ap (λ z. outcome order y z (get_or es i d)) at in
        ap (λ z. set z i o) b
        ∙ (set_at (written order y old (take i es)) (get_or places i o) (drop (i + 1) places) o i a
        ∙ (sym (append_assoc (written order y old (take i es)) (o ∷ []) (drop (i + 1) places))
        ∙ ap (λ z. z ++ drop (i + 1) places)
        (ap (λ z. written order y old (take i es) ++ (z ∷ [])) f ∙ (sym (written-more old (take i es) (get_or es i d)) ∙ ap (written order y old) (sym (take_more es i d l))))))
