-- The laws bound a wait: each turn that ends takes one from a waiter's turns to go
use Rattle.std.proofs.Common.{◌≡◌, ℕ, ◌+◌, ◌<◌, ◌≤◌, Bool, true, false, cond, not, ◌&&◌, eqb, List, [], ◌∷◌, Some, None, Option, Ok, sym, refl, ap, ◌∙◌, ⊎_elim, arith}
use Rattle.std.proofs.lemmas.Bool.{and_from, and_parts, and_right, or_cases, or_from, eqb-false, not-true, or_left, or_right, both_ways, eq-eqb}
use Rattle.lock.specs.declared.Reply.TheVariants.{Granted, Waits}
use Rattle.lock.specs.declared.Reply.{Reply}
use Rattle.lock.specs.declared.Step.{Step}
use Rattle.lock.specs.declared.Step.TheVariants.{Request, Completion}
use Rattle.lock.specs.Words.{has}
use Rattle.lock.specs.Model.{LockModel, queued, member, crowd, is_granted, is_waits}
use Rattle.lock.specs.Laws.{Laws}
use Rattle.lock.specs.Waits.{after, ends_turn, grants_to, after_all, turns_to_grant, WaitsBounded, Live}

module _ {L : Type 0} {K : LockModel L} (a : Laws K) where
  after-sound : (l : L) (x : Step) → K.sound l → K.sound (after K l x)
  after-sound l (Request t m) g = a.request_sound l t m g
  after-sound l (Completion t) g = a.complete_sound l t g

  after-limit : (l : L) (x : Step) (m o : ℕ) → K.limit (after K l x) m o ≡ K.limit l m o
  after-limit l (Request t n) m o = a.request_limit l t n m o
  after-limit l (Completion t) m o = a.complete_limit l t m o

  all_sound : (l : L) (xs : List Step) → K.sound l → K.sound (after_all K l xs)
  all_sound l [] g = g
  all_sound l (x ∷ xs) g = all_sound (after K l x) xs (after-sound l x g)

  all-limit : (l : L) (xs : List Step) (m o : ℕ) → K.limit (after_all K l xs) m o ≡ K.limit l m o
  all-limit l [] m o = refl
  all-limit l (x ∷ xs) m o = all-limit (after K l x) xs m o ∙ after-limit l x m o

  -- a step of a waiter's wait, and the rest of it
  step-within : (l : L) (u : ℕ) (x : Step) (rest : ℕ) → K.sound l → queued K l u ≡ true → (queued K (after K l x) u ≡ true → rest ≤ K.togo (after K l x) u)
      → cond (ends_turn K l x) 1 0 + cond (grants_to K l u x) 0 rest ≤ K.togo l u
  step-within l u (Request t m) rest g h r =
      let b : rest ≤ K.togo (K.requested l t m) u = r (a.request_queued l t m u g ∙ or_left _ _ h) in
      let c : K.togo (K.requested l t m) u ≤ K.togo l u = a.request_togo l t m u g h in
      omega arith
  step-within l u (Completion t) rest g h r = go (K.holds l t) refl
    where
      taken : K.holds l t ≡ true → (e d : Bool) → K.ends l t ≡ e → K.grants l t u ≡ d → cond e 1 0 + cond d 0 rest ≤ K.togo l u
      taken y true true p q = let s : 1 ≤ K.togo l u = a.some_turn l u g h in omega arith
      taken y true false p q =
          let k : queued K (K.completed l t) u ≡ true = a.complete_queued l t u g y ∙ and_from (queued K l u) _ h (ap not q) in
          let b : rest ≤ K.togo (K.completed l t) u = r k in
          let c : K.togo (K.completed l t) u < K.togo l u = a.turn_ends l t u g y p k in
          omega arith
      taken y false true p q = absurd (both_ways (K.grants l t u) (a.none_granted l t u g y p) q)
      taken y false false p q =
          let b : rest ≤ K.togo (K.completed l t) u = r (a.complete_queued l t u g y ∙ and_from (queued K l u) _ h (ap not q)) in
          let c : K.togo (K.completed l t) u ≡ K.togo l u = a.turns_stay l t u g y p h in
          omega arith

      go : (b : Bool) → K.holds l t ≡ b → cond (b && K.ends l t) 1 0 + cond (b && K.grants l t u) 0 rest ≤ K.togo l u
      go true e = taken e (K.ends l t) (K.grants l t u) refl refl
      go false e =
          let same : K.completed l t ≡ l = a.complete_declined l t e in
          let b : rest ≤ K.togo (K.completed l t) u = r (ap (λ x. queued K x u) same ∙ h) in
          let c : K.togo (K.completed l t) u ≡ K.togo l u = ap (λ x. K.togo x u) same in
          omega arith

  within : (l : L) (u : ℕ) (xs : List Step) → K.sound l → queued K l u ≡ true → turns_to_grant K l u xs ≤ K.togo l u
  within l u [] g h = omega arith
  within l u (x ∷ xs) g h = step-within l u x (turns_to_grant K (after K l x) u xs) g h (λ k. within (after K l x) u xs (after-sound l x g) k)

  pub wait_within : (l : L) (t m : ℕ) (xs : List Step) → K.sound l → K.reply l t m ≡ Some Waits → turns_to_grant K (K.requested l t m) t xs ≤ K.limit l m (crowd K l)
  wait_within l t m xs g w =
      let k : queued K (K.requested l t m) t ≡ true = a.request_queued l t m t g ∙ or_right (queued K l t) _ (and_from (eqb t t) _ (eq-eqb t t refl) (ap is_waits w)) in
      let b : turns_to_grant K (K.requested l t m) t xs ≤ K.togo (K.requested l t m) t = within (K.requested l t m) t xs (a.request_sound l t m g) k in
      let c : K.togo (K.requested l t m) t ≤ K.limit l m (crowd K l) = a.newcomer l t m g w in
      omega arith

  pub waits_bounded : WaitsBounded K
  waits_bounded kind k m t mode l before later e w =
      let now = after_all K l before in
      let b : turns_to_grant K (K.requested now t mode) t later ≤ K.limit now mode (crowd K now) = wait_within now t mode later (all_sound l before (a.start_sound kind k m l e)) w in
      let c : K.limit now mode (crowd K now) ≡ K.limit l mode (crowd K now) = all-limit l before mode (crowd K now) in
      omega arith

  -- where the last holder completes, who holds then was granted
  last_served : (l : L) (t u : ℕ) → K.sound l → K.holds l t ≡ true → ((v : ℕ) → K.holds l v ≡ true → v ≡ t) → queued K l u ≡ true → (v : ℕ) × (K.grants l t v ≡ true)
  last_served l t u g h alone w = by (K.grants l t u) refl
    where
      held : (v : ℕ) → K.holds (K.completed l t) v ≡ true → K.grants l t v ≡ true
      held v y = ⊎_elim
          (λ (z : (K.holds l v && not (eqb t v)) ≡ true). let p = and_parts (K.holds l v) _ z in absurd (eqb-false t v (not-true _ p.1) (sym (alone v p.0))))
          (λ (z : K.grants l t v ≡ true). z)
          (or_cases (K.holds l v && not (eqb t v)) _ (sym (a.complete_holds l t v g h) ∙ y))

      by : (b : Bool) → K.grants l t u ≡ b → (v : ℕ) × (K.grants l t v ≡ true)
      by true e = (u, e)
      by false e =
          let s = a.served (K.completed l t) u (a.complete_sound l t g) (a.complete_queued l t u g h ∙ and_from (queued K l u) _ w (ap not e)) in
          (s.0, held s.0 s.1)

  last_turn : (l : L) (t v : ℕ) → K.sound l → K.holds l t ≡ true → K.grants l t v ≡ true → K.ends l t ≡ true
  last_turn l t v g h y = go (K.ends l t) refl
    where
      go : (b : Bool) → K.ends l t ≡ b → b ≡ true
      go true e = refl
      go false e = absurd (both_ways (K.grants l t v) (a.none_granted l t v g h e) y)

  -- who waits for an empty lock would wait for nobody
  empty-grants : (kind k m t mode : ℕ) (l : L) → K.start kind k m ≡ Ok l → t < 64 → K.fits l mode ≡ true → K.reply l t mode ≡ Some Granted
  empty-grants kind k m t mode l e lt f = go (K.reply l t mode) refl
    where
      sound : K.sound l
      sound = a.start_sound kind k m l e

      free : member K l t ≡ false
      free = or_from _ _ (a.start_unheld kind k m t l e) (ap (λ xs. has xs t) (a.start_list kind k m l e))

      go : (r : Option Reply) → K.reply l t mode ≡ r → r ≡ Some Granted
      go (Some Granted) y = refl
      go (Some Waits) y =
          let w : queued K (K.requested l t mode) t ≡ true = a.request_queued l t mode t sound ∙ or_right (queued K l t) _ (and_from (eqb t t) _ (eq-eqb t t refl) (ap is_waits y)) in
          let s = a.served (K.requested l t mode) t (a.request_sound l t mode sound) w in
          absurd (both_ways (K.holds (K.requested l t mode) s.0)
          (a.request_holds l t mode s.0 sound ∙ or_from _ _ (a.start_unheld kind k m s.0 l e) (ap (λ r. eqb t s.0 && is_granted r) y ∙ and_right _ _ refl)) s.1)
      go None y = absurd (a.taken l t mode sound lt free f y)

  pub live : Live K
  live = record {
    first_granted = empty-grants;
    last_ends = λ l t u g h alone w. last_turn l t (last_served l t u g h alone w).0 g h (last_served l t u g h alone w).1;
    last_grants = last_served;
  }
