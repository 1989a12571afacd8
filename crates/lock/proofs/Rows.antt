-- Rows of tasks: places in them, and what moves them up by one
use Rattle.std.proofs.Common.{◌≡◌, ℕ, zero, suc, ◌+◌, ◌-◌, ◌<◌, ◌≤◌, Bool, true, false, cond, ◌&&◌, ◌||◌, eqb, ltb, ◌==◌, List, [], ◌∷◌, ◌++◌, length, take, drop, Some, None, bit_or, fold, position, sym, refl, ap, ◌∙◌, arith, length-drop}
use Rattle.std.specs.List.{copy_within, position_or_len}
use Rattle.std.proofs.Math.Path.{fun_ext}
use Rattle.std.proofs.lemmas.List.{take-take, drop-take}
use Rattle.std.proofs.lemmas.List.Edits.{take-paste}
use Rattle.std.proofs.lemmas.List.Recursion.{is_position_or_len}
use Rattle.std.proofs.lemmas.Bool.{false≢true}
use Rattle.std.proofs.lemmas.Bool.Decides.{nat_tests}
use Rattle.task_set.specs.declared.TaskSet.{TaskSet}
use Rattle.task_set.specs.Sets.{bits, bit, tasks}
use Rattle.task_set.proofs.Bits.{zero-bits, with-bits}
use Rattle.lock.specs.Words.{has, index, removed}
use Rattle.lock.specs.Lists.{has-take}

pub index-has : (l : List ℕ) (t : ℕ) → ltb (index l t) (length l) ≡ has l t
index-has [] t = grind (arith, nat_tests)
index-has (x ∷ xs) t = let r = index-has xs t in grind (arith, nat_tests)

pub removed-parts : (l : List ℕ) (t : ℕ) → has l t ≡ true → removed l t ≡ take (index l t) l ++ drop (suc (index l t)) l
removed-parts [] t h = absurd (false≢true h)
removed-parts (x ∷ xs) t h = go (eqb x t) refl (λ k. removed-parts xs t k)
  where
    go : (b : Bool) → eqb x t ≡ b → (has xs t ≡ true → removed xs t ≡ take (index xs t) xs ++ drop (suc (index xs t)) xs) → cond b xs (x ∷ removed xs t) ≡ take (cond b 0 (suc (index xs t))) (x ∷ xs) ++ drop (suc (cond b 0 (suc (index xs t)))) (x ∷ xs)
    go true e r = refl
    go false e r = ap (λ r. x ∷ r) (r (let k = h in grind (arith, nat_tests)))

-- a task in the first p has its place there
pub place-front : (p : ℕ) (xs : List ℕ) (t : ℕ) → has (take p xs) t ≡ true → index (take p xs) t ≡ index xs t
place-front zero xs t h = absurd (false≢true h)
place-front (suc p) [] t h = refl
place-front (suc p) (x ∷ xs) t h = let r = place-front p xs t in grind (arith, nat_tests)

-- those behind the place moved up
pub moved_up : (xs : List ℕ) (at n : ℕ) → at < n → n ≤ length xs → take (n - 1) (copy_within xs (at + 1) n at) ≡ take at (take n xs) ++ drop (suc at) (take n xs)
moved_up xs at n lt le =
    let m = n - (at + 1) in let behind = drop (at + 1) xs in
    let long : length behind ≡ length xs - (at + 1) = length-drop (at + 1) xs in
    let end : n - 1 ≡ at + m = omega arith in
    let all : at + 1 + m ≡ n = omega arith in
    let one : at + 1 ≡ suc at = omega arith in
    ap (λ k. take k (copy_within xs (at + 1) n at)) end
    ∙ take-paste xs at behind m (omega arith) (omega (arith, long))
    ∙ ap (λ ys. ys ++ take m behind) (sym (take-take at n xs (omega arith)))
    ∙ ap (λ ys. take at (take n xs) ++ ys) (sym (drop-take (at + 1) m xs) ∙ ap (λ k. drop (at + 1) (take k xs)) all ∙ ap (λ k. drop k (take n xs)) one)

-- the place among the first p, by the whole row
place-first : (xs : List ℕ) (p t : ℕ) → position (λ x. x == t) (take p xs) ≡ cond (has xs t && ltb (index xs t) p) (Some (index xs t)) None
place-first xs p t =
    let ys = take p xs in
    let at : index ys t ≡ position_or_len (λ x. x == t) ys = is_position_or_len (λ zs. index zs t) (λ x. x == t) refl (λ x zs. ap (λ k. cond (x == t) 0 k) (omega arith)) ys in
    ap (λ k. cond (ltb k (length ys)) (Some k) None) (sym at)
    ∙ ap (λ b. cond b (Some (index ys t)) None) (index-has ys t)
    ∙ go (has ys t) refl
    ∙ ap (λ b. cond b (Some (index xs t)) None) (has-take p xs t)
  where
    go : (b : Bool) → has (take p xs) t ≡ b → cond b (Some (index (take p xs) t)) None ≡ cond b (Some (index xs t)) None
    go true e = ap Some (place-front p xs t e)
    go false e = refl

pub absent : (xs ys : List ℕ) (p t : ℕ) → ys ≡ take p xs → position (λ x. x == t) ys ≡ None → (has xs t && ltb (index xs t) p) ≡ false
absent xs ys p t is e = go (has xs t && ltb (index xs t) p) (sym (place-first xs p t) ∙ ap (position (λ x. x == t)) (sym is) ∙ e)
  where
    go : (b : Bool) → cond b (Some (index xs t)) None ≡ None → b ≡ false
    go true h = let z : ◌≡◌ {A = ℕ} 0 1 = cc in absurd (omega arith)
    go false h = refl

pub present : (xs ys : List ℕ) (p t at : ℕ) → ys ≡ take p xs → position (λ x. x == t) ys ≡ Some at → ((has xs t && ltb (index xs t) p) ≡ true) × (at ≡ index xs t)
present xs ys p t at is e = go (has xs t && ltb (index xs t) p) (sym (place-first xs p t) ∙ ap (position (λ x. x == t)) (sym is) ∙ e)
  where
    go : (b : Bool) → cond b (Some (index xs t)) None ≡ Some at → (b ≡ true) × (at ≡ index xs t)
    go true h = (refl, cc)
    go false h = let z : ◌≡◌ {A = ℕ} 0 1 = cc in absurd (omega arith)

-- the tasks of a row as a set
row-bits : (s : TaskSet) (xs : List ℕ) (u : ℕ) → bits (fold {A = ℕ} (λ (r : TaskSet) t. record { bits = bit_or r.bits (bit t) }) s xs).bits u ≡ (bits s.bits u || (has xs u && ltb u 64))
row-bits s [] u = grind (arith, nat_tests)
row-bits s (x ∷ xs) u =
    row-bits (record { bits = bit_or s.bits (bit x) }) xs u
    ∙ ap (λ b. b || (has xs u && ltb u 64)) (ap (λ (f : ℕ → Bool). f u) (with-bits s.bits x))
    ∙ grind (arith, nat_tests)

pub row-set : (s : TaskSet) (xs : List ℕ) → s ≡ fold (λ (r : TaskSet) t. record { bits = bit_or r.bits (bit t) }) (record { bits = 0 }) xs → bits s.bits ≡ tasks (has xs)
row-set s xs e = fun_ext (λ u. ap (λ (r : TaskSet). bits r.bits u) e ∙ row-bits (record { bits = 0 }) xs u ∙ ap (λ (f : ℕ → Bool). f u || (has xs u && ltb u 64)) zero-bits)
