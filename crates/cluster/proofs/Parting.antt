-- A write to a part of a slice, and the other parts.
use Rattle.std.proofs.Common.{◌≡◌, ℕ, suc, ◌+◌, ◌-◌, ◌*◌, ◌<◌, ◌≤◌, cond, List, length, take, drop, sym, ap, ◌∙◌, inl, inr, ⊎_elim, suc-mul, arith, length-drop}
use borrow.Rule.Slice.PartMut.{put_mid}
use Rattle.std.proofs.lemmas.List.{drop-take, length-take-le}
use Rattle.std.proofs.lemmas.Slice.{take-put_mid_below, drop-put_mid, between-put_mid}
use Rattle.std.proofs.lemmas.Nat.{mul-le}
use Rattle.std.proofs.lemmas.Bool.{cases_order, cond-true, le-leb}
use Rattle.cluster.specs.Listing.{part, with_part, fits}
use Rattle.cluster.specs.Claims.{Apart}

pub same-part : {A : Type 0} (xs ys : List A) (a n from room : ℕ) → from + room ≤ length xs → length ys ≡ room → Apart a n from room → part a n (put_mid from room xs ys) ≡ part a n xs
same-part xs ys a n from room fits long (inl l) =
    sym (drop-take a n (put_mid from room xs ys)) ∙ (ap (drop a) (take-put_mid_below from room xs ys (a + n) l (omega arith)) ∙ drop-take a n xs)
same-part xs ys a n from room fits long (inr l) = ap (take n) (drop-put_mid from room xs ys a l (omega arith) long)

pub this_part : {A : Type 0} (xs ys : List A) (from room : ℕ) → from + room ≤ length xs → length ys ≡ room → part from room (put_mid from room xs ys) ≡ ys
this_part xs ys from room fits long =
    let e : room ≡ from + room - from = omega arith in
    ap (λ n. take n (drop from (put_mid from room xs ys))) e ∙ between-put_mid from room xs ys (from + room) (omega arith) (long ∙ e)

-- the lists of two clusters share no place
pub far_apart : (j k n : ℕ) → (j ≡ k → ⊥) → Apart (j * n) n (k * n) n
far_apart j k n ne = ⊎_elim (λ (e : j ≡ k). absurd (ne e))
    (⊎_elim
    (λ (l : j < k). let a : suc j * n ≡ j * n + n = suc-mul j n in let b : suc j * n ≤ k * n = mul-le (suc j) n k n (omega arith) (omega arith) in inl (omega arith))
    (λ (l : k < j). let a : suc k * n ≡ k * n + n = suc-mul k n in let b : suc k * n ≤ j * n = mul-le (suc k) n j n (omega arith) (omega arith) in inr (omega arith)))
    (cases_order j k)

-- the part from `from` on has become F of what it was; j is the part's length as the code works it out
module _ {A : Type 0} (xs last : List A) (from room j : ℕ) (F : List A → List A) (e : j ≡ room) (f : from + room ≤ length xs)
    (is : last ≡ F (take j (drop from xs))) (kept : length last ≡ length (take j (drop from xs))) where
  long : length last ≡ room
  long =
      let d : length (drop from xs) ≡ length xs - from = length-drop from xs in
      let l : length (take j (drop from xs)) ≡ j = length-take-le j (drop from xs) (omega arith) in
      kept ∙ (l ∙ e)

  is-part : last ≡ F (part from room xs)
  is-part = is ∙ ap (λ n. F (take n (drop from xs))) e

  pub written : put_mid from j xs last ≡ cond (fits from room xs) (with_part from room xs (F (part from room xs))) xs
  written = ap (λ n. put_mid from n xs last) e ∙ (ap (with_part from room xs) is-part ∙ sym (cond-true (fits from room xs) _ xs (le-leb (from + room) (length xs) f)))

  pub here : part from room (put_mid from j xs last) ≡ F (part from room xs)
  here = ap (λ n. part from room (put_mid from n xs last)) e ∙ (this_part xs last from room f long ∙ is-part)

  pub elsewhere : (a n : ℕ) → Apart a n from room → part a n (put_mid from j xs last) ≡ part a n xs
  elsewhere a n far = ap (λ i. part a n (put_mid from i xs last)) e ∙ same-part xs last a n from room f long far

  pub part_length : length (part from room xs) ≡ room
  part_length = ap (λ n. length (take n (drop from xs))) (sym e) ∙ (sym kept ∙ long)
