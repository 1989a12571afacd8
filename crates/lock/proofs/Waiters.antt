-- The waiting, written into a buffer one after another
use Rattle.std.proofs.Common.{◌≡◌, ℕ, ◌+◌, ◌<◌, ◌≤◌, List, [], ◌∷◌, ◌++◌, length, take, drop, set, Ok, Err, sym, ap, ◌∙◌, arith}
use Rattle.std.proofs.lemmas.List.{take_more_set, drop-set-lt, take-append-drop, append_assoc, append-nil}
use Rattle.std.proofs.lemmas.Grind.{drop_more_same}
use Rattle.std.proofs.lemmas.Bool.{le-leb, lt-leb, cond-true, cond-false}
use Rattle.lock.specs.declared.Refusal.TheVariants.{BufferTooShort}
use Rattle.lock.specs.Model.{written, count_of}

-- the next is written at place n, in front of the others that are left
pub written-front : (b all rest others : List ℕ) (n m i t : ℕ) → rest ≡ t ∷ others → i ≡ n → m ≡ n + 1 → n < length b → take n b ++ rest ≡ all → take m (set b i t) ++ others ≡ all
written-front b all rest others n m i t e at next lt h =
    ap (λ k. take k (set b i t) ++ others) next ∙ ap (λ j. take (n + 1) (set b j t) ++ others) at
    ∙ ap (λ zs. zs ++ others) (take_more_set b n t lt) ∙ append_assoc (take n b) (t ∷ []) others ∙ ap (λ zs. take n b ++ zs) (sym e) ∙ h

-- and nothing behind it changes
pub written-behind : (b old : List ℕ) (n m i t : ℕ) → i ≡ n → m ≡ n + 1 → drop n b ≡ drop n old → drop m (set b i t) ≡ drop m old
written-behind b old n m i t at next h =
    ap (λ k. drop k (set b i t)) next ∙ ap (λ j. drop (n + 1) (set b j t)) at ∙ drop-set-lt (n + 1) b n t (omega arith)
    ∙ drop_more_same b old n h ∙ sym (ap (λ k. drop k old) next)

-- where none is left, all are written
pub written-all : (b old all rest : List ℕ) (n : ℕ) → rest ≡ [] → take n b ++ rest ≡ all → n + length rest ≡ length all → drop n b ≡ drop n old → b ≡ all ++ drop (length all) old
written-all b old all rest n e h count d =
    let none = ap length e in let same : n ≡ length all = omega (arith, none, count) in
    sym (take-append-drop n b)
    ∙ ap (λ zs. zs ++ drop n b) (sym (append-nil (take n b)) ∙ ap (λ zs. take n b ++ zs) (sym e) ∙ h)
    ∙ ap (λ zs. all ++ zs) d ∙ ap (λ k. all ++ drop k old) same

-- a buffer that is too short stays as it was
pub too-short : (xs buffer : List ℕ) → length buffer < length xs → (Err BufferTooShort ≡ count_of xs buffer) × (buffer ≡ written xs buffer)
too-short xs buffer h = (sym (cond-false _ _ _ (lt-leb _ _ h)), sym (cond-false _ _ _ (lt-leb _ _ h)))

-- one that is long enough takes the whole row
pub counted : (xs buffer : List ℕ) (n : ℕ) → n ≡ length xs → n ≤ length buffer → Ok n ≡ count_of xs buffer
counted xs buffer n is h = ap Ok is ∙ sym (cond-true _ _ _ (le-leb (length xs) (length buffer) (omega (arith, is))))
