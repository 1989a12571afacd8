-- A record that is read lies within its bytes, has at least two of them, and what follows it is the rest.
use Rattle.std.proofs.Common.{◌≡◌, ℕ, ◌+◌, ◌-◌, ◌<◌, ◌≤◌, Bool, true, false, cond, eqb, ltb, List, length, get_or, take, drop, Some, None, Ok, Err, Result, refl, ap, ◌∙◌, inl, inr, arith, length-drop}
use Rattle.std.proofs.lemmas.Bool.Decides.{nat_tests}
use Rattle.std.proofs.lemmas.Bool.{cases_lt, le-leb, lt-leb, ltb-false, eqb-false}
use Rattle.std.proofs.lemmas.List.{length-take-le}
use Rattle.scenario.specs.declared.Record.{Record}
use Rattle.scenario.specs.declared.Fault.{Fault}
use Rattle.scenario.specs.declared.Fault.TheVariants.{UnknownKind, CutShort}
use Rattle.scenario.specs.Format.{span, meaning, record_at, part_of, next_at}

-- the facts of a whole record at the start of s
pub record Whole (s : List ℕ) (v : Record) (t : List ℕ) : Type 0 where
  pub within : span (get_or s 0 0) ≤ length s
  pub long : 2 ≤ span (get_or s 0 0)
  pub rest : t ≡ drop (span (get_or s 0 0)) s
  pub value : v ≡ meaning s

-- a known kind has at least two bytes
long : (k : ℕ) → (span k ≡ 0 → ⊥) → 2 ≤ span k
long k h = grind (arith, nat_tests)

-- what passed two tests passed both
passed : {X E : Type 0} (b d : Bool) (x y : E) (a w : X) → ◌≡◌ {A = Result X E} (Ok w) (cond b (Err x) (cond d (Err y) (Ok a))) → (b ≡ false) × (d ≡ false) × (w ≡ a)
passed true d x y a w e = absurd cc
passed false true x y a w e = absurd cc
passed false false x y a w e = (refl, refl, cc)

-- a record that is read is whole
pub whole : (s : List ℕ) (v : Record) (t : List ℕ) → Ok (v, t) ≡ record_at s → Whole s v t
whole s v t e =
    let n : ℕ = span (get_or s 0 0) in
    let p = passed (eqb n 0) (ltb (length s) n) UnknownKind CutShort (meaning s, drop n s) (v, t) e in
    record {
      within = ltb-false (length s) n p.1;
      long = long (get_or s 0 0) (eqb-false n 0 p.0);
      rest = ap (λ (x : Record × List ℕ). x.1) p.2;
      value = ap (λ (x : Record × List ℕ). x.0) p.2;
    }

-- the part that is read at p, where its bytes are what the rest leaves
pub read : (file : List ℕ) (p : ℕ) (s bytes : List ℕ) (v : Record) (t : List ℕ) → p < length file → s ≡ drop p file → Ok (v, t) ≡ record_at s → bytes ≡ take (length s - length t) s → Ok (Some (p, bytes, v)) ≡ next_at file p
read file p s bytes v t h d e b =
    let w = whole s v t e in
    let k : ℕ = span (get_or s 0 0) in
    let n : length s - length t ≡ k = rw w.rest (simp length-drop (omega (arith, w.within))) in
    let f : bytes ≡ take k s = b ∙ ap (λ m. take m s) n in
    let q : Ok (Some (p, bytes, v)) ≡ part_of p s (record_at s) = rw (← e) (ap (λ x. Ok (Some (p, x, v))) f) in
    rw (lt-leb (length file) p h, ← d) q

-- a part of s at p has at least two bytes, which are bytes of s
part-long : (p : ℕ) (s : List ℕ) (part : ℕ × List ℕ × Record) (r : Result (Record × List ℕ) Fault) → r ≡ record_at s → Ok (Some part) ≡ part_of p s r → (2 ≤ length part.1) × (length part.1 ≤ length s) × (part.0 ≡ p)
part-long p s part (Ok x) d e =
    let w = whole s x.0 x.1 d in
    let k : ℕ = span (get_or s 0 0) in
    let q : part ≡ (p, take k s, x.0) = cc in
    let b : part.1 ≡ take k s = ap (λ (y : ℕ × List ℕ × Record). y.1) q in
    let n : length part.1 ≡ k = ap length b ∙ length-take-le k s w.within in
    (omega (arith, w.long), omega (arith, w.within), ap (λ (y : ℕ × List ℕ × Record). y.0) q)
part-long p s part (Err f) d e = absurd cc

-- a part that was read stands at p and has at least two bytes, which lie in the file from p on
pub read-long : (file : List ℕ) (p : ℕ) (part : ℕ × List ℕ × Record) → Ok (Some part) ≡ next_at file p → (2 ≤ length part.1) × (p + length part.1 ≤ length file) × (part.0 ≡ p)
read-long file p part e =
    elim (cases_lt p (length file)) [
      | inl h ↦ (
          let f = rw (lt-leb (length file) p h) at e in
          let g = part-long p (drop p file) part (record_at (drop p file)) refl f in
          let l = length-drop p file in
          (g.0, omega (arith, g.1), g.2))
      | inr h ↦ (
          let f = rw (le-leb (length file) p h) at e in
          absurd cc)
    ]

-- nothing is read only at the file's end, or past it
pub read-end : (file : List ℕ) (p : ℕ) → Ok None ≡ next_at file p → length file ≤ p
read-end file p e =
    elim (cases_lt p (length file)) [
      | inl h ↦ (
          let f = rw (lt-leb (length file) p h) at e in
          absurd (part-some p (drop p file) (record_at (drop p file)) f))
      | inr h ↦ h
    ]
  where
    part-some : (p : ℕ) (s : List ℕ) (r : Result (Record × List ℕ) Fault) → Ok None ≡ part_of p s r → ⊥
    part-some p s (Ok x) e = cc
    part-some p s (Err f) e = cc
