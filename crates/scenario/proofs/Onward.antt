-- A script that is being filled goes on to the script of the file, one record at a time.
use Rattle.std.proofs.Common.{◌≡◌, ℕ, zero, suc, pred, ◌+◌, ◌≤◌, Bool, cond, List, length, is_some, Some, None, Ok, Err, Option, Result, MatchOption, sym, refl, ap, ◌∙◌, arith}
use Rattle.std.proofs.lemmas.Bool.{le-leb}
use Rattle.scenario.specs.declared.Record.{Record}
use Rattle.scenario.specs.declared.Fault.{Fault}
use Rattle.scenario.specs.declared.Fault.TheVariants.{HeaderMisplaced}
use Rattle.scenario.specs.declared.Stop.{Stop}
use Rattle.scenario.specs.declared.Failure.{Failure}
use Rattle.scenario.specs.declared.Failure.TheVariants.{OutOfMemory, Stopped}
use Rattle.scenario.specs.Format.{next_at}
use Rattle.scenario.specs.Reading.{place_behind}
use Rattle.scenario.specs.Loading.{Loaded, misplaced_in, taken, stopped, with_record, followed, loaded_from}
use Rattle.scenario.specs.Ends.{UnlessMemory, stop_at, stopped_by}
use Rattle.scenario.proofs.Records.{read-long, read-end}

-- the reader's file is the file, with at most `fuel` bytes behind the place p, and the script s up to there goes on to z
pub record Onward (held file : List ℕ) (p : ℕ) (s z : Loaded) : Type 0 where
  pub here : held ≡ file
  pub within : p ≤ length file
  pub fuel : ℕ
  pub enough : length file ≤ p + fuel
  pub same : loaded_from fuel file p s ≡ z

-- one step of the loading, with or without bytes left
pub one : (n : ℕ) (file : List ℕ) (p : ℕ) (s : Loaded) → length file ≤ p + n → loaded_from n file p s ≡ followed (loaded_from (pred n) file) s p (next_at file p)
unfolding loaded_from
one zero file p s h = let e : length file ≤ p = omega arith in rw (le-leb (length file) p e)
one (suc n) file p s h = refl

-- the fault of a record that may not stand where it does has its place
stop-fault : (p : ℕ) (m : Option Fault) → MatchOption (stop_at p m) (m ≡ None) (λ e. (m ≡ Some e.cause) × (e.at ≡ p))
stop-fault p None = refl
stop-fault p (Some f) = (refl, refl)

module _ {held file : List ℕ} {p : ℕ} {s z : Loaded} (o : Onward held file p s z) where
  -- what the script goes on to, by what is read at p
  by_read : (x : Result (Option (ℕ × List ℕ × Record)) Fault) → next_at held p ≡ x → followed (loaded_from (pred o.fuel) file) s p x ≡ z
  by_read x e = rw (sym e, o.here) (sym (one o.fuel file p s o.enough) ∙ o.same)

  -- a fault that is read ends the filling
  pub faulty : (e : Stop Fault) → Err e.cause ≡ next_at held p → e.at ≡ p → stopped s e.cause e.at ≡ z
  faulty e h a = rw a (by_read (Err e.cause) (sym h))

  -- so does a record that is not taken, unless memory did
  pub refused : (part : ℕ × List ℕ × Record) (e : Failure Fault) (t : Loaded) → Ok (Some part) ≡ next_at held p → UnlessMemory (Err e) (λ y. y ≡ stop_at part.0 (misplaced_in s part.2)) → UnlessMemory (Err e) (λ _. t ≡ taken s part.0 part.2 (misplaced_in s part.2)) → UnlessMemory (Err e) (λ y. stopped_by t y ≡ z)
  refused part (OutOfMemory e) t h k a = tt
  refused part (Stopped e) t h k a =
      let l = read-long held p part h in
      let f = rw (sym k) at (stop-fault part.0 (misplaced_in s part.2)) in
      rw (rw f.0 at a, f.1 ∙ l.2) (rw f.0 at (by_read (Ok (Some part)) (sym h)))

  -- the filling goes on behind a record that may stand where it does
  pub further : (part : ℕ × List ℕ × Record) (held' : List ℕ) (p' : ℕ) (s' : Loaded) → Ok (Some part) ≡ next_at held p → held' ≡ held → p' ≡ place_behind (length held) p (next_at held p) → None ≡ stop_at part.0 (misplaced_in s part.2) → s' ≡ taken s part.0 part.2 (misplaced_in s part.2) → Onward held' file p' s' z
  further part held' p' s' h eh ep k a =
      let l = rw o.here at (read-long held p part h) in
      let m = rw (sym k) at (stop-fault part.0 (misplaced_in s part.2)) in
      let q : p' ≡ p + length part.1 = ep ∙ ap (place_behind (length held) p) (sym h) in
      let t : s' ≡ with_record s p part.2 = rw m at a ∙ ap (λ n. with_record s n part.2) l.2 in
      record {
        here = eh ∙ o.here;
        within = omega (arith, l.1);
        fuel = pred o.fuel;
        enough = omega (arith, l.0, l.1, o.enough);
        same = rw (q, t) (rw m at (by_read (Ok (Some part)) (sym h)));
      }

  -- at the end the filling is done, but for a missing header
  pub done : (headed : Bool) → Ok None ≡ next_at held p → is_some s.header ≡ headed → cond headed s (stopped s HeaderMisplaced (length file)) ≡ z
  done headed h e =
      let l = rw o.here at (read-end held p h) in
      let q : length file ≡ p = omega (arith, o.within) in
      rw (q, sym e) (by_read (Ok None) (sym h))
