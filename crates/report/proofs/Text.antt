-- How the lines of a replay grow by one.
use Rattle.std.proofs.Common.{◌≡◌, ℕ, ◌+◌, min, ◌⊎◌, List, [], ◌∷◌, ◌++◌, take, inl, inr, refl, append_assoc}
use Rattle.model.specs.declared.Event.{Event}
use Rattle.arbiter.specs.declared.Outcome.{Outcome}
use Rattle.report.specs.Text.{line_bytes, lines_bytes}

-- one line more, and the lines that are left
pub lines_more : (t whole : List ℕ) (n n' i k m : ℕ) (es es' : List Event) (os os' : List Outcome) (e : Event) (o : Outcome) → t ++ lines_bytes (n + 1) k es os ≡ whole → es ≡ e ∷ es' → os ≡ o ∷ os' → i ≡ n → n' ≡ n + 1 → m ≡ min k 8 → (t ++ line_bytes (i + 1) e o.answer (take m o.scheduled)) ++ lines_bytes (n' + 1) k es' os' ≡ whole
unfolding lines_bytes
lines_more t whole n n' i k m es es' os os' e o h ee eo ei en em =
    let g = rw (ee, eo) at h in
    rw (en, ei, em) (simp append_assoc (simp append_assoc at g))

-- no line is left where the events or the outcomes end
pub lines_end : (n k : ℕ) (es : List Event) (os : List Outcome) → (es ≡ []) ⊎ (os ≡ []) → lines_bytes n k es os ≡ []
unfolding lines_bytes
lines_end n k es os (inl h) = rw h
lines_end n k [] os (inr h) = refl
lines_end n k (e ∷ es) os (inr h) = rw h
