-- Items by tags, one tag more at a time.
use Rattle.std.proofs.Common.{◌≡◌, ℕ, ◌+◌, List, [], ◌∷◌, ◌++◌, replicate, refl, sym, ap, ◌∙◌, subst, add-one, inl, inr}
use Rattle.std.proofs.lemmas.Bool.Decides.{eqb_tells}
use Rattle.pattern_writing.specs.Writer.{TagRun, with_tag, runs_of}
use Rattle.pattern_writing.specs.Laws.{spelled, BeginsWithAnother, HasLongestRuns}

longer : (n t : ℕ) (rest : List ℕ) → replicate (n + 1) t ++ rest ≡ t ∷ (replicate n t ++ rest)
longer n t rest = rw add-one refl

spelled_with : (t : ℕ) (items : List TagRun) → spelled (with_tag t items) ≡ t ∷ spelled items
spelled_with t [] = refl
spelled_with t (i ∷ is) =
    let P : Type 0 = spelled (with_tag t (i ∷ is)) ≡ t ∷ spelled (i ∷ is) in
    elim (eqb_tells t i.tag) as (λ _. P) [
      | inl same ↦ rw (same.0) (longer i.count t (spelled is) ∙ ap (λ u. t ∷ (replicate i.count u ++ spelled is)) same.1)
      | inr other ↦ rw (other.0) refl
    ]

pub spelled_runs : (tags : List ℕ) → spelled (runs_of tags) ≡ tags
spelled_runs [] = refl
spelled_runs (t ∷ ts) = spelled_with t (runs_of ts) ∙ ap (λ l. t ∷ l) (spelled_runs ts)

longest_with : (t : ℕ) (items : List TagRun) → HasLongestRuns items → HasLongestRuns (with_tag t items)
longest_with t [] h = (tt, tt)
longest_with t (i ∷ is) h =
    elim (eqb_tells t i.tag) as (λ _. HasLongestRuns (with_tag t (i ∷ is))) [
      | inl same ↦ rw (same.0) (subst (λ u. BeginsWithAnother u is) (sym same.1) h.0, h.1)
      | inr other ↦ rw (other.0) (other.1, h)
    ]

pub longest_runs : (tags : List ℕ) → HasLongestRuns (runs_of tags)
longest_runs [] = tt
longest_runs (t ∷ ts) = longest_with t (runs_of ts) (longest_runs ts)
