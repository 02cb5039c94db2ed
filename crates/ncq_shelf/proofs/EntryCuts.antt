-- Entries with their values changed, one after the other.
use Rattle.std.proofs.Common.{◌≡◌, ℕ, zero, suc, ◌<◌, ◌≤◌, List, [], ◌∷◌, map, length, Some, None, ◌+◌, refl, sym, ap, ◌∙◌, arith, add-one}
use Rattle.std.specs.Prelude.{slice_get}
use Rattle.indexmap.specs.IndexMap.{IndexMap, with_entries, with_value_at}
use Rattle.ncq_shelf.proofs.Maps.{one_value, there}

module _ {K V : Type 0} (cut : V → V) where
  abbrev pub cut_one : K × V → K × V
  cut_one entry = (entry.0, cut entry.1)

  -- the entries with another value at a place
  abbrev pub put_at : List (K × V) → ℕ → V → List (K × V)
  put_at [] i file = []
  put_at (e ∷ es) zero file = (e.0, file) ∷ es
  put_at (e ∷ es) (suc i) file = e ∷ put_at es i file

  -- the first files are cut, the others are as before
  abbrev pub cut_front : ℕ → List (K × V) → List (K × V)
  cut_front zero es = es
  cut_front (suc i) [] = []
  cut_front (suc i) (e ∷ es) = cut_one e ∷ cut_front i es

  -- what a write by place leaves
  pub written : {S : Type 0} (m : IndexMap K V S) (es : List (K × V)) (i : ℕ) (file : V) → (with_value_at (with_entries m es) i file).entries ≡ put_at es i file
  written m [] i file = refl
  written m (e ∷ es) zero file = refl
  written m (e ∷ es) (suc i) file = ap (λ xs. e ∷ xs) (written m es i file)

  some_below : (es : List (K × V)) (i : ℕ) → i < length es → slice_get es i ≡ None → ⊥
  some_below [] i less none = omega arith
  some_below (e ∷ es) zero less none = there refl none
  some_below (e ∷ es) (suc i) less none = some_below es i (omega arith) none

  -- one file more is cut
  pub cut_step : (i : ℕ) (es : List (K × V)) (number : K) (file : V) → slice_get es i ≡ Some (number, file)
      → put_at (cut_front i es) i (cut file) ≡ cut_front (suc i) es
  cut_step i [] number file at = absurd (there at (none i))
    where
      no_entries : List (K × V)
      no_entries = []

      none : (i : ℕ) → slice_get no_entries i ≡ None
      none zero = refl
      none (suc i) = refl
  cut_step zero (e ∷ es) number file at = ap (λ (f : V). (e.0, cut f) ∷ es) (ap (λ p. p.1) (one_value at refl))
  cut_step (suc i) (e ∷ es) number file at = ap (λ xs. cut_one e ∷ xs) (cut_step i es number file at)

  -- the next file is as before
  pub next_is : (i : ℕ) (es : List (K × V)) → slice_get (cut_front i es) i ≡ slice_get es i
  next_is zero es = refl
  next_is (suc i) [] = refl
  next_is (suc i) (e ∷ es) = next_is i es

  -- so the loop goes on
  pub cut_more : (i : ℕ) (start now new : List (K × V)) → i < length start → now ≡ cut_front i start
      → ((number : K) (file : V) → slice_get now i ≡ Some (number, file) → new ≡ put_at now i (cut file)) → new ≡ cut_front (i + 1) start
  cut_more i start now new less is step = elim (slice_get start i) as (λ o. slice_get start i ≡ o → new ≡ cut_front (i + 1) start) [
    | Some entry ↦ λ at.
        step entry.0 entry.1 (ap (λ es. slice_get es i) is ∙ next_is i start ∙ at) ∙ ap (λ es. put_at es i (cut entry.1)) is ∙ cut_step i start entry.0 entry.1 at
        ∙ ap (λ n. cut_front n start) (sym (add-one i))
    | None ↦ λ none. absurd (some_below start i less none)
  ] refl

  -- when all are cut
  pub whole_cut : (i : ℕ) (es : List (K × V)) → length es ≤ i → cut_front i es ≡ map (cut_one) es
  whole_cut zero [] h = refl
  whole_cut zero (e ∷ es) h = absurd (omega arith)
  whole_cut (suc i) [] h = refl
  whole_cut (suc i) (e ∷ es) h = ap (λ xs. cut_one e ∷ xs) (whole_cut i es (omega arith))

  pub cut_length : (i : ℕ) (es : List (K × V)) → length (cut_front i es) ≡ length es
  cut_length zero es = refl
  cut_length (suc i) [] = refl
  cut_length (suc i) (e ∷ es) = ap suc (cut_length i es)
