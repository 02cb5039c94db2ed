-- What a test leaves of a content.
use Rattle.std.proofs.Common.{◌≡◌, ℕ, ◌+◌, Bool, true, false, cond, not, List, [], ◌∷◌, ◌++◌, filter, refl, ◌∙◌, ap, arith}
use Rattle.ncq_base.specs.Counts.{total_by}
use Rattle.ncq_base.proofs.CountLaws.{total_by-append, total_by-congr, total_by-zero}
use Rattle.ncq_midfile.specs.Content.{Row, gains, losses, up_to, IsContent, IsSoundAt}
use Rattle.ncq_midfile.specs.Views.{of_rows, IsContentOf}
use Rattle.ncq_midfile.specs.declared.signed.SignedRow.{SignedRow}
use Rattle.ncq_midfile.proofs.Compacts.{one_content}
use Rattle.ncq_midfile.proofs.Counted.{has_rest}
use Rattle.ncq_midfile.proofs.Matches.{with_key}
use Rattle.ncq_midfile.proofs.ViewLaws.{gains_of, content_of_test}

-- where no row went out too often, some list is the content
pub has_content : (n : ℕ) (rows : List SignedRow) → IsSoundAt n rows → (list : List Row) × IsContent n rows list
has_content n rows sound = has_rest (gains (up_to n rows)) (losses (up_to n rows)) sound

module _ (test : Row → Bool) where
  fails : Row → Bool
  fails x = not (test x)

  none_left : (xs : List Row) → filter test (filter fails xs) ≡ []
  unfolding fails
  none_left [] = refl
  none_left (x ∷ xs) =
      elim (test x) as (λ b. test x ≡ b → filter test (cond (not b) (x ∷ filter fails xs) (filter fails xs)) ≡ []) [
        | true ↦ λ e. none_left xs
        | false ↦ λ e. (λ i. cond (e i) (x ∷ filter test (filter fails xs)) (filter test (filter fails xs))) ∙ none_left xs
      ] refl

  -- what passes and what does not weigh what all weigh
  both_weigh : (f : Row → ℕ) (xs : List Row) → total_by f (filter test xs) + total_by f (filter fails xs) ≡ total_by f xs
  unfolding fails
  both_weigh f [] = refl
  both_weigh f (x ∷ xs) =
      let rest = both_weigh f xs in
      elim (test x) as (λ b. total_by f (cond b (x ∷ filter test xs) (filter test xs)) + total_by f (cond (not b) (x ∷ filter fails xs) (filter fails xs)) ≡ f x + total_by f xs) [
        | true ↦ omega arith
        | false ↦ omega arith
      ]

  -- a row that does not pass weighs 1
  stray : Row → ℕ
  stray x = cond (test x) 0 1

  no_stray : (xs : List Row) → total_by stray xs ≡ 0 → filter test xs ≡ xs
  unfolding stray
  no_stray [] none = refl
  no_stray (x ∷ xs) none =
      elim (test x) as (λ b. cond b 0 1 + total_by stray xs ≡ 0 → cond b (x ∷ filter test xs) (filter test xs) ≡ x ∷ xs) [
        | true ↦ λ none. ap (λ ys. x ∷ ys) (no_stray xs (omega arith))
        | false ↦ λ none. absurd (omega arith)
      ] none

  stray_of : (x : Row) → ◌≡◌ {A = ℕ} (with_key test stray x) 0
  unfolding stray
  stray_of x = elim (test x) as (λ b. ◌≡◌ {A = ℕ} (cond b (cond b 0 1) 0) 0) [ true ↦ refl | false ↦ refl ]

  -- each row of the content of those that pass does
  all_of_test : (n : ℕ) (rows : List SignedRow) (list : List Row) → IsContent n (of_rows test rows) list → filter test list ≡ list
  all_of_test n rows list content =
      let came = gains_of stray test n rows in
      let none = total_by-congr (with_key test stray) (λ _. 0) stray_of (gains (up_to n rows)) ∙ total_by-zero (gains (up_to n rows)) in
      let all = content stray in
      let parts = total_by-append stray list (losses (up_to n (of_rows test rows))) in
      no_stray list (omega arith)

  -- the content of the rows that pass is that of all without the rows that do not
  pub content_of_part : (n : ℕ) (rows : List SignedRow) (list : List Row) → IsSoundAt n rows → IsContent n (of_rows test rows) list → IsContentOf test n rows list
  content_of_part n rows list sound content =
      let whole = has_content n rows sound in
      let rest = filter fails whole.0 in
      let same = one_content n (of_rows test rows) list (filter test whole.0) content (content_of_test n test rows whole.0 whole.1) in (
        all_of_test n rows list content,
        (
          rest,
          none_left whole.0,
          λ f.
              let a = total_by-append f (list ++ rest) (losses (up_to n rows)) in
              let b = total_by-append f list rest in
              let c = same f in
              let d = both_weigh f whole.0 in
              let e = whole.1 f in
              let g = total_by-append f whole.0 (losses (up_to n rows)) in
              omega arith,
        ),
      )
