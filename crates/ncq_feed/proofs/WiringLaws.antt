-- Files are wired downwards: each is a scan, a selection or a join of files of smaller numbers.
use Rattle.std.proofs.Common.{◌≡◌, ℕ, ◌<◌, Bool, List, Some, None, Option, ◌⊎◌, inl, inr, refl, sym, subst, ap, ◌∙◌}
use Rattle.std.proofs.lemmas.Bool.{cases_eq}
use Rattle.std.specs.FinMap.{get}
use Rattle.ncq_row.specs.declared.pair.Pair.{Pair}
use Rattle.ncq_row.specs.declared.shape.Shape.{Shape}
use Rattle.ncq_plan.specs.declared.expr.Expr.{Expr}
use Rattle.ncq_plan.specs.declared.expr.Expr.TheVariants.{Scan, Join}
use Rattle.ncq_plan.proofs.CallerLemmas.{expr_cases}
use Rattle.ncq_midfile.specs.declared.signed.SignedRow.{SignedRow}
use Rattle.ncq_shelf.specs.KeptFiles.{KeptFile, Files}
use Rattle.ncq_shelf.specs.Stands.{Stands, IsGrounded}
use Rattle.ncq_shelf.specs.Parts.{IsInput}
use Rattle.ncq_shelf.specs.Readers.{SelectsFrom, JoinsFrom}
use Rattle.ncq_shelf.specs.Readers.SelectsFrom.{equal as equal_from, range as range_from}
use Rattle.ncq_shelf.proofs.CallerLemmas.{one_value, there, equal-input_of, range-input_of, left-input_of, right-input_of, input_of-equal, input_of-range}
use Rattle.ncq_feed.specs.Runs.{IsScanFile}
use Rattle.ncq_feed.proofs.Variants.{kind as variant, kind_scan, kind_equal, kind_range, kind_join, join_parts}

module _ (files : Files) where
  -- one number has one expression
  pub one_expr : (number : ℕ) (e other : Expr) → Stands files e number → Stands files other number → e ≡ other
  one_expr number e other s t = sym s.of ∙ ap (λ f. f.expr) (one_value s.at t.at) ∙ t.of

  abbrev pub IsFile : ℕ → Type 0
  IsFile number = (file : KeptFile) × (get files number ≡ Some file)

  -- a selection is no scan and no join, and a scan no join
  variant_of-selection : (number input : ℕ) (test : SignedRow → Bool) → SelectsFrom files number input test → (e : Expr) → Stands files e number → (variant e ≡ 1) ⊎ (variant e ≡ 2)
  variant_of-selection number input _ (equal_from inner slot constant s t) e u = inl (ap variant (one_expr number e _ u s) ∙ kind_equal inner slot constant)
  variant_of-selection number input _ (range_from inner slot interval s t) e u = inr (ap variant (one_expr number e _ u s) ∙ kind_range inner slot interval)

  apart_of : (n : ℕ) → (n ≡ 1) ⊎ (n ≡ 2) → n ≡ 0 → ⊥
  apart_of n (inl a) z = cc
  apart_of n (inr a) z = cc

  apart_of-three : (n : ℕ) → (n ≡ 1) ⊎ (n ≡ 2) → n ≡ 3 → ⊥
  apart_of-three n (inl a) z = cc
  apart_of-three n (inr a) z = cc

  pub scan_no_selection : (number input : ℕ) (test : SignedRow → Bool) → SelectsFrom files number input test → (source : List ℕ) (shape : Shape) → Stands files (Scan source shape) number → ⊥
  scan_no_selection number input test selects source shape s =
      apart_of (variant (Scan source shape)) (variant_of-selection number input test selects (Scan source shape) s) (kind_scan source shape)

  pub join_no_selection : (number input : ℕ) (test : SignedRow → Bool) → SelectsFrom files number input test → (first second : Expr) (pairs : List Pair) → Stands files (Join first second pairs) number → ⊥
  join_no_selection number input test selects first second pairs s =
      apart_of-three (variant (Join first second pairs)) (variant_of-selection number input test selects (Join first second pairs) s) (kind_join first second pairs)

  zero_three : (n : ℕ) → n ≡ 0 → n ≡ 3 → ⊥
  zero_three n a b = cc

  pub scan_no_join : (number : ℕ) (source : List ℕ) (shape : Shape) (first second : Expr) (pairs : List Pair) → Stands files (Scan source shape) number → Stands files (Join first second pairs) number → ⊥
  scan_no_join number source shape first second pairs s t =
      zero_three (variant (Scan source shape)) (kind_scan source shape) (ap variant (one_expr number _ _ s t) ∙ kind_join first second pairs)

module _ (files : Files) (grounded : IsGrounded files) where
  -- an input stands below
  below : (whole inner : Expr) (number input : ℕ) → Stands files whole number → IsInput inner whole → Stands files inner input → input < number
  below whole inner number input s reads t =
      let b = grounded.inputs number s.file inner s.at (subst (λ e. IsInput inner e) (sym s.of) reads) in
      subst (λ n. n < number) (grounded.distinct b.0 input inner b.2 t) b.1

  pub selects_down : (number input : ℕ) (test : SignedRow → Bool) → SelectsFrom files number input test → input < number
  selects_down number input _ (equal_from inner slot constant s t) = below _ inner number input s (equal-input_of inner slot constant) t
  selects_down number input _ (range_from inner slot interval s t) = below _ inner number input s (range-input_of inner slot interval) t

  pub joins_down : (number left right : ℕ) → JoinsFrom files number left right → (left < number) × (right < number)
  joins_down number left right j =
      (below _ j.first number left j.stands (left-input_of j.first j.second j.pairs) j.on_left, below _ j.second number right j.stands (right-input_of j.first j.second j.pairs) j.on_right)

  stands_of : (whole inner : Expr) (number : ℕ) → Stands files whole number → IsInput inner whole → (input : ℕ) × Stands files inner input
  stands_of whole inner number s reads = let b = grounded.inputs number s.file inner s.at (subst (λ e. IsInput inner e) (sym s.of) reads) in (b.0, b.2)

  abbrev Kind : ℕ → Type 0
  Kind number = IsScanFile files number
      ⊎ (((input : ℕ) × (test : SignedRow → Bool) × SelectsFrom files number input test × IsFile files input)
      ⊎ ((left : ℕ) × (right : ℕ) × JoinsFrom files number left right × IsFile files left × IsFile files right))

  kind_at : (number : ℕ) (e : Expr) → Stands files e number → Kind number
  kind_at number = expr_cases (λ e. Stands files e number → Kind number)
      (λ source shape s. inl (record { source = source; shape = shape; stands = s }))
      (λ input slot constant s. let t = stands_of _ input number s (equal-input_of input slot constant) in inr (inl (t.0, _, equal_from input slot constant s t.1, (t.1.file, t.1.at))))
      (λ input slot interval s. let t = stands_of _ input number s (range-input_of input slot interval) in inr (inl (t.0, _, range_from input slot interval s t.1, (t.1.file, t.1.at))))
      (λ left right pairs s.
      let t = stands_of _ left number s (left-input_of left right pairs) in
      let u = stands_of _ right number s (right-input_of left right pairs) in
      inr (inr (t.0, u.0, record { first = left; second = right; pairs = pairs; stands = s; on_left = t.1; on_right = u.1 }, (t.1.file, t.1.at), (u.1.file, u.1.at))))

  -- every file is a scan, a selection or a join of files
  pub kind : (number : ℕ) → IsFile files number → Kind number
  kind number live = kind_at number live.0.expr (record { file = live.0; at = live.1; of = refl })

  abbrev pub Tells : ℕ → ℕ → Type 0
  Tells number input = ((test : SignedRow → Bool) × SelectsFrom files number input test) ⊎ ((test : SignedRow → Bool) → SelectsFrom files number input test → ⊥)

  pub input_of-selection : (number input other : ℕ) (test test' : SignedRow → Bool) → SelectsFrom files number input test → SelectsFrom files number other test' → input ≡ other
  input_of-selection number input other _ _ (equal_from inner slot constant s t) (equal_from inner' slot' constant' s' t') =
      grounded.distinct input other inner' (subst (λ e. Stands files e input) (input_of-equal inner inner' slot' constant' (subst (λ e. IsInput inner e) (one_expr files number _ _ s s') (equal-input_of inner slot constant))) t) t'
  input_of-selection number input other _ _ (equal_from inner slot constant s t) (range_from inner' slot' interval' s' t') =
      grounded.distinct input other inner' (subst (λ e. Stands files e input) (input_of-range inner inner' slot' interval' (subst (λ e. IsInput inner e) (one_expr files number _ _ s s') (equal-input_of inner slot constant))) t) t'
  input_of-selection number input other _ _ (range_from inner slot interval s t) (equal_from inner' slot' constant' s' t') =
      grounded.distinct input other inner' (subst (λ e. Stands files e input) (input_of-equal inner inner' slot' constant' (subst (λ e. IsInput inner e) (one_expr files number _ _ s s') (range-input_of inner slot interval))) t) t'
  input_of-selection number input other _ _ (range_from inner slot interval s t) (range_from inner' slot' interval' s' t') =
      grounded.distinct input other inner' (subst (λ e. Stands files e input) (input_of-range inner inner' slot' interval' (subst (λ e. IsInput inner e) (one_expr files number _ _ s s') (range-input_of inner slot interval))) t) t'

  selection_tells : (number input other : ℕ) (test : SignedRow → Bool) → SelectsFrom files number other test → Tells number input
  selection_tells number input other test selects = elim (cases_eq other input) [
    | inl same ↦ inl (test, subst (λ n. SelectsFrom files number n test) same selects)
    | inr differs ↦ inr (λ test' selects'. differs (input_of-selection number other input test test' selects selects'))
  ]

  kind_tells : (number input : ℕ) → Kind number → Tells number input
  kind_tells number input (inl scan) = inr (λ test selects. scan_no_selection files number input test selects scan.source scan.shape scan.stands)
  kind_tells number input (inr (inl s)) = selection_tells number input s.0 s.1 s.2
  kind_tells number input (inr (inr j)) = inr (λ test selects. join_no_selection files number input test selects j.2.first j.2.second j.2.pairs j.2.stands)

  selection_is_there : (number input : ℕ) (test : SignedRow → Bool) → SelectsFrom files number input test → IsFile files number
  selection_is_there number input _ (equal_from inner slot constant s t) = (s.file, s.at)
  selection_is_there number input _ (range_from inner slot interval s t) = (s.file, s.at)

  option_tells : (number input : ℕ) (o : Option KeptFile) → get files number ≡ o → Tells number input
  option_tells number input None e = inr (λ test selects. there (selection_is_there number input test selects).1 e)
  option_tells number input (Some file) e = kind_tells number input (kind number (file, e))

  -- a file selects from another, or it does not
  pub selects_or_not : (number input : ℕ) → Tells number input
  selects_or_not number input = option_tells number input (get files number) refl

  pub selection_there : (number input : ℕ) (test : SignedRow → Bool) → SelectsFrom files number input test → IsFile files number
  selection_there = selection_is_there

  -- the sides of a join are its own
  pub one_left : (number left right left' right' : ℕ) → JoinsFrom files number left right → JoinsFrom files number left' right' → left' ≡ left
  one_left number left right left' right' j k =
      let p = join_parts j.first j.second k.first k.second j.pairs k.pairs (one_expr files number _ _ j.stands k.stands) in
      grounded.distinct left' left k.first k.on_left (subst (λ e. Stands files e left) p.0 j.on_left)

  pub one_right : (number left right left' right' : ℕ) → JoinsFrom files number left right → JoinsFrom files number left' right' → right' ≡ right
  one_right number left right left' right' j k =
      let p = join_parts j.first j.second k.first k.second j.pairs k.pairs (one_expr files number _ _ j.stands k.stands) in
      grounded.distinct right' right k.second k.on_right (subst (λ e. Stands files e right) p.1 j.on_right)
