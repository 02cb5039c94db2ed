-- Selections by intervals over a file, and the rows that they take.
use Rattle.std.proofs.Common.{◌≡◌, ℕ, Bool, true, false, cond, List, [], ◌∷◌, ◌++◌, nat_eq, ◌⊎◌, inl, inr, refl, sym, subst, ap, ◌∙◌, true≢false}
use Rattle.std.specs.List.{AllByRecursion}
use Rattle.std.proofs.lemmas.Bool.{cases_eq, eq-eqb}
use Rattle.ncq_base.specs.declared.interval.Interval.{Interval}
use Rattle.ncq_row.specs.Embeddings.{Row}
use Rattle.ncq_row.specs.declared.pair.Pair.{Pair}
use Rattle.ncq_row.specs.declared.shape.Shape.{Shape}
use Rattle.ncq_plan.specs.declared.expr.Expr.{Expr}
use Rattle.ncq_plan.specs.declared.expr.Expr.TheVariants.{Scan, Join}
use Rattle.ncq_plan.specs.Meets.{is_within}
use Rattle.ncq_midfile.specs.Views.{of_rows}
use Rattle.ncq_midfile.specs.declared.signed.SignedRow.{SignedRow}
use Rattle.ncq_readers.specs.Passed.{held_at}
use Rattle.ncq_readers.specs.declared.ranges.HeldRows.{HeldRows}
use Rattle.ncq_shelf.specs.KeptFiles.{KeptFile, Files}
use Rattle.ncq_shelf.specs.Stands.{Stands, IsGrounded}
use Rattle.ncq_shelf.specs.Ranges.{SelectsRange, Takes, IsHeldBy, AreTaken, AreHeldOf, IsRange, IsNoRange}
use Rattle.ncq_shelf.specs.Ranges.AreTaken.{none as none_taken, taken as one_taken, left as one_left}
use Rattle.ncq_shelf.specs.Readers.{SelectsFrom, SelectsEqual}
use Rattle.ncq_shelf.specs.Readers.SelectsFrom.{equal as equal_from, range as range_from}
use Rattle.ncq_shelf.specs.Readers.SelectsEqual.{equal as by_constant}
use Rattle.ncq_shelf.proofs.CallerLemmas.{one_value}
use Rattle.ncq_feed.specs.Runs.{Run, IsUnderWay}
use Rattle.ncq_feed.specs.Shares.{IsRangeOver}
use Rattle.ncq_feed.proofs.GrowthLaws.{stands_up, stands_down}
use Rattle.ncq_feed.proofs.Variants.{kind as variant, kind_scan, kind_equal, kind_range, kind_join, range_parts}
use Rattle.ncq_feed.proofs.WiringLaws.{one_expr, selects_or_not}

one_two : (n : ℕ) → n ≡ 1 → n ≡ 2 → ⊥
one_two n a b = cc

zero_two : (n : ℕ) → n ≡ 0 → n ≡ 2 → ⊥
zero_two n a b = cc

three_two : (n : ℕ) → n ≡ 3 → n ≡ 2 → ⊥
three_two n a b = cc

module _ (files : Files) where
  pub by_interval : (number input slot : ℕ) (interval : Interval) → SelectsRange files input slot interval number → SelectsFrom files number input (λ r. is_within slot interval r.row)
  by_interval number input slot interval s = range_from s.inner slot interval s.stands s.over

  pub by_equal : (number input : ℕ) (test : SignedRow → Bool) → SelectsEqual files number input test → SelectsFrom files number input test
  by_equal number input _ (by_constant inner slot constant s t) = equal_from inner slot constant s t

  -- a file selects by one interval of one slot
  pub one_range : (number input other slot slot' : ℕ) (interval interval' : Interval) → SelectsRange files input slot interval number → SelectsRange files other slot' interval' number → (slot ≡ slot') × (interval ≡ interval')
  one_range number input other slot slot' interval interval' s t =
      let p = range_parts s.inner t.inner slot slot' interval interval' (one_expr files number _ _ s.stands t.stands) in (p.1, p.2)

  -- and by no constant
  pub no_equal : (number input other : ℕ) (test : SignedRow → Bool) → SelectsEqual files number other test → IsRangeOver files input number → ⊥
  no_equal number input other _ (by_constant inner slot constant s t) r =
      one_two (variant _) (kind_equal inner slot constant) (ap variant (one_expr files number _ _ s r.selects.stands) ∙ kind_range r.selects.inner r.slot r.interval)

  -- nothing else does
  range_file : (number : ℕ) (whole : Expr) → Stands files whole number → (IsRange whole → ⊥) → IsNoRange files number
  range_file number whole s none file at r = none (record { inner = r.inner; slot = r.slot; interval = r.interval; is = sym s.of ∙ ap (λ (f : KeptFile). f.expr) (one_value s.at at) ∙ r.is })

  pub no_range : (number : ℕ) (whole : Expr) → Stands files whole number → (variant whole ≡ 2 → ⊥) → IsNoRange files number
  no_range number whole s none = range_file number whole s (λ r. none (ap variant r.is ∙ kind_range r.inner r.slot r.interval))

  pub no_range-scan : (number : ℕ) (source : List ℕ) (shape : Shape) → Stands files (Scan source shape) number → IsNoRange files number
  no_range-scan number source shape s = no_range number _ s (λ e. zero_two (variant _) (kind_scan source shape) e)

  pub no_range-join : (number : ℕ) (left right : Expr) (pairs : List Pair) → Stands files (Join left right pairs) number → IsNoRange files number
  no_range-join number left right pairs s = no_range number _ s (λ e. three_two (variant _) (kind_join left right pairs) e)

  pub equal_own : (number input : ℕ) (test : SignedRow → Bool) → SelectsEqual files number input test → IsNoRange files number
  equal_own number input _ (by_constant inner slot constant s t) = no_range number _ s (λ e. one_two (variant _) (kind_equal inner slot constant) e)

  -- what selects from a file does so by a constant or by an interval
  pub equal_or_range : (number input : ℕ) (test : SignedRow → Bool) → SelectsFrom files number input test → SelectsEqual files number input test ⊎ IsRangeOver files input number
  equal_or_range number input _ (equal_from inner slot constant s t) = inl (by_constant inner slot constant s t)
  equal_or_range number input _ (range_from inner slot interval s t) = inr (record { slot = slot; interval = interval; selects = record { inner = inner; stands = s; over = t } })

  module _ (grounded : IsGrounded files) where
    abbrev pub TellsRange : ℕ → ℕ → Type 0
    TellsRange number input = IsRangeOver files input number ⊎ (IsRangeOver files input number → ⊥)

    pub range_or_not : (number input : ℕ) → TellsRange number input
    range_or_not number input = elim (selects_or_not files grounded number input) [
      | inl s ↦ elim (equal_or_range number input s.0 s.1) [
        | inl e ↦ inr (λ r. no_equal number input input s.0 e r)
        | inr r ↦ inl r
      ]
      | inr not_over ↦ inr (λ r. not_over _ (by_interval number input r.slot r.interval r.selects))
    ]

    -- a file takes a row, or it does not
    pub takes_or_not : (input slot : ℕ) (row : Row) (number : ℕ) → Takes files input slot row number ⊎ (Takes files input slot row number → ⊥)
    takes_or_not input slot row number = elim (range_or_not number input) [
      | inl r ↦ elim (cases_eq r.slot slot) [
        | inl same ↦ at_slot (subst (λ s. SelectsRange files input s r.interval number) same r.selects) (is_within slot r.interval row) refl
        | inr differs ↦ inr (λ t. differs (one_range number input input r.slot slot r.interval t.interval r.selects t.selects).0)
      ]
      | inr none ↦ inr (λ t. none (record { slot = slot; interval = t.interval; selects = t.selects }))
    ]
      where
        at_slot : {interval : Interval} → SelectsRange files input slot interval number → (b : Bool) → is_within slot interval row ≡ b → Takes files input slot row number ⊎ (Takes files input slot row number → ⊥)
        at_slot {interval} s true e = inl (record { interval = interval; selects = s; within = e })
        at_slot {interval} s false e = inr (λ t.
            true≢false (sym t.within ∙ ap (λ i. is_within slot i row) (one_range number input input slot slot t.interval interval t.selects s).1 ∙ e))

-- rows that are taken
module _ (files : Files) (input slot : ℕ) where
  -- a selection has of the rows that are taken what it has of all
  pub of_taken : (interval : Interval) (number : ℕ) → SelectsRange files input slot interval number → (rows held : List SignedRow) → AreTaken files input slot rows held
      → of_rows (is_within slot interval) held ≡ of_rows (is_within slot interval) rows
  of_taken interval number s _ _ none_taken = refl
  of_taken interval number s _ _ (one_taken {row} {rows} {held} is rest) =
      ap (λ xs. cond (is_within slot interval row.row) (row ∷ xs) xs) (of_taken interval number s rows held rest)
  of_taken interval number s _ _ (one_left {row} {rows} {held} is rest) =
      of_taken interval number s rows held rest ∙ outside (is_within slot interval row.row) refl
    where
      outside : (b : Bool) → is_within slot interval row.row ≡ b → of_rows (is_within slot interval) rows ≡ cond b (row ∷ of_rows (is_within slot interval) rows) (of_rows (is_within slot interval) rows)
      outside true e = absurd (is (record { number = number; takes = record { interval = interval; selects = s; within = e } }))
      outside false e = refl

  -- each row that is taken is one of the rows, and some selection takes it
  pub all_taken : (P : SignedRow → Type 0) (rows held : List SignedRow) → AllByRecursion P rows → AreTaken files input slot rows held → AllByRecursion (λ r. P r × IsHeldBy files input slot r.row) held
  all_taken P _ _ all none_taken = tt
  all_taken P _ _ all (one_taken {row} {rows} {held} is rest) = ((all.0, is), all_taken P rows held all.1 rest)
  all_taken P _ _ all (one_left {row} {rows} {held} is rest) = all_taken P rows held all.1 rest

  pub only_taken : (rows held : List SignedRow) → AreTaken files input slot rows held → AllByRecursion (λ r. IsHeldBy files input slot r.row) held
  only_taken _ _ none_taken = tt
  only_taken _ _ (one_taken {row} {rows} {held} is rest) = (is, only_taken rows held rest)
  only_taken _ _ (one_left {row} {rows} {held} is rest) = only_taken rows held rest

-- what holds of the rows at each slot holds of the rows of each group
module _ (Q : ℕ → SignedRow → Type 0) where
  front : (xs ys : List SignedRow) (slot : ℕ) → AllByRecursion (Q slot) (xs ++ ys) → AllByRecursion (Q slot) xs
  front [] ys slot h = tt
  front (x ∷ xs) ys slot h = (h.0, front xs ys slot h.1)

  behind : (xs ys : List SignedRow) (slot : ℕ) → AllByRecursion (Q slot) (xs ++ ys) → AllByRecursion (Q slot) ys
  behind [] ys slot h = h
  behind (x ∷ xs) ys slot h = behind xs ys slot h.1

  pub each_group : (held : List HeldRows) → ((slot : ℕ) → AllByRecursion (Q slot) (held_at slot held)) → AllByRecursion (λ h. AllByRecursion (Q h.slot) h.rows) held
  each_group [] all = tt
  each_group (h ∷ held) all = (
    front h.rows (held_at h.slot held) h.slot (subst (λ b. AllByRecursion (Q h.slot) (cond b h.rows [] ++ held_at h.slot held)) (eq-eqb h.slot h.slot refl) (all h.slot)),
    each_group held (λ slot. behind (cond (nat_eq h.slot slot) h.rows []) (held_at slot held) slot (all slot)),
  )

-- the same before and after rows of a change came in
module _ (run : Run) (files : Files) (under : IsUnderWay run files) where
  pub ranges_up : (input slot : ℕ) (interval : Interval) (number : ℕ) → SelectsRange run.files input slot interval number → SelectsRange files input slot interval number
  ranges_up input slot interval number s = record { inner = s.inner; stands = stands_up run files under _ number s.stands; over = stands_up run files under s.inner input s.over }

  pub ranges_back : (input slot : ℕ) (interval : Interval) (number : ℕ) → SelectsRange files input slot interval number → SelectsRange run.files input slot interval number
  ranges_back input slot interval number s = record { inner = s.inner; stands = stands_down run files under _ number s.stands; over = stands_down run files under s.inner input s.over }

  pub takes_up : (input slot : ℕ) (row : Row) (number : ℕ) → Takes run.files input slot row number → Takes files input slot row number
  takes_up input slot row number t = record { interval = t.interval; selects = ranges_up input slot t.interval number t.selects; within = t.within }

  pub takes_back : (input slot : ℕ) (row : Row) (number : ℕ) → Takes files input slot row number → Takes run.files input slot row number
  takes_back input slot row number t = record { interval = t.interval; selects = ranges_back input slot t.interval number t.selects; within = t.within }

  pub held_up : (input slot : ℕ) (row : Row) → IsHeldBy run.files input slot row → IsHeldBy files input slot row
  held_up input slot row h = record { number = h.number; takes = takes_up input slot row h.number h.takes }

  pub held_back : (input slot : ℕ) (row : Row) → IsHeldBy files input slot row → IsHeldBy run.files input slot row
  held_back input slot row h = record { number = h.number; takes = takes_back input slot row h.number h.takes }

  taken_back : (input slot : ℕ) (rows held : List SignedRow) → AreTaken files input slot rows held → AreTaken run.files input slot rows held
  taken_back input slot _ _ none_taken = none_taken
  taken_back input slot _ _ (one_taken {row} {rows} {held} is rest) = one_taken (held_back input slot row.row is) (taken_back input slot rows held rest)
  taken_back input slot _ _ (one_left {row} {rows} {held} is rest) = one_left (λ h. is (held_up input slot row.row h)) (taken_back input slot rows held rest)

  pub held_of_back : (input : ℕ) (rows : List SignedRow) (held : List HeldRows) → AreHeldOf files input rows held → AreHeldOf run.files input rows held
  held_of_back input rows held h slot = taken_back input slot rows (held_at slot held) (h slot)

  pub own_up : (number : ℕ) → IsNoRange run.files number → IsNoRange files number
  own_up number own file at r =
      let s = stands_down run files under _ number (record { file = file; at = at; of = refl }) in
      own s.file s.at (record { inner = r.inner; slot = r.slot; interval = r.interval; is = s.of ∙ r.is })
