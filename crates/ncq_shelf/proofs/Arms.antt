-- What a file reads, by its operator.
use Rattle.std.proofs.Common.{◌≡◌, ◌↔◌, ℕ, List, Some, nat_eq, inl, inr, refl, sym, ap, ◌∙◌, subst}
use Rattle.std.specs.Map.{lookup}
use Rattle.ncq_base.specs.declared.atom.Atom.{Atom}
use Rattle.ncq_base.specs.declared.interval.Interval.{Interval}
use Rattle.ncq_row.specs.declared.pair.Pair.{Pair}
use Rattle.ncq_row.specs.declared.shape.Shape.{Shape}
use Rattle.ncq_plan.specs.declared.expr.Expr.{Expr}
use Rattle.ncq_plan.specs.declared.expr.Expr.TheVariants.{Scan, EqSel, RangeSel, Join}
use Rattle.ncq_plan.specs.declared.expr.Expr.TheViews.{out-Expr}
use Rattle.ncq_plan.specs.declared.expr.Expr.TheOpen.{Expr-F}
use Rattle.ncq_readers.specs.Readings.{Reading}
use Rattle.ncq_readers.specs.Readings.Reading.{equal, range, joined}
use Rattle.ncq_shelf.specs.Parts.{IsInput}
use Rattle.ncq_shelf.specs.Stands.{Files, Stands}
use Rattle.ncq_shelf.specs.Inputs.{IsOnlyInput, AreInputs}
use Rattle.ncq_shelf.specs.Shown.{shown}
use Rattle.ncq_shelf.specs.Wired.{Reads}
use Rattle.ncq_shelf.specs.Enrolled.{AreSidesOf, HasFile, OneEach, is_at, is_at_either}
use Rattle.ncq_shelf.specs.declared.file.File.{File}
use Rattle.ncq_shelf.specs.declared.inputs.Inputs.{Inputs}
use Rattle.ncq_shelf.specs.declared.inputs.Inputs.TheVariants.{Nothing, One, Two}
use Rattle.ncq_shelf.proofs.Maps.{one_value}
use Rattle.ncq_shelf.proofs.Indexes.{kept_at}
use Rattle.ncq_shelf.proofs.InputLaws.{only_told}
use Rattle.ncq_shelf.proofs.Readings.{reads_input}
use Rattle.ncq_shelf.proofs.Layers.{out-EqSel, out-RangeSel, out-Join, no_input-scan, input_of-equal, equal-input_of, input_of-range, range-input_of, input_of-join, left-input_of, right-input_of}
use Rattle.ncq_shelf.specs.Groups.{Groups}

module _ (gs : Groups) where
  pub scan_reads_nothing : (whole : Expr) (source : List ℕ) (shape : Shape) → whole ≡ Scan source shape → (inner : Expr) (way : Reading) → Reads inner way whole → ⊥
  scan_reads_nothing whole source shape is inner way r = no_input-scan inner source shape (subst (IsInput inner) is (reads_input inner way whole r))

  -- operators differ
  pub layers : (a b : Expr) (k l : Expr-F Expr) → a ≡ b → out-Expr a ≡ k → out-Expr b ≡ l → k ≡ l
  layers a b k l e x y = sym x ∙ ap out-Expr e ∙ y

  pub equal_is_no_join : (inner : Expr) (slot : ℕ) (constant : Atom) (left right : Expr) (pairs : List Pair) → EqSel inner slot constant ≡ Join left right pairs → ⊥
  equal_is_no_join inner slot constant left right pairs e = let l = layers _ _ _ _ e (out-EqSel inner slot constant) (out-Join left right pairs) in cc

  pub range_is_no_join : (inner : Expr) (slot : ℕ) (interval : Interval) (left right : Expr) (pairs : List Pair) → RangeSel inner slot interval ≡ Join left right pairs → ⊥
  range_is_no_join inner slot interval left right pairs e = let l = layers _ _ _ _ e (out-RangeSel inner slot interval) (out-Join left right pairs) in cc

  way_of_equal : (inner e : Expr) (slot : ℕ) (constant : Atom) (way : Reading) → Reads e way (EqSel inner slot constant) → way ≡ equal slot constant
  way_of_equal inner e slot constant (equal s k) r = let l = layers _ _ _ _ r (out-EqSel inner slot constant) (out-EqSel e s k) in cc
  way_of_equal inner e slot constant (range s i) r = let l = layers _ _ _ _ r (out-EqSel inner slot constant) (out-RangeSel e s i) in cc
  way_of_equal inner e slot constant joined r = absurd (equal_is_no_join inner slot constant r.first r.second r.pairs r.is)

  way_of_range : (inner e : Expr) (slot : ℕ) (interval : Interval) (way : Reading) → Reads e way (RangeSel inner slot interval) → way ≡ range slot interval
  way_of_range inner e slot interval (equal s k) r = let l = layers _ _ _ _ r (out-RangeSel inner slot interval) (out-EqSel e s k) in cc
  way_of_range inner e slot interval (range s i) r = let l = layers _ _ _ _ r (out-RangeSel inner slot interval) (out-RangeSel e s i) in cc
  way_of_range inner e slot interval joined r = absurd (range_is_no_join inner slot interval r.first r.second r.pairs r.is)

  way_of_join : (left right e : Expr) (pairs : List Pair) (way : Reading) → Reads e way (Join left right pairs) → way ≡ joined
  way_of_join left right e pairs (equal s k) r = absurd (equal_is_no_join e s k left right pairs (sym r))
  way_of_join left right e pairs (range s i) r = absurd (range_is_no_join e s i left right pairs (sym r))
  way_of_join left right e pairs joined r = refl

  -- the numbers of the inputs, by the operator
  module _ (files : Files) (whole : Expr) where
    pub one_of_equal : (inner : Expr) (slot : ℕ) (constant : Atom) → whole ≡ EqSel inner slot constant → (inputs : Inputs) → AreInputs files whole inputs → (n : ℕ) × (inputs ≡ One n)
    one_of_equal inner slot constant is inputs are = elim inputs as (λ i. AreInputs files whole i → (n : ℕ) × (i ≡ One n)) [
      | Nothing ↦ λ a. absurd (a inner (subst (IsInput inner) (sym is) (equal-input_of inner slot constant)))
      | One n ↦ λ a. (n, refl)
      | Two left right ↦ λ a. absurd (equal_is_no_join inner slot constant a.first a.second a.pairs (sym is ∙ a.is))
    ] are

    pub one_of_range : (inner : Expr) (slot : ℕ) (interval : Interval) → whole ≡ RangeSel inner slot interval → (inputs : Inputs) → AreInputs files whole inputs → (n : ℕ) × (inputs ≡ One n)
    one_of_range inner slot interval is inputs are = elim inputs as (λ i. AreInputs files whole i → (n : ℕ) × (i ≡ One n)) [
      | Nothing ↦ λ a. absurd (a inner (subst (IsInput inner) (sym is) (range-input_of inner slot interval)))
      | One n ↦ λ a. (n, refl)
      | Two left right ↦ λ a. absurd (range_is_no_join inner slot interval a.first a.second a.pairs (sym is ∙ a.is))
    ] are

  -- the file that stands for an expression
  its_file : (files : List (ℕ × File)) (e : Expr) (n : ℕ) → Stands (shown gs files) e n → (f : File) × (lookup (nat_eq n) files ≡ Some f) × (f.expr ≡ e)
  its_file files e n s = let k = kept_at gs files n s.file s.at in (k.0, k.1, sym (ap (λ x. x.expr) k.2) ∙ s.of)

  module _ (files : List (ℕ × File)) (one : OneEach files) (whole : Expr) (inputs : Inputs) (are : AreInputs (shown gs files) whole inputs) where
    -- a selection
    module _ (at : ℕ) (told : inputs ≡ One at) where
      only : IsOnlyInput (shown gs files) whole at
      only = subst (AreInputs (shown gs files) whole) told are

      pub file_of_one : HasFile files at
      file_of_one = let f = its_file files only.input at only.stands in record { file = f.0; at = f.1 }

      its_input : (f : File) → lookup (nat_eq at) files ≡ Some f → f.expr ≡ only.input
      its_input f k = let g = its_file files only.input at only.stands in ap (λ x. x.expr) (one_value k g.1) ∙ g.2

      its_number : (q : ℕ) (f : File) → lookup (nat_eq q) files ≡ Some f → IsInput f.expr whole → q ≡ at
      its_number q f k i = let g = its_file files only.input at only.stands in one q at f g.0 k g.1 (only.only f.expr i ∙ sym g.2)

      module _ (inner : Expr) (slot : ℕ) where
        pub inner_of_equal : (constant : Atom) → whole ≡ EqSel inner slot constant → (f : File) → lookup (nat_eq at) files ≡ Some f → whole ≡ EqSel f.expr slot constant
        inner_of_equal constant is f k = is ∙ ap (λ e. EqSel e slot constant) (sym (its_input f k ∙ input_of-equal only.input inner slot constant (subst (IsInput only.input) is only.reads)))

        pub reads_of_equal : (constant : Atom) → whole ≡ EqSel inner slot constant → (q : ℕ) (f : File) (way : Reading) → lookup (nat_eq q) files ≡ Some f → is_at at (equal slot constant) q way ↔ Reads f.expr way whole
        reads_of_equal constant is q f way k = (
          λ u. subst (λ w. Reads f.expr w whole) (sym u.1) (inner_of_equal constant is f (subst (λ n. lookup (nat_eq n) files ≡ Some f) u.0 k)),
          λ r. (its_number q f k (reads_input f.expr way whole r), way_of_equal inner f.expr slot constant way (subst (Reads f.expr way) is r)),
        )

        pub inner_of_range : (interval : Interval) → whole ≡ RangeSel inner slot interval → (f : File) → lookup (nat_eq at) files ≡ Some f → whole ≡ RangeSel f.expr slot interval
        inner_of_range interval is f k = is ∙ ap (λ e. RangeSel e slot interval) (sym (its_input f k ∙ input_of-range only.input inner slot interval (subst (IsInput only.input) is only.reads)))

        pub reads_of_range : (interval : Interval) → whole ≡ RangeSel inner slot interval → (q : ℕ) (f : File) (way : Reading) → lookup (nat_eq q) files ≡ Some f → is_at at (range slot interval) q way ↔ Reads f.expr way whole
        reads_of_range interval is q f way k = (
          λ u. subst (λ w. Reads f.expr w whole) (sym u.1) (inner_of_range interval is f (subst (λ n. lookup (nat_eq n) files ≡ Some f) u.0 k)),
          λ r. (its_number q f k (reads_input f.expr way whole r), way_of_range inner f.expr slot interval way (subst (Reads f.expr way) is r)),
        )

    -- a join
    module _ (first second : Expr) (pairs : List Pair) (is : whole ≡ Join first second pairs) where
      left_is : IsInput first whole
      left_is = subst (IsInput first) (sym is) (left-input_of first second pairs)

      right_is : IsInput second whole
      right_is = subst (IsInput second) (sym is) (right-input_of first second pairs)

      pub some_of_join : inputs ≡ Nothing → ⊥
      some_of_join e = subst (AreInputs (shown gs files) whole) e are first left_is

      module _ (left right : ℕ) (told : AreSidesOf inputs left right) where
        -- the sides have the files of these numbers
        pub stand : Stands (shown gs files) first left × Stands (shown gs files) second right
        stand = elim inputs as (λ i. AreSidesOf i left right → AreInputs (shown gs files) whole i → Stands (shown gs files) first left × Stands (shown gs files) second right) [
          | Nothing ↦ λ t a. absurd t
          | One n ↦ λ t a. (subst (Stands (shown gs files) first) (sym t.0) (only_told (shown gs files) whole n a first left_is), subst (Stands (shown gs files) second) (sym t.1) (only_told (shown gs files) whole n a second right_is))
          | Two l r ↦ λ t a.
              let k = layers _ _ _ _ (sym a.is ∙ is) (out-Join a.first a.second a.pairs) (out-Join first second pairs) in
              let f : a.first ≡ first = cc in
              let s : a.second ≡ second = cc in
              (subst (λ x. Stands (shown gs files) x left) f (subst (Stands (shown gs files) a.first) (sym t.0) a.on_left), subst (λ x. Stands (shown gs files) x right) s (subst (Stands (shown gs files) a.second) (sym t.1) a.on_right))
        ] told are

        pub file_of_left : HasFile files left
        file_of_left = let f = its_file files first left stand.0 in record { file = f.0; at = f.1 }

        pub file_of_right : HasFile files right
        file_of_right = let f = its_file files second right stand.1 in record { file = f.0; at = f.1 }

        pub sides_of_join : (f g : File) → lookup (nat_eq left) files ≡ Some f → lookup (nat_eq right) files ≡ Some g → whole ≡ Join f.expr g.expr pairs
        sides_of_join f g k l =
            let x = its_file files first left stand.0 in
            let y = its_file files second right stand.1 in
            let on_left : f.expr ≡ first = ap (λ z. z.expr) (one_value k x.1) ∙ x.2 in
            let on_right : g.expr ≡ second = ap (λ z. z.expr) (one_value l y.1) ∙ y.2 in
            is ∙ (λ i. Join (sym on_left i) (sym on_right i) pairs)

        reads_left : (q : ℕ) (f : File) → lookup (nat_eq q) files ≡ Some f → q ≡ left → Reads f.expr joined whole
        reads_left q f k e =
            let g = its_file files first left stand.0 in
            record { first = first; second = second; pairs = pairs; is = is; side = inl (ap (λ x. x.expr) (one_value (subst (λ n. lookup (nat_eq n) files ≡ Some f) e k) g.1) ∙ g.2) }

        reads_right : (q : ℕ) (f : File) → lookup (nat_eq q) files ≡ Some f → q ≡ right → Reads f.expr joined whole
        reads_right q f k e =
            let g = its_file files second right stand.1 in
            record { first = first; second = second; pairs = pairs; is = is; side = inr (ap (λ x. x.expr) (one_value (subst (λ n. lookup (nat_eq n) files ≡ Some f) e k) g.1) ∙ g.2) }

        pub reads_of_join : (q : ℕ) (f : File) (way : Reading) → lookup (nat_eq q) files ≡ Some f → is_at_either left right joined q way ↔ Reads f.expr way whole
        reads_of_join q f way k = (
          λ u. elim u as (λ _. Reads f.expr way whole) [
            | inl p ↦ subst (λ w. Reads f.expr w whole) (sym p.1) (reads_left q f k p.0)
            | inr p ↦ subst (λ w. Reads f.expr w whole) (sym p.1) (reads_right q f k p.0)
          ],
          λ r.
              let w = way_of_join first second f.expr pairs way (subst (Reads f.expr way) is r) in
              let l = its_file files first left stand.0 in
              let g = its_file files second right stand.1 in
              elim (input_of-join f.expr first second pairs (subst (IsInput f.expr) is (reads_input f.expr way whole r))) as (λ _. is_at_either left right joined q way) [
                | inl e ↦ inl (one q left f l.0 k l.1 (e ∙ sym l.2), w)
                | inr e ↦ inr (one q right f g.0 k g.1 (e ∙ sym g.2), w)
              ],
        )
