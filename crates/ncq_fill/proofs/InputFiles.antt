-- The files of an operator's inputs: what their rows are looked through for, and whose rows they have.
use Rattle.std.proofs.Common.{◌≡◌, ℕ, ◌+◌, ◌<◌, ◌≤◌, Bool, true, ◌&&◌, nat_lt, List, [], ◌∷◌, length, Some, sym, ◌∙◌, ap, subst, arith}
use Rattle.std.specs.List.{filter, list_all, AllByRecursion}
use Rattle.std.specs.FinMap.{get}
use Rattle.std.proofs.lemmas.Bool.Decides.{nat_tests}
use Rattle.ncq_base.specs.declared.atom.Atom.{Atom}
use Rattle.ncq_base.specs.declared.interval.Interval.{Interval}
use Rattle.ncq_base.proofs.Tests.{both_true}
use Rattle.ncq_row.specs.Embeddings.{Row}
use Rattle.ncq_row.specs.declared.pair.Pair.{Pair}
use Rattle.ncq_row.specs.declared.shape.Shape.{Shape}
use Rattle.ncq_row.specs.Formed.{shape_is_formed}
use Rattle.ncq_plan.specs.declared.expr.Expr.{Expr}
use Rattle.ncq_plan.specs.declared.expr.Expr.TheVariants.{Scan, EqSel, RangeSel, Join, rolls-EqSel, rolls-RangeSel, rolls-Join}
use Rattle.ncq_plan.specs.declared.expr.Expr.TheViews.{out-Expr, out-roll-Expr}
use Rattle.ncq_plan.specs.declared.expr.Expr.TheOpen.Expr-F.{EqSel as EqualLayer, RangeSel as RangeLayer, Join as JoinLayer}
use Rattle.ncq_plan.specs.Exprs.{World, rows_in, expr_width, scan_rows, join_rows}
use Rattle.ncq_plan.specs.Meets.{has_atom, is_within}
use Rattle.ncq_plan.specs.WellFormed.{IsWellFormedExpr, paths_step, paths_are_formed, slots_fit, pair_fits}
use Rattle.ncq_plan.proofs.ExprCases.{fold_scan}
use Rattle.ncq_plan.proofs.CallerLemmas.{fit_equal, fit_range, fit_join, rows_scan, rows_equal, rows_range, rows_join, rows_are_wide}
use Rattle.ncq_base.specs.Counts.{SameCounts}
use Rattle.ncq_midfile.specs.Content.{IsContent, IsSoundAt}
use Rattle.ncq_midfile.specs.Files.{FileState}
use Rattle.ncq_midfile.specs.Shown.{shown, rows_below}
use Rattle.ncq_midfile.specs.declared.view.View.{View}
use Rattle.ncq_delta.specs.Joins.{left_slots, right_slots}
use Rattle.ncq_shelf.specs.Contents.{AreWide, AreUpTo, Fits}
use Rattle.ncq_shelf.specs.Inputs.{AreInputs}
use Rattle.ncq_shelf.specs.KeptFiles.{KeptFile, Files}
use Rattle.ncq_shelf.specs.Parts.{IsInput}
use Rattle.ncq_shelf.specs.Ranges.{IsRange}
use Rattle.ncq_shelf.specs.Stands.{Stands, IsThere}
use Rattle.ncq_shelf.specs.declared.inputs.Inputs.{Inputs}
use Rattle.ncq_shelf.specs.declared.inputs.Inputs.TheVariants.{Nothing, One, Two}
use Rattle.ncq_shelf.proofs.CallerLemmas.{only_told, one_value, equal-input_of, range-input_of, left-input_of, right-input_of}
use Rattle.ncq_fill.specs.Counted.{IsOne, AreSome, AreOf}
use Rattle.ncq_fill.specs.Ready.{IsReady}
use Rattle.ncq_fill.proofs.FileLaws.{sound_content, have_slots, wide_same}

-- how many inputs each operator has

out_equal : (input : Expr) (slot : ℕ) (constant : Atom) → out-Expr (EqSel input slot constant) ≡ EqualLayer input slot constant
out_equal input slot constant = ap out-Expr (sym (rolls-EqSel input slot constant)) ∙ out-roll-Expr (EqualLayer input slot constant)

out_range : (input : Expr) (slot : ℕ) (interval : Interval) → out-Expr (RangeSel input slot interval) ≡ RangeLayer input slot interval
out_range input slot interval = ap out-Expr (sym (rolls-RangeSel input slot interval)) ∙ out-roll-Expr (RangeLayer input slot interval)

out_join : (left right : Expr) (pairs : List Pair) → out-Expr (Join left right pairs) ≡ JoinLayer left right pairs
out_join left right pairs = ap out-Expr (sym (rolls-Join left right pairs)) ∙ out-roll-Expr (JoinLayer left right pairs)

equal_no_join : (input : Expr) (slot : ℕ) (constant : Atom) (left right : Expr) (pairs : List Pair) → EqSel input slot constant ≡ Join left right pairs → ⊥
equal_no_join input slot constant left right pairs e = let same : EqualLayer input slot constant ≡ JoinLayer left right pairs = sym (out_equal input slot constant) ∙ ap out-Expr e ∙ out_join left right pairs in cc

module _ (files : Files) (whole : Expr) (inputs : Inputs) (are : AreInputs files whole inputs) where
  one_input : (input : Expr) → IsInput input whole → ((left right : Expr) (pairs : List Pair) → whole ≡ Join left right pairs → ⊥) → IsOne inputs
  one_input input reads other = elim inputs as (λ i. AreInputs files whole i → IsOne i) [
    | Nothing ↦ λ a. a input reads
    | One number ↦ λ a. tt
    | Two left right ↦ λ a. other a.first a.second a.pairs a.is
  ] are

  pub equal_has_one : (input : Expr) (slot : ℕ) (constant : Atom) → whole ≡ EqSel input slot constant → IsOne inputs
  equal_has_one input slot constant is =
      one_input input (subst (IsInput input) (sym is) (equal-input_of input slot constant))
      (λ left right pairs e. equal_no_join input slot constant left right pairs (sym is ∙ e))

  pub join_has_some : (left right : Expr) (pairs : List Pair) → whole ≡ Join left right pairs → AreSome inputs
  join_has_some left right pairs is = elim inputs as (λ i. AreInputs files whole i → AreSome i) [
    | Nothing ↦ λ a. a left (subst (IsInput left) (sym is) (left-input_of left right pairs))
    | One number ↦ λ a. tt
    | Two left right ↦ λ a. tt
  ] are

  -- each side has the file of its number
  join_stands : (l r : ℕ) (left right : Expr) (pairs : List Pair) → whole ≡ Join left right pairs → AreOf l r inputs → Stands files left l × Stands files right r
  join_stands l r left right pairs is of = elim inputs as (λ i. AreInputs files whole i → AreOf l r i → Stands files left l × Stands files right r) [
    | Nothing ↦ λ a o. absurd o
    | One number ↦ λ a o. (
      subst (Stands files left) (sym o.0) (only_told files whole number a left (subst (IsInput left) (sym is) (left-input_of left right pairs))),
      subst (Stands files right) (sym o.1) (only_told files whole number a right (subst (IsInput right) (sym is) (right-input_of left right pairs))),
    )
    | Two first second ↦ λ a o.
        let same : JoinLayer a.first a.second a.pairs ≡ JoinLayer left right pairs = sym (out_join a.first a.second a.pairs) ∙ ap out-Expr (sym a.is ∙ is) ∙ out_join left right pairs in
        let one : a.first ≡ left = cc in
        let two : a.second ≡ right = cc in (
          subst (λ e. Stands files e l) one (subst (Stands files a.first) (sym o.0) a.on_left),
          subst (λ e. Stands files e r) two (subst (Stands files a.second) (sym o.1) a.on_right),
        )
  ] are of

below : (slot width : ℕ) → nat_lt slot width ≡ true → slot < width
below slot width t = grind (arith, nat_tests, t)

-- what is known of the file of an input: where it is, that its content can be told, and whose rows that is
record InputFile (files : Files) (number now : ℕ) (world : World) (input : Expr) : Type 0 where
  pub file : KeptFile
  pub at : get files number ≡ Some file
  pub base : file.content.base ≤ now
  pub of : file.expr ≡ input
  pub content : IsContent now file.content.rows (rows_in input world)

module _ (files : Files) (now : ℕ) (world : World) (up_to : AreUpTo now files) (fits : Fits now world files) where
  input_file : (number : ℕ) (input : Expr) → Stands files input number → InputFile files number now world input
  input_file number input s = record {
    file = s.file;
    at = s.at;
    base = (up_to number s.file s.at).base;
    content = subst (λ e. IsContent now s.file.content.rows (rows_in e world)) s.of (fits number s.file s.at);
    of = s.of;
  }

-- the content of the file at this change can be told, and its expression has the slots
pub record IsTold (now : ℕ) (slots : List ℕ) (file : KeptFile) : Type 0 where
  pub base : file.content.base ≤ now
  pub sound : IsSoundAt now file.content.rows
  pub within : AllByRecursion (λ slot. slot < expr_width file.expr) slots

told_file : (files : Files) (number now : ℕ) (world : World) (input : Expr) (slots : List ℕ) (f : InputFile files number now world input) → AllByRecursion (λ slot. slot < expr_width input) slots → IsTold now slots f.file
told_file files number now world input slots f below = record {
  base = f.base;
  sound = sound_content now f.file.content.rows (rows_in input world) f.content;
  within = subst (λ e. AllByRecursion (λ slot. slot < expr_width e) slots) (sym f.of) below;
}

-- so a view of it is ready to be looked through, where each row below it is as wide as the expression
ready_view : (now : ℕ) (slots : List ℕ) (file : KeptFile) → IsTold now slots file → (view : View) → shown view ≡ file.content → AllByRecursion (λ r. length r.row ≡ expr_width file.expr) (rows_below view) → IsReady now slots view
ready_view now slots file told view is wide = record {
  base = subst (λ (f : FileState). f.base ≤ now) (sym is) told.base;
  sound = subst (λ (f : FileState). IsSoundAt now f.rows) (sym is) told.sound;
  within = have_slots slots (expr_width file.expr) told.within (rows_below view) wide;
}

-- a selection: its input's file, that file's content, and the rows of the whole
pub record Selection (files : Files) (whole : Expr) (number now slot : ℕ) (world : World) (test : Row → Bool) : Type 0 where
  pub file : KeptFile
  pub at : get files number ≡ Some file
  pub ready : IsTold now (slot ∷ []) file
  pub list : List Row
  pub content : IsContent now file.content.rows list
  pub rows : rows_in whole world ≡ filter test list

-- a join: the files of its sides, their contents, and the rows of the whole
pub record Joined (files : Files) (whole : Expr) (left right now : ℕ) (world : World) (pairs : List Pair) : Type 0 where
  pub first : KeptFile
  pub first_at : get files left ≡ Some first
  pub first_ready : IsTold now (left_slots pairs) first
  pub lefts : List Row
  pub first_content : IsContent now first.content.rows lefts
  pub second : KeptFile
  pub second_at : get files right ≡ Some second
  pub second_ready : IsTold now (right_slots pairs) second
  pub rights : List Row
  pub second_content : IsContent now second.content.rows rights
  pub rows : rows_in whole world ≡ join_rows pairs lefts rights

lefts_below : (left right : ℕ) (pairs : List Pair) → list_all (pair_fits left right) pairs ≡ true → AllByRecursion (λ slot. slot < left) (left_slots pairs)
lefts_below left right [] h = tt
lefts_below left right (pair ∷ pairs) h =
    let b = both_true (pair_fits left right pair) (list_all (pair_fits left right) pairs) h in
    let c = both_true (nat_lt pair.left left) (nat_lt pair.right right) b.0 in
    (below pair.left left c.0, lefts_below left right pairs b.1)

rights_below : (left right : ℕ) (pairs : List Pair) → list_all (pair_fits left right) pairs ≡ true → AllByRecursion (λ slot. slot < right) (right_slots pairs)
rights_below left right [] h = tt
rights_below left right (pair ∷ pairs) h =
    let b = both_true (pair_fits left right pair) (list_all (pair_fits left right) pairs) h in
    let c = both_true (nat_lt pair.left left) (nat_lt pair.right right) b.0 in
    (below pair.right right c.1, rights_below left right pairs b.1)

module _ (files : Files) (whole : Expr) (inputs : Inputs) (changes now : ℕ) (world : World) (now_is : now ≡ changes) (are : AreInputs files whole inputs) (formed : IsWellFormedExpr whole)
    (up_to : AreUpTo changes files) (fits : Fits changes world files) where
  file_now : (number : ℕ) (input : Expr) → Stands files input number → InputFile files number now world input
  file_now = input_file files now world (subst (λ n. AreUpTo n files) (sym now_is) up_to) (subst (λ n. Fits n world files) (sym now_is) fits)

  selection : (number : ℕ) → inputs ≡ One number → (input : Expr) (slot : ℕ) (test : Row → Bool) → IsInput input whole → slot < expr_width input
      → rows_in whole world ≡ filter test (rows_in input world) → Selection files whole number now slot world test
  selection number told input slot test reads fit rows =
      let f = file_now number input (only_told files whole number (subst (AreInputs files whole) told are) input reads) in
      record {
        file = f.file;
        at = f.at;
        ready = told_file files number now world input (slot ∷ []) f (fit, tt);
        list = rows_in input world;
        content = f.content;
        rows = rows;
      }

  pub equal_selection : (number : ℕ) → inputs ≡ One number → (input : Expr) (slot : ℕ) (constant : Atom) → whole ≡ EqSel input slot constant → Selection files whole number now slot world (has_atom slot constant)
  equal_selection number told input slot constant is =
      selection number told input slot (has_atom slot constant) (subst (IsInput input) (sym is) (equal-input_of input slot constant))
      (below slot (expr_width input) (both_true (slots_fit input) (nat_lt slot (expr_width input)) (sym (fit_equal input slot constant) ∙ ap slots_fit (sym is) ∙ formed.slots)).1)
      (ap (λ e. rows_in e world) is ∙ rows_equal world input slot constant)

  pub joined : (l r : ℕ) (left right : Expr) (pairs : List Pair) → whole ≡ Join left right pairs → AreOf l r inputs → Joined files whole l r now world pairs
  joined l r left right pairs is of =
      let stands = join_stands files whole inputs are l r left right pairs is of in
      let one = file_now l left stands.0 in
      let two = file_now r right stands.1 in
      let fit = (both_true (slots_fit left && slots_fit right) (list_all (pair_fits (expr_width left) (expr_width right)) pairs) (sym (fit_join left right pairs) ∙ ap slots_fit (sym is) ∙ formed.slots)).1 in
      record {
        first = one.file;
        first_at = one.at;
        first_ready = told_file files l now world left (left_slots pairs) one (lefts_below (expr_width left) (expr_width right) pairs fit);
        lefts = rows_in left world;
        first_content = one.content;
        second = two.file;
        second_at = two.at;
        second_ready = told_file files r now world right (right_slots pairs) two (rights_below (expr_width left) (expr_width right) pairs fit);
        rights = rows_in right world;
        second_content = two.content;
        rows = ap (λ e. rows_in e world) is ∙ rows_join world left right pairs;
      }

-- what is asked of each file of a number is so of the one that is there
pub asked : (files : Files) (number : ℕ) (slots : List ℕ) (now : ℕ) (file : KeptFile) → get files number ≡ Some file → IsTold now slots file
    → (other : KeptFile) → get files number ≡ Some other → AllByRecursion (λ slot. slot < expr_width other.expr) slots
asked files number slots now file at told other here = subst (λ (f : KeptFile). AllByRecursion (λ slot. slot < expr_width f.expr) slots) (one_value at here) told.within

-- what is told of a view of files that are the same, at a number
pub record IsViewOf (file : KeptFile) (view : View) : Type 0 where
  pub is : shown view ≡ file.content
  pub wide : AllByRecursion (λ r. length r.row ≡ expr_width file.expr) (rows_below view)

pub told_same : (files after : Files) (number : ℕ) (view : View) (file : KeptFile) → after ≡ files → ((file : KeptFile) → get after number ≡ Some file → shown view ≡ file.content)
    → ((file : KeptFile) → get after number ≡ Some file → AreWide after → AllByRecursion (λ r. length r.row ≡ expr_width file.expr) (rows_below view))
    → AreWide files → get files number ≡ Some file → IsViewOf file view
told_same files after number view file same told wide are at =
    let here = subst (λ m. get m number ≡ Some file) (sym same) at in
    record { is = told file here; wide = wide file here (subst AreWide (sym same) are) }

pub there_same : (files after : Files) (number : ℕ) (file : KeptFile) → after ≡ files → get files number ≡ Some file → IsThere after number
there_same files after number file same at = record { file = file; at = subst (λ m. get m number ≡ Some file) (sym same) at }

-- what is gathered from the content of an input's file is what the selection has
module _ (files : Files) (whole : Expr) (number now slot : ℕ) (world : World) (test : Row → Bool) (s : Selection files whole number now slot world test)
    (view : View) (of : IsViewOf s.file view) where
  pub selected_ready : IsReady now (slot ∷ []) view
  selected_ready = ready_view now (slot ∷ []) s.file s.ready view of.is of.wide

  its_content : IsContent now (shown view).rows s.list
  its_content = subst (λ (f : FileState). IsContent now f.rows s.list) (sym of.is) s.content

  pub selected_counts : (rows : List Row) → ((list : List Row) → IsContent now (shown view).rows list → SameCounts rows (filter test list)) → SameCounts rows (rows_in whole world)
  selected_counts rows counts = subst (SameCounts rows) (sym s.rows) (counts s.list its_content)

  pub selected_cost : (before after : ℕ) → ((list : List Row) → IsContent now (shown view).rows list → after ≤ before + length (filter test list)) → after ≤ before + length (rows_in whole world)
  selected_cost before after cost = subst (λ (rows : List Row). after ≤ before + length rows) (sym s.rows) (cost s.list its_content)

-- and so of a join
module _ (files : Files) (whole : Expr) (left right now : ℕ) (world : World) (pairs : List Pair) (j : Joined files whole left right now world pairs)
    (first second : View) (of_first : IsViewOf j.first first) (of_second : IsViewOf j.second second) where
  pub ready_first : IsReady now (left_slots pairs) first
  ready_first = ready_view now (left_slots pairs) j.first j.first_ready first of_first.is of_first.wide

  pub ready_second : IsReady now (right_slots pairs) second
  ready_second = ready_view now (right_slots pairs) j.second j.second_ready second of_second.is of_second.wide

  content_first : IsContent now (shown first).rows j.lefts
  content_first = subst (λ (f : FileState). IsContent now f.rows j.lefts) (sym of_first.is) j.first_content

  content_second : IsContent now (shown second).rows j.rights
  content_second = subst (λ (f : FileState). IsContent now f.rows j.rights) (sym of_second.is) j.second_content

  pub joined_counts : (rows : List Row) → ((lefts rights : List Row) → IsContent now (shown first).rows lefts → IsContent now (shown second).rows rights → SameCounts rows (join_rows pairs lefts rights)) → SameCounts rows (rows_in whole world)
  joined_counts rows counts = subst (SameCounts rows) (sym j.rows) (counts j.lefts j.rights content_first content_second)

  pub joined_cost : (before after : ℕ) → ((lefts rights : List Row) → IsContent now (shown first).rows lefts → IsContent now (shown second).rows rights → after ≤ before + length (join_rows pairs lefts rights)) → after ≤ before + length (rows_in whole world)
  joined_cost before after cost = subst (λ (rows : List Row). after ≤ before + length rows) (sym j.rows) (cost j.lefts j.rights content_first content_second)

-- rows that are those of an expression are as wide as it
pub rows_wide : (world : World) (whole : Expr) (rows : List Row) → SameCounts rows (rows_in whole world) → AllByRecursion (λ row. length row ≡ expr_width whole) rows
rows_wide world whole rows same = wide_same (expr_width whole) rows (rows_in whole world) same (rows_are_wide world whole)

-- a scan has the rows of its shape
module _ (whole : Expr) (world : World) (source : List ℕ) (shape : Shape) (is : whole ≡ Scan source shape) where
  scanned : rows_in whole world ≡ scan_rows shape (world source)
  scanned = ap (λ e. rows_in e world) is ∙ rows_scan world source shape

  pub scan_counts : (rows : List Row) → SameCounts rows (scan_rows shape (world source)) → SameCounts rows (rows_in whole world)
  scan_counts rows counts = subst (SameCounts rows) (sym scanned) counts

  pub scan_steps : (before after : ℕ) → after ≤ before + length (scan_rows shape (world source)) → after ≤ before + length (rows_in whole world)
  scan_steps before after cost = subst (λ (rows : List Row). after ≤ before + length rows) (sym scanned) cost

-- the paths of a scan's shape are well formed where the scan is
pub scan_formed : (whole : Expr) → IsWellFormedExpr whole → (source : List ℕ) (shape : Shape) → whole ≡ Scan source shape → shape_is_formed shape ≡ true
scan_formed whole formed source shape is = sym (ap paths_are_formed is ∙ fold_scan paths_step source shape) ∙ formed.paths
