-- A selection by an interval on its way in, with the rows that it brings.
use Rattle.std.proofs.Common.{◌≡◌, ◌<◌, ◌≤◌, ◌+◌, ℕ, List, [], cond, length, map, filter, Some, None, Option, nat_eq, refl, sym, ap, ◌∙◌, subst}
use Rattle.std.specs.List.{All, AllByRecursion}
use Rattle.std.specs.Map.{lookup}
use Rattle.std.specs.Option.{option_map}
use Rattle.std.specs.FinMap.{get, insert}
use Rattle.std.proofs.lemmas.List.Elements.{All-from_recursion}
use Rattle.ncq_base.specs.declared.interval.Interval.{Interval}
use Rattle.ncq_row.specs.Embeddings.{Row}
use Rattle.ncq_plan.specs.declared.expr.Expr.{Expr}
use Rattle.ncq_plan.specs.declared.expr.Expr.TheVariants.{RangeSel}
use Rattle.ncq_plan.specs.ExprLists.{is_expr}
use Rattle.ncq_plan.specs.Exprs.{World, expr_width, rows_in}
use Rattle.ncq_plan.specs.WellFormed.{IsWellFormedExpr}
use Rattle.ncq_midfile.specs.Content.{IsContent}
use Rattle.ncq_midfile.specs.Files.{FileState}
use Rattle.ncq_midfile.specs.Made.{gained_at}
use Rattle.ncq_midfile.specs.Shown.{shown as view_shown, rows_below}
use Rattle.ncq_midfile.specs.Views.{HasNumber, is_missing, AreHeld}
use Rattle.ncq_midfile.specs.declared.signed.SignedRow.{SignedRow}
use Rattle.ncq_midfile.specs.declared.view.View.{View}
use Rattle.ncq_readers.specs.Readings.{Reading}
use Rattle.ncq_readers.specs.ReaderTables.{ReaderTables, IsReader}
use Rattle.ncq_shelf.specs.Contents.{AreUpTo, AreWide, Fits, IsNewAt}
use Rattle.ncq_shelf.specs.Groups.{Groups, AreBehind, BringsRows, GainsRows, content_of, group_of, rows_of_group, intervals_at, intervals_in}
use Rattle.ncq_shelf.specs.Inputs.{AreInputs}
use Rattle.ncq_shelf.specs.Keyed.{IsKept}
use Rattle.ncq_shelf.specs.KeptFiles.{KeptFile, Files}
use Rattle.ncq_shelf.specs.Shown.{shown, state_of}
use Rattle.ncq_shelf.specs.Stands.{Stands}
use Rattle.ncq_shelf.specs.Wired.{IsEnrolled}
use Rattle.ncq_shelf.specs.declared.file.File.{File}
use Rattle.ncq_shelf.specs.declared.group.Group.{Group}
use Rattle.ncq_shelf.specs.declared.inputs.Inputs.{Inputs}
use Rattle.ncq_shelf.specs.declared.inputs.Inputs.TheVariants.{One}
use Rattle.ncq_shelf.specs.declared.keys.Keys.{Keys}
use Rattle.ncq_shelf.specs.declared.rows.Rows.TheVariants.{Ranged}
use Rattle.ncq_shelf.proofs.Arms.{one_of_range}
use Rattle.ncq_shelf.proofs.Indexes.{shown_at}
use Rattle.ncq_shelf.proofs.InputLaws.{only_told}
use Rattle.ncq_shelf.proofs.Installed.{kept_same, shown_installed, kept_installed}
use Rattle.ncq_shelf.proofs.IntervalReaders.{intervals_here}
use Rattle.ncq_shelf.proofs.KeyLaws.{all_map}
use Rattle.ncq_shelf.proofs.Layers.{range-input_of}
use Rattle.ncq_shelf.proofs.Maps.{one_value, there as is_there}
use Rattle.ncq_shelf.proofs.NewViews.{added, brings, added_within, added_numbers, added_behind, its_held, is_new_at, fits_more, cost_told, slot_there}
use Rattle.ncq_shelf.proofs.ShownFiles.{get_shown}
use Rattle.ncq_shelf.proofs.Widths.{wide_below}

-- the input of a selection stands
pub input_told : (m : Files) (whole of : Expr) (slot : ℕ) (interval : Interval) (inputs : Inputs) (input : ℕ) → whole ≡ RangeSel of slot interval → AreInputs m whole inputs → inputs ≡ One input → Stands m of input
input_told m whole of slot interval inputs input is are one =
    only_told m whole input (subst (AreInputs m whole) one are) of (subst (Rattle.ncq_shelf.specs.Parts.IsInput of) (sym is) (range-input_of of slot interval))

-- it reads one file
pub reads_one : (m : Files) (whole of : Expr) (slot : ℕ) (interval : Interval) → whole ≡ RangeSel of slot interval → (inputs : Inputs) → AreInputs m whole inputs → ((n : ℕ) → inputs ≡ One n → ⊥) → ⊥
reads_one m whole of slot interval is inputs are none = let o = one_of_range [] m whole of slot interval is inputs are in none o.0 o.1

module _ (gs : Groups) (files : List (ℕ × File)) (m : Files) (seen : shown gs files ≡ m) (whole of : Expr) (slot : ℕ) (interval : Interval) (is : whole ≡ RangeSel of slot interval) (inputs : Inputs) (are : AreInputs m whole inputs) where
  module _ (input : ℕ) (one : inputs ≡ One input) where
    pub input_there : lookup (nat_eq input) files ≡ None → ⊥
    input_there none =
        let s = input_told m whole of slot interval inputs input is are one in
        is_there (subst (λ x. get x input ≡ Some s.file) (sym seen) s.at) (get_shown gs files input ∙ ap (option_map (state_of gs)) none)

    module _ (inner : File) (at : Some inner ≡ lookup (nat_eq input) files) where
      pub inner_at : get m input ≡ Some (state_of gs inner)
      inner_at = subst (λ x. get x input ≡ Some (state_of gs inner)) seen (shown_at gs files input inner (sym at))

      pub over_inner_now : whole ≡ RangeSel inner.expr slot interval
      over_inner_now =
          let s = input_told m whole of slot interval inputs input is are one in
          is ∙ ap (λ e. RangeSel e slot interval) (sym s.of ∙ ap (λ (k : KeptFile). k.expr) (one_value s.at inner_at))

      -- its slot is one of each row below a view of the input
      pub slots_below : (numbers : List (Expr × ℕ)) (scans : List (List ℕ × ReaderTables)) (keys : Keys) → IsKept gs files numbers scans keys → AreWide m → IsWellFormedExpr whole → (view : View) → view_shown view ≡ content_of gs inner.expr inner.content
          → (group_of inner.content ≡ None → rows_below view ≡ (view_shown view).rows) → ((group : Group) → group_of inner.content ≡ Some group → rows_below view ≡ rows_of_group gs group) → All (λ signed. slot < length signed.row) (rows_below view)
      slots_below numbers scans keys kept wide formed view sees own below =
          let less = slot_there inner.expr slot interval (subst IsWellFormedExpr over_inner_now formed) in
          All-from_recursion (λ (r : SignedRow). slot < length r.row) (rows_below view)
          (all_map (λ (r : SignedRow). length r.row ≡ expr_width inner.expr) (λ (r : SignedRow). slot < length r.row) (λ r e. subst (λ w. slot < w) (sym e) less) (rows_below view)
          (wide_below gs files numbers scans kept.shelved kept.grouped m seen wide input inner (sym at) (state_of gs inner) inner_at view sees own below))

      pub costs : (numbers : List (Expr × ℕ)) (scans : List (List ℕ × ReaderTables)) (keys : Keys) → IsKept gs files numbers scans keys → (change : ℕ) (view : FileState) → view ≡ content_of gs inner.expr inner.content → (old new : ℕ)
          → ((list : List Row) → IsContent change view.rows list → new ≤ old + length (filter (is_missing slot (intervals_in inner.readers slot) interval) list))
          → (world : World) → Fits change world m → new ≤ old + length (rows_in whole world)
      costs numbers scans keys kept change view sees old new spent =
          let group : Group = record { input = input; slot = slot } in
          cost_told gs files numbers scans kept.shelved kept.grouped m seen group inner (sym at) change interval whole over_inner_now old new
          (λ list content. subst (λ l. new ≤ old + length (filter (is_missing slot l interval) list)) (sym (intervals_here files group inner (sym at)))
          (spent list (subst (λ (s : FileState). IsContent change s.rows list) (sym sees) content)))

-- what is known when the rows are found
pub record Arrival (gs : Groups) (files : List (ℕ × File)) (numbers : List (Expr × ℕ)) (scans : List (List ℕ × ReaderTables)) (keys : Keys) (m : Files) (group : Group) (whole : Expr) (change : ℕ) (missing : List SignedRow) : Type 0 where
  pub kept : IsKept gs files numbers scans keys
  pub seen : shown gs files ≡ m
  pub inner : File
  pub at : lookup (nat_eq group.input) files ≡ Some inner
  pub interval : Interval
  pub is : whole ≡ RangeSel inner.expr group.slot interval
  pub list : List Row
  pub content : IsContent change (content_of gs inner.expr inner.content).rows list
  pub told : missing ≡ map (gained_at change) (filter (is_missing group.slot (intervals_at files group) interval) list)

pub arrives : (gs : Groups) (f0 : List (ℕ × File)) (n0 : List (Expr × ℕ)) (scans : List (List ℕ × ReaderTables)) (keys : Keys) → IsKept gs f0 n0 scans keys → (m : Files) → shown gs f0 ≡ m → (f1 : List (ℕ × File)) → f1 ≡ f0 → (n1 : List (Expr × ℕ)) → n1 ≡ n0
    → (group : Group) (whole of : Expr) (interval : Interval) → whole ≡ RangeSel of group.slot interval → (inputs : Inputs) → AreInputs m whole inputs → inputs ≡ One group.input → (inner : File) → Some inner ≡ lookup (nat_eq group.input) f0
    → (change : ℕ) (missing : List SignedRow) (view : FileState) → view ≡ content_of gs inner.expr inner.content
    → (list : List Row) × IsContent change view.rows list × (missing ≡ map (gained_at change) (filter (is_missing group.slot (intervals_in inner.readers group.slot) interval) list))
    → Arrival gs f1 n1 scans keys m group whole change missing
arrives gs f0 n0 scans keys kept m seen f1 fs n1 ns group whole of interval is inputs are one inner at change missing view sees rows =
    let here : lookup (nat_eq group.input) f1 ≡ Some inner = ap (lookup (nat_eq group.input)) fs ∙ sym at in
    record {
      kept = kept_same gs f0 f1 n0 n1 scans keys fs ns kept;
      seen = ap (shown gs) fs ∙ seen;
      inner = inner;
      at = here;
      interval = interval;
      is = over_inner_now gs f0 m seen whole of group.slot interval is inputs are group.input one inner at;
      list = rows.0;
      content = subst (λ (s : FileState). IsContent change s.rows rows.0) sees rows.1;
      told = rows.2 ∙ ap (λ l. map (gained_at change) (filter (is_missing group.slot l interval) rows.0)) (sym (intervals_here f1 group inner here));
    }

module _ (gs : Groups) (files : List (ℕ × File)) (numbers : List (Expr × ℕ)) (scans : List (List ℕ × ReaderTables)) (keys : Keys) (m : Files) (group : Group) (whole : Expr) (change : ℕ) (missing : List SignedRow) (a : Arrival gs files numbers scans keys m group whole change missing) where
  pub its_there : AreHeld group.slot (intervals_at files group) (rows_of_group gs group)
  its_there = its_held gs files numbers scans a.kept.shelved a.kept.grouped m a.seen group a.inner a.at

  pub brings_them : BringsRows files group whole missing
  brings_them = subst (BringsRows files group whole) (sym a.told) (brings gs files numbers scans a.kept.shelved a.kept.grouped m a.seen group a.inner a.at change a.interval a.list a.content whole a.is)

  pub have_numbers : AreWide m → IsWellFormedExpr whole → AllByRecursion (λ r. HasNumber group.slot r.row) missing
  have_numbers wide formed = subst (AllByRecursion (λ r. HasNumber group.slot r.row)) (sym a.told)
      (added_numbers gs files numbers scans a.kept.shelved a.kept.grouped m a.seen group a.inner a.at change a.interval a.list a.content wide (slot_there a.inner.expr group.slot a.interval (subst IsWellFormedExpr a.is formed)))

  pub are_behind : AreUpTo change m → AreBehind (rows_of_group gs group) missing
  are_behind up = subst (AreBehind (rows_of_group gs group)) (sym a.told) (added_behind gs files numbers scans a.kept.shelved a.kept.grouped m a.seen group a.inner a.at change a.interval a.list a.content up)

  -- the file that comes in
  module _ (hs : Groups) (gains : GainsRows gs group missing hs) (file : File) (same : file.expr ≡ whole) (holds : file.content ≡ Ranged group change) where
    gains_added : GainsRows gs group (added gs files numbers scans a.kept.shelved a.kept.grouped m a.seen group a.inner a.at change a.interval a.list a.content) hs
    gains_added = subst (λ rows. GainsRows gs group rows hs) a.told gains

    pub is_new : file.uses ≡ 0 → AreWide m → AreUpTo change m → IsNewAt change whole (state_of hs file)
    is_new unused wide up = is_new_at gs files numbers scans a.kept.shelved a.kept.grouped m a.seen group a.inner a.at change a.interval a.list a.content hs gains_added file whole same a.is holds unused wide up

    pub all_fit : (number : ℕ) (world : World) → Fits change world m → Fits change world (insert m number (state_of hs file))
    all_fit number world fits = fits_more gs files numbers scans a.kept.shelved a.kept.grouped m a.seen group a.inner a.at change a.interval a.list a.content hs gains_added file whole same a.is holds number world fits

    module _ (number : ℕ) (absent : get m number ≡ None) (unknown : (n : ℕ) → Stands m whole n → ⊥) (inputs : AreInputs m whole (One group.input)) (input : file.inputs ≡ One group.input) (empty : (way : Reading) (n : ℕ) → IsReader file.readers way n → ⊥)
        (f1 : List (ℕ × File)) (enrolled : IsEnrolled files whole number f1) (f2 : List (ℕ × File)) (put : (q : ℕ) → lookup (nat_eq q) f2 ≡ cond (nat_eq number q) (Some file) (lookup (nat_eq q) f1))
        (n1 : List (Expr × ℕ)) (known : (q : Expr) → lookup (is_expr q) n1 ≡ cond (is_expr file.expr q) (Some number) (lookup (is_expr q) numbers)) where
      within : AllByRecursion (λ r. Rattle.ncq_midfile.specs.Views.is_within group.slot a.interval r.row ≡ Rattle.std.proofs.Common.true) missing
      within = subst (AllByRecursion (λ r. Rattle.ncq_midfile.specs.Views.is_within group.slot a.interval r.row ≡ Rattle.std.proofs.Common.true)) (sym a.told)
          (added_within gs files numbers scans a.kept.shelved a.kept.grouped m a.seen group a.inner a.at change a.interval a.list a.content)

      pub seen_then : shown hs f2 ≡ insert m number (state_of hs file)
      seen_then = shown_installed gs files numbers scans keys a.kept m a.seen group hs missing gains whole a.inner.expr a.interval a.is brings_them within number absent unknown inputs file same (ap group_of holds) input empty f1 enrolled f2 put n1 known

      pub kept_then : IsKept hs f2 n1 scans keys
      kept_then = kept_installed gs files numbers scans keys a.kept m a.seen group hs missing gains whole a.inner.expr a.interval a.is brings_them within number absent unknown inputs file same (ap group_of holds) input empty f1 enrolled f2 put n1 known
