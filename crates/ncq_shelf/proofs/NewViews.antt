-- A new selection by an interval: the rows that its group has, those that it brings, and what it
-- shows of both.
use Rattle.std.proofs.Common.{◌≡◌, ◌<◌, ◌≤◌, ◌+◌, ℕ, suc, ◌++◌, ◌&&◌, Bool, true, false, not, cond, List, [], ◌∷◌, length, map, filter, Some, nat_eq, inl, inr, refl, sym, ap, ◌∙◌, subst, true≢false, arith}
use Rattle.std.specs.List.{AllByRecursion}
use Rattle.std.specs.Map.{lookup}
use Rattle.std.specs.FinMap.{get, insert}
use Rattle.std.specs.Prelude.{nat_lt}
use Rattle.std.proofs.lemmas.Bool.{cases_eq, eq-eqb, eqb-true, ltb-true}
use Rattle.ncq_base.specs.Counts.{SameCounts}
use Rattle.ncq_base.proofs.CountLaws.{total_by-append, counts-filter}
use Rattle.ncq_base.proofs.Tests.{both_true}
use Rattle.ncq_base.specs.Intervals.{in_interval}
use Rattle.ncq_base.specs.declared.atom.Atom.{Atom}
use Rattle.ncq_base.specs.declared.atom.Atom.TheVariants.{Num, Text}
use Rattle.ncq_base.specs.declared.interval.Interval.{Interval}
use Rattle.ncq_row.specs.Embeddings.{Row}
use Rattle.ncq_row.specs.Values.{atom_at}
use Rattle.ncq_plan.specs.declared.expr.Expr.{Expr}
use Rattle.ncq_plan.specs.declared.expr.Expr.TheVariants.{RangeSel}
use Rattle.ncq_plan.specs.declared.expr.Expr.TheViews.{out-Expr}
use Rattle.ncq_plan.specs.Exprs.{World, expr_width, rows_in}
use Rattle.ncq_plan.specs.WellFormed.{IsWellFormedExpr, slots_fit}
use Rattle.ncq_plan.proofs.CallerLemmas.{width_range, fit_range, rows_range}
use Rattle.ncq_midfile.specs.Content.{IsContent, up_to, losses}
use Rattle.ncq_midfile.specs.Made.{gained_at}
use Rattle.ncq_midfile.specs.Views.{HasNumber, HaveContents, is_number, is_within, is_held, is_missing, of_rows, AreHeld}
use Rattle.ncq_midfile.specs.declared.signed.SignedRow.{SignedRow}
use Rattle.ncq_midfile.proofs.Compacts.{rows_made}
use Rattle.ncq_midfile.proofs.ViewLaws.{filtered_pass, install_gives}
use Rattle.ncq_midfile.proofs.Withins.{filter_both}
use Rattle.ncq_readers.specs.Readings.Reading.{range}
use Rattle.ncq_readers.specs.ReaderTables.{ReaderTables, IsReader}
use Rattle.ncq_shelf.specs.Contents.{AreUpTo, AreWide, Fits, IsNewAt}
use Rattle.ncq_shelf.specs.Groups.{Groups, IsGrouped, IsRightFor, IsTaken, IsVirtual, AreBehind, BringsRows, GainsRows, content_of, group_of, rows_of_group, intervals_at}
use Rattle.ncq_shelf.specs.KeptFiles.{KeptFile, Files}
use Rattle.ncq_shelf.specs.Shown.{shown, state_of}
use Rattle.ncq_shelf.specs.Stands.{Stands}
use Rattle.ncq_shelf.specs.Wired.{IsShelved}
use Rattle.ncq_shelf.specs.declared.file.File.{File}
use Rattle.ncq_shelf.specs.declared.group.Group.{Group}
use Rattle.ncq_shelf.specs.declared.rows.Rows.{Rows}
use Rattle.ncq_shelf.specs.declared.rows.Rows.TheVariants.{Ranged}
use Rattle.ncq_shelf.proofs.Consumers.{reader_range}
use Rattle.ncq_shelf.proofs.Grouped.{has_group}
use Rattle.ncq_shelf.proofs.GroupGains.{all_both}
use Rattle.ncq_shelf.proofs.GroupShown.{all_taken, reads_group}
use Rattle.ncq_shelf.proofs.Indexes.{shown_at, kept_at}
use Rattle.ncq_shelf.proofs.IntervalReaders.{each_of, held_of, intervals_here}
use Rattle.ncq_shelf.proofs.KeyLaws.{all_map, all_part, push, passes_left}
use Rattle.ncq_shelf.proofs.Layers.{out-RangeSel}
use Rattle.ncq_shelf.proofs.Maps.{one_value, put_same, put_other}
use Rattle.ncq_shelf.proofs.Widths.{each_at, from_each, of_test, over_inner, virtual_rows, wide_at}

-- rows that came in at one change
pub all_made : (n : ℕ) (P : Row → Type 0) (xs : List Row) → AllByRecursion P xs → AllByRecursion (λ r. P r.row) (map (gained_at n) xs)
all_made n P [] all = tt
all_made n P (x ∷ xs) all = (all.0, all_made n P xs all.1)

pub made_at : (n : ℕ) (xs : List Row) → AllByRecursion (λ r. r.number ≤ n) (map (gained_at n) xs)
made_at n [] = tt
made_at n (x ∷ xs) = (omega arith, made_at n xs)

pub all_behind : (n : ℕ) (rows : List SignedRow) (xs : List Row) → AllByRecursion (λ r. r.number ≤ n) rows → AreBehind rows (map (gained_at n) xs)
all_behind n rows [] all = tt
all_behind n rows (x ∷ xs) all = (all, all_behind n (rows ++ gained_at n x ∷ []) xs (push (λ (r : SignedRow). r.number ≤ n) rows (gained_at n x) all (omega arith)))

-- a row with a value in an interval has a number there
number_in : (interval : Interval) (a : Atom) → in_interval interval a ≡ true → is_number a ≡ true
number_in interval (Num n) h = refl
number_in interval (Text t) h = absurd (true≢false (sym h))

-- no more rows pass two tests than the first of them
filter_short : {A : Type 0} (p : A → Bool) (xs : List A) → length (filter p xs) ≤ length xs
filter_short p [] = omega arith
filter_short p (x ∷ xs) = by (p x) (filter_short p xs)
  where
    by : (b : Bool) → length (filter p xs) ≤ length xs → length (cond b (x ∷ filter p xs) (filter p xs)) ≤ suc (length xs)
    by true h = omega arith
    by false h = omega arith

pub missing_short : (slot : ℕ) (standing : List Interval) (interval : Interval) (list : List Row) → length (filter (is_missing slot standing interval) list) ≤ length (filter (is_within slot interval) list)
missing_short slot standing interval list =
    subst (λ xs. length xs ≤ length (filter (is_within slot interval) list)) (sym (filter_both (λ row. not (is_held slot standing row)) (is_within slot interval) list))
    (filter_short (λ row. not (is_held slot standing row)) (filter (is_within slot interval) list))

-- contents of the same rows
pub content_same : (n : ℕ) (rows : List SignedRow) (xs ys : List Row) → SameCounts xs ys → IsContent n rows xs → IsContent n rows ys
content_same n rows xs ys same content f =
    let a = content f in
    let b = total_by-append f xs (losses (up_to n rows)) in
    let c = total_by-append f ys (losses (up_to n rows)) in
    let d = same f in
    omega arith

pub one_content : (n : ℕ) (rows : List SignedRow) (xs ys : List Row) → IsContent n rows xs → IsContent n rows ys → SameCounts xs ys
one_content n rows xs ys one other f =
    let a = one f in
    let e = other f in
    let b = total_by-append f xs (losses (up_to n rows)) in
    let c = total_by-append f ys (losses (up_to n rows)) in
    omega arith

-- a content has rows as wide as the file
pub content_wide : (w n : ℕ) (rows : List SignedRow) (list : List Row) → IsContent n rows list → AllByRecursion (λ r. length r.row ≡ w) rows → AllByRecursion (λ r. length r.row ≡ w) (map (gained_at n) list)
content_wide w n rows list content wide =
    let made = map (gained_at n) list in
    let test = λ (row : Row). nat_eq (length row) w in
    all_map (λ (r : SignedRow). nat_eq (length r.row) w ≡ true) (λ (r : SignedRow). length r.row ≡ w) (λ r h. eqb-true (length r.row) w h) made
    (passes_left test 0 n rows made (subst (IsContent n rows) (sym (rows_made n list)) content)
    (all_map (λ (r : SignedRow). length r.row ≡ w) (λ (r : SignedRow). nat_eq (length r.row) w ≡ true) (λ r e. eq-eqb (length r.row) w e) rows wide))

-- those that pass a test
pub made_part : (n : ℕ) (P : SignedRow → Type 0) (test : Row → Bool) (xs : List Row) → AllByRecursion P (map (gained_at n) xs) → AllByRecursion P (map (gained_at n) (filter test xs))
made_part n P test [] all = tt
made_part n P test (x ∷ xs) all = by (test x) (made_part n P test xs all.1)
  where
    by : (b : Bool) → AllByRecursion P (map (gained_at n) (filter test xs)) → AllByRecursion P (map (gained_at n) (cond b (x ∷ filter test xs) (filter test xs)))
    by true rest = (all.0, rest)
    by false rest = rest

same_range : (a b : Expr) (s t : ℕ) (i j : Interval) → RangeSel a s i ≡ RangeSel b t j → (a ≡ b) × (s ≡ t) × (i ≡ j)
same_range a b s t i j e =
    let l = sym (out-RangeSel a s i) ∙ ap out-Expr e ∙ out-RangeSel b t j in
    (cc, cc, cc)

last_true : (a b : Bool) → (a && b) ≡ true → b ≡ true
last_true true b h = h
last_true false b h = absurd (true≢false (sym h))

-- the slot of a selection is one of its input's
pub slot_there : (inner : Expr) (slot : ℕ) (interval : Interval) → IsWellFormedExpr (RangeSel inner slot interval) → slot < expr_width inner
slot_there inner slot interval formed = ltb-true slot (expr_width inner) (last_true (slots_fit inner) (nat_lt slot (expr_width inner)) (sym (fit_range inner slot interval) ∙ formed.slots))

module _ (gs : Groups) (files : List (ℕ × File)) (numbers : List (Expr × ℕ)) (scans : List (List ℕ × ReaderTables)) (shelved : IsShelved gs files numbers scans) (grouped : IsGrouped files gs)
    (m : Files) (seen : shown gs files ≡ m) (group : Group) (input : File) (at : lookup (nat_eq group.input) files ≡ Some input) where
  abbrev its : List SignedRow
  its = rows_of_group gs group

  abbrev standing : List Interval
  standing = intervals_at files group

  pub seen_at : (n : ℕ) (f : File) → lookup (nat_eq n) files ≡ Some f → get m n ≡ Some (state_of gs f)
  seen_at n f here = subst (λ x. get x n ≡ Some (state_of gs f)) seen (shown_at gs files n f here)

  -- what holds of the rows of each file of a group holds of all its rows
  from_files : (P : SignedRow → Type 0) → ((n : ℕ) (f : File) → lookup (nat_eq n) files ≡ Some f → group_of f.content ≡ Some group → AllByRecursion P (content_of gs f.expr f.content).rows) → AllByRecursion P its
  from_files P given = from_each P its (λ i r there.
      let t = each_at (λ (r : SignedRow). IsTaken files group r.row) its (all_taken files gs grouped group) i r there in
      each_at (λ (r : SignedRow). is_within group.slot t.interval r.row ≡ true → P r) its
      (of_test P (is_within group.slot t.interval) its (subst (AllByRecursion P) (virtual_rows gs t.file.expr t.inner t.file.content group t.interval t.of t.is) (given t.number t.file t.at t.of))) i r there t.within)

  pub its_last : (change : ℕ) → AreUpTo change m → AllByRecursion (λ r. r.number ≤ change) its
  its_last change up = from_files (λ (r : SignedRow). r.number ≤ change) (λ n f here of. (up n (state_of gs f) (seen_at n f here)).last)

  -- the files of a group are over its input
  same_inner : (n : ℕ) (f : File) (inner : Expr) (interval : Interval) → lookup (nat_eq n) files ≡ Some f → group_of f.content ≡ Some group → f.expr ≡ RangeSel inner group.slot interval → inner ≡ input.expr
  same_inner n f inner interval here of is =
      let over = over_inner gs files numbers scans shelved grouped n f group inner group.slot interval here of is in
      sym over.of ∙ ap (λ (k : KeptFile). k.expr) (one_value over.at (shown_at gs files group.input input at))

  pub its_wide : AreWide m → AllByRecursion (λ r. length r.row ≡ expr_width input.expr) its
  its_wide wide = from_files (λ (r : SignedRow). length r.row ≡ expr_width input.expr) (λ n f here of.
      let v = subst (IsRightFor gs f.expr) of (grouped.right n f here) in
      let width : expr_width f.expr ≡ expr_width input.expr = ap expr_width v.is ∙ width_range v.inner group.slot v.interval ∙ ap expr_width (same_inner n f v.inner v.interval here of v.is) in
      subst (λ w. AllByRecursion (λ (r : SignedRow). length r.row ≡ w) (content_of gs f.expr f.content).rows) width (wide_at gs files numbers scans shelved grouped m seen wide n f here))

  pub its_held : AreHeld group.slot standing its
  its_held = all_map (λ (r : SignedRow). IsTaken files group r.row) (λ (r : SignedRow). is_held group.slot standing r.row ≡ true) (λ r t.
      let reads = reads_group gs files numbers scans shelved grouped t.number t.file group t.inner t.interval t.at t.of t.is in
      ap (λ l. is_held group.slot l r.row) (intervals_here files group reads.input reads.at) ∙ held_of reads.input.readers group.slot t.interval t.number reads.reads r.row t.within) its (all_taken files gs grouped group)

  -- a file that reads the input by an interval of the slot is one of the group
  pub record IsOfGroup (interval : Interval) (number : ℕ) : Type 0 where
    pub file : File
    pub place : lookup (nat_eq number) files ≡ Some file
    pub of : group_of file.content ≡ Some group
    pub is : file.expr ≡ RangeSel input.expr group.slot interval

  pub reader_of_group : (interval : Interval) (n : ℕ) → IsReader input.readers (range group.slot interval) n → IsOfGroup interval n
  reader_of_group interval n reads =
      let s = reader_range gs files numbers scans shelved group.input input at n group.slot interval reads in
      let k = kept_at gs files n s.stands.file s.stands.at in
      let f = k.0 in
      let inner : s.inner ≡ input.expr = sym s.over.of ∙ ap (λ (x : KeptFile). x.expr) (one_value s.over.at (shown_at gs files group.input input at)) in
      let is : f.expr ≡ RangeSel input.expr group.slot interval = sym (ap (λ (x : KeptFile). x.expr) k.2) ∙ s.stands.of ∙ ap (λ e. RangeSel e group.slot interval) inner in
      let g = has_group gs files m seen grouped n f k.1 (record { inner = input.expr; slot = group.slot; interval = interval; is = is }) in
      let v : IsVirtual gs f.expr g.0 = subst (IsRightFor gs f.expr) g.1 (grouped.right n f k.1) in
      let same = same_range v.inner input.expr g.0.slot group.slot v.interval interval (sym v.is ∙ is) in
      let over = over_inner gs files numbers scans shelved grouped n f g.0 v.inner g.0.slot v.interval k.1 g.1 v.is in
      let below : g.0.input ≡ group.input =
      one_value ((shelved.indexed.found input.expr g.0.input).1 (subst (λ e. Stands (shown gs files) e g.0.input) same.0 over))
      ((shelved.indexed.found input.expr group.input).1 (record { file = state_of gs input; at = shown_at gs files group.input input at; of = refl })) in
      record { file = f; place = k.1; of = g.1 ∙ (λ i. Some (record { input = below i; slot = same.1 i })); is = is }

  -- what the interval brings
  module _ (change : ℕ) (interval : Interval) (list : List Row) (content : IsContent change (content_of gs input.expr input.content).rows list) where
    abbrev pub added : List SignedRow
    added = map (gained_at change) (filter (is_missing group.slot standing interval) list)

    all_missing : AllByRecursion (λ r. is_missing group.slot standing interval r.row ≡ true) added
    all_missing = all_made change (λ row. is_missing group.slot standing interval row ≡ true) (filter (is_missing group.slot standing interval) list) (filtered_pass (is_missing group.slot standing interval) list)

    pub brings : (whole : Expr) → whole ≡ RangeSel input.expr group.slot interval → BringsRows files group whole added
    brings whole is = record { inner = input.expr; interval = interval; is = is; missing = all_missing }

    pub added_within : AllByRecursion (λ r. is_within group.slot interval r.row ≡ true) added
    added_within = all_map (λ (r : SignedRow). is_missing group.slot standing interval r.row ≡ true) (λ (r : SignedRow). is_within group.slot interval r.row ≡ true)
        (λ r h. (both_true (is_within group.slot interval r.row) (not (is_held group.slot standing r.row)) h).0) added all_missing

    pub added_wide : AreWide m → AllByRecursion (λ r. length r.row ≡ expr_width input.expr) added
    added_wide wide =
        made_part change (λ (r : SignedRow). length r.row ≡ expr_width input.expr) (is_missing group.slot standing interval) list
        (content_wide (expr_width input.expr) change (content_of gs input.expr input.content).rows list content (wide_at gs files numbers scans shelved grouped m seen wide group.input input at))

    pub added_numbers : AreWide m → group.slot < expr_width input.expr → AllByRecursion (λ r. HasNumber group.slot r.row) added
    added_numbers wide less = both_of added (added_wide wide) added_within
      where
        both_of : (rows : List SignedRow) → AllByRecursion (λ r. length r.row ≡ expr_width input.expr) rows → AllByRecursion (λ r. is_within group.slot interval r.row ≡ true) rows → AllByRecursion (λ r. HasNumber group.slot r.row) rows
        both_of [] a b = tt
        both_of (r ∷ rows) a b = (record { within = subst (λ w. group.slot < w) (sym a.0) less; number = number_in interval (atom_at r.row group.slot) b.0 }, both_of rows a.1 b.1)

    pub added_behind : AreUpTo change m → AreBehind its added
    added_behind up = all_behind change its (filter (is_missing group.slot standing interval) list) (its_last change up)

    -- the file that comes in
    module _ (hs : Groups) (gains : GainsRows gs group added hs) (file : File) (whole : Expr) (same : file.expr ≡ whole) (is : whole ≡ RangeSel input.expr group.slot interval) (holds : file.content ≡ Ranged group change) where
      its_rows : (state_of hs file).content.rows ≡ of_rows (is_within group.slot interval) (its ++ added)
      its_rows = virtual_rows hs file.expr input.expr file.content group interval (ap group_of holds) (same ∙ is) ∙ ap (of_rows (is_within group.slot interval)) gains.here

      pub is_new_at : file.uses ≡ 0 → AreWide m → AreUpTo change m → IsNewAt change whole (state_of hs file)
      is_new_at unused wide up =
          let base : (state_of hs file).content.base ≡ change = ap (λ (r : Rows). (content_of hs file.expr r).base) holds in
          record {
            expr = same;
            uses = unused;
            base = base;
            up_to = record {
              base = subst (λ b. b ≤ change) (sym base) (omega arith);
              last = subst (AllByRecursion (λ r. r.number ≤ change)) (sym its_rows)
                  (all_part (λ (r : SignedRow). r.number ≤ change) (λ (r : SignedRow). is_within group.slot interval r.row) (its ++ added)
                  (all_both (λ (r : SignedRow). r.number ≤ change) its added (its_last change up) (made_at change (filter (is_missing group.slot standing interval) list))));
            };
            wide = subst (λ w. AllByRecursion (λ r. length r.row ≡ w) (state_of hs file).content.rows) (sym (ap expr_width (same ∙ is) ∙ width_range input.expr group.slot interval))
                (subst (AllByRecursion (λ r. length r.row ≡ expr_width input.expr)) (sym its_rows)
                (all_part (λ (r : SignedRow). length r.row ≡ expr_width input.expr) (λ (r : SignedRow). is_within group.slot interval r.row) (its ++ added)
                (all_both (λ (r : SignedRow). length r.row ≡ expr_width input.expr) its added (its_wide wide) (added_wide wide))));
          }

    module _ (world : World) (fits : Fits change world m) where
      pub inputs_rows : SameCounts list (rows_in input.expr world)
      inputs_rows = one_content change (content_of gs input.expr input.content).rows list (rows_in input.expr world) content (fits group.input (state_of gs input) (seen_at group.input input at))

      its_contents : HaveContents change group.slot standing its list
      its_contents =
          subst (AllByRecursion (λ i. IsContent change (of_rows (is_within group.slot i) its) (filter (is_within group.slot i) list))) (sym (intervals_here files group input at))
          (each_of (λ i. IsContent change (of_rows (is_within group.slot i) its) (filter (is_within group.slot i) list)) input.readers group.slot (λ i n reads.
          let o = reader_of_group i n reads in
          let has = fits n (state_of gs o.file) (seen_at n o.file o.place) in
          content_same change (of_rows (is_within group.slot i) its) (filter (is_within group.slot i) (rows_in input.expr world)) (filter (is_within group.slot i) list)
          (λ f. sym (counts-filter (is_within group.slot i) list (rows_in input.expr world) inputs_rows f))
          (subst (λ rows. IsContent change rows (filter (is_within group.slot i) (rows_in input.expr world))) (virtual_rows gs o.file.expr input.expr o.file.content group i o.of o.is)
          (subst (IsContent change (content_of gs o.file.expr o.file.content).rows) (ap (λ e. rows_in e world) o.is ∙ rows_range world input.expr group.slot i) has))))

      pub new_content : IsContent change (of_rows (is_within group.slot interval) (its ++ added)) (rows_in (RangeSel input.expr group.slot interval) world)
      new_content =
          subst (IsContent change (of_rows (is_within group.slot interval) (its ++ added))) (sym (rows_range world input.expr group.slot interval))
          (content_same change (of_rows (is_within group.slot interval) (its ++ added)) (filter (is_within group.slot interval) list) (filter (is_within group.slot interval) (rows_in input.expr world))
          (counts-filter (is_within group.slot interval) list (rows_in input.expr world) inputs_rows)
          (install_gives change group.slot standing interval its list its_contents its_held))

    -- all files still fit
    pub fits_more : (hs : Groups) (gains : GainsRows gs group added hs) (file : File) (whole : Expr) (same : file.expr ≡ whole) (is : whole ≡ RangeSel input.expr group.slot interval) (holds : file.content ≡ Ranged group change) (number : ℕ) (world : World)
        → Fits change world m → Fits change world (insert m number (state_of hs file))
    fits_more hs gains file whole same is holds number world fits n kept here = elim (cases_eq n number) as (λ _. IsContent change kept.content.rows (rows_in kept.expr world)) [
      | inl this ↦
          let k : state_of hs file ≡ kept = one_value (put_same m number (state_of hs file)) (subst (λ x. get (insert m number (state_of hs file)) x ≡ Some kept) this here) in
          subst (λ (x : KeptFile). IsContent change x.content.rows (rows_in x.expr world)) k
          (subst (λ e. IsContent change (state_of hs file).content.rows (rows_in e world)) (sym (same ∙ is))
          (subst (λ rows. IsContent change rows (rows_in (RangeSel input.expr group.slot interval) world)) (sym (its_rows hs gains file whole same is holds)) (new_content world fits)))
      | inr differs ↦ fits n kept (sym (put_other m number (state_of hs file) n differs) ∙ here)
    ]

  -- what it costs to find the missing rows
  pub cost_told : (change : ℕ) (interval : Interval) (whole : Expr) → whole ≡ RangeSel input.expr group.slot interval → (old new : ℕ)
      → ((list : List Row) → IsContent change (content_of gs input.expr input.content).rows list → new ≤ old + length (filter (is_missing group.slot (intervals_at files group) interval) list))
      → (world : World) → Fits change world m → new ≤ old + length (rows_in whole world)
  cost_told change interval whole is old new spent world fits =
      let list = rows_in input.expr world in
      let a = spent list (fits group.input (state_of gs input) (seen_at group.input input at)) in
      let b = missing_short group.slot (intervals_at files group) interval list in
      let c : length (rows_in whole world) ≡ length (filter (is_within group.slot interval) list) = ap (λ e. length (rows_in e world)) is ∙ ap length (rows_range world input.expr group.slot interval) in
      omega arith
