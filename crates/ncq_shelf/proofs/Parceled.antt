-- The parcels for the readers of a file, and how many there are.
use Rattle.std.proofs.Common.{◌≡◌, ℕ, ◌+◌, ◌≤◌, Bool, true, false, cond, List, [], ◌∷◌, map, filter, length, Some, None, nat_eq, inl, inr, refl, sym, ap, ◌∙◌, arith, eq-eqb}
use Rattle.std.specs.Map.{lookup}
use Rattle.std.specs.List.{AllByRecursion}
use Rattle.std.specs.Ordering.{nat_cmp}
use Rattle.std.specs.Cmp.{unsigned_tied}
use Rattle.std.specs.FinMap.{get, find, entries, get-entries}
use Rattle.ncq_base.specs.Counts.{total_by}
use Rattle.ncq_plan.specs.declared.expr.Expr.{Expr}
use Rattle.ncq_midfile.specs.declared.signed.SignedRow.{SignedRow}
use Rattle.ncq_split.specs.declared.parcel.Parcel.{Parcel}
use Rattle.ncq_readers.specs.ReaderTables.{ReaderTables}
use Rattle.std.proofs.lemmas.Bool.{cases_lt}
use Rattle.std.specs.Prelude.{nat_lt}
use Rattle.ncq_midfile.specs.Content.{since}
use Rattle.ncq_readers.proofs.PassedLaws.{equal_gets, others_get_none}
use Rattle.ncq_readers.specs.Passed.{AreTables, parcels_in, rows_to}
use Rattle.ncq_shelf.specs.KeptFiles.{KeptFile, Files}
use Rattle.ncq_shelf.specs.Contents.{sum_over}
use Rattle.ncq_shelf.specs.Readers.{SelectsEqual, ArePassedOn, AreBoundBy}
use Rattle.ncq_shelf.specs.Shown.{shown}
use Rattle.ncq_shelf.specs.Wired.{IsShelved}
use Rattle.ncq_shelf.specs.declared.file.File.{File}
use Rattle.ncq_shelf.proofs.Maps.{there}
use Rattle.ncq_shelf.proofs.Consumers.{reads_one, equal_reader, reader_equal}
use Rattle.ncq_shelf.specs.Groups.{Groups}

module _ (gs : Groups) where
  -- one of the entries has the number
  abbrev HasKey : ℕ → List (ℕ × KeptFile) → Type 0
  HasKey number [] = ⊥
  HasKey number (e ∷ es) = cond (nat_eq number e.0) (Unit {0}) (HasKey number es)

  key_found : (number : ℕ) (es : List (ℕ × KeptFile)) (file : KeptFile) → find nat_cmp number es ≡ Some file → HasKey number es
  key_found number [] file at = absurd (there at refl)
  key_found number (e ∷ es) file at = elim (nat_eq number e.0) as (λ b. cond b (Some e.1) (find nat_cmp number es) ≡ Some file → cond b (Unit {0}) (HasKey number es)) [
    | true ↦ λ h. tt
    | false ↦ λ h. key_found number es file h
  ] (ap (λ b. cond b (Some e.1) (find nat_cmp number es)) (sym (unsigned_tied number e.0)) ∙ at)

  -- how many of the parcels are for the number
  count : ℕ → List Parcel → ℕ
  count number parcels = length (rows_to number parcels)

  one_more : (number : ℕ) (p : Parcel) (parcels : List Parcel) → length (rows_to number (p ∷ parcels)) ≡ cond (nat_eq p.file.0 number) 1 0 + length (rows_to number parcels)
  one_more number p parcels = by_test (nat_eq p.file.0 number)
    where
      by_test : (b : Bool) → length (map (λ q. q.row) (cond b (p ∷ filter (λ q. nat_eq q.file.0 number) parcels) (filter (λ q. nat_eq q.file.0 number) parcels))) ≡ cond b 1 0 + length (rows_to number parcels)
      by_test true = omega arith
      by_test false = omega arith

  no_parcels : (es : List (ℕ × KeptFile)) → 0 ≤ total_by (λ e. length (rows_to e.0 [])) es
  no_parcels es = omega arith

  split_total : (f g h : ℕ × KeptFile → ℕ) (es : List (ℕ × KeptFile)) → ((e : ℕ × KeptFile) → f e ≡ g e + h e) → total_by f es ≡ total_by g es + total_by h es
  split_total f g h [] is = refl
  split_total f g h (e ∷ es) is = let a = is e in let b = split_total f g h es is in omega arith

  key_counts : (number : ℕ) (es : List (ℕ × KeptFile)) → HasKey number es → 1 ≤ total_by (λ e. cond (nat_eq number e.0) 1 0) es
  key_counts number [] has = absurd has
  key_counts number (e ∷ es) has = elim (nat_eq number e.0) as (λ b. cond b (Unit {0}) (HasKey number es) → 1 ≤ cond b 1 0 + total_by (λ e. cond (nat_eq number e.0) 1 0) es) [
    | true ↦ λ h. omega arith
    | false ↦ λ h. let k = key_counts number es h in omega arith
  ] has

  -- parcels for the numbers of entries are at most those for each of them together
  covered : (es : List (ℕ × KeptFile)) (parcels : List Parcel) → AllByRecursion (λ p. HasKey p.file.0 es) parcels → length parcels ≤ total_by (λ e. length (rows_to e.0 parcels)) es
  covered es [] all = omega arith
  covered es (p ∷ parcels) all =
      let split = split_total (λ e. length (rows_to e.0 (p ∷ parcels))) (λ e. cond (nat_eq p.file.0 e.0) 1 0) (λ e. length (rows_to e.0 parcels)) es (λ e. one_more e.0 p parcels) in
      let one = key_counts p.file.0 es all.0 in
      let more = covered es parcels all.1 in
      omega arith

  bound_total : (f g : ℕ → ℕ) (es : List (ℕ × KeptFile)) → ((n : ℕ) → f n ≤ g n) → total_by (λ e. f e.0) es ≤ total_by (λ e. g e.0) es
  bound_total f g [] less = omega arith
  bound_total f g (e ∷ es) less = let a = less e.0 in let b = bound_total f g es less in omega arith

  -- a parcel is for a file that gets rows
  not_none : (number : ℕ) (p : Parcel) (parcels : List Parcel) → p.file.0 ≡ number → rows_to number (p ∷ parcels) ≡ [] → ⊥
  not_none number p parcels same none =
      let e = one_more number p parcels in
      let one : ◌≡◌ {A = ℕ} (cond (nat_eq p.file.0 number) 1 0) 1 = ap (λ (b : Bool). cond {A = ℕ} b 1 0) (eq-eqb p.file.0 number same) in
      let z : length (rows_to number (p ∷ parcels)) ≡ 0 = ap length none in
      absurd (omega arith)

  fewer_none : (number : ℕ) (p : Parcel) (parcels : List Parcel) → rows_to number (p ∷ parcels) ≡ [] → rows_to number parcels ≡ []
  fewer_none number p parcels none = empty (rows_to number parcels) (let e = one_more number p parcels in let z : length (rows_to number (p ∷ parcels)) ≡ 0 = ap length none in omega arith)
    where
      empty : (rows : List SignedRow) → length rows ≡ 0 → rows ≡ []
      empty [] h = refl
      empty (r ∷ rows) h = absurd (omega arith)

  all_keys : (files : Files) (parcels : List Parcel) → ((number : ℕ) → get files number ≡ None → rows_to number parcels ≡ []) → AllByRecursion (λ p. HasKey p.file.0 (entries files)) parcels
  all_keys files [] none = tt
  all_keys files (p ∷ parcels) none = (
    elim (get files p.file.0) as (λ o. get files p.file.0 ≡ o → HasKey p.file.0 (entries files)) [
      | Some file ↦ λ at. key_found p.file.0 (entries files) file (sym (get-entries files p.file.0) ∙ at)
      | None ↦ λ at. absurd (not_none p.file.0 p parcels refl (none p.file.0 at))
    ] refl,
    all_keys files parcels (λ number at. fewer_none number p parcels (none number at)),
  )

  -- parcels for files alone are no more than what bounds those of each file, together
  pub parcels_bound : (files : Files) (parcels : List Parcel) (bound : ℕ → ℕ) → ((number : ℕ) → get files number ≡ None → rows_to number parcels ≡ []) → ((number : ℕ) → length (rows_to number parcels) ≤ bound number) → length parcels ≤ sum_over files bound
  parcels_bound files parcels bound none less =
      let a = covered (entries files) parcels (all_keys files parcels none) in
      let b = bound_total (λ n. length (rows_to n parcels)) bound (entries files) less in
      omega arith

  -- rows above a change are as wide as all
  pub wide_since : (width change : ℕ) (rows : List SignedRow) → AllByRecursion (λ r. length r.row ≡ width) rows → AllByRecursion (λ r. length r.row ≡ width) (since change rows)
  wide_since width change [] all = tt
  wide_since width change (r ∷ rows) all = by_test (nat_lt change r.number) (wide_since width change rows all.1)
    where
      by_test : (b : Bool) → AllByRecursion (λ r. length r.row ≡ width) (since change rows) → AllByRecursion (λ r. length r.row ≡ width) (cond b (r ∷ since change rows) (since change rows))
      by_test true rest = (all.0, rest)
      by_test false rest = rest

  module _ (files : List (ℕ × File)) (numbers : List (Expr × ℕ)) (scans : List (List ℕ × ReaderTables)) (shelved : IsShelved gs files numbers scans)
      (number : ℕ) (file : File) (at : lookup (nat_eq number) files ≡ Some file) (are : AreTables file.readers) (rows : List SignedRow) where
    gets : (n : ℕ) (test : SignedRow → Bool) → SelectsEqual (shown gs files) n number test → rows_to n (parcels_in file.readers rows) ≡ filter test rows
    gets n _ (SelectsEqual.equal inner slot constant stands on) =
        equal_gets file.readers rows n are (reads_one gs files numbers scans shelved number file at) slot constant (equal_reader gs files numbers scans shelved number file at n inner slot constant stands on)

    gets_none : (n : ℕ) → ((test : SignedRow → Bool) → SelectsEqual (shown gs files) n number test → ⊥) → rows_to n (parcels_in file.readers rows) ≡ []
    gets_none n none = others_get_none file.readers rows n are (λ slot constant is. none _ (reader_equal gs files numbers scans shelved number file at n slot constant is))

    -- the parcels are those of the definition
    pub passed_on : ArePassedOn (shown gs files) number rows (parcels_in file.readers rows)
    passed_on = record { taken = gets; others = gets_none }

    selects_file : (n : ℕ) (test : SignedRow → Bool) → get (shown gs files) n ≡ None → SelectsEqual (shown gs files) n number test → ⊥
    selects_file n test none (SelectsEqual.equal inner slot constant stands on) = there stands.at none

    -- and no more than what bounds each file's
    pub passed_bound : (bound : ℕ → ℕ) → AreBoundBy (shown gs files) number rows bound → length (parcels_in file.readers rows) ≤ sum_over (shown gs files) bound
    passed_bound bound bounded = parcels_bound (shown gs files) (parcels_in file.readers rows) bound
        (λ n none. gets_none n (λ test s. selects_file n test none s))
        (λ n. elim (cases_lt (bound n) (length (rows_to n (parcels_in file.readers rows)))) [
          | inl more ↦
              let nothing = gets_none n (λ test s. let e : length (rows_to n (parcels_in file.readers rows)) ≡ length (filter test rows) = ap length (gets n test s) in let b = bounded n test s in absurd (omega arith)) in
              let z : length (rows_to n (parcels_in file.readers rows)) ≡ 0 = ap length nothing in
              absurd (omega arith)
          | inr fits ↦ fits
        ])
