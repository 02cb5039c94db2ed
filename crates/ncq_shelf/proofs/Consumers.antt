-- The readers that a file knows, and the files that read it.
use Rattle.std.proofs.Common.{◌≡◌, ℕ, ◌<◌, Bool, true, false, ◌&&◌, List, [], ◌∷◌, Some, None, nat_eq, inl, inr, refl, sym, ap, ◌∙◌, subst, true≢false, length}
use Rattle.std.specs.Prelude.{nat_lt}
use Rattle.std.specs.Map.{lookup}
use Rattle.std.specs.Str.{bytes_eq}
use Rattle.std.specs.List.{AllByRecursion}
use Rattle.std.proofs.lemmas.List.Elements.{All-from_recursion}
use Rattle.std.proofs.lemmas.Bool.{ltb-true}
use Rattle.ncq_plan.specs.declared.expr.Expr.{Expr}
use Rattle.ncq_plan.specs.declared.expr.Expr.TheVariants.{EqSel, RangeSel, Join}
use Rattle.ncq_plan.specs.Exprs.{expr_width}
use Rattle.ncq_plan.specs.WellFormed.{slots_fit}
use Rattle.ncq_plan.proofs.CallerLemmas.{fit_equal, fit_range}
use Rattle.ncq_midfile.specs.declared.signed.SignedRow.{SignedRow}
use Rattle.ncq_readers.specs.Readings.{Reading, IsSelection, HaveSlot}
use Rattle.ncq_readers.specs.Readings.Reading.{equal, range, joined}
use Rattle.ncq_readers.specs.ReaderTables.{ReaderTables, IsReader, IsRead, IsUnread}
use Rattle.ncq_readers.specs.Passed.{ReadOnce, HaveSlots}
use Rattle.ncq_shelf.specs.Parts.{IsInput}
use Rattle.ncq_shelf.specs.Stands.{Stands, IsReadIn}
use Rattle.ncq_shelf.specs.Contents.{AreFormed}
use Rattle.ncq_shelf.specs.Readers.{AreScansOf, IsJoinOver, AreJoinsOver, SelectsEqual}
use Rattle.ncq_shelf.specs.Shown.{shown, state_of}
use Rattle.ncq_shelf.specs.Wired.{Reads, ReadsSo, IsShelved}
use Rattle.ncq_shelf.specs.declared.file.File.{File}
use Rattle.ncq_shelf.proofs.Maps.{one_value, there}
use Rattle.std.specs.Option.{option_map}
use Rattle.ncq_shelf.proofs.ShownFiles.{get_shown}
use Rattle.ncq_shelf.proofs.Indexes.{shown_at, indexed_none}
use Rattle.ncq_shelf.proofs.Added.{input_of_kept}
use Rattle.ncq_shelf.proofs.Layers.{left-input_of, right-input_of}
use Rattle.ncq_shelf.proofs.Readings.{reads_once, reads_input, input_read}
use Rattle.ncq_shelf.specs.Groups.{Groups}
use Rattle.ncq_shelf.specs.Ranges.{SelectsRange}
use Rattle.ncq_base.specs.declared.atom.Atom.{Atom}
use Rattle.ncq_base.specs.declared.interval.Interval.{Interval}
use Rattle.ncq_plan.specs.Meets.{has_atom}

module _ (gs : Groups) where
  last_true : (a b : Bool) → (a && b) ≡ true → b ≡ true
  last_true true b h = h
  last_true false b h = absurd (true≢false (sym h))

  is_less : (m n : ℕ) → nat_lt m n ≡ true → m < n
  is_less m n h = ltb-true m n h

  module _ (files : List (ℕ × File)) (numbers : List (Expr × ℕ)) (scans : List (List ℕ × ReaderTables)) (shelved : IsShelved gs files numbers scans) where
    one_file : (expr : Expr) (first second : ℕ) → Stands (shown gs files) expr first → Stands (shown gs files) expr second → first ≡ second
    one_file expr first second s t = one_value ((shelved.indexed.found expr first).1 s) ((shelved.indexed.found expr second).1 t)

    stands_input : (whole : Expr) (reader : ℕ) → Stands (shown gs files) whole reader → (input : Expr) → IsInput input whole → (number : ℕ) × Stands (shown gs files) input number
    stands_input whole reader s input reads = input_of_kept gs files numbers shelved.indexed whole reader s input reads

    -- the scans of a source
    pub scans_told : (source : List ℕ) (tables : ReaderTables) → lookup (bytes_eq source) scans ≡ Some tables → AreScansOf (shown gs files) source tables.joins
    scans_told source tables at number = (shelved.wired.scans source).known tables at number

    pub scans_none : (source : List ℕ) → lookup (bytes_eq source) scans ≡ None → AreScansOf (shown gs files) source []
    scans_none source none number = (λ among. absurd (true≢false (sym among)), λ s. absurd ((shelved.wired.scans source).unknown none number s))

    module _ (number : ℕ) (file : File) (at : lookup (nat_eq number) files ≡ Some file) where
      abbrev here : Stands (shown gs files) file.expr number
      here = record { file = state_of gs file; at = shown_at gs files number file at; of = refl }

      is_here : (expr : Expr) → Stands (shown gs files) expr number → file.expr ≡ expr
      is_here expr s = ap (λ f. f.expr) (one_value here.at s.at) ∙ s.of

      join_over : (n : ℕ) → ReadsSo (shown gs files) file.expr joined n → IsJoinOver (shown gs files) number n
      join_over n r =
          let side = r.reads in
          let stands : Stands (shown gs files) (Join side.first side.second side.pairs) n = subst (λ w. Stands (shown gs files) w n) side.is r.stands in
          let left = stands_input (Join side.first side.second side.pairs) n stands side.first (left-input_of side.first side.second side.pairs) in
          let right = stands_input (Join side.first side.second side.pairs) n stands side.second (right-input_of side.first side.second side.pairs) in
          record {
            left = left.0;
            right = right.0;
            joins = record { first = side.first; second = side.second; pairs = side.pairs; stands = stands; on_left = left.1; on_right = right.1 };
            here = elim side.side [
              | inl same ↦ inl (one_file side.first left.0 number left.1 (subst (λ e. Stands (shown gs files) e number) same here))
              | inr same ↦ inr (one_file side.second right.0 number right.1 (subst (λ e. Stands (shown gs files) e number) same here))
            ];
          }

      over_join : (n : ℕ) → IsJoinOver (shown gs files) number n → ReadsSo (shown gs files) file.expr joined n
      over_join n j = record {
        whole = Join j.joins.first j.joins.second j.joins.pairs;
        reads = record {
          first = j.joins.first;
          second = j.joins.second;
          pairs = j.joins.pairs;
          is = refl;
          side = elim j.here [
            | inl same ↦ inl (is_here j.joins.first (subst (λ m. Stands (shown gs files) j.joins.first m) same j.joins.on_left))
            | inr same ↦ inr (is_here j.joins.second (subst (λ m. Stands (shown gs files) j.joins.second m) same j.joins.on_right))
          ];
        };
        stands = j.joins.stands;
      }

      -- the joins over a file
      pub joins_told : AreJoinsOver (shown gs files) number file.readers.joins
      joins_told n =
          let k = shelved.wired.readers number file at joined n in
          (λ among. join_over n (k.0 among), λ j. k.1 (over_join n j))

      -- whether a file is read
      pub told_read : IsRead file.readers → IsReadIn (shown gs files) file.expr
      told_read is =
          let r = (shelved.wired.readers number file at is.0 is.1).0 is.2 in
          record { reader = is.1; file = r.stands.file; at = r.stands.at; reads = subst (λ w. IsInput file.expr w) (sym r.stands.of) (reads_input file.expr is.0 r.whole r.reads) }

      pub told_unread : IsUnread file.readers → IsReadIn (shown gs files) file.expr → ⊥
      told_unread none r =
          let i = input_read file.expr r.file.expr r.reads in
          none i.0 r.reader ((shelved.wired.readers number file at i.0 r.reader).1 (record { whole = r.file.expr; reads = i.1; stands = record { file = r.file; at = r.at; of = refl } }))

      -- no file reads in two ways
      pub reads_one : ReadOnce file.readers
      reads_one one other n is_one is_other =
          let r = (shelved.wired.readers number file at one n).0 is_one in
          let q = (shelved.wired.readers number file at other n).0 is_other in
          reads_once file.expr one other r.whole r.reads (subst (λ w. Reads file.expr other w) (sym (ap (λ f. f.expr) (one_value r.stands.at q.stands.at)) ∙ r.stands.of) (subst (λ w. Reads file.expr other w) (sym q.stands.of) q.reads))

      -- a selection over the file is one of its readers
      pub equal_reader : (n : ℕ) (inner : Expr) (slot : ℕ) (constant : Atom) → Stands (shown gs files) (EqSel inner slot constant) n → Stands (shown gs files) inner number → IsReader file.readers (equal slot constant) n
      equal_reader n inner slot constant stands on =
          let same : inner ≡ file.expr = sym (is_here inner on) in
          (shelved.wired.readers number file at (equal slot constant) n).1 (record { whole = EqSel inner slot constant; reads = ap (λ e. EqSel e slot constant) same; stands = stands })

      pub range_reader : (n slot : ℕ) (interval : Interval) → SelectsRange (shown gs files) number slot interval n → IsReader file.readers (range slot interval) n
      range_reader n slot interval s =
          let same : s.inner ≡ file.expr = sym (is_here s.inner s.over) in
          (shelved.wired.readers number file at (range slot interval) n).1 (record { whole = RangeSel s.inner slot interval; reads = ap (λ e. RangeSel e slot interval) same; stands = s.stands })

      -- a reader that selects is a selection over the file
      pub reader_equal : (n slot : ℕ) (constant : Atom) → IsReader file.readers (equal slot constant) n → SelectsEqual (shown gs files) n number (λ r. has_atom slot constant r.row)
      reader_equal n slot constant is =
          let r = (shelved.wired.readers number file at (equal slot constant) n).0 is in
          SelectsEqual.equal file.expr slot constant (subst (λ w. Stands (shown gs files) w n) r.reads r.stands) here

      pub reader_range : (n slot : ℕ) (interval : Interval) → IsReader file.readers (range slot interval) n → SelectsRange (shown gs files) number slot interval n
      reader_range n slot interval is =
          let r = (shelved.wired.readers number file at (range slot interval) n).0 is in
          record { inner = file.expr; stands = subst (λ w. Stands (shown gs files) w n) r.reads r.stands; over = here }

      -- the slots that are selected are there
      module _ (formed : AreFormed (shown gs files)) (rows : List SignedRow) (wide : AllByRecursion (λ r. length r.row ≡ expr_width file.expr) rows) where
        below : (slot : ℕ) → nat_lt slot (expr_width file.expr) ≡ true → HaveSlot slot rows
        below slot less = All-from_recursion (λ (r : SignedRow). slot < length r.row) rows (each rows wide)
          where
            each : (rows : List SignedRow) → AllByRecursion (λ r. length r.row ≡ expr_width file.expr) rows → AllByRecursion (λ r. slot < length r.row) rows
            each [] all = tt
            each (r ∷ rows) all = (subst (λ n. slot < n) (sym all.0) (is_less slot (expr_width file.expr) less), each rows all.1)

        pub have_slots : HaveSlots file.readers rows
        have_slots reading n slot test is selection = slot_there reading n slot test is selection
          where
            slot_there : (reading : Reading) (n slot : ℕ) (test : SignedRow → Bool) → IsReader file.readers reading n → IsSelection reading slot test → HaveSlot slot rows
            slot_there _ n slot _ is (IsSelection.equal _ constant) =
                let r = (shelved.wired.readers number file at (equal slot constant) n).0 is in
                let fit : slots_fit (EqSel file.expr slot constant) ≡ true = subst (λ w. slots_fit w ≡ true) r.reads (subst (λ w. slots_fit w ≡ true) r.stands.of (formed n r.stands.file r.stands.at).slots) in
                below slot (last_true (slots_fit file.expr) _ (sym (fit_equal file.expr slot constant) ∙ fit))
            slot_there _ n slot _ is (IsSelection.range _ interval) =
                let r = (shelved.wired.readers number file at (range slot interval) n).0 is in
                let fit : slots_fit (RangeSel file.expr slot interval) ≡ true = subst (λ w. slots_fit w ≡ true) r.reads (subst (λ w. slots_fit w ≡ true) r.stands.of (formed n r.stands.file r.stands.at).slots) in
                below slot (last_true (slots_fit file.expr) _ (sym (fit_range file.expr slot interval) ∙ fit))

  -- no files
  pub shelved_none : (files : List (ℕ × File)) (numbers : List (Expr × ℕ)) (scans : List (List ℕ × ReaderTables)) → files ≡ [] → numbers ≡ [] → scans ≡ [] → IsShelved gs files numbers scans
  shelved_none files numbers scans no_files no_numbers no_scans = record {
    indexed = indexed_none gs files numbers no_files no_numbers;
    wired = record {
      readers = λ number file at. absurd (there at (ap (lookup (nat_eq number)) no_files));
      scans = λ source. record {
        known = λ tables at. absurd (there at (ap (lookup (bytes_eq source)) no_scans));
        unknown = λ none number s. absurd (there s.stands.at (get_shown gs files number ∙ ap (λ f. option_map (state_of gs) (lookup (nat_eq number) f)) no_files));
      };
    };
  }
