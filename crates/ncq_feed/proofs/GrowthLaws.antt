-- Files that got signed rows of a change behind their own.
use Rattle.std.proofs.Common.{◌≡◌, ℕ, ◌<◌, ◌≤◌, ◌+◌, Bool, List, [], ◌∷◌, ◌++◌, length, Some, None, Option, inl, inr, refl, sym, ap, ◌∙◌, subst, arith, append_assoc}
use Rattle.std.specs.List.{AllByRecursion}
use Rattle.std.specs.Option.{option_map}
use Rattle.std.specs.FinMap.{get, insert, same_map, nat_cmp-IsAntisymmetric}
use Rattle.std.proofs.lemmas.Bool.{cases_eq}
use Rattle.std.proofs.lemmas.Cmp.{nat_cmp_total}
use Rattle.std.proofs.lemmas.List.{append-nil}
use Rattle.std.proofs.lemmas.List.Elements.{filter-append}
use Rattle.std.specs.Prelude.{nat_lt}
use Rattle.ncq_plan.specs.declared.expr.Expr.{Expr}
use Rattle.ncq_plan.specs.Exprs.{expr_width}
use Rattle.ncq_plan.specs.WellFormed.{IsWellFormedExpr}
use Rattle.ncq_midfile.specs.declared.signed.SignedRow.{SignedRow}
use Rattle.ncq_shelf.specs.KeptFiles.{KeptFile, Files}
use Rattle.ncq_shelf.specs.Stands.{Stands, IsGrounded, IsThere}
use Rattle.ncq_shelf.specs.Parts.{IsInput}
use Rattle.ncq_shelf.specs.Contents.{AreFormed, IsWide, with_more, cut_to}
use Rattle.ncq_shelf.specs.Readers.{SelectsEqual, SelectsFrom, JoinsFrom, IsJoinOver, IsScanOf}
use Rattle.ncq_shelf.specs.Readers.SelectsFrom.{equal as equal_from, range as range_from}
use Rattle.ncq_shelf.specs.Readers.SelectsEqual.{equal as by_constant}
use Rattle.ncq_shelf.proofs.CallerLemmas.{put_same, put_other, there, one_value}
use Rattle.ncq_feed.specs.Runs.{Run, IsStarted, IsUnderWay, IsFor, IsGiven, news_of, news_in}
use Rattle.ncq_feed.proofs.ContentLaws.{all_since, none_since, up_more, up_before}

pub all_append : {A : Type 0} (P : A → Type 0) (xs ys : List A) → AllByRecursion P xs → AllByRecursion P ys → AllByRecursion P (xs ++ ys)
all_append P [] ys h k = k
all_append P (x ∷ xs) ys h k = (h.0, all_append P xs ys h.1 k)

module _ (run : Run) (files : Files) (under : IsUnderWay run files) where
  abbrev now : ℕ
  now = run.store.changes

  abbrev news : ℕ → List SignedRow
  news number = news_in run.store.changes files number

  pub up : (number : ℕ) (file : KeptFile) → get run.files number ≡ Some file → get files number ≡ Some (with_more file (news number))
  up number file at = under.grown number ∙ ap (option_map (λ file. with_more file (news number))) at

  abbrev Was : ℕ → KeptFile → Type 0
  Was number file = (old : KeptFile) × (get run.files number ≡ Some old) × (file ≡ with_more old (news number))

  was_by : (number : ℕ) (file : KeptFile) (o : Option KeptFile) → get run.files number ≡ o → get files number ≡ Some file → Was number file
  was_by number file None e at = absurd (there at (under.grown number ∙ ap (option_map (λ file. with_more file (news number))) e))
  was_by number file (Some old) e at = (old, e, one_value at (up number old e))

  pub was : (number : ℕ) (file : KeptFile) → get files number ≡ Some file → Was number file
  was number file at = was_by number file (get run.files number) refl at

  pub stands_up : (expr : Expr) (number : ℕ) → Stands run.files expr number → Stands files expr number
  stands_up expr number s = record { file = with_more s.file (news number); at = up number s.file s.at; of = s.of }

  pub stands_down : (expr : Expr) (number : ℕ) → Stands files expr number → Stands run.files expr number
  stands_down expr number s = let w = was number s.file s.at in record { file = w.0; at = w.1; of = ap (λ f. f.expr) (sym w.2) ∙ s.of }

  pub there_up : (number : ℕ) → IsThere run.files number → IsThere files number
  there_up number t = record { file = with_more t.file (news number); at = up number t.file t.at }

  pub grounded : IsGrounded files
  grounded = record {
    distinct = λ first second expr s t. under.start.ready.grounded.distinct first second expr (stands_down expr first s) (stands_down expr second t);
    inputs = λ number file input at reads.
        let w = was number file at in
        let below = under.start.ready.grounded.inputs number w.0 input w.1 (subst (λ e. IsInput input e) (ap (λ f. f.expr) w.2) reads) in
        (below.0, below.1, stands_up input below.0 below.2);
  }

  pub formed : AreFormed files
  formed number file at = let w = was number file at in subst (λ f. IsWellFormedExpr f.expr) (sym w.2) (under.start.ready.formed number w.0 w.1)

  pub based : (number : ℕ) (file : KeptFile) → get files number ≡ Some file → file.content.base ≤ now
  based number file at = let w = was number file at in subst (λ f. f.content.base ≤ now) (sym w.2) (under.start.ready.up_to number w.0 w.1).base

  pub last : (number : ℕ) (file : KeptFile) → get files number ≡ Some file → AllByRecursion (λ r. r.number ≤ now + 1) file.content.rows
  last number file at =
      let w = was number file at in
      subst (λ f. AllByRecursion (λ r. r.number ≤ now + 1) f.content.rows) (sym w.2)
      (up_more now w.0.content.rows (news number) (under.start.ready.up_to number w.0 w.1).last (under.stamped number))

  pub selects_up : (number input : ℕ) (test : SignedRow → Bool) → SelectsFrom run.files number input test → SelectsFrom files number input test
  selects_up number input _ (equal_from inner slot constant s t) = equal_from inner slot constant (stands_up _ number s) (stands_up inner input t)
  selects_up number input _ (range_from inner slot interval s t) = range_from inner slot interval (stands_up _ number s) (stands_up inner input t)

  pub selects_back : (number input : ℕ) (test : SignedRow → Bool) → SelectsFrom files number input test → SelectsFrom run.files number input test
  selects_back number input _ (equal_from inner slot constant s t) = equal_from inner slot constant (stands_down _ number s) (stands_down inner input t)
  selects_back number input _ (range_from inner slot interval s t) = range_from inner slot interval (stands_down _ number s) (stands_down inner input t)

  pub equals_up : (number input : ℕ) (test : SignedRow → Bool) → SelectsEqual run.files number input test → SelectsEqual files number input test
  equals_up number input _ (by_constant inner slot constant s t) = by_constant inner slot constant (stands_up _ number s) (stands_up inner input t)

  pub equals_back : (number input : ℕ) (test : SignedRow → Bool) → SelectsEqual files number input test → SelectsEqual run.files number input test
  equals_back number input _ (by_constant inner slot constant s t) = by_constant inner slot constant (stands_down _ number s) (stands_down inner input t)

  pub joins_up : (number left right : ℕ) → JoinsFrom run.files number left right → JoinsFrom files number left right
  joins_up number left right j = record { first = j.first; second = j.second; pairs = j.pairs; stands = stands_up _ number j.stands; on_left = stands_up j.first left j.on_left; on_right = stands_up j.second right j.on_right }

  pub joins_back : (number left right : ℕ) → JoinsFrom files number left right → JoinsFrom run.files number left right
  joins_back number left right j = record { first = j.first; second = j.second; pairs = j.pairs; stands = stands_down _ number j.stands; on_left = stands_down j.first left j.on_left; on_right = stands_down j.second right j.on_right }

  pub over_up : (input number : ℕ) → IsJoinOver run.files input number → IsJoinOver files input number
  over_up input number o = record { left = o.left; right = o.right; joins = joins_up number o.left o.right o.joins; here = o.here }

  pub over_back : (input number : ℕ) → IsJoinOver files input number → IsJoinOver run.files input number
  over_back input number o = record { left = o.left; right = o.right; joins = joins_back number o.left o.right o.joins; here = o.here }

  pub scan_back : (source : List ℕ) (number : ℕ) → IsScanOf files source number → IsScanOf run.files source number
  scan_back source number s = record { shape = s.shape; stands = stands_down _ number s.stands }

  pub scan_up : (source : List ℕ) (number : ℕ) → IsScanOf run.files source number → IsScanOf files source number
  scan_up source number s = record { shape = s.shape; stands = stands_up _ number s.stands }

  -- one row more behind a file
  module _ (number : ℕ) (file : KeptFile) (at : get files number ≡ Some file) (row : SignedRow) (stamped : row.number ≡ now + 1) (wide : length row.row ≡ expr_width file.expr) where
    abbrev pub pushed : Files
    pushed = insert files number (with_more file (row ∷ []))

    own_news : news_in now pushed number ≡ news number ++ row ∷ []
    own_news =
        ap (news_of now) (put_same files number (with_more file (row ∷ [])))
        ∙ filter-append (λ (r : SignedRow). nat_lt now r.number) file.content.rows (row ∷ [])
        ∙ (λ i. ap (news_of now) (sym at) i ++ all_since now (row ∷ []) (stamped, tt) i)

    other_news : (other : ℕ) → (other ≡ number → ⊥) → news_in now pushed other ≡ news other
    other_news other differs = ap (news_of now) (put_other files number (with_more file (row ∷ [])) other differs)

    own_grown : get pushed number ≡ option_map (λ file. with_more file (news_in now pushed number)) (get run.files number)
    own_grown =
        let w = was number file at in
        put_same files number (with_more file (row ∷ []))
        ∙ ap (λ (f : KeptFile). Some (with_more f (row ∷ []))) w.2
        ∙ ap (λ (rows : List SignedRow). Some (record w.0 { content = record { base = w.0.content.base; rows = rows } })) (append_assoc w.0.content.rows (news number) (row ∷ []))
        ∙ ap (λ (rows : List SignedRow). Some (with_more w.0 rows)) (sym own_news)
        ∙ ap (option_map (λ file. with_more file (news_in now pushed number))) (sym w.1)

    other_grown : (other : ℕ) → (other ≡ number → ⊥) → get pushed other ≡ option_map (λ file. with_more file (news_in now pushed other)) (get run.files other)
    other_grown other differs =
        put_other files number (with_more file (row ∷ [])) other differs ∙ under.grown other
        ∙ ap (λ (rows : List SignedRow). option_map (λ file. with_more file rows) (get run.files other)) (sym (other_news other differs))

    pub pushed_given : IsGiven run number (row ∷ []) files pushed
    pushed_given = record { own = own_news; others = other_news }

    pub pushed_under : IsUnderWay run pushed
    pushed_under = record {
      start = under.start;
      grown = λ other. elim (cases_eq other number) [
        | inl same ↦ subst (λ n. get pushed n ≡ option_map (λ file. with_more file (news_in now pushed n)) (get run.files n)) (sym same) own_grown
        | inr differs ↦ other_grown other differs
      ];
      stamped = λ other. elim (cases_eq other number) [
        | inl same ↦ subst (λ n. AllByRecursion (λ r. r.number ≡ now + 1) (news_in now pushed n)) (sym same)
            (subst (AllByRecursion (λ r. r.number ≡ now + 1)) (sym own_news) (all_append (λ (r : SignedRow). r.number ≡ now + 1) (news number) (row ∷ []) (under.stamped number) (stamped, tt)))
        | inr differs ↦ subst (AllByRecursion (λ r. r.number ≡ now + 1)) (sym (other_news other differs)) (under.stamped other)
      ];
      wide = λ other state here. elim (cases_eq other number) [
        | inl same ↦
            let e : state ≡ with_more file (row ∷ []) = one_value (subst (λ n. get pushed n ≡ Some state) same here) (put_same files number (with_more file (row ∷ []))) in
            subst IsWide (sym e) (all_append (λ (r : SignedRow). length r.row ≡ expr_width file.expr) file.content.rows (row ∷ []) (under.wide number file at) (wide, tt))
        | inr differs ↦ under.wide other state (sym (put_other files number (with_more file (row ∷ [])) other differs) ∙ here)
      ];
    }

  -- without the rows of the change the files are those before
  pub rolled_back : (after : Files) → ((number : ℕ) → get after number ≡ option_map (cut_to now) (get files number)) → after ≡ run.files
  rolled_back after cut = same_map nat_cmp_total nat_cmp-IsAntisymmetric after run.files (λ number. cut number ∙ cut_back number (get run.files number) refl)
    where
      cut_back : (number : ℕ) (o : Option KeptFile) → get run.files number ≡ o → option_map (cut_to now) (get files number) ≡ get run.files number
      cut_back number None e = ap (option_map (cut_to now)) (under.grown number ∙ ap (option_map (λ file. with_more file (news number))) e) ∙ sym e
      cut_back number (Some old) e =
          ap (option_map (cut_to now)) (up number old e)
          ∙ ap (λ (rows : List SignedRow). Some (record old { content = record { base = old.content.base; rows = rows } })) (up_before now old.content.rows (news number) (under.start.ready.up_to number old e).last (under.stamped number))
          ∙ sym e

-- before the change goes on its way no file has rows of it
module _ (run : Run) (start : IsStarted run) where
  none_yet : (number : ℕ) (o : Option KeptFile) → get run.files number ≡ o → news_of run.store.changes o ≡ []
  none_yet number None e = refl
  none_yet number (Some file) e = none_since run.store.changes file.content.rows (start.ready.up_to number file e).last

  pub still : (number : ℕ) → news_in run.store.changes run.files number ≡ []
  still number = none_yet number (get run.files number) refl

  as_it_was : (o : Option KeptFile) → o ≡ option_map (λ file. with_more file []) o
  as_it_was None = refl
  as_it_was (Some file) = ap (λ (rows : List SignedRow). Some (record file { content = record { base = file.content.base; rows = rows } })) (sym (append-nil file.content.rows))

  pub at_start : IsUnderWay run run.files
  at_start = record {
    start = start;
    grown = λ number. as_it_was (get run.files number) ∙ ap (λ (rows : List SignedRow). option_map (λ file. with_more file rows) (get run.files number)) (sym (still number));
    stamped = λ number. subst (AllByRecursion (λ r. r.number ≡ run.store.changes + 1)) (sym (still number)) tt;
    wide = start.ready.wide;
  }

module _ (run : Run) (files : Files) (under : IsUnderWay run files) (number : ℕ) (is_there : IsThere run.files number) (row : SignedRow) (fits : IsFor run number row) where
  is_wide : (file : KeptFile) → get files number ≡ Some file → length row.row ≡ expr_width file.expr
  is_wide file at = let w = was run files under number file at in fits.wide w.0 w.1 ∙ ap (λ f. expr_width f.expr) (sym w.2)

  module _ (after : Files) (is : (file : KeptFile) → get files number ≡ Some file → after ≡ insert files number (with_more file (row ∷ []))) where
    -- one row more
    pub push_under : IsUnderWay run after
    push_under =
        let t = there_up run files under number is_there in
        subst (IsUnderWay run) (sym (is t.file t.at)) (pushed_under run files under number t.file t.at row fits.stamped (is_wide t.file t.at))

    pub push_given : IsGiven run number (row ∷ []) files after
    push_given =
        let t = there_up run files under number is_there in
        subst (IsGiven run number (row ∷ []) files) (sym (is t.file t.at)) (pushed_given run files under number t.file t.at row fits.stamped (is_wide t.file t.at))

  -- it may be put behind the file's rows
  pub push_above : (file : KeptFile) → get files number ≡ Some file → file.content.base < row.number
  push_above file at = let b = based run files under number file at in let s = fits.stamped in omega arith

  pub push_last : (file : KeptFile) → get files number ≡ Some file → AllByRecursion (λ r. r.number ≤ row.number) file.content.rows
  push_last file at = subst (λ n. AllByRecursion (λ r. r.number ≤ n) file.content.rows) (sym fits.stamped) (last run files under number file at)

-- a row more and then those left are the row and those left
pub given_more : (run : Run) (number : ℕ) (first row rest : List SignedRow) (old middle new : Files)
    → news_in run.store.changes middle number ++ (row ++ rest) ≡ news_in run.store.changes old number ++ first
    → IsGiven run number row middle new → news_in run.store.changes new number ++ rest ≡ news_in run.store.changes old number ++ first
given_more run number first row rest old middle new e given =
    ap (λ xs. xs ++ rest) given.own ∙ append_assoc (news_in run.store.changes middle number) row rest ∙ e
