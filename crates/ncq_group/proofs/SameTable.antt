-- A table whose files have other rows.
use Rattle.std.proofs.Common.{◌≡◌, ◌≢◌, ℕ, ◌<◌, ◌≤◌, true, false, cond, nat_le, List, [], ◌∷◌, length, Some, None, inl, inr, refl, sym, ap, ◌∙◌, subst}
use Rattle.std.specs.List.{AllByRecursion}
use Rattle.std.specs.Option.{option_map}
use Rattle.std.specs.FinMap.{get, insert}
use Rattle.std.proofs.lemmas.Bool.{cases_eq, leb-true}
use Rattle.ncq_plan.specs.declared.expr.Expr.{Expr}
use Rattle.ncq_plan.specs.Exprs.{expr_width}
use Rattle.ncq_plan.specs.WellFormed.{IsWellFormedExpr}
use Rattle.ncq_midfile.specs.Content.{up_to}
use Rattle.ncq_midfile.specs.declared.signed.SignedRow.{SignedRow}
use Rattle.ncq_shelf.specs.Parts.{IsInput}
use Rattle.ncq_shelf.specs.KeptFiles.{KeptFile, Files}
use Rattle.ncq_shelf.specs.Stands.{Stands, IsReadIn}
use Rattle.ncq_shelf.specs.Contents.{IsUpTo, AreUpTo, AreWide, IsWide, cut_to}
use Rattle.ncq_shelf.proofs.CallerLemmas.{put_same, put_other, there, one_value}
use Rattle.ncq_group.specs.Tables.{TableState, Facts}

-- at the number stands a file of the same expression and uses
pub record HasLike (files : Files) (number : ℕ) (like : KeptFile) : Type 0 where
  pub file : KeptFile
  pub at : get files number ≡ Some file
  pub expr : file.expr ≡ like.expr
  pub uses : file.uses ≡ like.uses

abbrev pub HaveLike : Files → Files → Type 0
HaveLike less more = (number : ℕ) (file : KeptFile) → get less number ≡ Some file → HasLike more number file

module _ (less more : Files) (has : HaveLike less more) where
  stands_like : (expr : Expr) (number : ℕ) → Stands less expr number → Stands more expr number
  stands_like expr number s = let h = has number s.file s.at in record { file = h.file; at = h.at; of = h.expr ∙ s.of }

  read_like : (expr : Expr) → IsReadIn less expr → IsReadIn more expr
  read_like expr r = let h = has r.reader r.file r.at in record { reader = r.reader; file = h.file; at = h.at; reads = subst (λ e. IsInput expr e) (sym h.expr) r.reads }

-- the facts hold of it again
pub facts_like : (old : TableState) (new : TableState) → Facts old → HaveLike old.files new.files → HaveLike new.files old.files → AreWide new.files → AreUpTo new.number new.files
    → ((number : ℕ) (file : KeptFile) → get old.files number ≡ Some file → number < new.next_file) → Facts new
facts_like old new facts up back wide last below = record {
  grounded = record {
    distinct = λ first second expr s t. facts.grounded.distinct first second expr (stands_like new.files old.files back expr first s) (stands_like new.files old.files back expr second t);
    inputs = λ number file input at reads.
        let h = back number file at in
        let b = facts.grounded.inputs number h.file input h.at (subst (λ e. IsInput input e) (sym h.expr) reads) in
        (b.0, b.1, stands_like old.files new.files up input b.0 b.2);
  };
  formed = λ number file at. let h = back number file at in subst IsWellFormedExpr h.expr (facts.formed number h.file h.at);
  wide = wide;
  up_to = last;
  below = λ number file at. let h = back number file at in below number h.file h.at;
  read = λ number file at unused.
      let h = back number file at in
      subst (IsReadIn new.files) h.expr (read_like old.files new.files up h.file.expr (facts.read number h.file h.at (h.uses ∙ unused)));
}

-- one file has other rows
module _ (table : TableState) (facts : Facts table) (number : ℕ) (old next : KeptFile) (at : get table.files number ≡ Some old) (expr : next.expr ≡ old.expr) (uses : next.uses ≡ old.uses) (wide : IsWide next) (last : IsUpTo table.number next.content)
    (new : Files) (put : new ≡ insert table.files number next) where
  here : get new number ≡ Some next
  here = subst (λ f. get f number ≡ Some next) (sym put) (put_same table.files number next)

  others : (other : ℕ) → other ≢ number → get new other ≡ get table.files other
  others other differs = subst (λ f. get f other ≡ get table.files other) (sym put) (put_other table.files number next other differs)

  put_up : HaveLike table.files new
  put_up other file before = elim (cases_eq other number) [
    | inl same ↦
        let e : file ≡ old = one_value before (subst (λ n. get table.files n ≡ Some old) (sym same) at) in
        record { file = next; at = subst (λ n. get new n ≡ Some next) (sym same) here; expr = expr ∙ ap (λ f. f.expr) (sym e); uses = uses ∙ ap (λ f. f.uses) (sym e) }
    | inr differs ↦ record { file = file; at = others other differs ∙ before; expr = refl; uses = refl }
  ]

  put_back : HaveLike new table.files
  put_back other file after = elim (cases_eq other number) [
    | inl same ↦
        let e : file ≡ next = one_value after (subst (λ n. get new n ≡ Some next) (sym same) here) in
        record { file = old; at = subst (λ n. get table.files n ≡ Some old) (sym same) at; expr = sym expr ∙ ap (λ f. f.expr) (sym e); uses = sym uses ∙ ap (λ f. f.uses) (sym e) }
    | inr differs ↦ record { file = file; at = sym (others other differs) ∙ after; expr = refl; uses = refl }
  ]

  pub facts_put : Facts (record { files = new; next_file = table.next_file; number = table.number })
  facts_put = facts_like table (record { files = new; next_file = table.next_file; number = table.number }) facts put_up put_back
      (λ other file after. elim (cases_eq other number) [
        | inl same ↦ subst IsWide (sym (one_value after (subst (λ n. get new n ≡ Some next) (sym same) here))) wide
        | inr differs ↦ facts.wide other file (sym (others other differs) ∙ after)
      ])
      (λ other file after. elim (cases_eq other number) [
        | inl same ↦ subst (λ f. IsUpTo table.number f.content) (sym (one_value after (subst (λ n. get new n ≡ Some next) (sym same) here))) last
        | inr differs ↦ facts.up_to other file (sym (others other differs) ∙ after)
      ])
      facts.below

-- rows up to a change are as wide as all
pub wide_up_to : (change width : ℕ) (rows : List SignedRow) → AllByRecursion (λ r. length r.row ≡ width) rows → AllByRecursion (λ r. length r.row ≡ width) (up_to change rows)
wide_up_to change width [] all = tt
wide_up_to change width (r ∷ rows) all = by_test (nat_le r.number change) (wide_up_to change width rows all.1)
  where
    by_test : (b : _) → AllByRecursion (λ r. length r.row ≡ width) (up_to change rows) → AllByRecursion (λ r. length r.row ≡ width) (cond b (r ∷ up_to change rows) (up_to change rows))
    by_test true rest = (all.0, rest)
    by_test false rest = rest

module _ (old new : Files) (change : ℕ) (is : (number : ℕ) → get new number ≡ option_map (cut_to change) (get old number)) where
  pub cut_up : HaveLike old new
  cut_up number file at = record { file = cut_to change file; at = is number ∙ ap (option_map (cut_to change)) at; expr = refl; uses = refl }

  -- what was cut
  record WasCut (number : ℕ) (file : KeptFile) : Type 0 where
    was : KeptFile
    at : get old number ≡ Some was
    same : cut_to change was ≡ file

  was_cut : (number : ℕ) (file : KeptFile) → get new number ≡ Some file → WasCut number file
  was_cut number file at = elim (get old number) as (λ o. get old number ≡ o → WasCut number file) [
    | Some was ↦ λ before. record { was = was; at = before; same = one_value (is number ∙ ap (option_map (cut_to change)) before) at }
    | None ↦ λ none. absurd (there at (is number ∙ ap (option_map (cut_to change)) none))
  ] refl

  pub cut_back : HaveLike new old
  cut_back number file at = let w = was_cut number file at in record { file = w.was; at = w.at; expr = ap (λ f. f.expr) w.same; uses = ap (λ f. f.uses) w.same }

  last_cut : (rows : List SignedRow) → AllByRecursion (λ r. r.number ≤ change) (up_to change rows)
  last_cut [] = tt
  last_cut (r ∷ rows) = by_test (nat_le r.number change) refl (last_cut rows)
    where
      by_test : (b : _) → nat_le r.number change ≡ b → AllByRecursion (λ r. r.number ≤ change) (up_to change rows) → AllByRecursion (λ r. r.number ≤ change) (cond b (r ∷ up_to change rows) (up_to change rows))
      by_test true e rest = (leb-true r.number change e, rest)
      by_test false e rest = rest

  pub cut_wide : AreWide old → AreWide new
  cut_wide wide number file at = let w = was_cut number file at in subst IsWide w.same (wide_up_to change (expr_width w.was.expr) w.was.content.rows (wide number w.was w.at))

  pub cut_last : ((number : ℕ) (file : KeptFile) → get old number ≡ Some file → file.content.base ≤ change) → AreUpTo change new
  cut_last base number file at = let w = was_cut number file at in subst (λ f. IsUpTo change f.content) w.same (record { base = base number w.was w.at; last = last_cut w.was.content.rows })
