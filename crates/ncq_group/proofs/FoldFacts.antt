-- A table some of whose rows were struck out.
use Rattle.std.proofs.Common.{◌≡◌, ℕ, ◌+◌, ◌≤◌, Bool, true, false, cond, nat_eq, nat_le, List, [], ◌∷◌, length, Some, None, refl, sym, ap, ◌∙◌, subst, arith}
use Rattle.std.specs.List.{AllByRecursion}
use Rattle.std.specs.FinMap.{get}
use Rattle.std.proofs.lemmas.Bool.{eq-eqb, eqb-true, le-leb, leb-true}
use Rattle.ncq_base.specs.Counts.{total_by}
use Rattle.ncq_plan.specs.Exprs.{expr_width}
use Rattle.ncq_midfile.specs.declared.signed.SignedRow.{SignedRow}
use Rattle.ncq_shelf.specs.KeptFiles.{KeptFile, Files}
use Rattle.ncq_shelf.specs.Contents.{AreFolded, IsUpTo, IsWide, KeepsContents}
use Rattle.ncq_shelf.proofs.CallerLemmas.{there, one_value}
use Rattle.ncq_count.proofs.CallerLemmas.{HaveSameExprs, expr_at}
use Rattle.ncq_group.specs.Tables.{TableState, Facts}
use Rattle.ncq_group.proofs.SameTable.{HaveLike, facts_like}

-- where no signed row stands more often than before, what a test tells of each before holds of each
module _ (P : SignedRow → Type 0) (test : SignedRow → Bool) (tested : (r : SignedRow) → P r → test r ≡ true) (tells : (r : SignedRow) → test r ≡ true → P r) where
  abbrev fails : List SignedRow → ℕ
  fails rows = total_by (λ r. cond (test r) 0 1) rows

  none_fails : (rows : List SignedRow) → AllByRecursion P rows → fails rows ≡ 0
  none_fails [] all = refl
  none_fails (r ∷ rows) all = (λ i. cond (tested r all.0 i) 0 1 + fails rows) ∙ let rest = none_fails rows all.1 in omega arith

  fails_none : (rows : List SignedRow) → fails rows ≡ 0 → AllByRecursion P rows
  fails_none [] none = tt
  fails_none (r ∷ rows) none =
      elim (test r) as (λ b. test r ≡ b → cond b 0 1 + fails rows ≡ 0 → AllByRecursion P (r ∷ rows)) [
        | true ↦ λ e none. (tells r e, fails_none rows (omega arith))
        | false ↦ λ e none. absurd (omega arith)
      ] refl none

  fewer_each : (old new : List SignedRow) → ((f : SignedRow → ℕ) → total_by f new ≤ total_by f old) → AllByRecursion P old → AllByRecursion P new
  fewer_each old new fewer all =
      let a = none_fails old all in
      let b = fewer (λ r. cond (test r) 0 1) in
      fails_none new (omega arith)

-- a file stays wide and up to the change
folded_wide : (old new : KeptFile) → KeepsContents old new → IsWide old → IsWide new
folded_wide old new keeps wide =
    let width : ℕ = expr_width old.expr in
    subst (λ e. AllByRecursion (λ r. length r.row ≡ expr_width e) new.content.rows) (sym keeps.expr)
    (fewer_each (λ r. length r.row ≡ width) (λ r. nat_eq (length r.row) width) (λ r e. eq-eqb (length r.row) width e) (λ r e. eqb-true (length r.row) width e) old.content.rows new.content.rows keeps.fewer wide)

folded_last : (now : ℕ) (old new : KeptFile) → KeepsContents old new → IsUpTo now old.content → IsUpTo now new.content
folded_last now old new keeps up = record {
  base = let b = up.base in let same = keeps.base in omega arith;
  last = fewer_each (λ r. r.number ≤ now) (λ r. nat_le r.number now) (λ r h. le-leb r.number now h) (λ r e. leb-true r.number now e) old.content.rows new.content.rows keeps.fewer up.last;
}

module _ (old new : Files) (folded : AreFolded old new) where
  kept_up : HaveLike old new
  kept_up number file at = let f = folded.each number file at in record { file = f.0; at = f.1; expr = f.2.expr; uses = f.2.uses }

  -- what lost rows
  record Was (number : ℕ) (file : KeptFile) : Type 0 where
    was : KeptFile
    at : get old number ≡ Some was
    keeps : KeepsContents was file

  was_there : (number : ℕ) (file : KeptFile) → get new number ≡ Some file → Was number file
  was_there number file after = elim (get old number) as (λ o. get old number ≡ o → Was number file) [
    | Some was ↦ λ before. let f = folded.each number was before in record { was = was; at = before; keeps = subst (KeepsContents was) (one_value f.1 after) f.2 }
    | None ↦ λ none. absurd (there after (folded.only number none))
  ] refl

  kept_back : HaveLike new old
  kept_back number file after = let w = was_there number file after in record { file = w.was; at = w.at; expr = sym w.keeps.expr; uses = sym w.keeps.uses }

  -- each file has the expression that it had
  pub exprs_folded : HaveSameExprs old new
  exprs_folded number = elim (get old number) as (λ o. get old number ≡ o → expr_at (get new number) ≡ expr_at o) [
    | Some file ↦ λ at. let f = folded.each number file at in ap expr_at f.1 ∙ ap Some f.2.expr
    | None ↦ λ none. ap expr_at (folded.only number none)
  ] refl

-- the facts hold of it again
pub facts_folded : (table : TableState) → Facts table → (new : Files) → AreFolded table.files new → Facts (record { files = new; next_file = table.next_file; number = table.number })
facts_folded table facts new folded =
    facts_like table (record { files = new; next_file = table.next_file; number = table.number }) facts (kept_up table.files new folded) (kept_back table.files new folded)
    (λ number file at. let w = was_there table.files new folded number file at in folded_wide w.was file w.keeps (facts.wide number w.was w.at))
    (λ number file at. let w = was_there table.files new folded number file at in folded_last table.number w.was file w.keeps (facts.up_to number w.was w.at))
    facts.below
