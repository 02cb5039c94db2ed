-- What a fed table is.
use Rattle.std.proofs.Common.{◌≡◌, ℕ, List, ◌+◌, Some, None, refl, sym, ap, ◌∙◌, subst}
use Rattle.std.specs.FinMap.{get}
use Rattle.ncq_source.specs.declared.change.Portion.{Portion}
use Rattle.ncq_source.specs.StoreStates.{StoreState}
use Rattle.ncq_plan.specs.Exprs.{World}
use Rattle.ncq_shelf.specs.Parts.{IsInput}
use Rattle.ncq_shelf.specs.KeptFiles.{KeptFile, Files}
use Rattle.ncq_shelf.specs.Stands.{IsReadIn}
use Rattle.ncq_shelf.specs.Contents.{AreUpTo}
use Rattle.ncq_shelf.proofs.CallerLemmas.{there, one_value}
use Rattle.ncq_count.proofs.CallerLemmas.{HaveSameExprs, expr_at}
use Rattle.ncq_feed.specs.Feeds.{AreReady, AreFed}
use Rattle.ncq_group.specs.Tables.{TableState, Facts}

-- each file keeps its expression
pub all_fed : (store : StoreState) (change : List Portion) (old new : Files) → AreFed store change old new → HaveSameExprs old new
all_fed store change old new fed number = elim (get old number) as (λ o. get old number ≡ o → expr_at (get new number) ≡ expr_at o) [
  | Some file ↦ λ at.
      let f = fed.each number file at in
      ap expr_at f.1 ∙ ap (λ (k : KeptFile). Some k.expr) f.2.behind
  | None ↦ λ none. ap expr_at (fed.no_other number none)
] refl

-- a file of these had the same expression and uses before
record WasThere (old : Files) (number : ℕ) (file : KeptFile) : Type 0 where
  was : KeptFile
  at : get old number ≡ Some was
  expr : file.expr ≡ was.expr
  uses : file.uses ≡ was.uses

module _ (store : StoreState) (change : List Portion) (old : TableState) (facts : Facts old) (new : Files) (fed : AreFed store change old.files new) where
  before : (number : ℕ) (file : KeptFile) → get new number ≡ Some file → WasThere old.files number file
  before number file at = elim (get old.files number) as (λ o. get old.files number ≡ o → WasThere old.files number file) [
    | Some was ↦ λ here.
        let f = fed.each number was here in
        let same : file ≡ f.0 = one_value at f.1 in
        record { was = was; at = here; expr = ap (λ x. x.expr) same ∙ ap (λ x. x.expr) f.2.behind; uses = ap (λ x. x.uses) same ∙ ap (λ x. x.uses) f.2.behind }
    | None ↦ λ none. absurd (there at (fed.no_other number none))
  ] refl

  read_after : (file was : KeptFile) → file.expr ≡ was.expr → IsReadIn old.files was.expr → IsReadIn new file.expr
  read_after file was same r =
      let f = fed.each r.reader r.file r.at in
      record { reader = r.reader; file = f.0; at = f.1; reads = subst (λ e. IsInput e f.0.expr) (sym same) (subst (λ x. IsInput was.expr x) (sym (ap (λ x. x.expr) f.2.behind)) r.reads) }

  pub facts_fed : (world : World) → AreReady (store.changes + 1) world new → store.changes ≡ old.number → Facts (record { files = new; next_file = old.next_file; number = old.number + 1 })
  facts_fed world ready is = record {
    grounded = ready.grounded;
    formed = ready.formed;
    wide = ready.wide;
    up_to = subst (λ (n : ℕ). AreUpTo (n + 1) new) is ready.up_to;
    below = λ number file at. let w = before number file at in facts.below number w.was w.at;
    read = λ number file at unused. let w = before number file at in read_after file w.was w.expr (facts.read number w.was w.at (sym w.uses ∙ unused));
  }
