-- What a release leaves is a table again.
use Rattle.std.proofs.Common.{◌≡◌, ℕ, Some, inl, inr, sym, ◌∙◌, subst}
use Rattle.std.proofs.lemmas.Bool.{cases_eq}
use Rattle.std.specs.FinMap.{get}
use Rattle.ncq_plan.specs.WellFormed.{IsWellFormedExpr}
use Rattle.ncq_shelf.specs.Contents.{IsUpTo}
use Rattle.ncq_shelf.specs.KeptFiles.{KeptFile, Files}
use Rattle.ncq_shelf.specs.Stands.{IsGrounded}
use Rattle.ncq_group.specs.Tables.{TableState, Facts}
use Rattle.ncq_group.specs.Releases.{IsReleased, with_use_less}
use Rattle.ncq_group.specs.Collected.{IsCollected}
use Rattle.ncq_shelf.proofs.CallerLemmas.{put_other}
use Rattle.ncq_shelf.proofs.CallerLemmas.{HasAlike, read_alike, grounded_alike, uses_there, uses_back, wide_alike}
use Rattle.ncq_group.proofs.Closures.{all_needed}
use Rattle.ncq_group.proofs.Collects.{needed_more}

module _ (old : TableState) (facts : Facts old) (number : ℕ) (file : KeptFile) (at : get old.files number ≡ Some file) where
  pub grounded_low : IsGrounded (with_use_less old.files number file)
  grounded_low = grounded_alike old.files (with_use_less old.files number file) (uses_there old.files number file at _) (uses_back old.files number file at _) facts.grounded

  module _ (new : Files) (grounded : IsGrounded new) (collected : IsCollected (with_use_less old.files number file) number new) where
    before : (other : ℕ) (state : KeptFile) → get new other ≡ Some state → HasAlike old.files other state
    before other state here = uses_back old.files number file at _ other state (collected.stays other state here)

    pub facts_after : Facts (record old { files = new })
    facts_after = record {
      grounded = grounded;
      below = λ other state here. let a = before other state here in facts.below other a.file a.at;
      read = λ other state here unused. elim (cases_eq other number) [
        | inl same ↦ collected.done state (subst (λ n. get new n ≡ Some state) same here) unused
        | inr differs ↦
            let was = sym (put_other old.files number _ other differs) ∙ collected.stays other state here in
            collected.read other state here unused (read_alike old.files (with_use_less old.files number file) (uses_there old.files number file at _) (facts.read other state was unused))
      ];
      formed = λ other state here. let a = before other state here in subst IsWellFormedExpr a.expr (facts.formed other a.file a.at);
      wide = λ other state here. let a = before other state here in wide_alike a.file state a.expr a.content (facts.wide other a.file a.at);
      up_to = λ other state here. let a = before other state here in subst (IsUpTo old.number) a.content (facts.up_to other a.file a.at);
    }

    pub released : IsReleased old.files number new
    released = record {
      file = file;
      at = at;
      kept = λ other needed. (collected.kept other needed).1;
      stays = λ other state here. (collected.stays other state here, needed_more collected.stays (all_needed (record old { files = new }) facts_after other state here));
    }
