-- What the call tells of the files, from how far the change was passed on.
use Rattle.std.proofs.Common.{ℕ, ◌+◌, refl, sym, ap, ◌∙◌, subst, arith}
use Rattle.std.specs.Option.{option_map}
use Rattle.ncq_plan.specs.Exprs.{rows_in}
use Rattle.ncq_midfile.specs.Content.{IsContent}
use Rattle.ncq_shelf.specs.KeptFiles.{KeptFile, Files}
use Rattle.ncq_shelf.specs.Contents.{with_more}
use Rattle.ncq_feed.specs.Feeds.{AreFed, AreReady, world_after}
use Rattle.ncq_feed.specs.Runs.{Run, IsUnderWay, AreRight, news_in}
use Rattle.ncq_feed.proofs.FedLaws.{content_is}
use Rattle.ncq_feed.proofs.GrowthLaws.{up, was, grounded, formed, based, last}

module _ (run : Run) (files : Files) (under : IsUnderWay run files) (right : (number : ℕ) → AreRight run number (news_in run.store.changes files number)) where
  pub are_fed : AreFed run.store run.change run.files files
  are_fed = record {
    each = λ number file at. (
      with_more file (news_in run.store.changes files number),
      up run files under number file at,
      record {
        news = news_in run.store.changes files number;
        behind = refl;
        numbers = under.stamped number;
        rows = right number file at;
      },
    );
    no_other = λ number none. under.grown number ∙ ap (option_map (λ file. with_more file (news_in run.store.changes files number))) none;
  }

  pub are_ready : AreReady (run.store.changes + 1) (world_after run.store run.change) files
  are_ready = record {
    grounded = grounded run files under;
    formed = formed run files under;
    wide = under.wide;
    up_to = λ number file at. record { base = (let b = based run files under number file at in omega arith); last = last run files under number file at };
    fits = λ number file at.
        let w = was run files under number file at in
        subst (λ (f : KeptFile). IsContent (run.store.changes + 1) f.content.rows (rows_in f.expr (world_after run.store run.change))) (sym w.2)
        (content_is run under.start (λ n. news_in run.store.changes files n) under.stamped number w.0.expr (record { file = w.0; at = w.1; of = refl }) (right number));
  }
