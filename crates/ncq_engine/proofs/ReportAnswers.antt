-- The answer to a report, from what the calls give.
use Rattle.std.proofs.Common.{◌≡◌, ℕ, ◌+◌, List, [], ◌∷◌, ◌++◌, length, refl, sym, ◌∙◌, ap, append-nil, zero-add}
use Rattle.std.specs.Prelude.{Ok}
use Rattle.std.specs.List.{flat_map}
use Rattle.ncq_report.specs.Texts.{report_text}
use Rattle.ncq_report.specs.declared.report.Summary.{Summary}
use Rattle.ncq_live.specs.Shares.{Shares}
use Rattle.ncq_script.specs.declared.command.Command.TheVariants.{Report}
use Rattle.ncq_engine.specs.declared.telling.Answered.{Answered}
use Rattle.ncq_engine.specs.Applies.{Applies, ok_text}
use Rattle.ncq_engine.specs.History.{History, changes, creates, live}
use Rattle.ncq_engine.specs.Spans.{spans_of}
use Rattle.ncq_engine.specs.Stands.{EngineState, Follows}
use Rattle.ncq_engine.specs.Summaries.{IsSummary}
use Rattle.ncq_engine.proofs.ContentLaws.{contents_stay}
use Rattle.ncq_engine.proofs.CountedLaws.{counted_quietly}
use Rattle.ncq_engine.proofs.EngineLaws.{accepts, keep_quiet, rises_quietly, told_nobody}
use Rattle.ncq_engine.proofs.ReportLaws.{summary_is}

-- the engine follows the report
follows_report : (e : EngineState) (h : History) → Follows e h → Follows (record e { count = e.count + 1 }) (Report ∷ h)
follows_report e h f = record {
  sources = f.sources;
  last = f.last;
  changes = f.changes ∙ sym (zero-add (changes h));
  clock = f.clock;
  creates = f.creates ∙ sym (zero-add (creates h));
  subscriptions = keep_quiet e.handed h Report (λ _. refl) e.subscriptions f.subscriptions;
  contents = contents_stay e.table.files h Report (zero-add (changes h)) f.contents;
  counted = counted_quietly e.handed.relations h Report (λ _. refl) e.distinct (live h) f.counted;
  rising = rises_quietly h Report refl f.rising;
}

-- A report is accepted, tells nobody, and its text is that of the summary.
pub report_answers : (e : EngineState) → Shares e.subscriptions e.table → (s : Summary) → IsSummary e s → (out line out' : List ℕ) (applied : Answered)
    → line ≡ out ++ ok_text (e.count + 1) → applied ≡ record { from = length line; to = length line; spans = [] } → out' ≡ line ++ report_text s
    → Applies e Report out (Ok applied) (record e { count = e.count + 1 }) out'
report_answers e shares s is out line out' applied begins places text =
    accepts e Report out applied (record e { count = e.count + 1 }) out' [] (report_text s)
    (record {
      accepted = λ h f. refl;
      follows = λ h f. follows_report e h f;
      tells = λ h f. ap (flat_map _) (sym (told_nobody h Report (λ _. refl)));
      stand = λ h f. ap (λ (a : Answered). a.spans) places ∙ ap (spans_of _ _ applied.from) (sym (told_nobody h Report (λ _. refl)));
      ends = λ h f. ap report_text (summary_is e h f shares s is);
      counted = refl;
      named = refl;
    })
    (text ∙ ap (λ l. l ++ report_text s) begins)
    (ap (λ (a : Answered). a.from) places ∙ ap length begins)
    (ap (λ (a : Answered). a.to) places ∙ ap length (begins ∙ sym (append-nil (out ++ ok_text (e.count + 1)))))
