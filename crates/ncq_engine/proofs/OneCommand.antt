-- A batch is answered as a delta of its sections: the two are one command but for their name.
use Rattle.std.proofs.Common.{◌≡◌, ◌∙◌, ℕ, true, false, List, [], ◌∷◌, ◌++◌, map, refl, ap, subst}
use Rattle.std.specs.Prelude.{Option, Some, None, Result, Ok, Err, nat_le, nat_lt, if◌then◌else◌}
use Rattle.std.specs.List.{AllByRecursion}
use Rattle.ncq_bag.specs.Bags.{count_in}
use Rattle.ncq_bind.specs.Answers.{all}
use Rattle.ncq_bind.specs.NormalQueries.{normal_query}
use Rattle.ncq_book.specs.declared.subscription.Subscription.{Subscription as Kept}
use Rattle.ncq_callback.specs.Labels.{Handed}
use Rattle.ncq_distinct.specs.DistinctTables.{DistinctTable}
use Rattle.ncq_midfile.specs.Content.{IsContent}
use Rattle.ncq_plan.specs.Exprs.{World, rows_in}
use Rattle.ncq_plan.specs.Late.{bare_of}
use Rattle.ncq_strategy.specs.Choices.{choice_of}
use Rattle.ncq_pyx.specs.Canonical.{pyx}
use Rattle.ncq_script.specs.declared.command.Command.TheVariants.{Delta, Batch}
use Rattle.ncq_shelf.specs.KeptFiles.{Files}
use Rattle.ncq_source.specs.declared.change.Section.{Section}
use Rattle.ncq_xmlql.specs.declared.model.Query.{Query}
use Rattle.ncq_engine.specs.Applies.{Applies}
use Rattle.ncq_engine.specs.DistinctCounts.{all_at, IsCounted}
use Rattle.ncq_engine.specs.Engines.{Pairwise}
use Rattle.ncq_engine.specs.Firing.{mark}
use Rattle.ncq_engine.specs.History.{History, Source, Subscription, changes, creates, live, sources, up_to, with_items, with_sections, world}
use Rattle.ncq_engine.specs.Languages.{language_of}
use Rattle.ncq_engine.specs.Notices.{Language}
use Rattle.ncq_engine.specs.Output.{output}
use Rattle.ncq_engine.specs.Plannings.{alike_before, alike_in, before_create}
use Rattle.ncq_engine.specs.Stands.{AreContents, EngineState, Follows, Keeps}
use Rattle.ncq_engine.specs.Works.{IsWithinWork}
use Rattle.ncq_engine.specs.declared.telling.Answered.{Answered}
use Rattle.ncq_engine.specs.declared.engine.ApplyError.{ApplyError}
use Rattle.ncq_engine.specs.declared.engine.ApplyError.TheVariants.{OutOfMemory, Refused}
use Rattle.ncq_plan.specs.Relations.{Relations}
use Rattle.ncq_engine.proofs.Lists.{each_more}

module _ (changed : List Section) (h : History) where
  same_up_to : (number : ℕ) → world (sources (up_to number (Delta changed ∷ h))) ≡ world (sources (up_to number (Batch changed ∷ h)))
  same_up_to number =
      elim (nat_le (changes (Delta changed ∷ h)) number) as (λ t. world (sources (if t then Delta changed ∷ h else up_to number h)) ≡ world (sources (if t then Batch changed ∷ h else up_to number h))) [
        | true ↦ refl
        | false ↦ refl
      ]

  contents_too : (files : Files) → AreContents files (Delta changed ∷ h) → AreContents files (Batch changed ∷ h)
  contents_too files contents number file change at low few = subst (λ (w : World). IsContent change file.content.rows (rows_in file.expr w)) (same_up_to change) (contents number file change at low few)

  alike_too : (handed : Handed) (s : Subscription) → alike_before (language_of handed) (Delta changed ∷ h) s ≡ alike_before (language_of handed) (Batch changed ∷ h) s
  alike_too handed s =
      let among = alike_in (language_of handed) (bare_of (normal_query s.statement.query)) in
      elim (nat_lt (creates (Delta changed ∷ h)) s.install) as (λ t. among (live (if t then Delta changed ∷ h else before_create s.install h)) ≡ among (live (if t then Batch changed ∷ h else before_create s.install h))) [
        | true ↦ refl
        | false ↦ refl
      ]

  keeps_too : (handed : Handed) (subs : List Subscription) (ms : List Kept) → Pairwise (Keeps handed (Delta changed ∷ h)) subs ms → Pairwise (Keeps handed (Batch changed ∷ h)) subs ms
  keeps_too handed [] [] p = tt
  keeps_too handed [] (m ∷ ms) p = absurd p
  keeps_too handed (s ∷ subs) [] p = absurd p
  keeps_too handed (s ∷ subs) (m ∷ ms) p =
      let k = p.0 in (
        record {
          name = k.name;
          sources = k.sources;
          whole = k.whole;
          bound = k.bound;
          query = k.query;
          bare = k.bare;
          choice = k.choice ∙ ap (choice_of m.query) (alike_too handed s);
          distinct = k.distinct;
          timing = k.timing;
          kind = k.kind;
          action = k.action;
          argument = k.argument;
          install = k.install;
          marked = k.marked;
        },
        keeps_too handed subs ms p.1,
      )

  all_too : (relations : Relations) (query : Query) (o : Option ℕ) → all_at relations query (Delta changed ∷ h) o ≡ all_at relations query (Batch changed ∷ h) o
  all_too relations query None = refl
  all_too relations query (Some number) = ap (λ (w : World). map pyx (all relations query w)) (same_up_to number)

  counted_too : (relations : Relations) (distinct : DistinctTable) (subs : List Subscription) → AllByRecursion (IsCounted relations (Delta changed ∷ h) distinct) subs → AllByRecursion (IsCounted relations (Batch changed ∷ h) distinct) subs
  counted_too relations distinct =
      each_more (IsCounted relations (Delta changed ∷ h) distinct) (IsCounted relations (Batch changed ∷ h) distinct) (λ s counted asked key. counted asked key ∙ ap (count_in key) (all_too relations s.statement.query (mark s (Delta changed ∷ h))))

  follows_too : (engine : EngineState) → Follows engine (Delta changed ∷ h) → Follows engine (Batch changed ∷ h)
  follows_too engine f = record {
    sources = f.sources;
    last = f.last;
    changes = f.changes;
    clock = f.clock;
    creates = f.creates;
    subscriptions = keeps_too engine.handed (live h) engine.subscriptions f.subscriptions;
    contents = contents_too engine.table.files f.contents;
    counted = counted_too engine.handed.relations engine.distinct (live h) f.counted;
    rising = f.rising;
  }

-- what the answer to a delta says, said of a batch of its sections
pub batch_applies : (changed : List Section) (old : EngineState) (out : List ℕ) (result : Result Answered ApplyError) (new : EngineState) (out' : List ℕ)
    → Applies old (Delta changed) out result new out' → Applies old (Batch changed) out result new out'
batch_applies changed old out (Ok answered) new out' a = record {
  accepted = a.accepted;
  follows = λ h s. follows_too changed h new (a.follows h s);
  answer = a.answer;
  counted = a.counted;
  handed = a.handed;
  places = λ h s. let p = a.places h s in record { between = record { begins = p.between.begins; ends = p.between.ends }; spans = p.spans };
}
batch_applies changed old out (Err (Refused why)) new out' a = record { refused = a.refused; follows = a.follows; counted = a.counted; handed = a.handed; unwritten = a.unwritten }
batch_applies changed old out (Err OutOfMemory) new out' a = record { follows = a.follows; uncounted = a.uncounted; handed = a.handed; front = a.front }

pub batch_work : (changed : List Section) (engine : EngineState) (old new : ℕ) → IsWithinWork engine (Delta changed) old new → IsWithinWork engine (Batch changed) old new
batch_work changed engine old new within = within

pub same_output : (language : Language) (history : History) (number : ℕ) (changed : List Section) → output language history number (Batch changed) ≡ output language history number (Delta changed)
unfolding output
same_output language history number changed = refl

-- sections that are taken in two parts lead where they lead at once
pub sections_add_up : (first second : List Section) (all : List Source) → with_sections (first ++ second) all ≡ with_sections second (with_sections first all)
sections_add_up [] second all = refl
sections_add_up (section ∷ first) second all = sections_add_up first second (with_items section.source section.items all)
