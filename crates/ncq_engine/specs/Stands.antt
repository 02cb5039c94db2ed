-- The engine stands for a history.
use Rattle.std.specs.Prelude.{◌≡◌, ◌≤◌, ◌*◌, ℕ, List, [], Some, IfSome, slice_get, map, refl}
use Rattle.std.specs.Prelude.{true}
use Rattle.std.specs.FinMap.{get}
use Rattle.std.specs.Option.{option_map, unwrap_or}
use Rattle.std.specs.Coded.{Coded, code_by, coded×, coded_ℕ, coded_list}
use Rattle.ncq_bind.specs.Bound.{query_is_bound}
use Rattle.ncq_bind.specs.NormalQueries.{normal_query}
use Rattle.ncq_cache.specs.Cached.{Cached, cached_code}
use Rattle.ncq_callback.specs.Labels.{Handed, handed_code}
use Rattle.ncq_distinct.specs.DistinctTables.{distinct_code, DistinctTable}
use Rattle.ncq_book.specs.contracts.subscription.Subscription.{the_row as subscription_row}
use Rattle.ncq_book.specs.declared.subscription.Subscription.{Subscription as Kept}
use Rattle.ncq_book.specs.Books.{alike}
use Rattle.ncq_midfile.specs.Content.{IsContent}
use Rattle.ncq_plan.specs.declared.expr.Expr.{Expr}
use Rattle.ncq_plan.specs.Exprs.{rows_in}
use Rattle.ncq_plan.specs.Late.{bare_of}
use Rattle.ncq_strategy.specs.Choices.{choice_of}
use Rattle.ncq_shelf.specs.KeptFiles.{KeptFile, Files}
use Rattle.ncq_shelf.specs.Contents.{AreUpTo}
use Rattle.ncq_group.specs.Tables.{TableState, table_code}
use Rattle.ncq_live.specs.Shares.{Shares}
use Rattle.ncq_source.specs.Stores.{Source as Declared}
use Rattle.ncq_source.specs.StoreStates.{StoreState, store_code}
use Rattle.ncq_xmlql.specs.WellFormed.{IsWellFormed}
use Rattle.ncq_engine.specs.contracts.span.Span.{the_row as span_row}
use Rattle.ncq_engine.specs.declared.span.Span.{Span}
use Rattle.ncq_engine.specs.Cached.{AreToldRight}
use Rattle.ncq_engine.specs.DistinctCounts.{AreCounted}
use Rattle.ncq_engine.specs.Engines.{KeepsCounts, Pairwise, last_in}
use Rattle.ncq_engine.specs.Firing.{mark, sources_of}
use Rattle.ncq_engine.specs.History.{History, Source, Subscription, changes, creates, last_change}
use Rattle.ncq_engine.specs.History.{live, now, sources, timing_of, up_to, world}
use Rattle.ncq_engine.specs.Languages.{language_of}
use Rattle.ncq_engine.specs.Marks.{IsRising, noted}
use Rattle.ncq_engine.specs.Notices.{kind_in, name_at}
use Rattle.ncq_engine.specs.Plannings.{alike_before, alike_in}

-- what contracts see of an engine: the store, the clock, how many commands were answered and how
-- many creates accepted, what it was handed, the live subscriptions in the order
-- of their creates, the table of the files that they share, where the notices of the last answer
-- stand, what is kept of what was told, the most lately used first, and the counts of the
-- subscriptions with DISTINCT
pub record EngineState : Type 0 where
  pub store : StoreState
  pub clock : ℕ
  pub count : ℕ
  pub creates : ℕ
  pub handed : Handed
  pub subscriptions : List Kept
  pub table : TableState
  pub spans : List Span
  pub cache : List Cached
  pub distinct : DistinctTable

-- how an engine is written as a value
abbrev pub engine_code : Coded EngineState
engine_code =
    code_by
    (StoreState × (ℕ × (ℕ × (ℕ × (Handed × (List Kept × (TableState × (List Span
    × (List Cached × DistinctTable)))))))))
    (coded× store_code (coded× coded_ℕ (coded× coded_ℕ (coded× coded_ℕ
    (coded× handed_code
    (coded× (coded_list subscription_row.coded)
    (coded× table_code (coded× (coded_list span_row.coded)
    (coded× cached_code distinct_code)))))))))
    (λ e. (
      e.store,
      (
        e.clock,
        (
          e.count,
          (
            e.creates,
            (
              e.handed,
              (
                e.subscriptions,
                (
                  e.table,
                  (
                    e.spans,
                    (
                      e.cache,
                      e.distinct,
                    ),
                  ),
                ),
              ),
            ),
          ),
        ),
      ),
    ))
    (λ p. record {
      store = p.0;
      clock = p.1.0;
      count = p.1.1.0;
      creates = p.1.1.1.0;
      handed = p.1.1.1.1.0;
      subscriptions = p.1.1.1.1.1.0;
      table = p.1.1.1.1.1.1.0;
      spans = p.1.1.1.1.1.1.1.0;
      cache = p.1.1.1.1.1.1.1.1.0;
      distinct = p.1.1.1.1.1.1.1.1.1;
    })
    (λ _. refl)

-- what a declared source of the store is in a history
abbrev pub content_of : Declared → Source
content_of declared = record {
  name = declared.name;
  root = declared.root;
  key = declared.key;
  elements = declared.elements;
}

-- what is kept of a subscription is its own: its query is the normal query of its statement, which
-- is bound, it is planned by those that were live just before its create, and what is written down
-- of its mark is what its mark follows from
pub record Keeps (handed : Handed) (history : History) (s : Subscription) (m : Kept)
    : Type 0 where
  pub name : m.name ≡ s.statement.name
  pub sources : m.sources ≡ sources_of s.statement
  pub whole : IsWellFormed s.statement
  pub bound : query_is_bound s.statement.query ≡ true
  pub query : m.query ≡ normal_query s.statement.query
  pub bare : m.bare ≡ bare_of m.query
  pub choice : m.choice ≡ choice_of m.query (alike_before (language_of handed) history s)
  pub distinct : m.distinct ≡ s.statement.query.distinct
  pub timing : m.timing ≡ timing_of s
  pub kind : option_map (λ label. label.1) (slice_get handed.labels m.action)
      ≡ kind_in s.statement.action handed.labels
  pub action : name_at handed.labels m.action ≡ Some s.statement.action
  pub argument : m.argument ≡ unwrap_or s.statement.argument []
  pub install : m.install ≡ s.install
  pub marked : m.noted ≡ noted s history

-- each file has, at each change from its base on, the rows that its expression had then
abbrev pub AreContents : Files → History → Type 0
AreContents files history =
    (number : ℕ) (file : KeptFile) (change : ℕ) → get files number ≡ Some file
    → file.content.base ≤ change → change ≤ changes history
    → IsContent change file.content.rows
    (rows_in file.expr (world (sources (up_to change history))))

-- the store, the clock, the creates and the live subscriptions are those after the history, the
-- files tell the sources at each change, and the counts of those with DISTINCT are right
pub record Follows (engine : EngineState) (history : History) : Type 0 where
  pub sources : map content_of engine.store.sources ≡ sources history
  pub last : (name : List ℕ) → last_in engine.store name ≡ last_change name history
  pub changes : engine.store.changes ≡ changes history
  pub clock : engine.clock ≡ now history
  pub creates : engine.creates ≡ creates history
  pub subscriptions : Pairwise (Keeps engine.handed history) (live history) engine.subscriptions
  pub contents : AreContents engine.table.files history
  pub counted : AreCounted engine.handed.relations history engine.distinct
  pub rising : IsRising history

-- of each bare plan there are as many kept subscriptions as live queries
abbrev pub AreAlike : Handed → History → List Kept → Type 0
AreAlike handed history subscriptions = (bare : Expr)
    → alike bare subscriptions ≡ alike_in (language_of handed) bare (live history)

-- the file that it has was made at its mark or before
abbrev pub IsMarked : Files → History → Subscription → Kept → Type 0
IsMarked files history s m =
    (file : KeptFile) → get files m.file.0 ≡ Some file
    → IfSome (mark s history) (λ number. file.content.base ≤ number)

-- the files stand at the last change: none was made later or has a later row, and none was made
-- behind the mark of a subscription that has it; there are no more changes and creates than
-- commands, and no more numbers of files were given than creates can take
pub record IsBounded (engine : EngineState) (history : History) : Type 0 where
  pub number : engine.table.number ≡ changes history
  pub up_to : AreUpTo (changes history) engine.table.files
  pub marks : Pairwise (IsMarked engine.table.files history) (live history) engine.subscriptions
  pub few_changes : changes history ≤ engine.count
  pub few_creates : creates history ≤ engine.count
  pub few_files : engine.table.next_file ≤ 256 * creates history

-- the engine stands for the history, its subscriptions share their files, it is bounded, what it
-- keeps of what was told is right, it keeps counts of live subscriptions with DISTINCT alone, and
-- the next create is planned by the live queries
pub record Stands (engine : EngineState) (history : History) : Type 0 where
  pub follows : Follows engine history
  pub bounded : IsBounded engine history
  pub shares : Shares engine.subscriptions engine.table
  pub cached : AreToldRight engine.handed.relations history engine.table engine.cache
  pub counts : KeepsCounts engine.subscriptions engine.distinct
  pub alike : AreAlike engine.handed history engine.subscriptions
