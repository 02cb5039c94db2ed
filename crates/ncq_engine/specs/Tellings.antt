-- Who fires and what they are told, by install numbers. Only the crate's private clauses cite it.
use Rattle.std.specs.Prelude.{◌≡◌, ◌++◌, ◌&&◌, ℕ, Bool, false, nat_le, nat_eq}
use Rattle.std.specs.Prelude.{List, [], ◌∷◌, length}
use Rattle.std.specs.Prelude.{Option, Some, None, IfSome, if◌then◌else◌, map, not}
use Rattle.std.specs.FinMap.{get}
use Rattle.std.specs.List.{filter, flat_map, list_any, AllByRecursion}
use Rattle.ncq_bag.specs.declared.bag.Difference.{Difference}
use Rattle.ncq_book.specs.declared.subscription.Subscription.{Subscription as Kept}
use Rattle.ncq_book.specs.Books.{subscription_of, is_of}
use Rattle.ncq_callback.specs.Labels.{Handed}
use Rattle.ncq_distinct.specs.DistinctTables.{waiting_at, DistinctTable}
use Rattle.ncq_event.specs.declared.firing.Firing.{Firing}
use Rattle.ncq_group.specs.Tables.{TableState}
use Rattle.ncq_live.specs.LiveTables.{LiveState}
use Rattle.ncq_plan.specs.Relations.{Relations}
use Rattle.ncq_shelf.specs.KeptFiles.{KeptFile, Files}
use Rattle.ncq_source.specs.StoreStates.{StoreState}
use Rattle.ncq_news.specs.News.{entries_of, since_mark}
use Rattle.ncq_engine.specs.declared.latest.Latest.{Latest}
use Rattle.ncq_engine.specs.declared.span.Span.{Span}
use Rattle.ncq_engine.specs.declared.telling.Answered.{Answered}
use Rattle.ncq_engine.specs.Cached.{IsFresh}
use Rattle.ncq_engine.specs.Engines.{CanTell, has_news_in, latest_in, mark_in, news_of, noted_at}
use Rattle.ncq_engine.specs.Engines.{news_in, notice_text, rows_in_file}
use Rattle.ncq_engine.specs.Output.{expired_line, ok_text}
use Rattle.ncq_engine.specs.Scans.{scanned_by}
use Rattle.ncq_engine.specs.Spans.{spans_of}

-- the line of a subscription that expires
abbrev pub line_of : Option Kept → List ℕ
line_of None = []
line_of (Some m) = expired_line m.name

abbrev pub expired_of : List Kept → ℕ → List ℕ
expired_of subscriptions install = line_of (subscription_of install subscriptions)

-- whether a subscription is there and has started
abbrev pub has_started : ℕ → Option Kept → Bool
has_started now None = false
has_started now (Some m) = nat_le m.timing.start now

-- its firing now, where it has started
abbrev pub started_at : ℕ → List Kept → ℕ → List Firing
started_at now subscriptions install =
    if has_started now (subscription_of install subscriptions)
    then record { instant = now; install = install } ∷ [] else []

-- whether a subscription has not fired yet, or one of its sources has changed since
abbrev pub has_its_news : StoreState → Option Kept → Bool
has_its_news store None = false
has_its_news store (Some m) = has_news_in store (mark_in store m) m.sources

abbrev pub is_news_at : StoreState → List Kept → Firing → Bool
is_news_at store subscriptions firing = has_its_news store (subscription_of firing.install
    subscriptions)

-- the notice of a firing
abbrev pub text_of
    : Handed → StoreState → Files → DistinctTable → ℕ → Option Kept → List ℕ
text_of handed store files distinct instant None = []
text_of handed store files distinct instant (Some m) =
    notice_text handed store files distinct m instant

abbrev pub firing_text
    : Handed → StoreState → Files → DistinctTable → List Kept → Firing → List ℕ
firing_text handed store files distinct subscriptions firing =
    text_of handed store files distinct firing.instant
    (subscription_of firing.install subscriptions)

-- the name of the subscription of a firing
abbrev pub name_of : Option Kept → List ℕ
name_of None = []
name_of (Some m) = m.name

abbrev pub firing_name : List Kept → Firing → List ℕ
firing_name subscriptions firing = name_of (subscription_of firing.install subscriptions)

-- whether the subscription is that of one of the firings
abbrev pub is_fired : List Firing → Kept → Bool
is_fired firings m = list_any (λ firing. is_of firing.install m) firings

-- the firings now of those subscriptions of these install numbers that have started
abbrev pub started_of : LiveState → List ℕ → List Firing
started_of live_table installs =
    flat_map (started_at live_table.instant live_table.subscriptions) installs

-- each subscription of the live table can be told
abbrev pub CanTellEach : Handed → StoreState → LiveState → Type 0
CanTellEach handed store live_table =
    AllByRecursion (CanTell handed store live_table.table) live_table.subscriptions

-- the notices of firings, one behind the other
abbrev pub firings_text
    : Handed → StoreState → DistinctTable → LiveState → List Firing → List ℕ
firings_text handed store distinct live_table firings =
    flat_map (firing_text handed store live_table.table.files distinct live_table.subscriptions)
    firings

-- where each of them stands, from this place on
abbrev pub firings_spans
    : Handed → StoreState → DistinctTable → LiveState → ℕ → List Firing → List Span
firings_spans handed store distinct live_table from firings =
    spans_of (firing_name live_table.subscriptions)
    (firing_text handed store live_table.table.files distinct live_table.subscriptions) from firings

-- the changes of the counts of a subscription with DISTINCT: what its rows tell, where it fires
abbrev pub awaited_of
    : Relations → StoreState → Files → List Firing → Option Kept → List Difference
awaited_of relations store files firings None = []
awaited_of relations store files firings (Some m) =
    if m.distinct && is_fired firings m then news_in relations store files m else []

-- these changes wait, and no others
abbrev pub Awaits
    : Relations → StoreState → LiveState → List Firing → DistinctTable → Type 0
Awaits relations store live_table firings distinct =
    (any : ℕ) → waiting_at distinct any
    ≡ awaited_of relations store live_table.table.files firings
    (subscription_of any live_table.subscriptions)

-- with DISTINCT what its rows tell waits, beside what waited for others
abbrev pub AwaitsNews
    : Relations → StoreState → Files → Kept → DistinctTable → DistinctTable → Type 0
AwaitsNews relations store files m old new =
    (any : ℕ) → waiting_at new any ≡ (if m.distinct && nat_eq any m.install
    then news_in relations store files m else waiting_at old any)

-- the subscriptions behind these firings at a number of changes
abbrev pub noted_by : ℕ → List Firing → List Kept → List Kept
noted_by number firings subscriptions =
    map (λ m. if is_fired firings m then noted_at number m else m) subscriptions

-- the subscriptions without those of these install numbers
abbrev pub without : List ℕ → List Kept → List Kept
without installs subscriptions = filter (λ m. not (list_any (nat_eq m.install) installs))
    subscriptions

-- each of the new files has the expression and the rows that it had among the old ones
abbrev pub AreOf : Files → Files → Type 0
AreOf old new =
    (number : ℕ) (file : KeptFile) → get new number ≡ Some file
    → (was : KeptFile) × (get old number ≡ Some was)
    × ((file.expr ≡ was.expr) × (file.content ≡ was.content))

-- the subscriptions of these install numbers are gone, and with them at most files
pub record IsLeftBy (installs : List ℕ) (old new : LiveState) : Type 0 where
  pub subscriptions : new.subscriptions ≡ without installs old.subscriptions
  pub instant : new.instant ≡ old.instant
  pub number : new.table.number ≡ old.table.number
  pub next_file : new.table.next_file ≡ old.table.next_file
  pub files : AreOf old.table.files new.table.files

-- what others find of it is fresh
abbrev pub IsKeyed : Relations → TableState → Latest → Type 0
IsKeyed relations table latest =
    IfSome latest.key (λ key. IsFresh relations table key latest.notice.entries)

-- the last change of what its file scans
abbrev pub KnowsChange : StoreState → TableState → Latest → Type 0
KnowsChange store table latest =
    (file : KeptFile) → get table.files latest.subscription.now.file.0 ≡ Some file
    → latest.changed ≡ latest_in store (scanned_by file.expr)

-- what the answer of a subscription gained and lost by the rows of its file since a mark, beside
-- the last change of its sources
pub record IsLatest (relations : Relations) (store : StoreState) (table : TableState)
    (latest : Latest) : Type 0 where
  pub changed : KnowsChange store table latest
  pub entries : latest.notice.entries
      ≡ entries_of relations latest.subscription.now.query
      (since_mark latest.mark (rows_in_file (get table.files latest.subscription.now.file.0)))
  pub key : IsKeyed relations table latest

-- there is what the subscription is told
abbrev pub HasNews : Relations → StoreState → Files → Kept → Option Latest → Type 0
HasNews relations store files m latest =
    (told : Latest) × (latest ≡ Some told)
    × (told.notice.entries ≡ entries_of relations m.query (news_of store files m))

-- the answer to the command of this number was appended: its first line, and the notices of these
-- firings
pub record IsAnswered (number : ℕ) (handed : Handed) (store : StoreState)
    (distinct : DistinctTable) (live_table : LiveState) (firings : List Firing)
    (old new : List ℕ) (answered : Answered) : Type 0 where
  pub written : new
      ≡ (old ++ ok_text number) ++ firings_text handed store distinct live_table firings
  pub from : answered.from ≡ length (old ++ ok_text number)
  pub to : answered.to ≡ length new
  pub spans : answered.spans
      ≡ firings_spans handed store distinct live_table (length (old ++ ok_text number)) firings
