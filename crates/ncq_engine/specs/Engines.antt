-- An engine and its subscriptions, as contracts see them, and what a firing makes of a
-- subscription.
use Rattle.std.specs.Prelude.{◌≡◌, ◌<◌, ◌≤◌, ◌==◌, ◌&&◌, ℕ, Bool, true, false, if◌then◌else◌}
use Rattle.std.specs.Prelude.{List, [], max, ◌*◌}
use Rattle.std.specs.Prelude.{◌∷◌, length}
use Rattle.std.specs.Prelude.{Option, Some, None, nat_eq, nat_lt, nat_le, slice_get, ◌+◌, IfSome}
use Rattle.std.specs.FinMap.{get, empty}
use Rattle.std.specs.Option.{option_map, unwrap_or}
use Rattle.std.specs.List.{list_any, AllByRecursion}
use Rattle.ncq_bag.specs.Counts.{turns}
use Rattle.ncq_bag.specs.declared.bag.Difference.{Difference}
use Rattle.ncq_base.specs.declared.atom.FileId.{FileId}
use Rattle.ncq_cache.specs.Cached.{Cached}
use Rattle.ncq_callback.specs.Labels.{Handed}
use Rattle.ncq_change.specs.Stores.{world_in}
use Rattle.ncq_distinct.specs.DistinctTables.{counts_at, DistinctTable}
use Rattle.ncq_event.specs.Instants.{due}
use Rattle.ncq_event.specs.declared.firing.Firing.{Firing}
use Rattle.ncq_event.specs.declared.timing.Timing.{Timing}
use Rattle.ncq_plan.specs.declared.query.NormalQuery.{NormalQuery}
use Rattle.ncq_plan.specs.Late.{bare_of}
use Rattle.ncq_plan.specs.Relations.{Relations}
use Rattle.ncq_plan.specs.WellFormed.{IsWellFormed}
use Rattle.ncq_strategy.specs.Choices.{choice_of}
use Rattle.ncq_midfile.specs.Content.{IsSoundAt}
use Rattle.ncq_midfile.specs.declared.signed.SignedRow.{SignedRow}
use Rattle.ncq_shelf.specs.KeptFiles.{EachFile, KeptFile, Files}
use Rattle.ncq_shelf.specs.Contents.{Fits}
use Rattle.ncq_group.specs.Tables.{TableState}
use Rattle.ncq_live.specs.LiveTables.{plan_in}
use Rattle.ncq_source.specs.StoreStates.{StoreState, source_named}
use Rattle.ncq_source.specs.Stores.{Source}
use Rattle.ncq_book.specs.declared.subscription.Subscription.{Subscription as Kept}
use Rattle.ncq_book.specs.Books.{InstallsRise}
use Rattle.ncq_news.specs.News.{since_mark, entries_of}
use Rattle.ncq_xmlql.specs.declared.model.Statement.{Statement}
use Rattle.ncq_source.specs.declared.change.Section.{Section}
use Rattle.ncq_engine.specs.Cached.{AllServe}
use Rattle.ncq_engine.specs.Firing.{are_named, sources_of}
use Rattle.ncq_engine.specs.Notices.{rendered}
use Rattle.ncq_engine.specs.Scans.{scanned_by}

-- the number of the last change of the source of this name, 0 where it never changed or is not
-- declared
abbrev pub last_of : Option Source → ℕ
last_of None = 0
last_of (Some source) = source.last

abbrev pub last_in : StoreState → List ℕ → ℕ
last_in store name = last_of (source_named store name)

-- the greatest of the last changes of these sources
abbrev pub latest_in : StoreState → List (List ℕ) → ℕ
latest_in store [] = 0
latest_in store (source ∷ more) = max (last_in store source) (latest_in store more)

-- the number of changes at its latest firing: of one that fires at changes it follows from its
-- first firing and the last changes of its sources
abbrev pub mark_in : StoreState → Kept → Option ℕ
mark_in store m = if m.timing.every == 0
    then option_map (λ first. max first (latest_in store m.sources)) m.noted else m.noted

-- the signed rows of a file
abbrev pub rows_in_file : Option KeptFile → List SignedRow
rows_in_file None = []
rows_in_file (Some file) = file.content.rows

-- the signed rows of its file behind its mark
abbrev pub news_of : StoreState → Files → Kept → List SignedRow
news_of store files m = since_mark (mark_in store m) (rows_in_file (get files m.file.0))

-- what they tell of all that its query answers
abbrev pub news_in : Relations → StoreState → Files → Kept → List Difference
news_in relations store files m = entries_of relations m.query (news_of store files m)

-- what it is told of that: with DISTINCT what leaves 0 or reaches it in its counts
abbrev pub told_in
    : Relations → StoreState → Files → DistinctTable → Kept → List Difference
told_in relations store files distinct m = if m.distinct
    then turns (counts_at distinct m.install) (news_in relations store files m)
    else news_in relations store files m

-- the text of a notice of these entries
abbrev pub entries_text : Handed → Kept → ℕ → List Difference → List ℕ
entries_text handed m instant entries =
    rendered (option_map (λ label. label.1) (slice_get handed.labels m.action)) m.argument m.name
    instant entries

-- what it is told at an instant
abbrev pub notice_text
    : Handed → StoreState → Files → DistinctTable → Kept → ℕ → List ℕ
notice_text handed store files distinct m instant =
    entries_text handed m instant (told_in handed.relations store files distinct m)

-- whether it fires at a change of these sections now
abbrev pub is_told_change : List Section → ℕ → Kept → Bool
is_told_change changed now m =
    m.timing.every == 0 && nat_le m.timing.start now && are_named changed m.sources

-- whether a source of it has a change above this number, or there is no number
abbrev pub has_news_in : StoreState → Option ℕ → List (List ℕ) → Bool
has_news_in store None sources = true
has_news_in store (Some number) sources =
    list_any (λ source. nat_lt number (last_in store source)) sources

-- the instant at which a move of the clock fires it
abbrev pub moved_instant : StoreState → ℕ → ℕ → Kept → Option ℕ
moved_instant store now to m =
    if has_news_in store (mark_in store m) m.sources then due m.timing now to else None

-- a subscription that can be told: its query is well formed, its handler is there, it has the file
-- of its plan, and that file tells its content now and at the subscription's mark, which is not
-- later than the files; its sources last change when those do that its plan scans
pub record CanTell (handed : Handed) (store : StoreState) (table : TableState) (m : Kept)
    : Type 0 where
  pub formed : IsWellFormed m.query
  pub action : m.action < length handed.labels
  pub file : KeptFile
  pub at : get table.files m.file.0 ≡ Some file
  pub own : file.expr ≡ plan_in m
  pub sound : IsSoundAt table.number file.content.rows
  pub base : IfSome (mark_in store m) (λ number. file.content.base ≤ number)
  pub mark : IfSome (mark_in store m) (λ number. number ≤ table.number)
  pub asked : (any : StoreState) → latest_in any m.sources ≡ latest_in any (scanned_by (plan_in m))

-- a subscription that has fired at a number of changes
abbrev pub noted_at : ℕ → Kept → Kept
noted_at number m = record m { noted = Some number }

-- it fired where the test says so, and else it is as it was
abbrev pub fired_if : Bool → StoreState → Kept → Kept
fired_if fires store m = if fires then noted_at store.changes m else m

-- the two lists are of one length, and the items at each place are so related
abbrev pub Pairwise : {A B : Type 0} → (A → B → Type 0) → List A → List B → Type 0
Pairwise R [] [] = Unit {0}
Pairwise R [] (y ∷ ys) = ⊥
Pairwise R (x ∷ xs) [] = ⊥
Pairwise R (x ∷ xs) (y ∷ ys) = R x y × Pairwise R xs ys

-- a firing with the name of its subscription and the text of its notice
pub record NoticeText : Type 0 where
  pub firing : Firing
  pub name : List ℕ
  pub text : List ℕ

-- its notice where it fires, with the firing
abbrev pub notice_texts
    : Handed → StoreState → Files → DistinctTable → Kept → Option ℕ → List NoticeText
notice_texts handed store files distinct m None = []
notice_texts handed store files distinct m (Some instant) =
    record {
      firing = record { instant = instant; install = m.install };
      name = m.name;
      text = notice_text handed store files distinct m instant;
    } ∷ []

-- none has an install number above this one
abbrev pub InstallsAreUpTo : ℕ → List Kept → Type 0
InstallsAreUpTo most subscriptions = AllByRecursion (λ m. m.install ≤ most) subscriptions

-- the subscription that a create makes where so many live ones have its bare plan, before its first
-- firing
abbrev pub new_subscription : Statement → NormalQuery → ℕ → Timing → ℕ → ℕ → FileId → Kept
new_subscription statement query live timing action creates file = record {
  name = statement.name;
  sources = sources_of statement;
  query = query;
  bare = bare_of query;
  choice = choice_of query live;
  distinct = statement.query.distinct;
  file = file;
  timing = timing;
  action = action;
  argument = unwrap_or statement.argument [];
  install = creates + 1;
  noted = None;
}

-- at each change from a file's base on no row of it went out more often than it came in
abbrev pub AreSound : Files → Type 0
AreSound files = EachFile files (λ number file.
    (n : ℕ) → file.content.base ≤ n → IsSoundAt n file.content.rows)

-- counts are kept of those of the subscriptions alone that have DISTINCT
abbrev pub KeepsCounts : List Kept → DistinctTable → Type 0
KeepsCounts subscriptions distinct =
    (install : ℕ) → list_any (λ m. m.distinct && nat_eq m.install install) subscriptions ≡ false
    → counts_at distinct install ≡ empty

-- what holds of an engine whatever was answered: there are no more changes and creates than
-- commands, and no source has changed later; its subscriptions can be told and rise
-- by install number; its files have the rows of the sources as they stand, and were sound at each
-- change since their bases, and no more numbers were given than creates can take
pub record IsEngine (store : StoreState) (count creates : ℕ) (handed : Handed)
    (subscriptions : List Kept) (table : TableState) (cache : List Cached)
    (distinct : DistinctTable) : Type 0 where
  pub changes : store.changes ≤ count
  pub creates_too : creates ≤ count
  pub lasts : (name : List ℕ) → last_in store name ≤ store.changes
  pub can : AllByRecursion (CanTell handed store table) subscriptions
  pub rise : InstallsRise subscriptions
  pub installed : InstallsAreUpTo creates subscriptions
  pub number : table.number ≡ store.changes
  pub fits : Fits table.number (world_in store) table.files
  pub sound : AreSound table.files
  pub next : table.next_file ≤ 256 * creates
  pub serve : AllServe handed.relations table cache
  pub counts : KeepsCounts subscriptions distinct
