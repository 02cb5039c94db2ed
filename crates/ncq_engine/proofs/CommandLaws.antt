-- What the engine stands for behind a declaration and behind a delete.
use Rattle.std.proofs.Common.{◌≡◌, ℕ, ◌+◌, Bool, true, false, not, ◌||◌, cond, List, [], ◌∷◌, ◌++◌, length, slice_get, refl, sym, ◌∙◌, ap, subst, arith, inl, inr, zero-add}
use Rattle.std.specs.Prelude.{Option, Some, None, Result, Ok, Err, IsSome, is_some, nat_eq, ◌⊎◌}
use Rattle.std.specs.List.{filter, find, flat_map, list_any, AllByRecursion}
use Rattle.std.specs.FinMap.{empty}
use Rattle.std.specs.Str.{bytes_eq}
use Rattle.std.proofs.lemmas.Option.{slice_get_cases}
use Rattle.ncq_distinct.specs.DistinctTables.{DistinctTable}
use Rattle.ncq_script.specs.declared.command.Command.TheVariants.{Declare, Delete, Malformed}
use Rattle.ncq_script.specs.declared.refusal.Refusal.{Refusal}
use Rattle.ncq_script.specs.declared.refusal.Refusal.TheVariants as refusal
use Rattle.ncq_source.specs.declared.key.Key.{Key}
use Rattle.ncq_source.specs.Stores.{Source as Declared}
use Rattle.ncq_source.specs.StoreStates.{StoreState, Declares, found}
use Rattle.ncq_source.specs.declared.change.SourceId.{SourceId}
use Rattle.ncq_source.specs.declared.store.DeclareError.{DeclareError}
use Rattle.ncq_source.specs.declared.store.DeclareError.TheVariants.{Exists}
use Rattle.ncq_engine.specs.declared.telling.Answered.{Answered}
use Rattle.ncq_engine.specs.declared.engine.ApplyError.{ApplyError}
use Rattle.ncq_engine.specs.declared.engine.ApplyError.TheVariants.{Refused}
use Rattle.ncq_book.specs.declared.subscription.Subscription.{Subscription as Kept}
use Rattle.ncq_engine.specs.Applies.{Applies, ok_text}
use Rattle.ncq_group.specs.Tables.{TableState}
use Rattle.ncq_engine.specs.DistinctCounts.{IsCounted}
use Rattle.ncq_engine.specs.Engines.{Pairwise}
use Rattle.ncq_engine.specs.Tellings.{AreOf, IsLeftBy, without}
use Rattle.ncq_book.specs.Books.{is_of, InstallsRise, NamesDiffer}
use Rattle.ncq_book.specs.Kept.{install_of}
use Rattle.ncq_engine.proofs.NamedLaws.{named_is}
use Rattle.ncq_live.specs.LiveTables.{LiveState}
use Rattle.std.specs.Option.{option_map}
use Rattle.ncq_engine.specs.History.{History, Source, Subscription, changes, creates as creates_of, is_named, live, source_in}
use Rattle.ncq_engine.specs.Output.{is_taken, refused_if}
use Rattle.ncq_engine.specs.Spans.{spans_of}
use Rattle.ncq_engine.specs.Stands.{EngineState, Follows, Keeps}
use Rattle.ncq_engine.proofs.ContentLaws.{contents_left, contents_stay}
use Rattle.ncq_engine.proofs.CountedLaws.{counted_left, counted_quietly, stay_out}
use Rattle.ncq_engine.proofs.KeptCounts.{AreRemoved}
use Rattle.ncq_engine.proofs.Lists.{each_filter}
use Rattle.ncq_engine.proofs.EngineLaws.{accepts_quietly, keep_quiet, pairwise_any, pairwise_filter, refuses, rises_quietly, told_nobody}
use Rattle.ncq_engine.proofs.Places.{found_within, is_found, not_found, one_declared}
use Rattle.ncq_engine.proofs.StoreLaws.{last_declared}

-- a name is found nowhere, or at a place where a source stands
abbrev pub IsPlace : StoreState → List ℕ → Type 0
IsPlace store name = (found store name ≡ None) ⊎ ((at : ℕ) × (d : Declared) × (found store name ≡ Some at) × (slice_get store.sources at ≡ Some d))

place_of : (store : StoreState) (name : List ℕ) (o : Option ℕ) → found store name ≡ o → IsPlace store name
place_of store name None e = inl e
place_of store name (Some at) e =
    elim (slice_get_cases store.sources at).1 [
      | inl here ↦ inr (at, here.0, e, here.2)
      | inr gone ↦ absurd (let within = found_within name store.sources at e in let past = gone.0 in omega (arith, within, past))
    ]

pub place : (store : StoreState) (name : List ℕ) → IsPlace store name
place store name = place_of store name (found store name) refl

module _ (engine : EngineState) (out : List ℕ) (applied : Answered) (out' : List ℕ)
    (text : out' ≡ out ++ ok_text (engine.count + 1)) (places : applied ≡ record { from = length out'; to = length out'; spans = [] }) where
  pub declare_accepted : (name root : List ℕ) (key : Key) (store' : StoreState) → (IsSome (found engine.store name) → ⊥) → Declares engine.store store' name root key
      → Applies engine (Declare name root key) out (Ok applied) (record engine { store = store'; count = engine.count + 1 }) out'
  declare_accepted name root key store' new declares =
      accepts_quietly engine (Declare name root key) out applied (record engine { store = store'; count = engine.count + 1 }) out'
      (record {
        accepted = λ h s. elim (place engine.store name) [
          | inr p ↦ absurd (new (subst IsSome (sym p.2) refl))
          | inl none ↦ ap (λ o. refused_if (is_some o) refusal.SourceExists) (ap (source_in name) (sym s.sources) ∙ not_found name engine.store.sources none)
        ];
        follows = λ h s. record {
          sources = one_declared engine.store.sources store'.sources name root key declares.sources
              ∙ ap (λ (ss : List Source). ss ++ record { name = name; root = root; key = key; elements = empty } ∷ []) s.sources;
          last = λ asked. last_declared engine.store store' asked name root key declares.sources ∙ s.last asked;
          changes = declares.changes ∙ s.changes ∙ sym (zero-add (changes h));
          clock = s.clock;
          creates = s.creates ∙ sym (zero-add (creates_of h));
          subscriptions = keep_quiet engine.handed h (Declare name root key) (λ _. refl) engine.subscriptions s.subscriptions;
          contents = contents_stay engine.table.files h (Declare name root key) (zero-add (changes h)) s.contents;
          counted = counted_quietly engine.handed.relations h (Declare name root key) (λ _. refl) engine.distinct (live h) s.counted;
          rising = rises_quietly h (Declare name root key) refl s.rising;
        };
        tells = λ h s. ap (flat_map _) (sym (told_nobody h (Declare name root key) (λ _. refl)));
        stand = λ h s. ap (spans_of _ _ (length out')) (sym (told_nobody h (Declare name root key) (λ _. refl)));
        ends = λ h s. refl;
        counted = refl;
        named = refl;
      }) text places

  named_alike : (name : List ℕ) (h : History) (s : Subscription) (m : Kept) → Keeps engine.handed h s m → is_named name s ≡ bytes_eq name m.name
  named_alike name h s m k = ap (bytes_eq name) (sym k.name)

  pub taken_is : (name : List ℕ) (h : History) → Pairwise (Keeps engine.handed h) (live h) engine.subscriptions → is_taken name h ≡ list_any (λ m. bytes_eq name m.name) engine.subscriptions
  taken_is name h p = pairwise_any (Keeps engine.handed h) (is_named name) (λ m. bytes_eq name m.name) (named_alike name h) (live h) engine.subscriptions p

  -- the subscription of the name is gone, and its files and counts with it
  pub delete_accepted : (name : List ℕ) (left : List Kept) (table' : TableState) → list_any (λ m. bytes_eq name m.name) engine.subscriptions ≡ true → left ≡ filter (λ m. not (bytes_eq name m.name)) engine.subscriptions → AreOf engine.table.files table'.files
      → (distinct' : DistinctTable) (installs : List ℕ) → AllByRecursion (λ m. list_any (nat_eq m.install) installs ≡ false) left → AreRemoved installs engine.distinct distinct'
      → Applies engine (Delete name) out (Ok applied) (record engine { count = engine.count + 1; subscriptions = left; table = table'; distinct = distinct' }) out'
  delete_accepted name left table' has gone fewer distinct' installs stay removed =
      accepts_quietly engine (Delete name) out applied (record engine { count = engine.count + 1; subscriptions = left; table = table'; distinct = distinct' }) out'
      (record {
        accepted = λ h s. ap (λ t. refused_if (not t) refusal.NoName) (taken_is name h s.subscriptions ∙ has);
        follows = λ h s. record {
          sources = s.sources;
          last = s.last;
          changes = s.changes ∙ sym (zero-add (changes h));
          clock = s.clock;
          creates = s.creates ∙ sym (zero-add (creates_of h));
          subscriptions = left_kept h s;
          contents = contents_left engine.table.files table'.files (Delete name ∷ h) fewer (contents_stay engine.table.files h (Delete name) (zero-add (changes h)) s.contents);
          counted = counted_left engine.handed (Delete name ∷ h) installs engine.distinct distinct' removed (live (Delete name ∷ h)) left (left_kept h s) stay
              (each_filter (IsCounted engine.handed.relations (Delete name ∷ h) engine.distinct) (λ s. not (is_named name s)) (live h) (counted_quietly engine.handed.relations h (Delete name) (λ _. refl) engine.distinct (live h) s.counted));
          rising = rises_quietly h (Delete name) refl s.rising;
        };
        tells = λ h s. ap (flat_map _) (sym (told_nobody h (Delete name) (λ _. refl)));
        stand = λ h s. ap (spans_of _ _ (length out')) (sym (told_nobody h (Delete name) (λ _. refl)));
        ends = λ h s. refl;
        counted = refl;
        named = refl;
      }) text places
    where
      left_kept : (h : History) → Follows engine h → Pairwise (Keeps engine.handed (Delete name ∷ h)) (live (Delete name ∷ h)) left
      left_kept h s = subst (λ (ms : List Kept). Pairwise (Keeps engine.handed (Delete name ∷ h)) (live (Delete name ∷ h)) ms) (sym gone)
          (pairwise_filter (Keeps engine.handed (Delete name ∷ h)) (λ s. not (is_named name s)) (λ m. not (bytes_eq name m.name)) (λ s m k. ap (λ t. not (bytes_eq name t)) (sym k.name)) (live h) engine.subscriptions
          (keep_quiet engine.handed h (Delete name) (λ _. refl) engine.subscriptions s.subscriptions))

module _ (engine : EngineState) (out : List ℕ) (result : Result Answered ApplyError) (new : EngineState) (out' : List ℕ)
    (same : new ≡ record engine { count = engine.count + 1 }) (untouched : out' ≡ out) where
  -- a source of the name is declared already
  pub declare_refused : (name root : List ℕ) (key : Key) → result ≡ Err (Refused refusal.SourceExists) → IsSome (found engine.store name) → Applies engine (Declare name root key) out result new out'
  declare_refused name root key is some = refuses engine (Declare name root key) refusal.SourceExists out result new out' is same untouched (λ h s.
      elim (place engine.store name) [
        | inl none ↦ absurd (let bad = subst IsSome none some in (let w : ⊥ = cc in w))
        | inr p ↦ ap (λ o. refused_if (is_some o) refusal.SourceExists) (ap (source_in name) (sym s.sources) ∙ is_found name engine.store.sources p.0 p.1 p.2 p.3)
      ])

  pub delete_refused : (name : List ℕ) → result ≡ Err (Refused refusal.NoName) → list_any (λ m. bytes_eq name m.name) engine.subscriptions ≡ false → Applies engine (Delete name) out result new out'
  delete_refused name is none = refuses engine (Delete name) refusal.NoName out result new out' is same untouched (λ h s.
      ap (λ t. refused_if (not t) refusal.NoName)
      (pairwise_any (Keeps engine.handed h) (is_named name) (λ m. bytes_eq name m.name) (λ s m k. ap (bytes_eq name) (sym k.name)) (live h) engine.subscriptions s.subscriptions ∙ none))

  -- commands that are refused whatever the history
  pub malformed_refused : (why : Refusal) → result ≡ Err (Refused why) → Applies engine (Malformed why) out result new out'
  malformed_refused why is = refuses engine (Malformed why) why out result new out' is same untouched (λ h s. refl)

pub not_exists : (result : Result SourceId DeclareError) (id : SourceId) → result ≡ Ok id → result ≡ Err Exists → ⊥
not_exists result id is e = let bad : ◌≡◌ {A = Result SourceId DeclareError} (Ok id) (Err Exists) = sym is ∙ e in cc

-- those without one number
pub without_one : (install : ℕ) (ms : List Kept) → without (install ∷ []) ms ≡ filter (λ m. not (is_of install m)) ms
without_one install [] = refl
without_one install (m ∷ ms) =
    λ i. cond (not (or_false (is_of install m) i)) (m ∷ without_one install ms i) (without_one install ms i)
  where
    or_false : (b : Bool) → (b || false) ≡ b
    or_false true = refl
    or_false false = refl

-- a name that is found is that of a subscription, and one that is not found is that of none
pub some_named : (name : List ℕ) (ms : List Kept) (install : ℕ) → option_map (λ m. m.install) (find (λ m. bytes_eq name m.name) ms) ≡ Some install → list_any (λ m. bytes_eq name m.name) ms ≡ true
some_named name [] install e = absurd cc
some_named name (m ∷ ms) install e =
    elim (bytes_eq name m.name) as (λ t. option_map (λ m. m.install) (cond t (Some m) (find (λ m. bytes_eq name m.name) ms)) ≡ Some install → (t || list_any (λ m. bytes_eq name m.name) ms) ≡ true) [
      | true ↦ λ q. refl
      | false ↦ λ q. some_named name ms install q
    ] e

pub none_named : (name : List ℕ) (ms : List Kept) → option_map (λ m. m.install) (find (λ m. bytes_eq name m.name) ms) ≡ None → list_any (λ m. bytes_eq name m.name) ms ≡ false
none_named name [] e = refl
none_named name (m ∷ ms) e =
    elim (bytes_eq name m.name) as (λ t. option_map (λ m. m.install) (cond t (Some m) (find (λ m. bytes_eq name m.name) ms)) ≡ None → (t || list_any (λ m. bytes_eq name m.name) ms) ≡ false) [
      | true ↦ λ q. absurd cc
      | false ↦ λ q. none_named name ms q
    ] e

-- a delete that is accepted, from what the calls give
pub delete_answers : (e : EngineState) (name : List ℕ) (install : ℕ) → install_of name e.subscriptions ≡ Some install → InstallsRise e.subscriptions → NamesDiffer e.subscriptions
    → (live_table : LiveState) → IsLeftBy (install ∷ []) (record { table = e.table; subscriptions = e.subscriptions; instant = e.clock }) live_table
    → (distinct' : DistinctTable) → AreRemoved (install ∷ []) e.distinct distinct'
    → (out : List ℕ) (applied : Answered) (out' : List ℕ) → out' ≡ out ++ ok_text (e.count + 1) → applied ≡ record { from = length out'; to = length out'; spans = [] }
    → Applies e (Delete name) out (Ok applied) (record e { clock = live_table.instant; count = e.count + 1; subscriptions = live_table.subscriptions; table = live_table.table; distinct = distinct' }) out'
delete_answers e name install found rise differ live_table left distinct' removed out applied out' text places =
    subst (λ (n : ℕ). Applies e (Delete name) out (Ok applied) (record e { clock = n; count = e.count + 1; subscriptions = live_table.subscriptions; table = live_table.table; distinct = distinct' }) out') (sym left.instant)
    (delete_accepted e out applied out' text places name live_table.subscriptions live_table.table (some_named name e.subscriptions install found)
    (left.subscriptions ∙ without_one install e.subscriptions ∙ named_is name install e.subscriptions rise differ found) left.files distinct' (install ∷ [])
    (subst (λ (ms : List Kept). AllByRecursion (λ m. list_any (nat_eq m.install) (install ∷ []) ≡ false) ms) (sym left.subscriptions) (stay_out (install ∷ []) e.subscriptions)) removed)
