-- What holds of an engine whatever was answered, behind each step of the code.
use Rattle.std.proofs.Common.{◌≡◌, ℕ, ◌+◌, ◌*◌, ◌<◌, ◌≤◌, Bool, true, false, cond, List, [], ◌∷◌, ◌++◌, map, refl, sym, ◌∙◌, ap, subst, arith}
use Rattle.std.specs.Prelude.{not, nat_eq}
use Rattle.std.specs.List.{filter, list_any, AllByRecursion}
use Rattle.ncq_cache.specs.Cached.{Cached}
use Rattle.ncq_change.specs.Stores.{world_in}
use Rattle.ncq_distinct.specs.DistinctTables.{DistinctTable, HaveSameCounts}
use Rattle.ncq_feed.specs.Feeds.{AreFed}
use Rattle.ncq_group.specs.Installs.{IsInstalled}
use Rattle.ncq_group.specs.Tables.{TableState}
use Rattle.ncq_plan.specs.declared.expr.Expr.{Expr}
use Rattle.ncq_plan.specs.Exprs.{World, operators, rows_in}
use Rattle.ncq_midfile.specs.Content.{IsContent}
use Rattle.ncq_midfile.specs.Files.{FileState}
use Rattle.ncq_shelf.specs.KeptFiles.{Files}
use Rattle.ncq_live.specs.LiveTables.{IsLiveTable, LiveState, plan_in}
use Rattle.ncq_shelf.specs.Contents.{AreUpTo, Fits}
use Rattle.ncq_shelf.specs.Stands.{Stands as HasFile}
use Rattle.ncq_source.specs.declared.change.Portion.{Portion}
use Rattle.ncq_source.specs.declared.key.Key.{Key}
use Rattle.ncq_source.specs.Stores.{without_room}
use Rattle.ncq_source.specs.StoreStates.{StoreState, Declares, IsAlike}
use Rattle.ncq_book.specs.declared.subscription.Subscription.{Subscription as Kept}
use Rattle.ncq_book.specs.Books.{InstallsRise}
use Rattle.ncq_engine.specs.Cached.{AllServe}
use Rattle.ncq_engine.specs.Engines.{CanTell, InstallsAreUpTo, IsEngine, KeepsCounts, fired_if, last_in}
use Rattle.ncq_engine.specs.History.{world}
use Rattle.ncq_engine.specs.Stands.{EngineState, content_of}
use Rattle.ncq_engine.specs.Tellings.{AreOf, IsLeftBy, without}
use Rattle.ncq_engine.proofs.CachedLaws.{serve_fed, serve_installed, serve_left}
use Rattle.ncq_engine.proofs.KeptCounts.{AreRemoved, counts_joined, counts_left, counts_noted, counts_same}
use Rattle.ncq_engine.proofs.Lists.{each_filter, each_more, each_push}
use Rattle.ncq_engine.proofs.Places.{one_declared, room_is_no_content}
use Rattle.ncq_engine.proofs.Sounds.{sound_fed, sound_installed, sound_left}
use Rattle.ncq_engine.proofs.StoreLaws.{last_alike, last_declared}
use Rattle.ncq_engine.proofs.TableLaws.{can_left, can_noted, can_store, can_table, fed_still, installed_still}
use Rattle.ncq_plan.specs.Relations.{Relations}
use Rattle.ncq_engine.proofs.Worlds.{new_is_empty, world_is}

abbrev pub Invariant : EngineState → Type 0
Invariant e = IsEngine e.store e.count e.creates e.handed e.subscriptions e.table e.cache e.distinct

-- where nothing is kept of what was told, all of it serves
pub none_serve : (relations : Relations) (table : TableState) (cache : List Cached) → cache ≡ [] → AllServe relations table cache
none_serve relations table cache nothing = subst (AllServe relations table) (sym nothing) tt

-- what is kept of what was told is another
pub invariant_cached : (e : EngineState) (cache : List Cached) → AllServe e.handed.relations e.table cache → Invariant e → Invariant (record e { cache = cache })
invariant_cached e cache serve i = record {
  changes = i.changes;
  creates_too = i.creates_too;
  lasts = i.lasts;
  can = i.can;
  rise = i.rise;
  installed = i.installed;
  number = i.number;
  fits = i.fits;
  sound = i.sound;
  next = i.next;
  serve = serve;
  counts = i.counts;
}

-- the counts are others
pub invariant_counts : (e : EngineState) (distinct : DistinctTable) → KeepsCounts e.subscriptions distinct → Invariant e → Invariant (record e { distinct = distinct })
invariant_counts e distinct counts i = record {
  changes = i.changes;
  creates_too = i.creates_too;
  lasts = i.lasts;
  can = i.can;
  rise = i.rise;
  installed = i.installed;
  number = i.number;
  fits = i.fits;
  sound = i.sound;
  next = i.next;
  serve = i.serve;
  counts = counts;
}

-- the same counts are kept, and other changes of them wait
pub invariant_waits : (e : EngineState) (distinct : DistinctTable) → HaveSameCounts e.distinct distinct → Invariant e → Invariant (record e { distinct = distinct })
invariant_waits e distinct same i = invariant_counts e distinct (counts_same e.subscriptions e.distinct distinct same i.counts) i

-- it holds with the same subscriptions and files, wherever they are kept
pub invariant_same : (e : EngineState) (live_table : LiveState) → live_table.subscriptions ≡ e.subscriptions → live_table.table ≡ e.table → Invariant e → Invariant (record e { subscriptions = live_table.subscriptions; table = live_table.table })
invariant_same e live_table subscriptions table =
    subst (λ (p : List Kept × TableState). IsEngine e.store e.count e.creates e.handed p.0 p.1 e.cache e.distinct) (λ j. (sym subscriptions j, sym table j))

-- sources that differ in room alone have one world
pub world_alike : (old new : StoreState) → map without_room new.sources ≡ map without_room old.sources → world_in new ≡ world_in old
world_alike old new alike =
    sym (world_is new (map content_of new.sources) refl) ∙ ap world (room_is_no_content old.sources new.sources alike) ∙ world_is old (map content_of old.sources) refl

-- so have those with one more, which has no elements
pub world_declared : (old new : StoreState) (name root : List ℕ) (key : Key) → Declares old new name root key → world_in new ≡ world_in old
world_declared old new name root key d =
    sym (world_is new (map content_of new.sources) refl) ∙ ap world (one_declared old.sources new.sources name root key d.sources)
    ∙ (λ i. λ asked. new_is_empty asked name root key (map content_of old.sources) i)
    ∙ world_is old (map content_of old.sources) refl

-- a command that is counted
pub invariant_counted : (e : EngineState) → Invariant e → Invariant (record e { count = e.count + 1 })
invariant_counted e i =
    let a = i.changes in let b = i.creates_too in
    record {
      changes = (let l : e.store.changes ≤ e.count + 1 = omega (arith, a) in l);
      creates_too = (let l : e.creates ≤ e.count + 1 = omega (arith, b) in l);
      lasts = i.lasts;
      can = i.can;
      rise = i.rise;
      installed = i.installed;
      number = i.number;
      fits = i.fits;
      sound = i.sound;
      next = i.next;
      serve = i.serve;
      counts = i.counts;
    }

-- one more source
pub invariant_declared : (e : EngineState) (store : StoreState) (name root : List ℕ) (key : Key) → Declares e.store store name root key → Invariant e → Invariant (record e { store = store })
invariant_declared e store name root key d i =
    let few = i.changes in
    let same = d.changes in
    let last : (asked : List ℕ) → last_in store asked ≡ last_in e.store asked = λ asked. last_declared e.store store asked name root key d.sources in
    record {
      changes = (let l : store.changes ≤ e.count = omega (arith, few, same) in l);
      creates_too = i.creates_too;
      lasts = λ asked. (let a = last asked in let b = i.lasts asked in let l : last_in store asked ≤ store.changes = omega (arith, a, b, same) in l);
      can = each_more (CanTell e.handed e.store e.table) (CanTell e.handed store e.table)
          (can_store e.handed e.store store e.table (λ asked. let a = last asked in let l : last_in e.store asked ≤ last_in store asked = omega (arith, a) in l)
          (λ asked. let a = last asked in let b = i.lasts asked in let n = i.number in let l : last_in store asked ≤ e.table.number = omega (arith, a, b, n) in l)) e.subscriptions i.can;
      rise = i.rise;
      installed = i.installed;
      number = i.number ∙ sym same;
      fits = subst (λ w. Fits e.table.number w e.table.files) (sym (world_declared e.store store name root key d)) i.fits;
      sound = i.sound;
      next = i.next;
      serve = i.serve;
      counts = i.counts;
    }

-- room for sources
pub invariant_alike : (e : EngineState) (store : StoreState) → IsAlike e.store store → Invariant e → Invariant (record e { store = store })
invariant_alike e store alike i =
    let few = i.changes in
    let same = alike.changes in
    let last : (asked : List ℕ) → last_in store asked ≡ last_in e.store asked = λ asked. last_alike e.store store asked alike.sources in
    record {
      changes = (let l : store.changes ≤ e.count = omega (arith, few, same) in l);
      creates_too = i.creates_too;
      lasts = λ asked. (let a = last asked in let b = i.lasts asked in let l : last_in store asked ≤ store.changes = omega (arith, a, b, same) in l);
      can = each_more (CanTell e.handed e.store e.table) (CanTell e.handed store e.table)
          (can_store e.handed e.store store e.table (λ asked. let a = last asked in let l : last_in e.store asked ≤ last_in store asked = omega (arith, a) in l)
          (λ asked. let a = last asked in let b = i.lasts asked in let n = i.number in let l : last_in store asked ≤ e.table.number = omega (arith, a, b, n) in l)) e.subscriptions i.can;
      rise = i.rise;
      installed = i.installed;
      number = i.number ∙ sym same;
      fits = subst (λ w. Fits e.table.number w e.table.files) (sym (world_alike e.store store alike.sources)) i.fits;
      sound = i.sound;
      next = i.next;
      serve = i.serve;
      counts = i.counts;
    }

-- files that were fed stand one change later
later : (old new : TableState) → new.number ≡ old.number + 1 → old.number ≤ new.number
later old new number = let l : old.number ≤ new.number = omega (arith, number) in l

-- the files were fed, and the change was committed
pub invariant_changed : (e : EngineState) (change : List Portion) (store : StoreState) (table : TableState) → Invariant e → store.changes ≡ e.store.changes + 1 → e.store.changes + 1 ≤ e.count
    → ((name : List ℕ) → last_in e.store name ≤ last_in store name) → ((name : List ℕ) → last_in store name ≤ store.changes)
    → AreFed e.store change e.table.files table.files → Fits table.number (world_in store) table.files → AreUpTo table.number table.files → table.number ≡ e.table.number + 1 → table.next_file ≡ e.table.next_file
    → Invariant (record e { store = store; table = table })
invariant_changed e change store table i more few last lasts fed fits upto number next = record {
  changes = (let l : store.changes ≤ e.count = omega (arith, more, few) in l);
  creates_too = i.creates_too;
  lasts = lasts;
  can = each_more (CanTell e.handed e.store e.table) (CanTell e.handed store table)
      (λ m can. can_store e.handed e.store store table last few_lasts m
      (can_table e.handed e.store e.table table (later e.table table number) (fed_still e.store change e.table table (world_in store) fed fits) m can)) e.subscriptions i.can;
  rise = i.rise;
  installed = i.installed;
  number = number_is ∙ sym more;
  fits = fits;
  sound = sound_fed e.store change e.table.files table.files (world_in store) fed (subst (λ n. Fits n (world_in store) table.files) number_is fits) (subst (λ n. AreUpTo n table.files) number_is upto) i.sound;
  next = (let n = i.next in let l : table.next_file ≤ 256 * e.creates = omega (arith, n, next) in l);
  serve = serve_fed e.handed.relations e.table table e.cache number next i.serve;
  counts = i.counts;
}
  where
    number_is : table.number ≡ e.store.changes + 1
    number_is = number ∙ ap (λ n. n + 1) i.number

    few_lasts : (name : List ℕ) → last_in store name ≤ table.number
    few_lasts name = let a = lasts name in omega (arith, a, more, number_is)

-- before the commit the subscriptions can be told
pub can_fed : (e : EngineState) (change : List Portion) (w : World) (table : TableState) → Invariant e → AreFed e.store change e.table.files table.files → Fits table.number w table.files → table.number ≡ e.table.number + 1
    → AllByRecursion (CanTell e.handed e.store table) e.subscriptions
can_fed e change w table i fed fits number =
    each_more (CanTell e.handed e.store e.table) (CanTell e.handed e.store table)
    (can_table e.handed e.store e.table table (later e.table table number) (fed_still e.store change e.table table w fed fits)) e.subscriptions i.can

rise_push : (creates : ℕ) (ms : List Kept) (m : Kept) → InstallsRise ms → InstallsAreUpTo creates ms → creates < m.install → InstallsRise (ms ++ m ∷ [])
rise_push creates [] m r u less = (tt, tt)
rise_push creates (x ∷ ms) m r u less =
    let first = u.0 in
    (each_push (λ (n : Kept). x.install < n.install) ms m r.0 (let l : x.install < m.install = omega (arith, first, less) in l), rise_push creates ms m r.1 u.1 less)

few_more : (creates : ℕ) (ms : List Kept) → InstallsAreUpTo creates ms → InstallsAreUpTo (creates + 1) ms
few_more creates ms few = each_more (λ (n : Kept). n.install ≤ creates) (λ (n : Kept). n.install ≤ creates + 1) (λ n le. let l : n.install ≤ creates + 1 = omega (arith, le) in l) ms few

-- one more create, whose subscription is not there yet
pub invariant_created : (e : EngineState) → Invariant e → e.creates + 1 ≤ e.count → Invariant (record e { creates = e.creates + 1 })
invariant_created e i few =
    let n = i.next in
    record {
      changes = i.changes;
      creates_too = few;
      lasts = i.lasts;
      can = i.can;
      rise = i.rise;
      installed = few_more e.creates e.subscriptions i.installed;
      number = i.number;
      fits = i.fits;
      sound = i.sound;
      next = (let l : e.table.next_file ≤ 256 * (e.creates + 1) = omega (arith, n) in l);
      serve = i.serve;
      counts = i.counts;
    }

-- the subscription is there, with the file of its plan
pub invariant_added : (e : EngineState) (expr : Expr) (table : TableState) (file : ℕ) (m : Kept) → Invariant e → IsInstalled expr e.table table file → Fits table.number (world_in e.store) table.files → operators expr ≤ 256
    → CanTell e.handed e.store table m → m.install ≡ e.creates + 1
    → e.creates + 1 ≤ e.count → Invariant (record e { creates = e.creates + 1; subscriptions = e.subscriptions ++ m ∷ []; table = table })
invariant_added e expr table file m i done fits small can install few =
    let n = i.next in let room = done.room in
    record {
      changes = i.changes;
      creates_too = few;
      lasts = i.lasts;
      can = each_push (CanTell e.handed e.store table) e.subscriptions m
          (each_more (CanTell e.handed e.store e.table) (CanTell e.handed e.store table)
          (can_table e.handed e.store e.table table (let same = done.same in let l : e.table.number ≤ table.number = omega (arith, same) in l) (installed_still expr e.table table file (world_in e.store) done fits)) e.subscriptions i.can) can;
      rise = rise_push e.creates e.subscriptions m i.rise i.installed (let l : e.creates < m.install = omega (arith, install) in l);
      installed = each_push (λ (x : Kept). x.install ≤ e.creates + 1) e.subscriptions m (few_more e.creates e.subscriptions i.installed) (let l : m.install ≤ e.creates + 1 = omega (arith, install) in l);
      number = done.same ∙ i.number;
      fits = fits;
      sound = sound_installed expr e.table table file (world_in e.store) done fits i.sound;
      next = (let l : table.next_file ≤ 256 * (e.creates + 1) = omega (arith, n, room, small) in l);
      serve = serve_installed e.handed.relations expr e.table table file done done.order e.cache i.serve;
      counts = counts_joined e.subscriptions m e.distinct i.counts;
    }

each_map : (P Q : Kept → Type 0) (f : Kept → Kept) → ((m : Kept) → P m → Q (f m)) → (ms : List Kept) → AllByRecursion P ms → AllByRecursion Q (map f ms)
each_map P Q f g [] h = tt
each_map P Q f g (m ∷ ms) h = (g m h.0, each_map P Q f g ms h.1)

-- what is written down changes no number
module _ (store : StoreState) (test : Kept → Bool) where
  abbrev noted_one : Kept → Kept
  noted_one m = fired_if (test m) store m

  pub one_install : (m : Kept) → (noted_one m).install ≡ m.install
  one_install m = elim (test m) as (λ t. (fired_if t store m).install ≡ m.install) [ true ↦ refl | false ↦ refl ]

  pub rise_noted : (ms : List Kept) → InstallsRise ms → InstallsRise (map noted_one ms)
  rise_noted [] r = tt
  rise_noted (m ∷ ms) r = (
    each_map (λ n. m.install < n.install) (λ n. (noted_one m).install < n.install) noted_one
        (λ n less. let a = one_install m in let b = one_install n in (let l : (noted_one m).install < (noted_one n).install = omega (arith, less, a, b) in l)) ms r.0,
    rise_noted ms r.1,
  )

  pub invariant_noted : (e : EngineState) → e.store ≡ store → AreUpTo e.table.number e.table.files → Invariant e → Invariant (record e { subscriptions = map noted_one e.subscriptions })
  invariant_noted e same upto i =
      let now : e.table.number ≡ store.changes = i.number ∙ ap (λ (s : StoreState). s.changes) same in
      let up : AreUpTo store.changes e.table.files = subst (λ n. AreUpTo n e.table.files) now upto in
      let lasts = subst (λ (s : StoreState). (name : List ℕ) → last_in s name ≤ s.changes) same i.lasts in
      record {
        changes = i.changes;
        creates_too = i.creates_too;
        lasts = i.lasts;
        can = subst (λ (s : StoreState). AllByRecursion (CanTell e.handed s e.table) (map noted_one e.subscriptions)) (sym same)
            (each_map (CanTell e.handed store e.table) (CanTell e.handed store e.table) noted_one (λ m can. can_noted e.handed store e.table up now lasts (test m) m can) e.subscriptions
            (subst (λ (s : StoreState). AllByRecursion (CanTell e.handed s e.table) e.subscriptions) same i.can));
        rise = rise_noted e.subscriptions i.rise;
        installed = each_map (λ n. n.install ≤ e.creates) (λ n. n.install ≤ e.creates) noted_one (λ n few. let a = one_install n in (let l : (noted_one n).install ≤ e.creates = omega (arith, few, a) in l)) e.subscriptions i.installed;
        number = i.number;
        fits = i.fits;
        sound = i.sound;
        next = i.next;
        serve = i.serve;
        counts = counts_noted test store e.subscriptions e.distinct i.counts;
      }

rise_filter : (keep : Kept → Bool) (ms : List Kept) → InstallsRise ms → InstallsRise (filter keep ms)
rise_filter keep [] r = tt
rise_filter keep (m ∷ ms) r =
    elim (keep m) as (λ t. InstallsRise (cond t (m ∷ filter keep ms) (filter keep ms))) [
      | true ↦ (each_filter (λ (n : Kept). m.install < n.install) keep ms r.0, rise_filter keep ms r.1)
      | false ↦ rise_filter keep ms r.1
    ]

can_all : (e : EngineState) (table : TableState) → AreOf e.table.files table.files → table.number ≡ e.table.number → (ms : List Kept) → AllByRecursion (λ m. HasFile table.files (plan_in m) m.file.0) ms
    → AllByRecursion (CanTell e.handed e.store e.table) ms → AllByRecursion (CanTell e.handed e.store table) ms
can_all e table left same [] f c = tt
can_all e table left same (m ∷ ms) f c = (can_left e.handed e.store e.table table left same m f.0 c.0, can_all e table left same ms f.1 c.1)

-- fewer files tell what they told
fits_left : (old new : Files) (now : ℕ) (w : World) → AreOf old new → Fits now w old → Fits now w new
fits_left old new now w left fits number file at =
    let was = left number file at in
    subst (λ (e : Expr). IsContent now file.content.rows (rows_in e w)) (sym was.2.0) (subst (λ (c : FileState). IsContent now c.rows (rows_in was.0.expr w)) (sym was.2.1) (fits number was.0 was.1))

-- subscriptions are gone, with their counts
pub invariant_left : (e : EngineState) (keep : Kept → Bool) (table : TableState) (distinct : DistinctTable) → Invariant e → IsLiveTable table (filter keep e.subscriptions) → AreOf e.table.files table.files → table.number ≡ e.table.number → table.next_file ≡ e.table.next_file
    → KeepsCounts (filter keep e.subscriptions) distinct → Invariant (record e { subscriptions = filter keep e.subscriptions; table = table; distinct = distinct })
invariant_left e keep table distinct i live_table left number next counts = record {
  changes = i.changes;
  creates_too = i.creates_too;
  lasts = i.lasts;
  can = can_all e table left number (filter keep e.subscriptions) live_table.files (each_filter (CanTell e.handed e.store e.table) keep e.subscriptions i.can);
  rise = rise_filter keep e.subscriptions i.rise;
  installed = each_filter (λ (m : Kept). m.install ≤ e.creates) keep e.subscriptions i.installed;
  number = number ∙ i.number;
  fits = subst (λ n. Fits n (world_in e.store) table.files) (sym number) (fits_left e.table.files table.files e.table.number (world_in e.store) left i.fits);
  sound = sound_left e.table.files table.files left i.sound;
  next = (let n = i.next in let l : table.next_file ≤ 256 * e.creates = omega (arith, n, next) in l);
  serve = serve_left e.handed.relations e.table table e.cache left number next i.serve;
  counts = counts;
}

-- one subscription is gone
pub left_holds : (e : EngineState) (install : ℕ) (live_table : LiveState) (distinct : DistinctTable) → Invariant e → IsLeftBy (install ∷ []) (record { table = e.table; subscriptions = e.subscriptions; instant = e.clock }) live_table → IsLiveTable live_table.table live_table.subscriptions
    → AreRemoved (install ∷ []) e.distinct distinct
    → IsEngine e.store e.count e.creates e.handed live_table.subscriptions live_table.table e.cache distinct
left_holds e install live_table distinct holds left owns gone =
    let subscriptions : live_table.subscriptions ≡ without (install ∷ []) e.subscriptions = left.subscriptions in
    subst (λ (ms : List Kept). IsEngine e.store e.count e.creates e.handed ms live_table.table e.cache distinct) (sym subscriptions)
    (invariant_left e (λ m. not (list_any (nat_eq m.install) (install ∷ []))) live_table.table distinct holds (subst (IsLiveTable live_table.table) subscriptions owns) left.files left.number left.next_file
    (counts_left (install ∷ []) e.subscriptions e.distinct distinct holds.counts gone))
