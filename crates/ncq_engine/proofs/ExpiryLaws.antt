-- Subscriptions that expire, by their install numbers.
use Rattle.std.proofs.Common.{◌≡◌, ℕ, ◌-◌, ◌||◌, Bool, true, false, not, cond, List, [], ◌∷◌, ◌++◌, map, refl, sym, ◌∙◌, ap, subst, inl, inr}
use Rattle.std.specs.Prelude.{Option, Some, None, nat_eq, IfSome}
use Rattle.std.specs.FinMap.{get}
use Rattle.std.proofs.lemmas.Bool.{cases_eq}
use Rattle.std.specs.List.{filter, flat_map, list_any}
use Rattle.ncq_book.specs.declared.subscription.Subscription.{Subscription as Kept}
use Rattle.ncq_book.specs.Books.{InstallsRise, is_of, timing_of}
use Rattle.ncq_group.specs.Releases.{IsReleased, with_use_less}
use Rattle.ncq_live.specs.LiveTables.{LiveState}
use Rattle.ncq_shelf.specs.KeptFiles.{KeptFile, Files}
use Rattle.ncq_shelf.proofs.CallerLemmas.{one_value, put_other, put_same}
use Rattle.ncq_event.specs.Calendars.{Entry, expired_at}
use Rattle.ncq_event.specs.Instants.{is_expired}
use Rattle.ncq_source.specs.StoreStates.{StoreState}
use Rattle.ncq_engine.specs.Output.{expired_line}
use Rattle.ncq_engine.specs.Engines.{fired_if}
use Rattle.ncq_engine.specs.Tellings.{AreOf, IsLeftBy, expired_of, line_of, without}
use Rattle.ncq_engine.proofs.ByInstall.{AreFound, found_each, left_out, numbers}
use Rattle.ncq_engine.proofs.ClockLaws.{expired_names, unexpired}
use Rattle.ncq_engine.proofs.InvariantLaws.{one_install, rise_noted}

module _ (instant : ℕ) where
  -- whether the subscription expires
  abbrev pub ends : Kept → Bool
  ends m = is_expired m.timing instant

  expired_numbers : (ms : List Kept) → expired_at instant (map timing_of ms) ≡ numbers ends ms
  expired_numbers [] = refl
  expired_numbers (m ∷ ms) =
      elim (ends m) as (λ t. map (λ (e : Entry). e.0) (cond t (timing_of m ∷ filter (λ (e : Entry). is_expired e.1 instant) (map timing_of ms)) (filter (λ (e : Entry). is_expired e.1 instant) (map timing_of ms)))
      ≡ map (λ m. m.install) (cond t (m ∷ filter ends ms) (filter ends ms))) [
        | true ↦ ap (λ more. m.install ∷ more) (expired_numbers ms)
        | false ↦ expired_numbers ms
      ]

  module _ (all : List Kept) where
    found_lines : (ms : List Kept) → AreFound all ms → flat_map (expired_of all) (numbers ends ms) ≡ expired_names instant ms
    found_lines [] h = refl
    found_lines (m ∷ ms) h =
        elim (ends m) as (λ t. flat_map (expired_of all) (map (λ m. m.install) (cond t (m ∷ filter ends ms) (filter ends ms))) ≡ flat_map (λ m. expired_line m.name) (cond t (m ∷ filter ends ms) (filter ends ms))) [
          | true ↦ λ i. line_of (h.0 i) ++ found_lines ms h.1 i
          | false ↦ found_lines ms h.1
        ]

  module _ (test : Kept → Bool) (store : StoreState) where
    abbrev noted_one : Kept → Kept
    noted_one m = fired_if (test m) store m

    same_timing : (m : Kept) → (noted_one m).timing ≡ m.timing
    same_timing m = elim (test m) as (λ t. (fired_if t store m).timing ≡ m.timing) [ true ↦ refl | false ↦ refl ]

    same_name : (m : Kept) → (noted_one m).name ≡ m.name
    same_name m = elim (test m) as (λ t. (fired_if t store m).name ≡ m.name) [ true ↦ refl | false ↦ refl ]

    -- firings change neither who expires nor the names
    names_stay : (ms : List Kept) → expired_names instant ms ≡ expired_names instant (map noted_one ms)
    names_stay [] = refl
    names_stay (m ∷ ms) =
        (λ i. flat_map (λ m. expired_line m.name) (cond (is_expired (sym (same_timing m) i) instant) (m ∷ filter ends ms) (filter ends ms)))
        ∙ (elim (ends (noted_one m)) as (λ t. flat_map (λ m. expired_line m.name) (cond t (m ∷ filter ends ms) (filter ends ms)) ≡ flat_map (λ m. expired_line m.name) (cond t (noted_one m ∷ filter ends (map noted_one ms)) (filter ends (map noted_one ms)))) [
          | true ↦ λ i. expired_line (sym (same_name m) i) ++ names_stay ms i
          | false ↦ names_stay ms
        ])

    numbers_stay : (ms : List Kept) → numbers ends ms ≡ numbers ends (map noted_one ms)
    numbers_stay [] = refl
    numbers_stay (m ∷ ms) =
        (λ i. map (λ m. m.install) (cond (is_expired (sym (same_timing m) i) instant) (m ∷ filter ends ms) (filter ends ms)))
        ∙ (elim (ends (noted_one m)) as (λ t. map (λ m. m.install) (cond t (m ∷ filter ends ms) (filter ends ms)) ≡ map (λ m. m.install) (cond t (noted_one m ∷ filter ends (map noted_one ms)) (filter ends (map noted_one ms)))) [
          | true ↦ λ i. sym (one_install store test m) i ∷ numbers_stay ms i
          | false ↦ numbers_stay ms
        ])

    -- the lines that the book gives are those of the subscriptions behind the firings
    pub lines_are : (ms : List Kept) (installs : List ℕ) → InstallsRise ms → installs ≡ expired_at instant (map timing_of ms) → flat_map (expired_of ms) installs ≡ expired_names instant (map noted_one ms)
    lines_are ms installs rise e = ap (flat_map (expired_of ms)) (e ∙ expired_numbers ms) ∙ found_lines ms ms (found_each ms rise) ∙ names_stay ms

    -- and those that are taken out are those that expire
    pub out_are : (ms : List Kept) (installs : List ℕ) → InstallsRise ms → installs ≡ expired_at instant (map timing_of ms) → without installs (map noted_one ms) ≡ unexpired instant (map noted_one ms)
    out_are ms installs rise e =
        ap (λ (xs : List ℕ). without xs (map noted_one ms)) (e ∙ expired_numbers ms ∙ numbers_stay ms)
        ∙ left_out ends (map noted_one ms) (rise_noted store test ms rise)

-- what is left where subscriptions are taken away one by one
filter_all : (ms : List Kept) → without [] ms ≡ ms
filter_all [] = refl
filter_all (m ∷ ms) = ap (λ more. m ∷ more) (filter_all ms)

pub left_none : (live_table : LiveState) → IsLeftBy [] live_table live_table
left_none live_table = record {
  subscriptions = sym (filter_all live_table.subscriptions);
  instant = refl;
  number = refl;
  next_file = refl;
  files = λ number file at. (file, at, (refl, refl));
}

without_push : (installs : List ℕ) (install : ℕ) (ms : List Kept) → filter (λ m. not (is_of install m)) (without installs ms) ≡ without (installs ++ install ∷ []) ms
without_push installs install [] = refl
without_push installs install (m ∷ ms) =
    by (list_any (nat_eq m.install) installs) (is_of install m) refl refl (without_push installs install ms)
  where
    any_push : (xs : List ℕ) → list_any (nat_eq m.install) (xs ++ install ∷ []) ≡ (list_any (nat_eq m.install) xs || is_of install m)
    any_push [] = or_false (nat_eq m.install install)
      where
        or_false : (b : Bool) → (b || false) ≡ b
        or_false true = refl
        or_false false = refl
    any_push (x ∷ xs) = ap (λ b. nat_eq m.install x || b) (any_push xs) ∙ or_assoc (nat_eq m.install x) (list_any (nat_eq m.install) xs) (is_of install m)
      where
        or_assoc : (a b c : Bool) → (a || (b || c)) ≡ ((a || b) || c)
        or_assoc true b c = refl
        or_assoc false b c = refl

    by : (first second : Bool) → list_any (nat_eq m.install) installs ≡ first → is_of install m ≡ second → filter (λ m. not (is_of install m)) (without installs ms) ≡ without (installs ++ install ∷ []) ms
        → filter (λ m. not (is_of install m)) (without installs (m ∷ ms)) ≡ without (installs ++ install ∷ []) (m ∷ ms)
    by true second a b rest =
        (λ i. filter (λ m. not (is_of install m)) (cond (not (a i)) (m ∷ without installs ms) (without installs ms)))
        ∙ rest ∙ (λ i. cond (not (sym (any_push installs ∙ (λ j. a j || is_of install m)) i)) (m ∷ without (installs ++ install ∷ []) ms) (without (installs ++ install ∷ []) ms))
    by false true a b rest =
        (λ i. filter (λ m. not (is_of install m)) (cond (not (a i)) (m ∷ without installs ms) (without installs ms)))
        ∙ (λ i. cond (not (b i)) (m ∷ filter (λ m. not (is_of install m)) (without installs ms)) (filter (λ m. not (is_of install m)) (without installs ms)))
        ∙ rest ∙ (λ i. cond (not (sym (any_push installs ∙ (λ j. a j || b j)) i)) (m ∷ without (installs ++ install ∷ []) ms) (without (installs ++ install ∷ []) ms))
    by false false a b rest =
        (λ i. filter (λ m. not (is_of install m)) (cond (not (a i)) (m ∷ without installs ms) (without installs ms)))
        ∙ (λ i. cond (not (b i)) (m ∷ filter (λ m. not (is_of install m)) (without installs ms)) (filter (λ m. not (is_of install m)) (without installs ms)))
        ∙ (λ i. m ∷ rest i) ∙ (λ i. cond (not (sym (any_push installs ∙ (λ j. a j || b j)) i)) (m ∷ without (installs ++ install ∷ []) ms) (without (installs ++ install ∷ []) ms))

-- a release leaves files as they were
released_of : (old new : Files) (number : ℕ) → IsReleased old number new → AreOf old new
released_of old new number r other state at = elim (cases_eq other number) [
  | inl same ↦
      let there = subst (λ n. get (with_use_less old number r.file) n ≡ Some state) same (r.stays other state at).0 in
      let is : record (r.file) { uses = r.file.uses - 1 } ≡ state = one_value (put_same old number (record (r.file) { uses = r.file.uses - 1 })) there in
      (r.file, subst (λ n. get old n ≡ Some r.file) (sym same) r.at, (ap (λ (k : KeptFile). k.expr) (sym is), ap (λ (k : KeptFile). k.content) (sym is)))
  | inr differs ↦ (state, sym (put_other old number (record (r.file) { uses = r.file.uses - 1 }) other differs) ∙ (r.stays other state at).0, (refl, refl))
]

-- and the removal of a subscription
pub removed_of : (old new : Files) (o : Option Kept) → IfSome o (λ m. IsReleased old m.file.0 new) → (o ≡ None → new ≡ old) → AreOf old new
removed_of old new None some none = subst (AreOf old) (sym (none refl)) (λ number file at. (file, at, (refl, refl)))
removed_of old new (Some m) some none = released_of old new m.file.0 some

of_of : (old mid new : Files) → AreOf old mid → AreOf mid new → AreOf old new
of_of old mid new first second number file at =
    let b = second number file at in
    let a = first number b.0 b.1 in
    (a.0, a.1, (b.2.0 ∙ a.2.0, b.2.1 ∙ a.2.1))

-- one more
pub left_more : (installs more : List ℕ) (install : ℕ) (old mid new : LiveState) → more ≡ installs ++ install ∷ [] → IsLeftBy installs old mid → new.subscriptions ≡ filter (λ m. not (is_of install m)) mid.subscriptions
    → AreOf mid.table.files new.table.files → new.table.next_file ≡ mid.table.next_file → new.table.number ≡ mid.table.number → new.instant ≡ mid.instant → IsLeftBy more old new
left_more installs more install old mid new is left subscriptions files next number instant = record {
  subscriptions = subscriptions ∙ ap (filter (λ m. not (is_of install m))) left.subscriptions ∙ without_push installs install old.subscriptions ∙ ap (λ (xs : List ℕ). without xs old.subscriptions) (sym is);
  instant = instant ∙ left.instant;
  number = number ∙ left.number;
  next_file = next ∙ left.next_file;
  files = of_of old.table.files mid.table.files new.table.files left.files files;
}
