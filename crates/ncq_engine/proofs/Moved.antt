-- What a change of several sources moves: the sources behind it, their last changes, and the entries that it was prepared with.
use Rattle.std.proofs.Common.{◌≡◌, ℕ, zero, suc, ◌+◌, ◌<◌, Bool, true, false, cond, not, nat_lt, ◌&&◌, ◌||◌, ◌==◌, List, [], ◌∷◌, ◌++◌, map, length, slice_get, refl, sym, ◌∙◌, ap, arith, true≢false}
use Rattle.std.specs.Prelude.{Option, Some, None, is_some, if◌then◌else◌}
use Rattle.std.specs.Option.{option_map, option_and_then}
use Rattle.std.specs.List.{position, position_or_len, AllByRecursion}
use Rattle.std.proofs.lemmas.Bool.Decides.{nat_tests}
use Rattle.std.proofs.lemmas.Option.{slice_get_within}
use Rattle.std.specs.Str.{bytes_eq}
use Rattle.ncq_change.specs.Entries.{world_of}
use Rattle.ncq_change.specs.Stores.{Applies, entries_in, or_none, world_in}
use Rattle.ncq_change.proofs.CommitLaws.{commits_after, prepared_chains}
use Rattle.ncq_feed.specs.Feeds.{IsNamed, IsPreparedFrom, name_in, world_after}
use Rattle.ncq_pyx.specs.declared.item.Item.{Item}
use Rattle.ncq_source.specs.Changes.{store_after, prepared}
use Rattle.ncq_source.specs.ChangeStates.{entries_at}
use Rattle.ncq_source.specs.Sections.{are_known, is_named, items_for}
use Rattle.ncq_source.specs.Stores.{Source as Declared, without_room}
use Rattle.ncq_source.specs.StoreStates.{ArePortionsOf, FollowsPortion, IsAlike, IsCommitted, IsPortion, StoreState, found, holding_of, holdings_of, names, source_named}
use Rattle.ncq_source.specs.declared.change.Entry.{Entry}
use Rattle.ncq_source.specs.declared.change.Portion.{Portion}
use Rattle.ncq_source.specs.declared.change.Section.{Section}
use Rattle.ncq_source.proofs.Commits.{change_applies, portion_there, parts_add_up}
use Rattle.ncq_source.proofs.Places.{same_at}
use Rattle.ncq_source.proofs.SectionLaws.{found_source, known_found}
use Rattle.ncq_engine.specs.Engines.{last_in, last_of}
use Rattle.ncq_engine.specs.History.{Source, with_items, with_sections}
use Rattle.ncq_engine.specs.Output.{holding_in, holdings_in}
use Rattle.ncq_engine.specs.Stands.{content_of}
use Rattle.ncq_engine.specs.Works.{entries_for, entries_in as entries_of_items, prepared_entries}
use Rattle.ncq_engine.proofs.HistoryLaws.{key_is, key_itself}
use Rattle.ncq_engine.proofs.Lists.{each_more}
use Rattle.ncq_engine.proofs.Places.{same_names}
use Rattle.ncq_engine.proofs.Worlds.{source_is}

same_Some : {A : Type 0} (x y : A) → Some x ≡ Some y → x ≡ y
same_Some x y e = cc

-- the source at the place is the first of the name
abbrev pub is_first : List ℕ → List Source → ℕ → Bool
is_first name [] at = false
is_first name (s ∷ all) zero = bytes_eq name s.name
is_first name (s ∷ all) (suc at) = not (bytes_eq name s.name) && is_first name all at

abbrev with_all : Source → List Item → Source
with_all s items = record s { elements = store_after s.key s.elements items }

-- what items make of each place
item_place : (name : List ℕ) (items : List Item) (all : List Source) (at : ℕ) (s : Source) → slice_get all at ≡ Some s
    → slice_get (with_items name items all) at ≡ Some (if is_first name all at then with_all s items else s)
item_place name items [] at s here = absurd cc
item_place name items (x ∷ all) zero s here =
    elim (bytes_eq name x.name) as (λ t. slice_get (if t then with_all x items ∷ all else x ∷ with_items name items all) 0 ≡ Some (if t then with_all x items else x)) [ true ↦ refl | false ↦ refl ]
    ∙ ap (λ (y : Source). Some (if bytes_eq name x.name then with_all y items else y)) (same_Some x s here)
item_place name items (x ∷ all) (suc at) s here =
    elim (bytes_eq name x.name) as (λ t. slice_get (if t then with_all x items ∷ all else x ∷ with_items name items all) (suc at) ≡ Some (if not t && is_first name all at then with_all s items else s)) [
      | true ↦ here
      | false ↦ item_place name items all at s here
    ]

first_stays : (name called : List ℕ) (items : List Item) (all : List Source) (at : ℕ) → is_first name (with_items called items all) at ≡ is_first name all at
first_stays name called items [] at = refl
first_stays name called items (x ∷ all) zero =
    elim (bytes_eq called x.name) as (λ t. is_first name (if t then with_all x items ∷ all else x ∷ with_items called items all) 0 ≡ bytes_eq name x.name) [ true ↦ refl | false ↦ refl ]
first_stays name called items (x ∷ all) (suc at) =
    elim (bytes_eq called x.name) as (λ t. is_first name (if t then with_all x items ∷ all else x ∷ with_items called items all) (suc at) ≡ (not (bytes_eq name x.name) && is_first name all at)) [
      | true ↦ refl
      | false ↦ ap (λ b. not (bytes_eq name x.name) && b) (first_stays name called items all at)
    ]

-- the first of a name has the name
first_is_named : (name : List ℕ) (all : List Source) (at : ℕ) (s : Source) → slice_get all at ≡ Some s → is_first name all at ≡ true → name ≡ s.name
first_is_named name [] at s here e = absurd (true≢false (sym e))
first_is_named name (x ∷ all) zero s here e = key_is name x.name e ∙ ap (λ (y : Source). y.name) (same_Some x s here)
first_is_named name (x ∷ all) (suc at) s here e = by (λ h. first_is_named name all at s here h) (bytes_eq name x.name) e
  where
    by : (is_first name all at ≡ true → name ≡ s.name) → (t : Bool) → (not t && is_first name all at) ≡ true → name ≡ s.name
    by rest true h = absurd (true≢false (sym h))
    by rest false h = rest h

-- what sections make of each place
section_place : (changed : List Section) (all : List Source) (at : ℕ) (s : Source) → slice_get all at ≡ Some s
    → slice_get (with_sections changed all) at ≡ Some (if is_first s.name all at then with_all s (items_for s.name changed) else s)
section_place [] all at s here = here ∙ elim (is_first s.name all at) as (λ t. Some s ≡ Some (if t then with_all s [] else s)) [ true ↦ refl | false ↦ refl ]
section_place (section ∷ more) all at s here = by (λ t now. section_place more (with_items section.source section.items all) at t now) (is_first section.source all at) refl
  where
    by : ((t : Source) → slice_get (with_items section.source section.items all) at ≡ Some t
        → slice_get (with_sections more (with_items section.source section.items all)) at ≡ Some (if is_first t.name (with_items section.source section.items all) at then with_all t (items_for t.name more) else t))
        → (b : Bool) → is_first section.source all at ≡ b → slice_get (with_sections more (with_items section.source section.items all)) at ≡ Some (if is_first s.name all at then with_all s (items_for s.name (section ∷ more)) else s)
    by rest true e =
        let called : section.source ≡ s.name = first_is_named section.source all at s here e in
        let now : slice_get (with_items section.source section.items all) at ≡ Some (with_all s section.items) = item_place section.source section.items all at s here ∙ (λ i. Some (if e i then with_all s section.items else s)) in
        let own : is_first s.name all at ≡ true = ap (λ n. is_first n all at) (sym called) ∙ e in
        let own' : is_first s.name (with_items section.source section.items all) at ≡ true = first_stays s.name section.source section.items all at ∙ own in
        let names_it : bytes_eq s.name section.source ≡ true = ap (bytes_eq s.name) called ∙ key_itself s.name in
        rest (with_all s section.items) now
        ∙ (λ i. Some (if own' i then with_all (with_all s section.items) (items_for s.name more) else with_all s section.items))
        ∙ (λ i. Some (record s { elements = sym (parts_add_up s.key s.elements section.items (items_for s.name more)) i }))
        ∙ (λ i. Some (if sym own i then with_all s ((if sym names_it i then section.items else []) ++ items_for s.name more) else s))
    by rest false e =
        let now : slice_get (with_items section.source section.items all) at ≡ Some s = item_place section.source section.items all at s here ∙ (λ i. Some (if e i then with_all s section.items else s)) in
        rest s now
        ∙ (λ i. Some (if first_stays s.name section.source section.items all at i then with_all s (items_for s.name more) else s))
        ∙ elsewhere (bytes_eq s.name section.source) refl
      where
        elsewhere : (n : Bool) → bytes_eq s.name section.source ≡ n
            → ◌≡◌ {A = Option Source} (Some (if is_first s.name all at then with_all s (items_for s.name more) else s)) (Some (if is_first s.name all at then with_all s ((if n then section.items else []) ++ items_for s.name more) else s))
        elsewhere true same =
            let off : is_first s.name all at ≡ false = ap (λ n. is_first n all at) (key_is s.name section.source same) ∙ e in
            (λ i. Some (if off i then with_all s (items_for s.name more) else s)) ∙ (λ i. Some (if sym off i then with_all s (section.items ++ items_for s.name more) else s))
        elsewhere false other = refl

as_many_items : (name : List ℕ) (items : List Item) (all : List Source) → length (with_items name items all) ≡ length all
as_many_items name items [] = refl
as_many_items name items (x ∷ all) = elim (bytes_eq name x.name) as (λ t. length (if t then with_all x items ∷ all else x ∷ with_items name items all) ≡ suc (length all)) [
  | true ↦ refl
  | false ↦ ap suc (as_many_items name items all)
]

as_many : (changed : List Section) (all : List Source) → length (with_sections changed all) ≡ length all
as_many [] all = refl
as_many (section ∷ more) all = as_many more (with_items section.source section.items all) ∙ as_many_items section.source section.items all

length_of : (all : List Declared) → length (map content_of all) ≡ length all
length_of [] = refl
length_of (d ∷ all) = ap suc (length_of all)

name_length : (all : List Declared) → length all ≡ length (map (λ d. d.name) all)
name_length [] = refl
name_length (d ∷ all) = ap suc (name_length all)

content_at : (all : List Declared) (at : ℕ) (d : Declared) → slice_get all at ≡ Some d → slice_get (map content_of all) at ≡ Some (content_of d)
content_at [] at d here = absurd cc
content_at (x ∷ all) zero d here = ap (λ (y : Declared). Some (content_of y)) (same_Some x d here)
content_at (x ∷ all) (suc at) d here = content_at all at d here

-- the first of a name stands where the name is found
first_place : (name : List ℕ) (all : List Declared) (at : ℕ) (d : Declared) → slice_get all at ≡ Some d
    → is_first name (map content_of all) at ≡ (position_or_len (bytes_eq name) (map (λ d. d.name) all) == at)
first_place name [] at d here = absurd cc
first_place name (x ∷ all) zero d here =
    elim (bytes_eq name x.name) as (λ t. t ≡ (cond (not t) (1 + position_or_len (bytes_eq name) (map (λ d. d.name) all)) 0 == 0)) [ true ↦ refl | false ↦ grind (arith, nat_tests) ]
first_place name (x ∷ all) (suc at) d here =
    elim (bytes_eq name x.name) as (λ t. (not t && is_first name (map content_of all) at) ≡ (cond (not t) (1 + position_or_len (bytes_eq name) (map (λ d. d.name) all)) 0 == suc at)) [
      | true ↦ grind (arith, nat_tests)
      | false ↦ first_place name all at d here ∙ one_more (position_or_len (bytes_eq name) (map (λ d. d.name) all)) at
    ]
  where
    one_more : (p at : ℕ) → (p == at) ≡ (1 + p == suc at)
    one_more p at = grind (arith, nat_tests)

found_there : (store : StoreState) (name : List ℕ) (at : ℕ) (d : Declared) → slice_get store.sources at ≡ Some d → is_first name (map content_of store.sources) at ≡ true → found store name ≡ Some at
found_there store name at d here first =
    let p = sym (first_place name store.sources at d here) ∙ first in
    let same : position_or_len (bytes_eq name) (names store) ≡ at = grind (arith, nat_tests, p) in
    let low : at < length store.sources = slice_get_within store.sources at d here in
    let many = name_length store.sources in
    let within : nat_lt (position_or_len (bytes_eq name) (names store)) (length (names store)) ≡ true = grind (arith, nat_tests, same, low, many) in
    λ i. cond (within i) (Some (same i)) None

first_there : (store : StoreState) (name : List ℕ) (at : ℕ) (d : Declared) → slice_get store.sources at ≡ Some d → found store name ≡ Some at → is_first name (map content_of store.sources) at ≡ true
first_there store name at d here finds =
    let same = some_place (nat_lt (position_or_len (bytes_eq name) (names store)) (length (names store))) (position_or_len (bytes_eq name) (names store)) at finds in
    first_place name store.sources at d here ∙ (let is : (position_or_len (bytes_eq name) (names store) == at) ≡ true = grind (arith, nat_tests, same) in is)
  where
    some_place : (b : Bool) (p at : ℕ) → cond b (Some p) None ≡ Some at → p ≡ at
    some_place true p at e = cc
    some_place false p at e = absurd cc

-- lists of one length that agree place by place
by_places : (base ys : List Declared) (W : List Source) → length ys ≡ length base → length W ≡ length base
    → ((at : ℕ) (d : Declared) → slice_get base at ≡ Some d → (t : Declared) × (slice_get ys at ≡ Some t) × (slice_get W at ≡ Some (content_of t))) → map content_of ys ≡ W
by_places [] [] [] c e each = refl
by_places [] (y ∷ ys) W c e each = absurd (omega (arith, c))
by_places [] [] (w ∷ W) c e each = absurd (omega (arith, e))
by_places (x ∷ base) [] W c e each = absurd (omega (arith, c))
by_places (x ∷ base) (y ∷ ys) [] c e each = absurd (omega (arith, e))
by_places (x ∷ base) (y ∷ ys) (w ∷ W) c e each =
    let first = each 0 x refl in
    let one : y ≡ first.0 = same_Some y first.0 first.1 in
    let two : w ≡ content_of first.0 = same_Some w (content_of first.0) first.2 in
    λ i. (ap content_of one ∙ sym two) i ∷ by_places base ys W (let less : length ys ≡ length base = omega (arith, c) in less) (let less : length W ≡ length base = omega (arith, e) in less) (λ at d here. each (suc at) d here) i

by_names : (base ys : List Declared) → length ys ≡ length base → ((at : ℕ) (d : Declared) → slice_get base at ≡ Some d → (t : Declared) × (slice_get ys at ≡ Some t) × (t.name ≡ d.name))
    → map (λ (d : Declared). d.name) ys ≡ map (λ (d : Declared). d.name) base
by_names [] [] c each = refl
by_names [] (y ∷ ys) c each = absurd (omega (arith, c))
by_names (x ∷ base) [] c each = absurd (omega (arith, c))
by_names (x ∷ base) (y ∷ ys) c each =
    let first = each 0 x refl in
    let one : y ≡ first.0 = same_Some y first.0 first.1 in
    λ i. (ap (λ (d : Declared). d.name) one ∙ first.2) i ∷ by_names base ys (let less : length ys ≡ length base = omega (arith, c) in less) (λ at d here. each (suc at) d here) i

-- the portions of a change, seen from the store with room
module _ (store ready : StoreState) (alike : IsAlike store ready) where
  pub found_alike : (name : List ℕ) → found ready name ≡ found store name
  found_alike name = ap (position (bytes_eq name)) (same_names store.sources ready.sources alike.sources)

  module _ (changed : List Section) where
    portion_alike : (portion : Portion) → IsPortion store changed portion → IsPortion ready changed portion
    portion_alike portion p =
        let r = same_at without_room ready.sources store.sources portion.source.0 p.source alike.sources p.here in
        record {
          source = r.0;
          here = r.1;
          found = found_alike r.0.name ∙ ap (λ (w : Declared). found store w.name) r.2 ∙ p.found;
          named = ap (λ (w : Declared). is_named w.name changed) r.2 ∙ p.named;
          entries = ap (λ (w : Declared). prepared w.key 1 w.elements (items_for w.name changed)) r.2 ∙ p.entries;
        }

    pub portions_alike : (change : List Portion) → ArePortionsOf store changed change → ArePortionsOf ready changed change
    portions_alike change made = record {
      rising = made.rising;
      each = each_more (IsPortion store changed) (IsPortion ready changed) portion_alike change made.each;
      all = λ name at named finds. made.all name at named (sym (found_alike name) ∙ finds);
    }

  same_holding : (d : Option Declared) → option_map holding_in (option_map content_of d) ≡ option_map holding_of d
  same_holding None = refl
  same_holding (Some d) = refl

  pub named_found : (changed : List Section) → are_known (holdings_of store) changed ≡ true → (name : List ℕ) → is_named name changed ≡ true → is_some (found ready name) ≡ true
  named_found changed known name named = ap (λ (o : Option ℕ). is_some o) (found_alike name) ∙ sym (known_found store name) ∙ known_named changed known named
    where
      known_named : (changed : List Section) → are_known (holdings_of store) changed ≡ true → is_named name changed ≡ true → is_some (holdings_of store name) ≡ true
      known_named [] known named = absurd (true≢false (sym named))
      known_named (section ∷ more) known named = by (λ all h. known_named more all h) (bytes_eq name section.source) (is_some (holdings_of store section.source)) refl refl known named
        where
          by : (are_known (holdings_of store) more ≡ true → is_named name more ≡ true → is_some (holdings_of store name) ≡ true) → (n k : Bool) → bytes_eq name section.source ≡ n → is_some (holdings_of store section.source) ≡ k → (k && are_known (holdings_of store) more) ≡ true → (n || is_named name more) ≡ true → is_some (holdings_of store name) ≡ true
          by rest n false same is all h = absurd (true≢false (sym all))
          by rest true true same is all h = ap (λ m. is_some (holdings_of store m)) (key_is name section.source same) ∙ is
          by rest false true same is all h = rest all h

-- what sections are tried on in a history is what they are tried on in the store
pub same_holdings : (store : StoreState) (ss : List Source) → map content_of store.sources ≡ ss → holdings_in ss ≡ holdings_of store
same_holdings store ss e = λ i. λ name. (ap (option_map holding_in) (source_is store ss e name) ∙ same_holding store store (record { changes = refl; sources = refl }) (source_named store name)) i

portion_found : (store : StoreState) (changed : List Section) (at : ℕ) (s : Declared) → slice_get store.sources at ≡ Some s → (portions : List Portion) → AllByRecursion (IsPortion store changed) portions → (es : List Entry) → entries_at at portions ≡ Some es
    → found store s.name ≡ Some at
portion_found store changed at s here [] each es is = absurd cc
portion_found store changed at s here (portion ∷ portions) each es is = by (λ is. portion_found store changed at s here portions each.1 es is) (at == portion.source.0) refl is
  where
    by : (entries_at at portions ≡ Some es → found store s.name ≡ Some at) → (t : Bool) → (at == portion.source.0) ≡ t → (if t then Some portion.entries else entries_at at portions) ≡ Some es → found store s.name ≡ Some at
    by rest true same is =
        let place : at ≡ portion.source.0 = grind (arith, nat_tests, same) in
        let own : each.0.source ≡ s = same_Some each.0.source s (sym each.0.here ∙ ap (slice_get store.sources) (sym place) ∙ here) in
        ap (λ (x : Declared). found store x.name) (sym own) ∙ each.0.found ∙ ap Some (sym place)
    by rest false same is = rest is

none_named : (name : List ℕ) (changed : List Section) → is_named name changed ≡ false → items_for name changed ≡ []
none_named name [] h = refl
none_named name (section ∷ more) h = by (λ h. none_named name more h) (bytes_eq name section.source) h
  where
    by : (is_named name more ≡ false → items_for name more ≡ []) → (t : Bool) → (t || is_named name more) ≡ false → (if t then section.items else []) ++ items_for name more ≡ []
    by rest true h = absurd (true≢false h)
    by rest false h = rest h

-- a change that was prepared from a store
module _ (ready : StoreState) (changed : List Section) (change : List Portion) (made : ArePortionsOf ready changed change) where
  pub prepared_from : IsPreparedFrom ready change
  prepared_from = record {
    rising = made.rising;
    named = each_more (IsPortion ready changed) (IsNamed ready)
        (λ portion p. ap (λ (o : Option Declared). found ready (name_in o)) p.here ∙ p.found) change made.each;
    chains = prepared_chains ready changed change made;
  }

  -- its entries are those of the items for each source
  entries_there : (name : List ℕ) (at : ℕ) → found ready name ≡ Some at → (s : Declared) → slice_get ready.sources at ≡ Some s → s.name ≡ name → (o : Option (List Entry)) → entries_at at change ≡ o
      → or_none o ≡ prepared_entries (prepared s.key 1 s.elements (items_for name changed))
  entries_there name at finds s here called None is = by (is_named name changed) refl
    where
      by : (b : Bool) → is_named name changed ≡ b → [] ≡ prepared_entries (prepared s.key 1 s.elements (items_for name changed))
      by true named = absurd (true≢false (sym (made.all name at named finds) ∙ ap (λ (o : Option (List Entry)). is_some o) is))
      by false none = λ i. prepared_entries (prepared s.key 1 s.elements (sym (none_named name changed none) i))
  entries_there name at finds s here called (Some es) is =
      let portion = portion_there ready changed at s here change made.each es is in
      sym (ap (λ n. prepared_entries (prepared s.key 1 s.elements (items_for n changed))) (sym called) ∙ ap prepared_entries portion.1)

  pub entries_are : (ss : List Source) → map content_of ready.sources ≡ ss → entries_in ready change ≡ entries_for changed ss
  entries_are ss e = λ i. λ name. (one name ∙ sym (ap (entries_of_items (items_for name changed)) (source_is ready ss e name))) i
    where
      one : (name : List ℕ) → entries_in ready change name ≡ entries_of_items (items_for name changed) (option_map content_of (source_named ready name))
      one name = by (found ready name) refl
        where
          by : (o : Option ℕ) → found ready name ≡ o
              → or_none (option_and_then (λ at. entries_at at change) o) ≡ entries_of_items (items_for name changed) (option_map content_of (option_and_then (slice_get ready.sources) o))
          by None finds = refl
          by (Some at) finds =
              let own = found_source ready name at finds in
              entries_there name at finds own.0 own.1 own.2 (entries_at at change) refl
              ∙ ap (λ (o : Option Declared). entries_of_items (items_for name changed) (option_map content_of o)) (sym own.1)

  module _ (after : StoreState) (committed : IsCommitted ready change after) where
    still : IsAlike ready ready
    still = record { changes = refl; sources = refl }

    applies : Applies ready ready after change
    applies = record { chains = prepared_chains ready changed change made; room = still; committed = committed }

    -- the world after it is committed
    pub world_committed : world_after ready change ≡ world_in after
    world_committed = ap world_of (λ i. λ name. sym (commits_after ready ready after change applies name) i)

    follows_name : (d t : Declared) (o : Option (List Entry)) → FollowsPortion d t o after.changes → t.name ≡ d.name
    follows_name d t None f = ap (λ (x : Declared). x.name) f
    follows_name d t (Some es) f = f.name

    found_after : (name : List ℕ) → found after name ≡ found ready name
    found_after name = ap (position (bytes_eq name)) (by_names ready.sources after.sources committed.sources.count (λ at d here. let c = committed.sources.each at d here in (c.0, c.1, follows_name d c.0 (entries_at at change) c.2)))

    one_place : (at : ℕ) (d : Declared) → slice_get ready.sources at ≡ Some d → (t : Declared) × (slice_get after.sources at ≡ Some t) × (slice_get (with_sections changed (map content_of ready.sources)) at ≡ Some (content_of t))
    one_place at d here =
        let c = committed.sources.each at d here in
        let W = section_place changed (map content_of ready.sources) at (content_of d) (content_at ready.sources at d here) in
        (c.0, c.1, W ∙ by c.0 c.1 (entries_at at change) refl c.2 (is_first d.name (map content_of ready.sources) at) refl)
      where
        by : (t : Declared) → slice_get after.sources at ≡ Some t → (o : Option (List Entry)) → entries_at at change ≡ o → FollowsPortion d t o after.changes → (b : Bool) → is_first d.name (map content_of ready.sources) at ≡ b
            → ◌≡◌ {A = Option Source} (Some (if b then with_all (content_of d) (items_for d.name changed) else content_of d)) (Some (content_of t))
        by t there (Some es) is f true first =
            let a = change_applies ready ready after change changed at d t made still committed (found_there ready d.name at d here first) here there in
            λ i. Some (record { name = sym f.name i; root = sym f.root i; key = sym f.key i; elements = sym a.0 i })
        by t there (Some es) is f false first = absurd (true≢false (sym (first_there ready d.name at d here (portion_found ready changed at d here change made.each es is)) ∙ first))
        by t there None is f true first =
            let a = change_applies ready ready after change changed at d t made still committed (found_there ready d.name at d here first) here there in
            λ i. Some (record { name = (sym f i).name; root = (sym f i).root; key = (sym f i).key; elements = sym a.0 i })
        by t there None is f false first = λ i. Some (content_of (sym f i))

    -- the sources behind it are those behind its sections
    pub moved : map content_of after.sources ≡ with_sections changed (map content_of ready.sources)
    moved = by_places ready.sources after.sources (with_sections changed (map content_of ready.sources)) committed.sources.count
        (as_many changed (map content_of ready.sources) ∙ length_of ready.sources) one_place

    -- and their last changes
    pub last_after : ((name : List ℕ) → is_named name changed ≡ true → is_some (found ready name) ≡ true) → (name : List ℕ) → last_in after name ≡ (if is_named name changed then after.changes else last_in ready name)
    last_after known name = ap (λ (o : Option ℕ). last_of (option_and_then (slice_get after.sources) o)) (found_after name) ∙ by (found ready name) refl
      where
        by : (o : Option ℕ) → found ready name ≡ o → last_of (option_and_then (slice_get after.sources) o) ≡ (if is_named name changed then after.changes else last_of (option_and_then (slice_get ready.sources) o))
        by None finds = unnamed (is_named name changed) refl
          where
            unnamed : (b : Bool) → is_named name changed ≡ b → 0 ≡ (if b then after.changes else 0)
            unnamed true named = absurd (true≢false (sym (known name named) ∙ ap (λ (o : Option ℕ). is_some o) finds))
            unnamed false named = refl
        by (Some at) finds =
            let own = found_source ready name at finds in
            let c = committed.sources.each at own.0 own.1 in
            let a = change_applies ready ready after change changed at own.0 c.0 made still committed (ap (found ready) own.2 ∙ finds) own.1 c.1 in
            ap last_of c.1 ∙ a.1 ∙ (λ i. if is_named (own.2 i) changed then after.changes else last_of (sym own.1 i))
