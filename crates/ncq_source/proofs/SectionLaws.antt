-- Sections that are prepared one after the other.
use Rattle.std.proofs.Common.{◌≡◌, ℕ, ◌<◌, ◌+◌, Bool, true, false, cond, ◌||◌, ◌&&◌, List, [], ◌∷◌, ◌++◌, map, length, get_or, slice_get, position, Option, Some, None, is_some, refl, sym, ap, ◌∙◌, subst, arith, true≢false, append_assoc}
use Rattle.std.specs.Prelude.{◌==◌, if◌then◌else◌, Err, IsFalse}
use Rattle.std.specs.Option.{option_map, option_and_then}
use Rattle.std.specs.Map.{keys_of, lookup}
use Rattle.std.specs.List.{All}
use Rattle.std.specs.List.Sorted.{IsStrictlySortedBy}
use Rattle.std.specs.BTreeMap.{BTreeMap, IsOrdered, get as tree_get}
use Rattle.std.specs.Cmp.{nat_cmp_total}
use Rattle.std.proofs.lemmas.Map.Views.{All-found}
use Rattle.std.proofs.lemmas.List.Elements.{All-head, All-tail}
use Rattle.std.specs.List.{AllByRecursion}
use Rattle.std.specs.Ordering.{nat_cmp, is_eq}
use Rattle.std.specs.Cmp.Lexicographic.{texts_ties}
use Rattle.std.specs.Str.{bytes_eq}
use Rattle.std.proofs.lemmas.Bool.Decides.{nat_tests}
use Rattle.std.proofs.lemmas.List.Quantifiers.{position-Some}
use Rattle.std.proofs.lemmas.Option.{slice_get-get_or}
use Rattle.std.proofs.lemmas.List.{append-nil}
use Rattle.ncq_base.proofs.Keyed.{bytes_apart, is_key_equiv}
use Rattle.ncq_base.proofs.Totals.{is_equal}
use Rattle.ncq_pyx.specs.declared.item.Item.{Item}
use Rattle.std.specs.FinMap.{get}
use Rattle.ncq_tree.specs.declared.model.Element.{Element}
use Rattle.ncq_pyx.specs.declared.item.Item.TheVariants.{Put, Remove}
use Rattle.ncq_source.specs.Keys.{key_of}
use Rattle.ncq_source.proofs.Trials.{seen_by}
use Rattle.ncq_source.specs.Changes.{Trial, Tells, prepared, store_after, behind, entry_of, next, put_entry, gone_entry}
use Rattle.ncq_source.specs.Changes.Trial.{Good, NoKey, NotThere}
use Rattle.ncq_source.specs.ChangeStates.{entries_at, places}
use Rattle.ncq_source.specs.Held.{Kept, with_at}
use Rattle.ncq_source.specs.Sections.{Holding, Holdings, after_section, are_known, batch_trial, go_on, holding_after, is_named, items_for, items_in, section_trial}
use Rattle.ncq_source.specs.Seens.{ArePortions, Takes, ahead_of, entries_of, placed_portion, placed_seen}
use Rattle.ncq_source.specs.Stores.{Source}
use Rattle.ncq_source.specs.StoreStates.{ArePortionsOf, IsPortion, StoreState, TellsBatch, found, holding_of, holdings_of, names}
use Rattle.ncq_source.specs.declared.change.ChangeError.{ChangeError}
use Rattle.ncq_source.specs.declared.change.ChangeError.TheVariants.{BadKey, NoSuchKey, NoSource, OutOfMemory}
use Rattle.ncq_source.specs.declared.change.Entry.{Entry}
use Rattle.ncq_source.specs.declared.change.Portion.{Portion}
use Rattle.ncq_source.specs.declared.change.Section.{Section}
use Rattle.ncq_source.specs.declared.key.Key.{Key}
use Rattle.ncq_source.specs.declared.sections.Seen.{Seen}
use Rattle.ncq_source.proofs.Folds.{no, one, rest_of, value_or}
use Rattle.ncq_source.proofs.Places.{from_map, same_Some}

abbrev FirstOf : Key → ℕ → Kept → Item → List Item → List Entry → Type 0
FirstOf rule p kept item items es = (e : Entry) × (rest : List Entry) × (entry_of rule p kept item ≡ Good e) × (rest_of rule p kept items e ≡ Good rest) × (es ≡ e ∷ rest)

-- the first entry of items that can be applied, and the others
first_of : (rule : Key) (p : ℕ) (kept : Kept) (item : Item) (items : List Item) (es : List Entry) → prepared rule p kept (item ∷ items) ≡ Good es → FirstOf rule p kept item items es
first_of rule p kept item items es h = by (entry_of rule p kept item) refl h
  where
    last : (e : Entry) → entry_of rule p kept item ≡ Good e → (t : Trial (List Entry)) → rest_of rule p kept items e ≡ t → behind e t ≡ Good es → FirstOf rule p kept item items es
    last e good (Good rest) is h = (e, rest, good, is, sym (ap (value_or es) h))
    last e good (NoKey n) is h = no h refl
    last e good (NotThere n) is h = no h refl

    by : (t : Trial Entry) → entry_of rule p kept item ≡ t → next t (rest_of rule p kept items) ≡ Good es → FirstOf rule p kept item items es
    by (Good e) good h = last e good (rest_of rule p kept items e) refl h
    by (NoKey n) good h = no h refl
    by (NotThere n) good h = no h refl

entry_anywhere : (rule : Key) (p q : ℕ) (kept : Kept) (item : Item) (e : Entry) → entry_of rule p kept item ≡ Good e → entry_of rule q kept item ≡ Good e
entry_anywhere rule p q kept (Put x) e = by (key_of rule x)
  where
    by : (o : Option (List ℕ)) → put_entry p kept o x ≡ Good e → put_entry q kept o x ≡ Good e
    by None h = no h refl
    by (Some k) h = h
entry_anywhere rule p q kept (Remove k) e = by (get kept k)
  where
    by : (o : Option Element) → gone_entry p k o ≡ Good e → gone_entry q k o ≡ Good e
    by None h = no h refl
    by (Some x) h = h

one_front : (rule : Key) (p : ℕ) (kept : Kept) (item : Item) (items : List Item) (e : Entry) (rest : List Entry) → entry_of rule p kept item ≡ Good e
    → prepared rule (p + 1) (with_at kept e.key e.after) items ≡ Good rest → prepared rule p kept (item ∷ items) ≡ Good (e ∷ rest)
one_front rule p kept item items e rest good more =
    ap (λ t. next t (λ (e : Entry). prepared rule (p + 1) (with_at kept e.key e.after) items)) good ∙ ap (behind e) more

-- where items can be applied, it does not matter how many came before
pub any_position : (rule : Key) (p q : ℕ) (kept : Kept) (items : List Item) (es : List Entry) → prepared rule p kept items ≡ Good es → prepared rule q kept items ≡ Good es
any_position rule p q kept [] es h = h
any_position rule p q kept (item ∷ items) es h =
    let f = first_of rule p kept item items es h in
    one_front rule q kept item items f.0 f.1 (entry_anywhere rule p q kept item f.0 f.2) (any_position rule (p + 1) (q + 1) (with_at kept f.0.key f.0.after) items f.1 f.3)
    ∙ ap Good (sym f.4)

-- items behind items
pub prepared_append : (rule : Key) (p q : ℕ) (kept : Kept) (xs ys : List Item) (els bs : List Entry) → prepared rule p kept xs ≡ Good els → prepared rule q (store_after rule kept xs) ys ≡ Good bs
    → prepared rule p kept (xs ++ ys) ≡ Good (els ++ bs)
prepared_append rule p q kept [] ys els bs h k = any_position rule q p kept ys bs k ∙ ap (λ (es : List Entry). Good (es ++ bs)) (ap (value_or els) h)
prepared_append rule p q kept (x ∷ xs) ys els bs h k =
    let f = first_of rule p kept x xs els h in
    let same = ap (λ kept. store_after rule kept xs) (sym (one rule p kept x f.0 f.2).0) in
    one_front rule p kept x (xs ++ ys) f.0 (f.1 ++ bs) f.2
    (prepared_append rule (p + 1) q (with_at kept f.0.key f.0.after) xs ys f.1 bs f.3 (subst (λ kept. prepared rule q kept ys ≡ Good bs) same k))
    ∙ ap (λ (es : List Entry). Good (es ++ bs)) (sym f.4)

pub same_name : (x y : List ℕ) → bytes_eq x y ≡ true → x ≡ y
same_name x y h = bytes_apart x y (is_equal _ (sym (texts_ties x y) ∙ h))

-- what is found by a name is the source of this name
pub found_source : (store : StoreState) (name : List ℕ) (at : ℕ) → found store name ≡ Some at
    → (s : Source) × (slice_get store.sources at ≡ Some s) × (s.name ≡ name)
found_source store name at here =
    let p = position-Some (bytes_eq name) (names store) at name here in
    let s = from_map (λ (s : Source). s.name) store.sources at (get_or (names store) at name) (slice_get-get_or (names store) at name p.0) in
    (s.0, s.1, s.2 ∙ sym (same_name name (get_or (names store) at name) p.1))

-- a section's source is known exactly where it is found
pub known_found : (store : StoreState) (name : List ℕ) → is_some (holdings_of store name) ≡ is_some (found store name)
known_found store name =
    elim (found store name) as (λ o. found store name ≡ o → is_some (option_map holding_of (option_and_then (slice_get store.sources) o)) ≡ is_some o) [
      | None ↦ λ e. refl
      | Some at ↦ λ e. let s = found_source store name at e in ap (λ (o : Option Source). is_some (option_map holding_of o)) s.1
    ] refl

-- where the first section names no source, not all do
pub unknown : (store : StoreState) (section : Section) (more : List Section) → found store section.source ≡ None → are_known (holdings_of store) (section ∷ more) ≡ false
unknown store section more none = ap (λ b. b && are_known (holdings_of store) more) (known_found store section.source ∙ ap (λ (o : Option ℕ). is_some o) none)

-- where it names one, the others decide
pub known_behind : (store : StoreState) (section : Section) (more : List Section) (at : ℕ) → found store section.source ≡ Some at → are_known (holdings_of store) (section ∷ more) ≡ are_known (holdings_of store) more
known_behind store section more at asked = ap (λ b. b && are_known (holdings_of store) more) (known_found store section.source ∙ ap (λ (o : Option ℕ). is_some o) asked)

abbrev Seens : Type 0
Seens = ℕ → Option Seen

abbrev holding_with : Option Seen → Source → Holding
holding_with seen s = record { rule = s.key; elements = ahead_of s seen }

holding_is : (rule : Key) {a b : Kept} → a ≡ b → ◌≡◌ {A = Holding} (record { rule = rule; elements = a }) (record { rule = rule; elements = b })
holding_is rule e = λ i. record { rule = rule; elements = e i }

abbrev now_at : StoreState → Seens → Option ℕ → Option Holding
now_at store seen None = None
now_at store seen (Some at) = option_map (holding_with (seen at)) (slice_get store.sources at)

-- the sources after the sections so far
abbrev pub now_of : StoreState → Seens → Holdings
now_of store seen name = now_at store seen (found store name)

-- before the first section they are those of the store
pub now_first : (store : StoreState) (seen : Seens) → ((q : ℕ) → seen q ≡ None) → now_of store seen ≡ holdings_of store
now_first store seen none = λ i name. by (found store name) i
  where
    by : (o : Option ℕ) → now_at store seen o ≡ option_map holding_of (option_and_then (slice_get store.sources) o)
    by None = refl
    by (Some at) = λ i. option_map (holding_with (none at i)) (slice_get store.sources at)

-- the entries of a source, with those of what is left, are those of all
abbrev pub IsGathered : StoreState → List Section → List Section → Seens → Type 0
IsGathered store all left seen = (q : ℕ) (s : Source) → slice_get store.sources q ≡ Some s → found store s.name ≡ Some q → (es : List Entry)
    → prepared s.key 1 (ahead_of s (seen q)) (items_for s.name left) ≡ Good es → prepared s.key 1 s.elements (items_for s.name all) ≡ Good (entries_of (seen q) ++ es)

-- the sources that were seen, with those that are left, are those that are named
abbrev pub AreNamed : StoreState → List Section → List Section → Seens → Type 0
AreNamed store all left seen = (name : List ℕ) (q : ℕ) → found store name ≡ Some q → (is_some (seen q) || is_named name left) ≡ is_named name all

-- what was seen is declared
abbrev pub AreSources : StoreState → Seens → Type 0
AreSources store seen = (q : ℕ) → is_some (seen q) ≡ true → (s : Source) × (slice_get store.sources q ≡ Some s) × (found store s.name ≡ Some q)

some_named : (name : List ℕ) (more : List Section) → 0 < length (items_for name more) → 0 < length more
some_named name [] h = h
some_named name (section ∷ more) h = omega arith

module _ (store : StoreState) (section : Section) (more : List Section) (at : ℕ) (s : Source) (asked : found store section.source ≡ Some at) (here : slice_get store.sources at ≡ Some s) (seen : Seens) where
  own_name : s.name ≡ section.source
  own_name = let f = found_source store section.source at asked in ap (λ (x : Source). x.name) (same_Some s f.0 (sym here ∙ f.1)) ∙ f.2

  abbrev ahead : Kept
  ahead = ahead_of s (seen at)

  known_now : now_of store seen section.source ≡ Some (record { rule = s.key; elements = ahead })
  known_now = ap (now_at store seen) asked ∙ ap (option_map (holding_with (seen at))) here

  -- the first item of the section that cannot be applied is the first of all
  pub fault_tells : (position : ℕ) (why : ChangeError) → Tells {A = List Entry} (Err why) (prepared s.key position ahead section.items)
      → TellsBatch {A = List Portion} (Err why) true (batch_trial position (now_of store seen) (section ∷ more))
  fault_tells position why tells =
      subst (λ (o : Option Holding). TellsBatch {A = List Portion} (Err why) true (go_on (section_trial position section.items o) (batch_trial (position + length section.items) (after_section (now_of store seen) section) more)))
      (sym known_now) (by (batch_trial (position + length section.items) (after_section (now_of store seen) section) more) why tells)
    where
      by : (rest : Trial (Unit {0})) (why : ChangeError) → Tells {A = List Entry} (Err why) (prepared s.key position ahead section.items) → TellsBatch {A = List Portion} (Err why) true (go_on (prepared s.key position ahead section.items) rest)
      by rest NoSource h = absurd h
      by rest (BadKey n) h = (refl, ap (λ (t : Trial (List Entry)). go_on t rest) h)
      by rest (NoSuchKey n) h = (refl, ap (λ (t : Trial (List Entry)). go_on t rest) h)
      by rest OutOfMemory h = tt

  module _ (new : Seens) (fresh : Seen) (before : ℕ) (last : Bool) (takes : Takes s (seen at) section.items before last fresh)
      (updates : (q : ℕ) → new q ≡ cond (is_eq (nat_cmp at q)) (Some fresh) (seen q)) (goes_on : 0 < length more → IsFalse last) where
    at_own : (q : ℕ) → is_eq (nat_cmp at q) ≡ true → at ≡ q
    at_own q h = grind (arith, nat_tests, h)

    new_own : (q : ℕ) → is_eq (nat_cmp at q) ≡ true → new q ≡ Some fresh
    new_own q h = updates q ∙ ap (λ t. cond t (Some fresh) (seen q)) h

    new_other : (q : ℕ) → is_eq (nat_cmp at q) ≡ false → new q ≡ seen q
    new_other q h = updates q ∙ ap (λ t. cond t (Some fresh) (seen q)) h

    -- a name that finds another source is not the section's
    other_name : (name : List ℕ) (q : ℕ) → found store name ≡ Some q → is_eq (nat_cmp at q) ≡ false → bytes_eq name section.source ≡ false
    other_name name q finds differs =
        elim (bytes_eq name section.source) as (λ t. bytes_eq name section.source ≡ t → t ≡ false) [
          | true ↦ λ same.
              let one : at ≡ q = same_Some at q (sym asked ∙ ap (found store) (sym (same_name name section.source same)) ∙ finds) in
              let tied : is_eq (nat_cmp at q) ≡ true = grind (arith, nat_tests, one) in
              absurd (true≢false (sym tied ∙ differs))
          | false ↦ λ e. refl
        ] refl

    own_items : (name : List ℕ) → name ≡ section.source → items_in name section ≡ section.items
    own_items name same = ap (λ t. if t then section.items else []) (ap (λ n. bytes_eq n section.source) same ∙ is_key_equiv.refl section.source)

    other_items : (name : List ℕ) (q : ℕ) → found store name ≡ Some q → is_eq (nat_cmp at q) ≡ false → items_in name section ≡ []
    other_items name q finds differs = ap (λ t. if t then section.items else []) (other_name name q finds differs)

    one_now : IsFalse last → (name : List ℕ) (o : Option ℕ) → found store name ≡ o → now_at store new o ≡ option_map (holding_after (items_in name section)) (now_at store seen o)
    one_now look name None finds = refl
    one_now look name (Some q) finds = by (slice_get store.sources q) refl
      where
        split : (x : Source) → slice_get store.sources q ≡ Some x → (t : Bool) → is_eq (nat_cmp at q) ≡ t → holding_with (new q) x ≡ holding_after (items_in name section) (holding_with (seen q) x)
        split x there true tied =
            let own : at ≡ q = at_own q tied in
            let is : s ≡ x = same_Some s x (sym here ∙ ap (slice_get store.sources) own ∙ there) in
            let named : name ≡ section.source = same_named own in
            let elements : ahead_of x (new q) ≡ store_after x.key (ahead_of x (seen q)) (items_in name section) =
            ap (ahead_of x) (new_own q tied) ∙ takes.ahead look ∙ (λ i. store_after (is i).key (ahead_of (is i) (seen (own i))) (sym (own_items name named) i)) in
            holding_is x.key elements
          where
            same_named : at ≡ q → name ≡ section.source
            same_named own =
                let f = found_source store name q finds in
                let g = found_source store section.source at asked in
                let is : g.0 ≡ f.0 = same_Some g.0 f.0 (sym g.1 ∙ ap (slice_get store.sources) own ∙ f.1) in
                sym f.2 ∙ ap (λ (y : Source). y.name) (sym is) ∙ g.2
        split x there false apart =
            let elements : ahead_of x (new q) ≡ store_after x.key (ahead_of x (seen q)) (items_in name section) =
            ap (ahead_of x) (new_other q apart) ∙ ap (store_after x.key (ahead_of x (seen q))) (sym (other_items name q finds apart)) in
            holding_is x.key elements

        by : (o : Option Source) → slice_get store.sources q ≡ o → option_map (holding_with (new q)) o ≡ option_map (holding_after (items_in name section)) (option_map (holding_with (seen q)) o)
        by None there = refl
        by (Some x) there = ap Some (split x there (is_eq (nat_cmp at q)) refl)

    behind_it : (position : ℕ) → position ≡ before + 1 + length section.items → batch_trial position (now_of store new) more ≡ batch_trial (before + 1 + length section.items) (after_section (now_of store seen) section) more
    behind_it position is = by more goes_on
      where
        by : (more : List Section) → (0 < length more → IsFalse last) → batch_trial position (now_of store new) more ≡ batch_trial (before + 1 + length section.items) (after_section (now_of store seen) section) more
        by [] go = refl
        by (x ∷ xs) go = let look = go (omega arith) in λ i. batch_trial (is i) (λ name. one_now look name (found store name) refl i) (x ∷ xs)

    -- what is behind the section decides
    pub trial_goes_on : (position : ℕ) → position ≡ before + 1 + length section.items → batch_trial position (now_of store new) more ≡ batch_trial (before + 1) (now_of store seen) (section ∷ more)
    trial_goes_on position is =
        behind_it position is
        ∙ sym (ap (λ (o : Option Holding). go_on (section_trial (before + 1) section.items o) (batch_trial (before + 1 + length section.items) (after_section (now_of store seen) section) more)) known_now
        ∙ ap (λ (t : Trial (List Entry)). go_on t (batch_trial (before + 1 + length section.items) (after_section (now_of store seen) section) more)) takes.good)

    pub gathers : (all : List Section) → IsGathered store all (section ∷ more) seen → IsGathered store all more new
    gathers all old q x there finds es h = by (is_eq (nat_cmp at q)) refl
      where
        by : (t : Bool) → is_eq (nat_cmp at q) ≡ t → prepared x.key 1 x.elements (items_for x.name all) ≡ Good (entries_of (new q) ++ es)
        by true tied =
            let own : at ≡ q = at_own q tied in
            let is : s ≡ x = same_Some s x (sym here ∙ ap (slice_get store.sources) own ∙ there) in
            let named : x.name ≡ section.source = ap (λ (y : Source). y.name) (sym is) ∙ own_name in
            let good : prepared x.key (before + 1) (ahead_of x (seen q)) section.items ≡ Good takes.added = subst (λ (y : Source). prepared y.key (before + 1) (ahead_of y (seen q)) section.items ≡ Good takes.added) is (subst (λ n. prepared s.key (before + 1) (ahead_of s (seen n)) section.items ≡ Good takes.added) own takes.good) in
            let seen_now : prepared x.key 1 fresh.ahead (items_for x.name more) ≡ Good es = subst (λ (o : Option Seen). prepared x.key 1 (ahead_of x o) (items_for x.name more) ≡ Good es) (new_own q tied) h in
            let looks : 0 < length (items_for x.name more) → fresh.ahead ≡ store_after x.key (ahead_of x (seen q)) section.items =
            λ some. takes.ahead (goes_on (some_named x.name more some)) ∙ (λ i. store_after (is i).key (ahead_of (is i) (seen (own i))) section.items) in
            let rest : prepared x.key 1 (store_after x.key (ahead_of x (seen q)) section.items) (items_for x.name more) ≡ Good es = sym (seen_by x.key (items_for x.name more) 1 1 fresh.ahead (store_after x.key (ahead_of x (seen q)) section.items) refl looks) ∙ seen_now in
            let both : prepared x.key 1 (ahead_of x (seen q)) (section.items ++ items_for x.name more) ≡ Good (takes.added ++ es) =
            prepared_append x.key 1 1 (ahead_of x (seen q)) section.items (items_for x.name more) takes.added es (any_position x.key (before + 1) 1 (ahead_of x (seen q)) section.items takes.added good) rest in
            let all_left : prepared x.key 1 (ahead_of x (seen q)) (items_in x.name section ++ items_for x.name more) ≡ Good (takes.added ++ es) =
            ap (λ items. prepared x.key 1 (ahead_of x (seen q)) (items ++ items_for x.name more)) (own_items x.name named) ∙ both in
            old q x there finds (takes.added ++ es) all_left
            ∙ ap Good (sym (append_assoc (entries_of (seen q)) takes.added es) ∙ ap (λ (xs : List Entry). xs ++ es) (ap (λ n. entries_of (seen n) ++ takes.added) (sym own) ∙ sym takes.entries) ∙ ap (λ (o : Option Seen). entries_of o ++ es) (sym (new_own q tied)))
        by false apart =
            let left : prepared x.key 1 (ahead_of x (seen q)) (items_in x.name section ++ items_for x.name more) ≡ Good es =
            ap (λ items. prepared x.key 1 (ahead_of x (seen q)) (items ++ items_for x.name more)) (other_items x.name q finds apart)
            ∙ subst (λ (o : Option Seen). prepared x.key 1 (ahead_of x o) (items_for x.name more) ≡ Good es) (new_other q apart) h in
            old q x there finds es left ∙ ap (λ (o : Option Seen). Good (entries_of o ++ es)) (sym (new_other q apart))

    pub names_go_on : (all : List Section) → AreNamed store all (section ∷ more) seen → AreNamed store all more new
    names_go_on all old name q finds = by (is_eq (nat_cmp at q)) refl
      where
        by : (t : Bool) → is_eq (nat_cmp at q) ≡ t → (is_some (new q) || is_named name more) ≡ is_named name all
        by true tied =
            let own : at ≡ q = at_own q tied in
            let f = found_source store name q finds in
            let is : s ≡ f.0 = same_Some s f.0 (sym here ∙ ap (slice_get store.sources) own ∙ f.1) in
            let named : name ≡ section.source = sym f.2 ∙ ap (λ (y : Source). y.name) (sym is) ∙ own_name in
            let test : bytes_eq name section.source ≡ true = ap (λ n. bytes_eq n section.source) named ∙ is_key_equiv.refl section.source in
            ap (λ (o : Option Seen). is_some o || is_named name more) (new_own q tied)
            ∙ sym (or_true (is_some (seen q))) ∙ ap (λ t. is_some (seen q) || (t || is_named name more)) (sym test) ∙ old name q finds
          where
            or_true : (b : Bool) → (b || true) ≡ true
            or_true true = refl
            or_true false = refl
        by false apart =
            ap (λ (o : Option Seen). is_some o || is_named name more) (new_other q apart)
            ∙ ap (λ t. is_some (seen q) || (t || is_named name more)) (sym (other_name name q finds apart)) ∙ old name q finds

    pub sources_go_on : AreSources store seen → AreSources store new
    sources_go_on old q some = by (is_eq (nat_cmp at q)) refl
      where
        by : (t : Bool) → is_eq (nat_cmp at q) ≡ t → (x : Source) × (slice_get store.sources q ≡ Some x) × (found store x.name ≡ Some q)
        by true tied =
            let own : at ≡ q = at_own q tied in
            (s, ap (slice_get store.sources) (sym own) ∙ here, ap (found store) own_name ∙ asked ∙ ap Some own)
        by false apart = old q (ap (λ (o : Option Seen). is_some o) (sym (new_other q apart)) ∙ some)

-- the test by order is that by equality
eq_tests : (a b : ℕ) → (a == b) ≡ is_eq (nat_cmp a b)
eq_tests a b = elim (is_eq (nat_cmp a b)) as (λ t. is_eq (nat_cmp a b) ≡ t → (a == b) ≡ t) [
  | true ↦ λ h. grind (arith, nat_tests, h)
  | false ↦ λ h. grind (arith, nat_tests, h)
] refl

abbrev firsts : List (ℕ × List Entry) → List ℕ
firsts pairs = map (λ pair. pair.0) pairs

places_are : (portions : List Portion) → places portions ≡ firsts (map placed_portion portions)
places_are [] = refl
places_are (portion ∷ portions) = ap (λ (xs : List ℕ). portion.source.0 ∷ xs) (places_are portions)

keys_are : (pairs : List (ℕ × Seen)) → firsts (map placed_seen pairs) ≡ keys_of pairs
keys_are [] = refl
keys_are (pair ∷ pairs) = ap (λ (xs : List ℕ). pair.0 ∷ xs) (keys_are pairs)

entries_found : (at : ℕ) (pairs : List (ℕ × Seen)) (portions : List Portion) → map placed_portion portions ≡ map placed_seen pairs → is_some (entries_at at portions) ≡ is_some (lookup (λ k. is_eq (nat_cmp at k)) pairs)
entries_found at [] [] e = refl
entries_found at [] (portion ∷ portions) e = cc
entries_found at (pair ∷ pairs) [] e = cc
entries_found at (pair ∷ pairs) (portion ∷ portions) e =
    let first : placed_portion portion ≡ placed_seen pair = cc in
    let rest : map placed_portion portions ≡ map placed_seen pairs = cc in
    let same : (at == portion.source.0) ≡ is_eq (nat_cmp at pair.0) = ap (λ (x : ℕ × List Entry). at == x.0) first ∙ eq_tests at pair.0 in
    ap (λ t. is_some (if t then Some portion.entries else entries_at at portions)) same
    ∙ elim (is_eq (nat_cmp at pair.0)) as (λ t. is_some (if t then Some portion.entries else entries_at at portions) ≡ is_some (cond t (Some pair.1) (lookup (λ k. is_eq (nat_cmp at k)) pairs))) [
      | true ↦ refl
      | false ↦ entries_found at pairs portions rest
    ]

module _ (store : StoreState) (all : List Section) (m : BTreeMap ℕ Seen) (gathered : IsGathered store all [] (tree_get nat_cmp m)) (named : AreNamed store all [] (tree_get nat_cmp m)) (sources : AreSources store (tree_get nat_cmp m)) where
  or_false : (b : Bool) → (b || false) ≡ b
  or_false true = refl
  or_false false = refl

  one_portion : (q : ℕ) (seen : Seen) (portion : Portion) → tree_get nat_cmp m q ≡ Some seen → placed_portion portion ≡ placed_seen (q, seen) → IsPortion store all portion
  one_portion q seen portion has same =
      let own = sources q (ap (λ (o : Option Seen). is_some o) has) in
      let place : portion.source.0 ≡ q = ap (λ (x : ℕ × List Entry). x.0) same in
      let entries : portion.entries ≡ seen.entries = ap (λ (x : ℕ × List Entry). x.1) same in
      record {
        source = own.0;
        here = ap (slice_get store.sources) place ∙ own.1;
        found = own.2 ∙ ap Some (sym place);
        named = sym (named own.0.name q own.2) ∙ or_false (is_some (tree_get nat_cmp m q)) ∙ ap (λ (o : Option Seen). is_some o) has;
        entries = gathered q own.0 own.1 own.2 [] refl ∙ ap Good (append-nil (entries_of (tree_get nat_cmp m q)) ∙ ap entries_of has ∙ sym entries);
      }

  each_portion : (pairs : List (ℕ × Seen)) (portions : List Portion) → All (λ (pair : ℕ × Seen). tree_get nat_cmp m pair.0 ≡ Some pair.1) pairs → map placed_portion portions ≡ map placed_seen pairs → AllByRecursion (IsPortion store all) portions
  each_portion [] [] has e = tt
  each_portion [] (portion ∷ portions) has e = cc
  each_portion (pair ∷ pairs) [] has e = tt
  each_portion (pair ∷ pairs) (portion ∷ portions) has e =
      let first : placed_portion portion ≡ placed_seen pair = cc in
      let rest : map placed_portion portions ≡ map placed_seen pairs = cc in (
        one_portion pair.0 pair.1 portion (All-head (λ (pair : ℕ × Seen). tree_get nat_cmp m pair.0 ≡ Some pair.1) pair pairs has) first,
        each_portion pairs portions (All-tail (λ (pair : ℕ × Seen). tree_get nat_cmp m pair.0 ≡ Some pair.1) pair pairs has) rest,
      )

  -- what was prepared of each source is what the sections do to it
  pub portions_are : (portions : List Portion) → ArePortions m.entries portions → IsOrdered nat_cmp m → ArePortionsOf store all portions
  portions_are portions are ordered = record {
    rising = subst (IsStrictlySortedBy nat_cmp) (sym (places_are portions ∙ ap firsts are ∙ keys_are m.entries)) ordered;
    each = each_portion m.entries portions (All-found nat_cmp_total m ordered) are;
    all = λ name at asks finds. entries_found at m.entries portions are ∙ sym (or_false (is_some (tree_get nat_cmp m at))) ∙ named name at finds ∙ asks;
  }
