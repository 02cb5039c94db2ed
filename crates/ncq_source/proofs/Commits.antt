-- What a commit leaves of a store.
use Rattle.std.proofs.Common.{◌≡◌, ℕ, zero, suc, ◌<◌, Bool, true, false, cond, List, [], ◌∷◌, ◌++◌, map, length, set, slice_get, Option, Some, refl, sym, ap, ◌∙◌, subst, arith}
use Rattle.std.specs.Prelude.{IfSome, ◌≢◌}
use Rattle.std.specs.FinMap.{get}
use Rattle.std.specs.Ordering.{nat_cmp, eq_by_cmp}
use Rattle.std.specs.Cmp.Lexicographic.{slice_cmp}
use Rattle.std.proofs.lemmas.Option.{slice_get_within, slice_get-map}
use Rattle.std.specs.Option.{option_map}
use Rattle.ncq_base.specs.Keys.{map_of}
use Rattle.ncq_base.proofs.Keyed.{get_map_of}
use Rattle.ncq_tree.specs.declared.model.Element.{Element}
use Rattle.ncq_source.specs.Changes.{after, taken, store_after}
use Rattle.ncq_source.specs.Held.{Kept, with_at}
use Rattle.ncq_pyx.specs.declared.item.Item.{Item}
use Rattle.std.proofs.Common.{append_assoc, true≢false, is_some, ◌||◌, ◌&&◌}
use Rattle.std.specs.Prelude.{None, ◌==◌, if◌then◌else◌}
use Rattle.std.specs.List.{AllByRecursion, list_all}
use Rattle.std.specs.Str.{bytes_eq}
use Rattle.std.proofs.lemmas.Bool.Decides.{nat_tests}
use Rattle.ncq_base.proofs.Tests.{both_true}
use Rattle.ncq_pyx.specs.Items.{item_is_proper}
use Rattle.ncq_source.specs.Changes.{prepared}
use Rattle.ncq_source.specs.Changes.Trial.{Good}
use Rattle.ncq_source.specs.ChangeStates.{entries_at}
use Rattle.ncq_source.specs.Sections.{is_named, items_for, items_in}
use Rattle.ncq_source.specs.declared.change.Portion.{Portion}
use Rattle.ncq_source.specs.declared.change.Section.{Section}
use Rattle.ncq_source.proofs.Folds.{fold_of_entries}
use Rattle.ncq_source.proofs.Prepares.{puts_proper as entries_of_proper}
use Rattle.ncq_source.specs.Proper.{IsProper, IsProperStore, HoldsProper, PutsProper, PutsProperPortion, puts_proper}
use Rattle.ncq_source.specs.Stores.{Source, declared, without_room}
use Rattle.ncq_source.specs.StoreStates.{ArePortionsOf, StoreState, Declares, FollowsPortion, IsAlike, IsCommitted, IsPortion, found}
use Rattle.ncq_source.specs.declared.change.Entry.{Entry}
use Rattle.ncq_source.proofs.Over.{get_with_at}
use Rattle.ncq_source.proofs.Places.{same_Some, same_at, from_map}

module _ {A : Type 0} where
  -- a place within a list has an item
  pub some_at : (xs : List A) (i : ℕ) → i < length xs → (x : A) × (slice_get xs i ≡ Some x)
  some_at [] i h = absurd (omega (arith, h))
  some_at (x ∷ xs) zero h = (x, refl)
  some_at (x ∷ xs) (suc i) h = some_at xs i (let less : i < length xs = omega (arith, h) in less)

  set_other : (xs : List A) (i j : ℕ) (y : A) → j ≢ i → slice_get (set xs i y) j ≡ slice_get xs j
  set_other [] i j y apart = refl
  set_other (x ∷ xs) zero zero y apart = absurd (apart refl)
  set_other (x ∷ xs) zero (suc j) y apart = refl
  set_other (x ∷ xs) (suc i) zero y apart = refl
  set_other (x ∷ xs) (suc i) (suc j) y apart = set_other xs i j y (λ e. apart (ap suc e))

  -- what holds of the item that was set and of the items before holds of the items now
  by_set : (P : A → Type 0) (xs : List A) (i j : ℕ) (y t : A) → P y → (slice_get xs j ≡ Some t → P t) → slice_get (set xs i y) j ≡ Some t → P t
  by_set P [] i j y t one old h = old h
  by_set P (x ∷ xs) zero zero y t one old h = subst P (same_Some y t h) one
  by_set P (x ∷ xs) zero (suc j) y t one old h = old h
  by_set P (x ∷ xs) (suc i) zero y t one old h = old h
  by_set P (x ∷ xs) (suc i) (suc j) y t one old h = by_set P xs i j y t one old h

  -- what holds of the item behind and of the items before holds of the items now
  by_push : (P : A → Type 0) (xs : List A) (j : ℕ) (y t : A) → P y → (slice_get xs j ≡ Some t → P t) → slice_get (xs ++ y ∷ []) j ≡ Some t → P t
  by_push P [] zero y t one old h = subst P (same_Some y t h) one
  by_push P [] (suc j) y t one old h = old h
  by_push P (x ∷ xs) zero y t one old h = old h
  by_push P (x ∷ xs) (suc j) y t one old h = by_push P xs j y t one old h

-- items taken at once and in two parts lead to the same elements
pub parts_add_up : (rule : _) (kept : Kept) (first second : List Item) → store_after rule kept (first ++ second) ≡ store_after rule (store_after rule kept first) second
parts_add_up rule kept [] second = refl
parts_add_up rule kept (item ∷ first) second = parts_add_up rule (taken rule kept item) first second

one_of : (b : Bool) (now old : Option Element) → IfSome now IsProper → IfSome old IsProper → IfSome (cond b now old) IsProper
one_of true now old p q = p
one_of false now old p q = q

with_proper : (kept : Kept) (key : List ℕ) (now : Option Element) → HoldsProper kept → IfSome now IsProper → HoldsProper (with_at kept key now)
with_proper kept key now proper one q = subst (λ o. IfSome o IsProper) (sym (get_with_at kept key now q)) (one_of (eq_by_cmp (slice_cmp nat_cmp) q key) now (get kept q) one (proper q))

after_proper : (kept : Kept) (entries : List Entry) → HoldsProper kept → PutsProper entries → HoldsProper (after kept entries)
after_proper kept [] proper puts = proper
after_proper kept (entry ∷ entries) proper puts = after_proper (with_at kept entry.key entry.after) entries (with_proper kept entry.key entry.after proper puts.0) puts.1

abbrev are_proper : Source → Type 0
are_proper source = HoldsProper source.elements

none_proper : HoldsProper (map_of [])
none_proper key = subst (λ o. IfSome o IsProper) (sym (get_map_of [] key)) tt

-- a store without sources is proper
pub empty_is_proper : (store : StoreState) → store.sources ≡ [] → IsProperStore store
empty_is_proper store none at s here = absurd (no_item (subst (λ xs. slice_get xs at ≡ Some s) none here))
  where
    no_item : slice_get [] at ≡ Some s → ⊥
    no_item h = cc

-- a new source has no elements, so it leaves the elements proper
pub declare_stays_proper : (old new : StoreState) (name root : List ℕ) (key : _) → Declares old new name root key → IsProperStore old → IsProperStore new
declare_stays_proper old new name root key more proper at t here =
    by_push are_proper (map without_room old.sources) at (declared name root key) (without_room t) none_proper
    (λ before. let s = from_map without_room old.sources at (without_room t) before in subst are_proper s.2 (proper at s.0 s.1))
    (subst (λ all. slice_get all at ≡ Some (without_room t)) more.sources (slice_get-map without_room new.sources at ∙ ap (option_map without_room) here))

-- room does not matter to whether the elements are proper
pub room_stays_proper : (store ready : StoreState) → IsAlike store ready → IsProperStore store → IsProperStore ready
room_stays_proper store ready alike proper at r here =
    let s = same_at without_room store.sources ready.sources at r (sym alike.sources) here in
    subst are_proper s.2 (proper at s.0 s.1)

entries_proper : (at : ℕ) (portions : List Portion) (es : List Entry) → AllByRecursion PutsProperPortion portions → entries_at at portions ≡ Some es → PutsProper es
entries_proper at [] es puts is = cc
entries_proper at (portion ∷ portions) es puts is = by (λ is. entries_proper at portions es puts.1 is) (at == portion.source.0) is
  where
    by : (entries_at at portions ≡ Some es → PutsProper es) → (t : Bool) → (if t then Some portion.entries else entries_at at portions) ≡ Some es → PutsProper es
    by rest true is = subst PutsProper (same_Some portion.entries es is) puts.0
    by rest false is = rest is

follows_proper : (s t : Source) (o : Option (List Entry)) (number : ℕ) → FollowsPortion s t o number → ((es : List Entry) → o ≡ Some es → PutsProper es) → are_proper s → are_proper t
follows_proper s t None number follows puts proper = subst are_proper (sym follows) proper
follows_proper s t (Some es) number follows puts proper = subst HoldsProper (sym follows.elements) (after_proper s.elements es proper (puts es refl))

-- a commit of proper elements leaves the elements proper
pub commit_stays_proper : (ready done : StoreState) (change : List Portion) → IsCommitted ready change done → AllByRecursion PutsProperPortion change → IsProperStore ready → IsProperStore done
commit_stays_proper ready done change committed puts proper at t here =
    let within : at < length ready.sources = subst (λ n. at < n) committed.sources.count (slice_get_within done.sources at t here) in
    let r = some_at ready.sources at within in
    let c = committed.sources.each at r.0 r.1 in
    subst are_proper (same_Some c.0 t (sym c.1 ∙ here))
    (follows_proper r.0 c.0 (entries_at at change) done.changes c.2 (λ es is. entries_proper at change es puts is) (proper at r.0 r.1))

-- what sections leave of a source

items_append : (name : List ℕ) (first second : List Section) → items_for name (first ++ second) ≡ items_for name first ++ items_for name second
items_append name [] second = refl
items_append name (section ∷ first) second = ap (λ items. items_in name section ++ items) (items_append name first second) ∙ sym (append_assoc (items_in name section) (items_for name first) (items_for name second))

-- sections taken at once and in two parts lead to the same elements
pub sections_add_up : (rule : _) (kept : Kept) (name : List ℕ) (first second : List Section) → store_after rule kept (items_for name (first ++ second)) ≡ store_after rule (store_after rule kept (items_for name first)) (items_for name second)
sections_add_up rule kept name first second = ap (store_after rule kept) (items_append name first second) ∙ parts_add_up rule kept (items_for name first) (items_for name second)

none_named : (name : List ℕ) (sections : List Section) → is_named name sections ≡ false → items_for name sections ≡ []
none_named name [] h = refl
none_named name (section ∷ sections) h = by (λ h. none_named name sections h) (bytes_eq name section.source) h
  where
    by : (is_named name sections ≡ false → items_for name sections ≡ []) → (t : Bool) → (t || is_named name sections) ≡ false → (if t then section.items else []) ++ items_for name sections ≡ []
    by rest true h = absurd (true≢false h)
    by rest false h = rest h

-- the portion of a source that stands in a change
pub portion_there : (store : StoreState) (sections : List Section) (at : ℕ) (s : Source) → slice_get store.sources at ≡ Some s → (portions : List Portion) → AllByRecursion (IsPortion store sections) portions → (es : List Entry) → entries_at at portions ≡ Some es
    → (is_named s.name sections ≡ true) × (prepared s.key 1 s.elements (items_for s.name sections) ≡ Good es)
portion_there store sections at s here [] each es is = cc
portion_there store sections at s here (portion ∷ portions) each es is = by (λ is. portion_there store sections at s here portions each.1 es is) (at == portion.source.0) refl is
  where
    by : (entries_at at portions ≡ Some es → (is_named s.name sections ≡ true) × (prepared s.key 1 s.elements (items_for s.name sections) ≡ Good es)) → (t : Bool) → (at == portion.source.0) ≡ t → (if t then Some portion.entries else entries_at at portions) ≡ Some es → (is_named s.name sections ≡ true) × (prepared s.key 1 s.elements (items_for s.name sections) ≡ Good es)
    by rest true same is =
        let place : at ≡ portion.source.0 = grind (arith, nat_tests, same) in
        let own : each.0.source ≡ s = same_Some each.0.source s (sym each.0.here ∙ ap (slice_get store.sources) (sym place) ∙ here) in
        let first = subst (λ (x : Source). is_named x.name sections ≡ true) own each.0.named in
        let second = subst (λ (x : Source). prepared x.key 1 x.elements (items_for x.name sections) ≡ Good portion.entries) own each.0.entries in
        (first, second ∙ ap Good (same_Some portion.entries es is))
    by rest false same is = rest is

module _ (store ready done : StoreState) (change : List Portion) (sections : List Section) (at : ℕ) (s t : Source) (made : ArePortionsOf store sections change) (alike : IsAlike store ready) (committed : IsCommitted ready change done)
    (finds : found store s.name ≡ Some at) (here : slice_get store.sources at ≡ Some s) (last : slice_get done.sources at ≡ Some t) where
  abbrev Applied : Type 0
  Applied = (t.elements ≡ store_after s.key s.elements (items_for s.name sections)) × (t.last ≡ (if is_named s.name sections then done.changes else s.last))

  left_as_is : (r : Source) → without_room r ≡ without_room s → t ≡ r → is_named s.name sections ≡ false → Applied
  left_as_is r same is none = (
    ap (λ (x : Source). x.elements) is ∙ ap (λ (x : Source). x.elements) same ∙ ap (store_after s.key s.elements) (sym (none_named s.name sections none)),
    ap (λ (x : Source). x.last) is ∙ ap (λ (x : Source). x.last) same ∙ ap (λ b. if b then done.changes else s.last) (sym none),
  )

  follows : (r : Source) → without_room r ≡ without_room s → (o : Option (List Entry)) → entries_at at change ≡ o → FollowsPortion r t o done.changes → Applied
  follows r same None is f = by (is_named s.name sections) refl
    where
      by : (b : Bool) → is_named s.name sections ≡ b → Applied
      by true named = absurd (true≢false (sym (made.all s.name at named finds) ∙ ap (λ (o : Option (List Entry)). is_some o) is))
      by false none = left_as_is r same f none
  follows r same (Some es) is f =
      let portion = portion_there store sections at s here change made.each es is in (
        f.elements ∙ ap (λ (x : Source). after x.elements es) same ∙ (fold_of_entries s.key 1 s.elements (items_for s.name sections) es portion.1).0,
        f.last ∙ ap (λ b. if b then done.changes else s.last) (sym portion.0),
      )

  -- a source has the elements after the items of the sections that name it, and then the change's number
  pub change_applies : Applied
  change_applies =
      let r = same_at without_room ready.sources store.sources at s alike.sources here in
      let c = committed.sources.each at r.0 r.1 in
      follows r.0 r.2 (entries_at at change) refl (subst (λ (x : Source). FollowsPortion r.0 x (entries_at at change) done.changes) (same_Some c.0 t (sym c.1 ∙ last)) c.2)

all_both : (items more : List Item) → list_all item_is_proper items ≡ true → list_all item_is_proper more ≡ true → list_all item_is_proper (items ++ more) ≡ true
all_both [] more a b = b
all_both (x ∷ items) more a b = let p = both_true (item_is_proper x) (list_all item_is_proper items) a in λ i. p.0 i && all_both items more p.1 b i

proper_items : (name : List ℕ) (sections : List Section) → list_all puts_proper sections ≡ true → list_all item_is_proper (items_for name sections) ≡ true
proper_items name [] h = refl
proper_items name (section ∷ sections) h = by (proper_items name sections (both_true (puts_proper section) (list_all puts_proper sections) h).1) (bytes_eq name section.source)
  where
    by : list_all item_is_proper (items_for name sections) ≡ true → (t : Bool) → list_all item_is_proper ((if t then section.items else []) ++ items_for name sections) ≡ true
    by rest true = all_both section.items (items_for name sections) (both_true (puts_proper section) (list_all puts_proper sections) h).0 rest
    by rest false = rest

-- the portions of proper sections are proper
pub portions_proper : (store : StoreState) (sections : List Section) (portions : List Portion) → list_all puts_proper sections ≡ true → AllByRecursion (IsPortion store sections) portions → AllByRecursion PutsProperPortion portions
portions_proper store sections [] h each = tt
portions_proper store sections (portion ∷ portions) h each =
    (entries_of_proper each.0.source.key 1 each.0.source.elements (items_for each.0.source.name sections) portion.entries each.0.entries (proper_items each.0.source.name sections h), portions_proper store sections portions h each.1)

-- the sources of what sections do are declared
pub portions_declared : (store : StoreState) (sections : List Section) (portions : List Portion) → AllByRecursion (IsPortion store sections) portions → AllByRecursion (λ (portion : Portion). portion.source.0 < length store.sources) portions
portions_declared store sections [] each = tt
portions_declared store sections (portion ∷ portions) each = (slice_get_within store.sources portion.source.0 each.0.source each.0.here, portions_declared store sections portions each.1)
