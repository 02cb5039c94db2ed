-- The rows of a shape in the elements that a source shows, and those in its elements in their own order.
use Rattle.std.proofs.Common.{◌≡◌, ℕ, zero, suc, ◌+◌, ◌≤◌, List, [], ◌∷◌, ◌++◌, map, length, take, drop, slice_get, refl, sym, ◌∙◌, ap, subst, arith, add-one, append_assoc, length-append}
use Rattle.std.specs.Prelude.{Option, Some, None}
use Rattle.std.specs.Option.{option_and_then}
use Rattle.std.specs.FinMap.{entries, len-entries, len-empty}
use Rattle.std.specs.Ordering.{nat_cmp}
use Rattle.std.specs.Cmp.Lexicographic.{slice_cmp}
use Rattle.std.specs.Coded.{Coded, coded×, coded_ℕ, coded_list}
use Rattle.std.proofs.lemmas.List.{append-nil, nil_from_length}
use Rattle.ncq_base.specs.Counts.{SameCounts}
use Rattle.ncq_base.specs.Exact.{exact, exact_is, exact_itself}
use Rattle.ncq_base.proofs.CountLaws.{counts-flat_map, counts-map, counts-length, counts_from_times}
use Rattle.ncq_tree.specs.declared.model.Element.{Element}
use Rattle.ncq_tree.specs.contracts.model.Element.{the_row as element_row}
use Rattle.ncq_row.specs.Embeddings.{Row, rows_of}
use Rattle.ncq_row.specs.declared.shape.Shape.{Shape}
use Rattle.ncq_plan.specs.Exprs.{scan_rows}
use Rattle.ncq_source.specs.Stores.{Source, ShowsEach}
use Rattle.ncq_source.specs.StoreStates.{StoreState, found, source_named}
use Rattle.ncq_source.proofs.Shown.{shows_counts}
use Rattle.ncq_change.specs.Stores.{world_in, elements_of}
use Rattle.ncq_change.proofs.CallerLemmas.{found_name}

-- one element more
module _ (shape : Shape) where
  rows_more : (xs : List Element) (at : ℕ) (x : Element) → slice_get xs at ≡ Some x → scan_rows shape (take (suc at) xs) ≡ scan_rows shape (take at xs) ++ rows_of shape x
  rows_more [] at x e = absurd cc
  rows_more (y ∷ ys) zero x e = let same : y ≡ x = cc in append-nil (rows_of shape y) ∙ ap (rows_of shape) same
  rows_more (y ∷ ys) (suc at) x e =
      ap (λ rows. rows_of shape y ++ rows) (rows_more ys at x e)
      ∙ sym (append_assoc (rows_of shape y) (scan_rows shape (take at ys)) (rows_of shape x))

  rows_left : (xs : List Element) (at : ℕ) (x : Element) → slice_get xs at ≡ Some x → scan_rows shape (drop at xs) ≡ rows_of shape x ++ scan_rows shape (drop (suc at) xs)
  rows_left [] at x e = absurd cc
  rows_left (y ∷ ys) zero x e = let same : y ≡ x = cc in ap (λ z. rows_of shape z ++ scan_rows shape ys) same
  rows_left (y ∷ ys) (suc at) x e = rows_left ys at x e

  module _ (xs : List Element) (at : ℕ) (x : Element) (here : slice_get xs at ≡ Some x) where
    pub shown_more : (before rows more : List Row) → rows ≡ before ++ scan_rows shape (take at xs) → more ≡ rows ++ rows_of shape x → more ≡ before ++ scan_rows shape (take (at + 1) xs)
    shown_more before rows more was is =
        is ∙ ap (λ r. r ++ rows_of shape x) was ∙ append_assoc before (scan_rows shape (take at xs)) (rows_of shape x)
        ∙ ap (λ r. before ++ r) (sym (rows_more xs at x here) ∙ ap (λ n. scan_rows shape (take n xs)) (sym (add-one at)))

    pub shown_left : length (scan_rows shape (drop at xs)) ≡ length (rows_of shape x) + length (scan_rows shape (drop (at + 1) xs))
    shown_left =
        ap length (rows_left xs at x here ∙ ap (λ n. rows_of shape x ++ scan_rows shape (drop n xs)) (sym (add-one at)))
        ∙ length-append (rows_of shape x) (scan_rows shape (drop (at + 1) xs))

abbrev pair_code : Coded (List ℕ × Element)
pair_code = coded× (coded_list coded_ℕ) element_row.coded

-- the elements that are shown are those of the source, each as often
shown_same : (source : Source) → ShowsEach source → SameCounts (map (λ entry. entry.1) source.shown) (map (λ entry. entry.1) (entries source.elements))
shown_same source shows =
    counts-map (λ (entry : List ℕ × Element). entry.1) source.shown (entries source.elements)
    (counts_from_times (exact pair_code) (exact_is pair_code) (exact_itself pair_code) source.shown (entries source.elements)
    (λ q. sym (shows_counts source shows (exact pair_code q))))

-- a source that is found has the rows that are shown
module _ (shape : Shape) (store : StoreState) (name : List ℕ) (at : ℕ) (here : found store name ≡ Some at)
    (shows : (source : Source) → slice_get store.sources at ≡ Some source → ShowsEach source) where
  rows_shown : (source : Source) × (slice_get store.sources at ≡ Some source) × SameCounts (scan_rows shape (map (λ entry. entry.1) source.shown)) (scan_rows shape (world_in store name))
  rows_shown =
      let s = found_name store name at here in
      let named : source_named store name ≡ Some s.0 = ap (option_and_then (slice_get store.sources)) here ∙ s.1 in
      let shown = map (λ (entry : List ℕ × Element). entry.1) s.0.shown in (
        s.0,
        s.1,
        subst (λ (o : Option Source). SameCounts (scan_rows shape shown) (scan_rows shape (map (λ entry. entry.1) (entries (elements_of o))))) (sym named)
            (counts-flat_map (rows_of shape) shown (map (λ entry. entry.1) (entries s.0.elements)) (shown_same s.0 (shows s.0 s.1))),
      )

  pub scan_same : (rows : List Row) → ((source : Source) → slice_get store.sources at ≡ Some source → rows ≡ scan_rows shape (map (λ entry. entry.1) source.shown))
      → SameCounts rows (scan_rows shape (world_in store name))
  scan_same rows is = let s = rows_shown in subst (λ (r : List Row). SameCounts r (scan_rows shape (world_in store name))) (sym (is s.0 s.1)) s.2

  pub scan_cost : (before after : ℕ) → ((source : Source) → slice_get store.sources at ≡ Some source → after ≤ before + length (scan_rows shape (map (λ entry. entry.1) source.shown)))
      → after ≤ before + length (scan_rows shape (world_in store name))
  scan_cost before after cost =
      let s = rows_shown in
      let long = counts-length (scan_rows shape (map (λ entry. entry.1) s.0.shown)) (scan_rows shape (world_in store name)) s.2 in
      let few = cost s.0 s.1 in
      omega arith

no_entries : map (λ (entry : List ℕ × Element). entry.1) (entries (elements_of None)) ≡ []
no_entries = ap (map (λ (entry : List ℕ × Element). entry.1)) (nil_from_length (entries (elements_of None)) (sym (len-entries (elements_of None)) ∙ len-empty (slice_cmp nat_cmp) Element))

-- one that is not found has none
pub scan_none : (shape : Shape) (store : StoreState) (name : List ℕ) → found store name ≡ None → SameCounts [] (scan_rows shape (world_in store name))
scan_none shape store name none =
    let named : source_named store name ≡ None = ap (option_and_then (slice_get store.sources)) none in
    subst (λ (o : Option Source). SameCounts [] (scan_rows shape (map (λ entry. entry.1) (entries (elements_of o))))) (sym named)
    (subst (λ (w : List Element). SameCounts [] (scan_rows shape w)) (sym no_entries) (λ f. refl))
