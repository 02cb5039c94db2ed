-- What finders keep when rows come behind those that they have, or go.
use Rattle.std.proofs.Common.{◌≡◌, ◌∙◌, ℕ, Bool, true, false, List, [], ◌∷◌, ◌++◌, map, length, take, drop, take-append-drop, sym, ap, subst, arith}
use Rattle.std.specs.List.{AllByRecursion, items_where_true}
use Rattle.std.proofs.lemmas.List.Elements.{All-from_recursion, All-map, All-weaker, recursion_from_All}
use Rattle.ncq_midfile.specs.Finders.{IsFinder, AreFinders, IsIndexOn, IsOrderBy, cut_finder}
use Rattle.ncq_midfile.specs.declared.finder.Finder.{Finder}
use Rattle.ncq_midfile.specs.declared.finder.Finder.TheVariants.{Index, Order}
use Rattle.ncq_midfile.specs.declared.index.Index.{Index as an_index}
use Rattle.ncq_midfile.specs.declared.order.Order.{Order as an_order}
use Rattle.ncq_midfile.specs.declared.signed.SignedRow.{SignedRow}
use Rattle.ncq_midfile.proofs.IndexLaws.{covers_append, covers_cut}
use Rattle.ncq_midfile.proofs.OrderLaws.{order_append, order_cut}

finder_append : (finder : Finder) (rows more : List SignedRow) → IsFinder rows finder → IsFinder (rows ++ more) finder
finder_append (Index index) rows more f = covers_append index rows more f
finder_append (Order order) rows more f = order_append order rows more f

-- finders have the first rows, whatever comes behind them
pub finders_append : (finders : List Finder) (rows more : List SignedRow) → AreFinders finders rows → AreFinders finders (rows ++ more)
finders_append finders rows more all = All-weaker (IsFinder rows) (IsFinder (rows ++ more)) (λ finder f. finder_append finder rows more f) finders all

finder_cut : (finder : Finder) (rows : List SignedRow) (kept : ℕ) → IsFinder rows finder → IsFinder (take kept rows) (cut_finder kept finder)
finder_cut (Index index) rows kept f = covers_cut index rows kept f
finder_cut (Order order) rows kept f = order_cut order rows kept f

pub finders_cut : (finders : List Finder) (rows : List SignedRow) (kept : ℕ) → AreFinders finders rows → AreFinders (map (cut_finder kept) finders) (take kept rows)
finders_cut finders rows kept all =
    All-map (IsFinder (take kept rows)) (cut_finder kept) finders
    (All-weaker (IsFinder rows) (λ finder. IsFinder (take kept rows) (cut_finder kept finder)) (λ finder f. finder_cut finder rows kept f) finders all)

-- finders of the rows in front, where the same rows are in front
pub finders_front : (finders : List Finder) (old new : List SignedRow) (kept : ℕ) → AreFinders finders old → take kept new ≡ take kept old → AreFinders (map (cut_finder kept) finders) new
finders_front finders old new kept all same =
    subst (AreFinders (map (cut_finder kept) finders)) (take-append-drop kept new)
    (finders_append (map (cut_finder kept) finders) (take kept new) (drop kept new)
    (subst (AreFinders (map (cut_finder kept) finders)) (sym same) (finders_cut finders old kept all)))

-- there are no finders
pub finders_none : (finders : List Finder) (rows : List SignedRow) → finders ≡ [] → AreFinders finders rows
finders_none finders rows none k d h = let e = ap length none in absurd (omega arith)

module _ (slots : List ℕ) (finder : Finder) (on : IsIndexOn slots finder) where
  -- an index is no order
  pub no_order : (order : an_order) → finder ≡ Order order → ⊥
  no_order order is = let had = on.1 in cc

  pub on_slots : (index : an_index) → finder ≡ Index index → index.slots ≡ slots
  on_slots index is = let same : on.0 ≡ index = (let had = on.1 in cc) in ap (λ (i : an_index). i.slots) (sym same) ∙ on.2

module _ (slot : ℕ) (finder : Finder) (by : IsOrderBy slot finder) where
  -- an order is no index
  pub no_index : (index : an_index) → finder ≡ Index index → ⊥
  no_index index is = let had = by.1 in cc

  pub by_slot : (order : an_order) → finder ≡ Order order → order.slot ≡ slot
  by_slot order is = let same : by.0 ≡ order = (let had = by.1 in cc) in ap (λ (o : an_order). o.slot) (sym same) ∙ by.2

-- what holds of all holds of those that are kept
kept_where : (P : Finder → Type 0) (bs : List Bool) (finders : List Finder) → AllByRecursion P finders → AllByRecursion P (items_where_true bs finders)
kept_where P [] finders all = tt
kept_where P (b ∷ bs) [] all = tt
kept_where P (true ∷ bs) (f ∷ finders) all = (all.0, kept_where P bs finders all.1)
kept_where P (false ∷ bs) (f ∷ finders) all = kept_where P bs finders all.1

pub finders_kept : (bs : List Bool) (old new : List Finder) (rows : List SignedRow) → new ≡ items_where_true bs old → AreFinders old rows → AreFinders new rows
finders_kept bs old new rows is all =
    subst (λ fs. AreFinders fs rows) (sym is)
    (All-from_recursion (IsFinder rows) (items_where_true bs old) (kept_where (IsFinder rows) bs old (recursion_from_All (IsFinder rows) old all)))
