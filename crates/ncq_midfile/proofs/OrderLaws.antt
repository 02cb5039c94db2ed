-- What an order keeps when rows come behind those it has, or go.
use Rattle.std.proofs.Common.{◌≡◌, true, false, Bool, cond, ℕ, ◌+◌, ◌<◌, ◌≤◌, List, [], ◌∷◌, ◌++◌, length, get_or, take, refl, sym, ◌∙◌, ap, subst, arith}
use Rattle.std.specs.Prelude.{ℤ}
use Rattle.std.specs.List.{list_any}
use Rattle.std.specs.List.Sorted.{IsStrictlySortedBy}
use Rattle.std.specs.BTreeSet.{BTreeSet}
use Rattle.std.specs.Ordering.{int_cmp, int_eq}
use Rattle.std.proofs.lemmas.List.{length-map, length-take, take-take, take-append-le, take_all, take_more}
use Rattle.ncq_base.specs.declared.atom.Atom.{Atom}
use Rattle.ncq_base.specs.declared.atom.Atom.TheVariants.{Num, Text}
use Rattle.ncq_row.specs.Values.{atom_at}
use Rattle.ncq_midfile.specs.Indexes.{Covers, row_hash}
use Rattle.ncq_midfile.specs.Pairs.{IsFull, taken_out}
use Rattle.ncq_midfile.specs.Orders.{is_known, AreValued, IsOrder, cut_order}
use Rattle.ncq_midfile.specs.declared.index.Index.{Index}
use Rattle.ncq_midfile.specs.declared.order.Order.{Order}
use Rattle.ncq_midfile.specs.declared.signed.SignedRow.{SignedRow}
use Rattle.ncq_midfile.proofs.IndexLaws.{covers_append, covers_cut}
use Rattle.ncq_midfile.proofs.Parts.{all_push, all_take}
use Rattle.ncq_midfile.proofs.Takens.{taken_each}

-- the numbers of the rows in front are known where those of all rows are
pub valued_take : (slot n : ℕ) (values : List ℤ) (rows : List SignedRow) → AreValued slot values rows → AreValued slot values (take n rows)
valued_take slot n values rows a = all_take (λ (r : SignedRow). is_known (atom_at r.row slot) values ≡ true) n rows a

-- the numbers stay known where more values are
pub valued_wider : (slot : ℕ) (values new : List ℤ) (rows : List SignedRow) → ((atom : Atom) → is_known atom values ≡ true → is_known atom new ≡ true) → AreValued slot values rows → AreValued slot new rows
valued_wider slot values new [] more a = tt
valued_wider slot values new (r ∷ rows) more a = (more (atom_at r.row slot) a.0, valued_wider slot values new rows more a.1)

-- one row more, whose number is taken in
pub valued_more : (slot : ℕ) (values new : List ℤ) (rows : List SignedRow) (at : ℕ) (d : SignedRow) → at < length rows → ((atom : Atom) → is_known atom values ≡ true → is_known atom new ≡ true)
    → AreValued slot values (take at rows) → is_known (atom_at (get_or rows at d).row slot) new ≡ true → AreValued slot new (take (at + 1) rows)
valued_more slot values new rows at d h more a here =
    subst (AreValued slot new) (sym (take_more rows at d h))
    (all_push (λ (r : SignedRow). is_known (atom_at r.row slot) new ≡ true) (take at rows) (get_or rows at d) (valued_wider slot values new (take at rows) more a) here)

-- what is known stays known when a value comes in
pub known_more : (values new : List ℤ) → ((q : ℤ) → list_any (int_eq q) values ≡ true → list_any (int_eq q) new ≡ true) → (atom : Atom) → is_known atom values ≡ true → is_known atom new ≡ true
known_more values new more (Num q) known = more q known
known_more values new more (Text text) known = refl

pub either_known : (a b : Bool) → b ≡ true → cond a true b ≡ true
either_known true b e = refl
either_known false b e = e

-- an order with other values, among which are the numbers of its rows
pub order_wider : (old new : Order) (rows : List SignedRow) (at : ℕ) → IsOrder old rows → new.slot ≡ old.slot → new.index ≡ old.index → IsStrictlySortedBy int_cmp new.values.keys → length old.index.hashes ≤ at
    → AreValued old.slot new.values.keys (take at rows) → IsOrder new rows
order_wider old new rows at o slot index ordered h valued =
    let n = length new.index.hashes in
    let same : n ≡ length old.index.hashes = ap (λ (i : Index). length i.hashes) index in
    record {
      covers = subst (λ (i : Index). Covers i rows) (sym index) o.covers;
      slots = ap (λ (i : Index). i.slots) index ∙ o.slots ∙ ap (λ s. s ∷ []) (sym slot);
      ordered = ordered;
      valued =
          subst (λ s. AreValued s new.values.keys (take n rows)) (sym slot)
          (subst (AreValued old.slot new.values.keys) (take-take n at rows (omega arith)) (valued_take old.slot n new.values.keys (take at rows) valued));
    }

pub order_append : (order : Order) (rows more : List SignedRow) → IsOrder order rows → IsOrder order (rows ++ more)
order_append order rows more o = record {
  covers = covers_append order.index rows more o.covers;
  slots = o.slots;
  ordered = o.ordered;
  valued =
      let within = o.covers.within in
      subst (AreValued order.slot order.values.keys) (sym (take-append-le (length order.index.hashes) rows more within)) o.valued;
}

pub order_cut : (order : Order) (rows : List SignedRow) (kept : ℕ) → IsOrder order rows → IsOrder (cut_order kept order) (take kept rows)
order_cut order rows kept o =
    let k = length order.index.hashes in
    let n = length (take kept order.index.hashes) in
    let a = length-take kept order.index.hashes in
    let inner : take n (take kept rows) ≡ take n rows = take-take n kept rows (omega arith) in
    let outer : take n (take k rows) ≡ take n rows = take-take n k rows (omega arith) in
    record {
      covers = covers_cut order.index rows kept o.covers;
      slots = o.slots;
      ordered = o.ordered;
      valued = subst (AreValued order.slot order.values.keys) (outer ∙ sym inner) (valued_take order.slot n order.values.keys (take k rows) o.valued);
    }

-- an order of all rows is one after some are taken out
pub order_taken : (old new : Order) (places : List ℕ) (rows : List SignedRow) → IsOrder old rows → IsFull rows old.index → new.slot ≡ old.slot → new.values ≡ old.values → new.index.slots ≡ old.index.slots
    → Covers new.index (taken_out places rows) → IsOrder new (taken_out places rows)
order_taken old new places rows o full slot values slots covers =
    let left = taken_out places rows in
    let long : length old.index.hashes ≡ length rows = ap length full ∙ length-map rows (row_hash old.index.seed old.index.slots) in
    let known : AreValued old.slot old.values.keys rows = subst (AreValued old.slot old.values.keys) (take_all (length old.index.hashes) rows (omega arith)) o.valued in
    let same : AreValued old.slot old.values.keys left = taken_each (λ (r : SignedRow). is_known (atom_at r.row old.slot) old.values.keys ≡ true) places rows known in
    record {
      covers = covers;
      slots = slots ∙ o.slots ∙ ap (λ s. s ∷ []) (sym slot);
      ordered = subst (λ (v : BTreeSet ℤ). IsStrictlySortedBy int_cmp v.keys) (sym values) o.ordered;
      valued = subst (λ (v : BTreeSet ℤ). AreValued new.slot v.keys (take (length new.index.hashes) left)) (sym values)
          (subst (λ s. AreValued s old.values.keys (take (length new.index.hashes) left)) (sym slot) (valued_take old.slot (length new.index.hashes) old.values.keys left same));
    }
