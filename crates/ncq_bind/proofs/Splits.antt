-- Rows that are embedded at places: those of a list that have the literals.
use Rattle.std.proofs.Common.{◌≡◌, ◌+◌, List, [], ◌∷◌, ◌++◌, length, map, refl, sym, ap, ◌∙◌, subst, length-append}
use Rattle.std.specs.Prelude.{◌&&◌}
use Rattle.std.specs.List.{AllByRecursion, filter, flat_map}
use Rattle.std.proofs.Math.Bool.{and_assoc}
use Rattle.std.proofs.lemmas.List.Elements.{filter-append}
use Rattle.ncq_row.specs.declared.value.Value.{Value}
use Rattle.ncq_row.specs.Embeddings.{Rows, paired, one_of_each}
use Rattle.ncq_xmlql.specs.declared.model.Operand.{Operand}
use Rattle.ncq_bind.specs.Embeddings.{is_taken, has_literals}
use Rattle.ncq_bind.proofs.ListLaws.{each_implied, each-append, each-paired, filter-paired}

abbrev pub HasWidth : List Operand → List Value → Type 0
HasWidth places row = length row ≡ length places

-- what is embedded is what has the literals, and every row has a value for each place
pub record Splits (places : List Operand) (embedded rows : Rows) : Type 0 where
  pub kept : embedded ≡ filter (has_literals places) rows
  pub wide : AllByRecursion (HasWidth places) rows

pub literals-append : (ps qs : List Operand) (x y : List Value) → length x ≡ length ps → has_literals (ps ++ qs) (x ++ y) ≡ (has_literals ps x && has_literals qs y)
literals-append [] qs [] y e = refl
literals-append [] qs (v ∷ x) y e = absurd cc
literals-append (p ∷ ps) qs [] y e = absurd cc
literals-append (p ∷ ps) qs (v ∷ x) y e =
    let less : length x ≡ length ps = cc in
    ap (λ b. is_taken p v && b) (literals-append ps qs x y less) ∙ sym (and_assoc (is_taken p v) (has_literals ps x) (has_literals qs y))

widths-append : (ps qs : List Operand) (x y : List Value) → HasWidth ps x → HasWidth qs y → HasWidth (ps ++ qs) (x ++ y)
widths-append ps qs x y e f = length-append x y ∙ (λ i. e i + f i) ∙ sym (length-append ps qs)

pub splits_along : {ps qs : List Operand} {a b x y : Rows} → ps ≡ qs → a ≡ b → x ≡ y → Splits qs b y → Splits ps a x
splits_along {ps = ps} {qs = qs} {a = a} {b = b} {x = x} {y = y} e f g s =
    subst (λ v. Splits v a x) (sym e) (subst (λ v. Splits qs v x) (sym f) (subst (λ v. Splits qs b v) (sym g) s))

pub splits_none : (ps : List Operand) → Splits ps [] []
splits_none ps = record { kept = refl; wide = tt }

pub splits_paired : {ps qs : List Operand} {a b x y : Rows} → Splits ps a x → Splits qs b y → Splits (ps ++ qs) (paired a b) (paired x y)
splits_paired {ps = ps} {qs = qs} {a = a} {b = b} {x = x} {y = y} s t = record {
  kept =
      (λ i. paired (s.kept i) (t.kept i))
      ∙ sym (filter-paired (has_literals ps) (has_literals qs) (has_literals (ps ++ qs)) x y
      (each_implied (HasWidth ps) (λ l. (r : List Value) → has_literals (ps ++ qs) (l ++ r) ≡ (has_literals ps l && has_literals qs r)) (λ l e r. literals-append ps qs l r e) x s.wide));
  wide = each-paired (HasWidth ps) (HasWidth qs) (HasWidth (ps ++ qs)) (widths-append ps qs) x y s.wide t.wide;
}

pub splits_each : {I : Type 0} (pl : I → List Operand) (L R : I → Rows) (is : List I) → AllByRecursion (λ i. Splits (pl i) (L i) (R i)) is
    → Splits (flat_map pl is) (one_of_each (map L is)) (one_of_each (map R is))
splits_each pl L R [] e = record { kept = refl; wide = (refl, tt) }
splits_each pl L R (i ∷ is) e = splits_paired e.0 (splits_each pl L R is e.1)

splits_append : {ps : List Operand} {a b x y : Rows} → Splits ps a x → Splits ps b y → Splits ps (a ++ b) (x ++ y)
splits_append {ps = ps} {a = a} {b = b} {x = x} {y = y} s t = record {
  kept = (λ i. s.kept i ++ t.kept i) ∙ sym (filter-append (has_literals ps) x y);
  wide = each-append (HasWidth ps) x y s.wide t.wide;
}

pub splits_flat_map : {X : Type 0} (ps : List Operand) (f g : X → Rows) (xs : List X) → ((x : X) → Splits ps (f x) (g x)) → Splits ps (flat_map f xs) (flat_map g xs)
splits_flat_map ps f g [] h = splits_none ps
splits_flat_map ps f g (x ∷ xs) h = splits_append (h x) (splits_flat_map ps f g xs h)
