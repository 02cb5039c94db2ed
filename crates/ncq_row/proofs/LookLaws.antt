-- Whether there are rows, by the rows that they are joined from.
use Rattle.std.proofs.Common.{◌≡◌, ℕ, ◌<◌, ◌+◌, Bool, true, false, List, [], ◌∷◌, ◌++◌, length}
use Rattle.std.proofs.Common.{get_or, drop, map, refl, sym, ap, ◌∙◌, add-one, ◌≤◌, length-drop, arith, true≢false}
use Rattle.ncq_tree.specs.declared.model.Node.{Node}
use Rattle.std.specs.Prelude.{◌&&◌, ◌||◌}
use Rattle.std.proofs.Math.Seq.{drop-cons}
use Rattle.ncq_tree.specs.declared.model.Element.{Element}
use Rattle.ncq_row.specs.declared.shape.Shape.{Shape}
use Rattle.ncq_row.specs.declared.shape.ShapeSuffix.{ShapeSuffix}
use Rattle.ncq_row.specs.declared.shape.ShapeSuffix.TheVariants.{Plain, Element as WholeElement}
use Rattle.ncq_row.specs.declared.shape.ShapeSuffix.TheVariants.{Content}
use Rattle.ncq_row.specs.declared.value.Value.{Value}
use Rattle.ncq_row.specs.Embeddings.{Rows, paired, one_of_each, attribute_rows, suffix_rows}
use Rattle.ncq_row.specs.Embeddings.{content_rows, rows_at, rows_among}
use Rattle.ncq_row.specs.Found.{has_rows}
use Rattle.ncq_row.proofs.CallerLemmas.{rows_of_shape, rows_among_append}

-- rows behind rows
pub has_append : (xs ys : Rows) → has_rows (xs ++ ys) ≡ (has_rows xs || has_rows ys)
has_append [] ys = refl
has_append (x ∷ xs) ys = refl

has_behind : (row : List Value) (rows : Rows) → has_rows (map (λ right. row ++ right) rows)
    ≡ has_rows rows
has_behind row [] = refl
has_behind row (r ∷ rows) = refl

absorbed : (a b : Bool) → (b || (a && b)) ≡ b
absorbed true true = refl
absorbed true false = refl
absorbed false true = refl
absorbed false false = refl

-- rows that are joined with rows
pub has_paired : (lefts rights : Rows) → has_rows (paired lefts rights)
    ≡ (has_rows lefts && has_rows rights)
has_paired [] rights = refl
has_paired (row ∷ lefts) rights =
    has_append (map (λ right. row ++ right) rights) (paired lefts rights)
    ∙ ap (λ (b : Bool). b || has_rows (paired lefts rights)) (has_behind row rights)
    ∙ ap (λ (b : Bool). has_rows rights || b) (has_paired lefts rights)
    ∙ absorbed (has_rows lefts) (has_rows rights)

suffix_has_rows : (suffix : ShapeSuffix) (e : Element) → has_rows (suffix_rows suffix e) ≡ true
suffix_has_rows Plain e = refl
suffix_has_rows WholeElement e = refl
suffix_has_rows Content e = refl

and_true : (b : Bool) → (b && true) ≡ b
and_true true = refl
and_true false = refl

-- a shape has rows where its attributes and its content have
pub shape_has_rows : (s : Shape) (e : Element)
    → has_rows (rows_at s e)
    ≡ (has_rows (one_of_each (map (attribute_rows e.attributes) s.attributes)) && has_rows
    (content_rows s.content e))
shape_has_rows s e =
    let front = one_of_each (map (attribute_rows e.attributes) s.attributes) in
    ap has_rows (rows_of_shape s e)
    ∙ has_paired front (paired (content_rows s.content e) (suffix_rows s.suffix e))
    ∙ ap (λ (b : Bool). has_rows front && b)
    (has_paired (content_rows s.content e) (suffix_rows s.suffix e)
    ∙ ap (λ (b : Bool). has_rows (content_rows s.content e) && b) (suffix_has_rows s.suffix e)
    ∙ and_true (has_rows (content_rows s.content e)))

next_drop : {A : Type 0} (xs : List A) (i : ℕ) (x : A) → i < length xs → drop i xs
    ≡ get_or xs i x ∷ drop (i + 1) xs
next_drop xs i x h = rw (add-one, drop-cons xs i x h) refl

-- where what is left has rows, the first has, and what is left behind it
pub each_has : {A : Type 0} (f : A → Rows) (xs : List A) (i : ℕ) (x : A) → i < length xs
    → x ≡ get_or xs i x → has_rows (one_of_each (map f (drop i xs))) ≡ true
    → (has_rows (f x) ≡ true) × (has_rows (one_of_each (map f (drop (i + 1) xs))) ≡ true)
each_has {A = A} f xs i x h p e =
    let left = one_of_each (map f (drop (i + 1) xs)) in
    let both : (has_rows (f x) && has_rows left) ≡ true =
    ap (λ (y : A). has_rows (f y) && has_rows left) p
    ∙ sym (has_paired (f (get_or xs i x)) left)
    ∙ ap (λ (ys : List A). has_rows (one_of_each (map f ys))) (sym (next_drop xs i x h)) ∙ e in
    split (has_rows (f x)) (has_rows left) both
  where
    split : (a b : Bool) → (a && b) ≡ true → (a ≡ true) × (b ≡ true)
    split true b e = (refl, e)
    split false b e = cc

-- nodes of which the first has no rows have them behind it
pub rest_has : (s : Shape) (nodes : List Node) (i : ℕ) (node : Node) → i < length nodes
    → node ≡ get_or nodes i node → has_rows (rows_among s (drop i nodes)) ≡ true
    → (has_rows (rows_among s (node ∷ [])) ≡ true → ⊥)
    → has_rows (rows_among s (drop (i + 1) nodes)) ≡ true
rest_has s nodes i node h p e none =
    let first = rows_among s (node ∷ []) in let rest = rows_among s (drop (i + 1) nodes) in
    let both : (has_rows first || has_rows rest) ≡ true =
    sym (has_append first rest) ∙ ap has_rows (sym (rows_among_append s (node ∷ []) (drop (i + 1) nodes)))
    ∙ ap (λ (ns : List Node). has_rows (rows_among s ns)) ((λ j. p j ∷ drop (i + 1) nodes) ∙ sym (next_drop nodes i node h)) ∙ e in
    other (has_rows first) (has_rows rest) both none
  where
    other : (a b : Bool) → (a || b) ≡ true → (a ≡ true → ⊥) → b ≡ true
    other true b e n = absurd (n refl)
    other false b e n = e

pub nodes_left : (s : Shape) (nodes : List Node) (i : ℕ) → length nodes ≤ i
    → has_rows (rows_among s (drop i nodes)) ≡ true → ⊥
nodes_left s nodes i h e =
    let n = length-drop i nodes in
    true≢false (sym e ∙ ap (λ (ns : List Node). has_rows (rows_among s ns)) (nothing (drop i nodes) (omega arith)))
  where
    nothing : (xs : List Node) → length xs ≡ 0 → xs ≡ []
    nothing [] e = refl
    nothing (x ∷ xs) e = absurd (omega arith)

-- rows of which there is none
pub no_rows : (rows : Rows) → (has_rows rows ≡ true → ⊥) → [] ≡ rows
no_rows [] h = refl
no_rows (row ∷ rows) h = absurd (h refl)
