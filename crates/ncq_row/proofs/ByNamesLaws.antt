-- Shapes whose parts are names of children.
use Rattle.std.proofs.Common.{◌≡◌, ℕ, ◌<◌, Bool, List, [], ◌∷◌, ◌++◌, length, get_or, map, zero, suc, refl, sym, ap, ◌∙◌, arith}
use Rattle.std.specs.List.{flat_map}
use Rattle.ncq_path.specs.declared.path.Path.{Path}
use Rattle.ncq_path.specs.declared.path.Path.TheVariants.{Tag}
use Rattle.ncq_tree.specs.declared.model.Element.{Element}
use Rattle.ncq_row.specs.declared.shape.Shape.{Shape}
use Rattle.ncq_row.specs.declared.shape.ShapeContent.TheVariants.{Parts}
use Rattle.ncq_row.specs.declared.shape.ShapeSuffix.TheVariants.{Plain}
use Rattle.ncq_row.specs.Embeddings.{Rows, paired, one_of_each, attribute_rows, suffix_rows}
use Rattle.ncq_row.specs.Embeddings.{content_rows, rows_at, rows_from}
use Rattle.ncq_row.specs.ByNames.{child_rows, named_rows}
use Rattle.ncq_row.specs.Reached.{reached}
use Rattle.ncq_row.proofs.CallerLemmas.{rows_of_shape, rows_of_parts, rows_from_named}
use Rattle.ncq_row.proofs.PairedLaws.{length-zero, unit_paired, paired_unit, paired_none, paired_paired}

-- a shape without attributes and suffix has the rows of its content
pub rows_of_content : (s : Shape) (e : Element) → s.suffix ≡ Plain → length s.attributes ≡ 0 → rows_at s e ≡ content_rows s.content e
rows_of_content s e suffix none =
    rows_of_shape s e
    ∙ (λ i. paired (one_of_each (map (attribute_rows e.attributes) (length-zero s.attributes none i))) (paired (content_rows s.content e) (suffix_rows (suffix i) e)))
    ∙ unit_paired (paired (content_rows s.content e) ([] ∷ []))
    ∙ paired_unit (content_rows s.content e)

-- a shape without attributes has one row of each part, with that of the suffix
pub rows_of_each : (s : Shape) (parts : List Shape) (e : Element) → length s.attributes ≡ 0 → s.content ≡ Parts parts
    → rows_at s e ≡ paired (one_of_each (map (λ part. rows_from part e) parts)) (suffix_rows s.suffix e)
rows_of_each s parts e none content =
    rows_of_shape s e
    ∙ (λ i. paired (one_of_each (map (attribute_rows e.attributes) (length-zero s.attributes none i))) (paired (content_rows (content i) e) (suffix_rows s.suffix e)))
    ∙ unit_paired (paired (content_rows (Parts parts) e) (suffix_rows s.suffix e))
    ∙ ap (λ (rows : Rows). paired rows (suffix_rows s.suffix e)) (rows_of_parts parts e)

same_for_each : (f g : Element → Rows) → ((e : Element) → f e ≡ g e) → (es : List Element) → flat_map f es ≡ flat_map g es
same_for_each f g same [] = refl
same_for_each f g same (e ∷ es) = λ i. same e i ++ same_for_each f g same es i

-- a part that is a name has the rows of the children of that name
pub rows_of_name : (s : Shape) (name : List ℕ) (valued : Bool) (e : Element) → s.tag ≡ Tag name
    → ((c : Element) → rows_at s c ≡ content_rows s.content c) → ((c : Element) → content_rows s.content c ≡ child_rows valued c)
    → rows_from s e ≡ named_rows name valued e
rows_of_name s name valued e tag alone content =
    rows_from_named s name e tag
    ∙ ap (λ (path : Path). flat_map (rows_at s) (reached path e.children)) tag
    ∙ same_for_each (rows_at s) (child_rows valued) (λ c. alone c ∙ content c) (reached (Tag name) e.children)

-- where one has no rows, there is no row of each
pub none_of_each : (each : List Rows) (i : ℕ) (rows : Rows) → i < length each → rows ≡ get_or each i rows → length rows ≡ 0
    → one_of_each each ≡ []
none_of_each [] i rows h is none = absurd (omega arith)
none_of_each (first ∷ each) zero rows h is none =
    ap (λ (r : Rows). paired r (one_of_each each)) (sym is ∙ length-zero rows none)
none_of_each (first ∷ each) (suc i) rows h is none =
    ap (paired first) (none_of_each each i rows (omega arith) is none) ∙ paired_none first

-- the first list, and one of each of the others
pub first_of_each : (each others : List Rows) (first : Rows) → each ≡ first ∷ others → paired first (one_of_each others) ≡ one_of_each each
first_of_each each others first is = ap one_of_each (sym is)

-- a list less
pub next_of_each : (left others : List Rows) (rows found more total : Rows) → left ≡ found ∷ others → more ≡ paired rows found
    → paired rows (one_of_each left) ≡ total → paired more (one_of_each others) ≡ total
next_of_each left others rows found more total is made t =
    ap (λ (v : Rows). paired v (one_of_each others)) made
    ∙ sym (paired_paired rows found (one_of_each others))
    ∙ ap (λ (lists : List Rows). paired rows (one_of_each lists)) (sym is) ∙ t

-- where none is left, all are joined
pub all_of_each : (left : List Rows) (rows total : Rows) → length left ≡ 0 → paired rows (one_of_each left) ≡ total → rows ≡ total
all_of_each left rows total none t =
    sym (paired_unit rows) ∙ ap (λ (lists : List Rows). paired rows (one_of_each lists)) (sym (length-zero left none)) ∙ t
