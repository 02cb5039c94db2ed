-- The texts of shapes, expressions and signatures.
use Rattle.std.specs.Prelude.{ℕ, Bool, ◌==◌, if◌then◌else◌, List, [], ◌∷◌, ◌++◌, length, map}
use Rattle.std.specs.Prelude.{codes, decimal}
use Rattle.ncq_path.specs.Texts.{path_text}
use Rattle.ncq_row.specs.declared.shape.ShapeContent.{ShapeContent}
use Rattle.ncq_row.specs.declared.shape.ShapeContent.TheOpen.{ShapeContent-F, Shape-F}
use Rattle.ncq_row.specs.declared.shape.ShapeContent.TheOpen.ShapeContent-F.{Parts, Value}
use Rattle.ncq_row.specs.declared.shape.ShapeContent.TheFolds.{para-ShapeContent, para-Shape}
use Rattle.ncq_row.specs.declared.shape.Shape.{Shape}
use Rattle.ncq_row.specs.declared.shape.ShapeSuffix.{ShapeSuffix}
use Rattle.ncq_row.specs.declared.shape.ShapeSuffix.TheVariants.{Plain, Element, Content}
use Rattle.ncq_row.specs.declared.pair.Pair.{Pair}
use Rattle.ncq_plan.specs.declared.expr.Expr.{Expr}
use Rattle.ncq_plan.specs.declared.expr.Expr.TheOpen.{Expr-F}
use Rattle.ncq_plan.specs.declared.expr.Expr.TheOpen.Expr-F.{Scan as ScanLayer}
use Rattle.ncq_plan.specs.declared.expr.Expr.TheOpen.Expr-F.{EqSel as EqualLayer}
use Rattle.ncq_plan.specs.declared.expr.Expr.TheOpen.Expr-F.{RangeSel as RangeLayer}
use Rattle.ncq_plan.specs.declared.expr.Expr.TheOpen.Expr-F.{Join as JoinLayer}
use Rattle.ncq_plan.specs.declared.expr.Expr.TheFolds.{fold-Expr}
use Rattle.ncq_base.specs.AtomTexts.{atom_text}
use Rattle.ncq_signature.specs.IntervalTexts.{interval_text}
use Rattle.ncq_signature.specs.declared.signature.Signature.{Signature}
use Rattle.ncq_signature.specs.declared.signature.Signature.TheVariants.{Scan, EqOn}
use Rattle.ncq_signature.specs.declared.signature.Signature.TheVariants.{RangeOn, JoinOf}

-- the texts one after the other, with the first mark in front of the first and the other mark in
-- front of each further one
abbrev pub led_by : List ℕ → List ℕ → List (List ℕ) → List ℕ
led_by first other [] = []
led_by first other (text ∷ more) = first ++ text ++ led_by other other more

abbrev pub suffix_text : ShapeSuffix → List ℕ
suffix_text Plain = []
suffix_text Element = codes "!e"
suffix_text Content = codes "!c"

-- what stands behind parts, where there are some
abbrev pub closing : Bool → List ℕ
closing none = if none then [] else codes ")"

-- parts that are not empty are joined by `,` and stand in brackets
abbrev pub parts_text : List (List ℕ) → List ℕ
parts_text texts = led_by (codes "(") (codes ",") texts ++ closing (length texts == 0)

abbrev pub content_layer : ShapeContent-F (ShapeContent × List ℕ) (Shape × List ℕ) → List ℕ
content_layer (Parts shapes) = parts_text (map (λ s. s.1) shapes)
content_layer Value = codes "="

-- the path; `@` and the name for each attribute; the content; the suffix
abbrev pub shape_layer : Shape-F (ShapeContent × List ℕ) (Shape × List ℕ) → List ℕ
shape_layer shape =
    path_text shape.tag ++ led_by (codes "@") (codes "@") shape.attributes ++ shape.content.1
    ++ suffix_text shape.suffix

-- the text of a shape: parts that are not empty joined by `,` in brackets, `=` for a value, `!e` or
-- `!c` for a suffix that binds
unfoldable pub shape_text : Shape → List ℕ
shape_text = para-Shape (List ℕ) (List ℕ) content_layer shape_layer

unfoldable pub content_text : ShapeContent → List ℕ
content_text = para-ShapeContent (List ℕ) (List ℕ) content_layer shape_layer

abbrev pub pair_text : Pair → List ℕ
pair_text pair = decimal pair.left ++ codes "=" ++ decimal pair.right

-- each pair as left `=` right, joined by `;`
abbrev pub pairs_text : List Pair → List ℕ
pairs_text pairs = led_by [] (codes ";") (map pair_text pairs)

abbrev pub scan_text : List ℕ → Shape → List ℕ
scan_text source shape = codes "scan(" ++ source ++ codes "," ++ shape_text shape ++ codes ")"

abbrev pub join_text : List ℕ → List ℕ → List Pair → List ℕ
join_text left right pairs =
    codes "join(" ++ left ++ codes "," ++ right ++ codes "," ++ pairs_text pairs ++ codes ")"

-- a selection up to its slot
abbrev pub selection_text : List ℕ → List ℕ → ℕ → List ℕ
selection_text word input slot = word ++ input ++ codes "," ++ decimal slot

abbrev pub text_step : Expr-F (List ℕ) → List ℕ
text_step (ScanLayer source shape) = scan_text source shape
text_step (EqualLayer input slot constant) =
    selection_text (codes "eq(") input slot ++ codes "," ++ atom_text constant ++ codes ")"
text_step (RangeLayer input slot interval) =
    selection_text (codes "range(") input slot ++ codes "," ++ interval_text interval ++ codes ")"
text_step (JoinLayer left right pairs) = join_text left right pairs

-- the text of an expression
abbrev pub expr_text : Expr → List ℕ
expr_text = fold-Expr (List ℕ) text_step

-- the text of a signature: that of the expression without the constant or the interval and the
-- comma before it
abbrev pub signature_text : Signature → List ℕ
signature_text (Scan source shape) = scan_text source shape
signature_text (EqOn input slot) = selection_text (codes "eq(") (expr_text input) slot ++ codes ")"
signature_text (RangeOn input slot) =
    selection_text (codes "range(") (expr_text input) slot ++ codes ")"
signature_text (JoinOf left right pairs) = join_text (expr_text left) (expr_text right) pairs
