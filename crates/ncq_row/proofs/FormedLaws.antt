-- Shapes whose paths are well formed, by their parts.
use Rattle.std.proofs.Common.{◌≡◌, Bool, true, false, List, refl, sym, ap, ◌∙◌}
use Rattle.std.specs.Prelude.{◌&&◌}
use Rattle.std.specs.List.{list_all}
use Rattle.ncq_path.specs.Formed.{is_formed}
use Rattle.ncq_tree.proofs.NormalLaws.{seconds}
use Rattle.ncq_row.specs.declared.shape.Shape.{Shape}
use Rattle.ncq_row.specs.declared.shape.ShapeContent.{ShapeContent}
use Rattle.ncq_row.specs.declared.shape.ShapeContent.TheVariants.{Parts}
use Rattle.ncq_row.specs.Shapes.{by_shapes_is, by_contents_parts}
use Rattle.ncq_row.specs.Formed.{shape_formed, parts_formed, shape_is_formed, content_is_formed}

split : (a b : Bool) → (a && b) ≡ true → (a ≡ true) × (b ≡ true)
split true b e = (refl, e)
split false b e = cc

both_formed : (s : Shape) → shape_is_formed s ≡ true
    → (is_formed s.tag ≡ true) × (content_is_formed s.content ≡ true)
both_formed s h =
    split (is_formed s.tag) (content_is_formed s.content) (sym (by_shapes_is shape_formed parts_formed true s) ∙ h)

-- the path of the shape
pub tag_formed : (s : Shape) → shape_is_formed s ≡ true → is_formed s.tag ≡ true
tag_formed s h = (both_formed s h).0

-- and those of its content
pub content_formed : (s : Shape) → shape_is_formed s ≡ true → content_is_formed s.content ≡ true
content_formed s h = (both_formed s h).1

-- those of parts
pub parts_formed_of : (content : ShapeContent) (parts : List Shape) → content ≡ Parts parts
    → content_is_formed content ≡ true → list_all shape_is_formed parts ≡ true
parts_formed_of content parts e h =
    sym (ap content_is_formed e ∙ by_contents_parts shape_formed parts_formed true parts
    ∙ seconds shape_is_formed parts) ∙ h
