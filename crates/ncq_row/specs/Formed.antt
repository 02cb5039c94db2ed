-- Shapes whose paths are well formed.
use Rattle.std.specs.Prelude.{ℕ, Bool, true, ◌&&◌, List}
use Rattle.std.specs.List.{list_all}
use Rattle.ncq_path.specs.declared.path.Path.{Path}
use Rattle.ncq_path.specs.Formed.{is_formed}
use Rattle.ncq_row.specs.declared.shape.Shape.{Shape}
use Rattle.ncq_row.specs.declared.shape.ShapeContent.{ShapeContent}
use Rattle.ncq_row.specs.declared.shape.ShapeSuffix.{ShapeSuffix}
use Rattle.ncq_row.specs.Shapes.{by_shapes, by_contents}

-- the path, and those of the content
abbrev pub shape_formed : Path → List (List ℕ) → Bool → ShapeSuffix → Bool
shape_formed path attributes content suffix = is_formed path && content

-- those of each part
abbrev pub parts_formed : List (Shape × Bool) → Bool
parts_formed below = list_all (λ p. p.1) below

-- whether each path of the shape is well formed
abbrev pub shape_is_formed : Shape → Bool
shape_is_formed = by_shapes shape_formed parts_formed true

abbrev pub content_is_formed : ShapeContent → Bool
content_is_formed = by_contents shape_formed parts_formed true
