-- The width of a shape that a test makes, and whether its paths are well formed.
use Rattle.std.proofs.Common.{◌≡◌, ◌↔◌, ℕ, true, ◌&&◌, List, IsTrue, ◌∙◌, arith}
use Rattle.std.specs.Prelude.{nat_le}
use Rattle.std.specs.List.{list_all}
use Rattle.std.proofs.lemmas.Bool.Decides.{nat_tests}
use Rattle.ncq_base.proofs.Tests.{both_true}
use Rattle.ncq_path.specs.declared.path.Path.{Path}
use Rattle.ncq_path.specs.declared.path.Path.TheVariants.{Tag}
use Rattle.ncq_path.specs.Formed.{is_formed, is_joined, names_in, IsWellFormed}
use Rattle.ncq_path.proofs.FormedLaws.{joined_tag}
use Rattle.ncq_path.proofs.PathCases.{size_of_tag}
use Rattle.ncq_tree.proofs.NormalLaws.{seconds}
use Rattle.ncq_row.specs.declared.shape.Shape.{Shape}
use Rattle.ncq_row.specs.declared.shape.ShapeContent.TheVariants.{Parts, Value}
use Rattle.ncq_row.specs.Shapes.{by_shapes_is, by_contents_parts, by_contents_value}
use Rattle.ncq_row.specs.Formed.{shape_formed, parts_formed, shape_is_formed, content_is_formed}
use Rattle.ncq_row.proofs.ShapeLaws.{width_of_shape, width_of_value, width_of_parts}

pub formed_of_tag : (name : List ℕ) → is_formed (Tag name) ≡ true
formed_of_tag name = λ i. nat_le (size_of_tag name i) 32 && joined_tag name i

pub formed_of_shape : (s : Shape) → shape_is_formed s ≡ (is_formed s.tag && content_is_formed s.content)
formed_of_shape s = by_shapes_is shape_formed parts_formed true s

pub formed_of_value : content_is_formed Value ≡ true
formed_of_value = by_contents_value shape_formed parts_formed true

pub formed_of_parts : (parts : List Shape) → content_is_formed (Parts parts) ≡ list_all shape_is_formed parts
formed_of_parts parts = by_contents_parts shape_formed parts_formed true parts ∙ seconds shape_is_formed parts

pub ruleset shape_is = (width_of_shape, width_of_value, width_of_parts, formed_of_tag, formed_of_shape, formed_of_value, formed_of_parts)

-- the test tells the paths that are well formed
pub formed_decides : (path : Path) → IsTrue (is_formed path) ↔ IsWellFormed path
formed_decides path = (
  λ t. let b = both_true (nat_le (names_in path) 32) (is_joined path) t in let few = b.0 in record { few = grind (arith, nat_tests, few); joined = b.1 },
  λ h. let few = h.few in let less : nat_le (names_in path) 32 ≡ true = grind (arith, nat_tests, few) in λ i. less i && h.joined i,
)
