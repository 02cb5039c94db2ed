-- How files are found. Only the crate's private clauses cite it.
use Rattle.std.specs.Prelude.{◌≡◌, ◌↔◌, ℕ, List, nat_eq, Some}
use Rattle.std.specs.Map.{lookup}
use Rattle.ncq_plan.specs.ExprLists.{is_expr}
use Rattle.ncq_plan.specs.declared.expr.Expr.{Expr}
use Rattle.ncq_shelf.specs.Stands.{Stands}
use Rattle.ncq_shelf.specs.Inputs.{AreInputs}
use Rattle.ncq_shelf.specs.Groups.{Groups}
use Rattle.ncq_shelf.specs.Shown.{shown}
use Rattle.ncq_shelf.specs.declared.file.File.{File}

-- the index finds exactly the files, and each file knows its inputs
pub record IsIndexed (groups : Groups) (files : List (ℕ × File)) (numbers : List (Expr × ℕ))
    : Type 0 where
  pub found : (expr : Expr) (number : ℕ)
      → (lookup (is_expr expr) numbers ≡ Some number) ↔ Stands (shown groups files) expr number
  pub inputs : (number : ℕ) (file : File) → lookup (nat_eq number) files ≡ Some file
      → AreInputs (shown groups files) file.expr file.inputs
