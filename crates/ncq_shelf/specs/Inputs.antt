-- The numbers of a file's inputs.
use Rattle.std.specs.Prelude.{◌≡◌, ℕ, List}
use Rattle.ncq_row.specs.declared.pair.Pair.{Pair}
use Rattle.ncq_plan.specs.declared.expr.Expr.{Expr}
use Rattle.ncq_plan.specs.declared.expr.Expr.TheVariants.{Join}
use Rattle.ncq_shelf.specs.Parts.{IsInput}
use Rattle.ncq_shelf.specs.Stands.{Files, Stands}
use Rattle.ncq_shelf.specs.declared.inputs.Inputs.{Inputs}
use Rattle.ncq_shelf.specs.declared.inputs.Inputs.TheVariants.{Nothing, One, Two}

-- the file of this number is that of the one input of the expression
pub record IsOnlyInput (files : Files) (whole : Expr) (number : ℕ) : Type 0 where
  pub input : Expr
  pub reads : IsInput input whole
  pub only : (other : Expr) → IsInput other whole → other ≡ input
  pub stands : Stands files input number

-- the expression is a join, and the files of these numbers are those of its two sides
pub record AreSides (files : Files) (whole : Expr) (left right : ℕ) : Type 0 where
  pub first : Expr
  pub second : Expr
  pub pairs : List Pair
  pub is : whole ≡ Join first second pairs
  pub on_left : Stands files first left
  pub on_right : Stands files second right

-- the numbers are those of the inputs of the expression
abbrev pub AreInputs : Files → Expr → Inputs → Type 0
AreInputs files whole Nothing = (input : Expr) → IsInput input whole → ⊥
AreInputs files whole (One number) = IsOnlyInput files whole number
AreInputs files whole (Two left right) = AreSides files whole left right
