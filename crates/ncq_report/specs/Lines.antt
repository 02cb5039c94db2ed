-- The lines of the groups of expressions, as a function of the expressions.
use Rattle.std.specs.Prelude.{if◌then◌else◌, List, [], ◌∷◌, map}
use Rattle.std.specs.List.{list_any}
use Rattle.std.specs.Ordering.{is_lt}
use Rattle.ncq_plan.specs.ExprLists.{AreApart, IsIn}
use Rattle.ncq_plan.specs.declared.expr.Expr.{Expr}
use Rattle.ncq_signature.specs.Groups.{is_signature, line_cmp, line_of}
use Rattle.ncq_signature.specs.Signatures.{signature_of}
use Rattle.ncq_signature.specs.declared.group.GroupLine.{GroupLine}
use Rattle.ncq_signature.specs.declared.signature.Signature.{Signature}

-- one more signature, unless it is there
abbrev pub with_signature : Signature → List Signature → List Signature
with_signature s list = if list_any (is_signature s) list then list else s ∷ list

-- the signatures of expressions, each once
abbrev pub signatures_in : List Expr → List Signature
signatures_in [] = []
signatures_in (expr ∷ exprs) = with_signature (signature_of expr) (signatures_in exprs)

-- a line in its place among lines in order
abbrev pub placed : GroupLine → List GroupLine → List GroupLine
placed line [] = line ∷ []
placed line (other ∷ more) =
    if is_lt (line_cmp other line) then other ∷ placed line more else line ∷ other ∷ more

abbrev pub in_order : List GroupLine → List GroupLine
in_order [] = []
in_order (line ∷ lines) = placed line (in_order lines)

-- the lines of the groups of expressions, in the order of a report
abbrev pub group_lines : List Expr → List GroupLine
group_lines exprs = in_order (map (line_of exprs) (signatures_in exprs))

-- the lists have the same expressions, each once
pub record AreTheSame (some others : List Expr) : Type 0 where
  pub apart : AreApart some
  pub others_apart : AreApart others
  pub there : (expr : Expr) → IsIn expr some → IsIn expr others
  pub back : (expr : Expr) → IsIn expr others → IsIn expr some
