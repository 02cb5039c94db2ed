-- Groups of expressions: those that differ in the constant or the interval of their outermost
-- operator alone, and the lines that a report has of them.
use Rattle.std.specs.Prelude.{◌≡◌, ℕ, Bool, true, false, if◌then◌else◌}
use Rattle.std.specs.Prelude.{List, filter, length, map, IsPermutation, IsSorted}
use Rattle.std.specs.List.{AllByRecursion, IsDistinct, list_any}
use Rattle.std.specs.Ordering.{nat_cmp, ordering_then}
use Rattle.std.specs.Cmp.Lexicographic.{slice_cmp}
use Rattle.std.specs.declared.cmp.Ordering.{Ordering}
use Rattle.ncq_base.specs.Exact.{exact}
use Rattle.ncq_plan.specs.declared.expr.Expr.{Expr}
use Rattle.ncq_signature.specs.Signatures.{signature_of}
use Rattle.ncq_signature.specs.SignatureTexts.{signature_text}
use Rattle.ncq_signature.specs.contracts.signature.Signature.{the_row as signature_row}
use Rattle.ncq_signature.specs.declared.signature.Signature.{Signature}
use Rattle.ncq_signature.specs.declared.signature.Signature.TheVariants.{Scan, EqOn}
use Rattle.ncq_signature.specs.declared.signature.Signature.TheVariants.{RangeOn, JoinOf}
use Rattle.ncq_signature.specs.declared.group.GroupLine.{GroupLine}

-- whether two signatures are one
abbrev pub is_signature : Signature → Signature → Bool
is_signature = exact signature_row.coded

-- whether a signature is that of selections
abbrev pub is_of_selections : Signature → Bool
is_of_selections (Scan source shape) = false
is_of_selections (EqOn input slot) = true
is_of_selections (RangeOn input slot) = true
is_of_selections (JoinOf left right pairs) = false

-- how many of the expressions have the signature
abbrev pub count_of : List Expr → Signature → ℕ
count_of exprs s = length (filter (λ e. is_signature s (signature_of e)) exprs)

-- how many constants a signature has among distinct expressions: as many as there are selections of
-- it, and none where it is that of scans or joins
abbrev pub constants_in : List Expr → Signature → ℕ
constants_in exprs s = if is_of_selections s then count_of exprs s else 0

-- the list has the signature of each of the expressions, once, and no other
pub record AreSignaturesOf (exprs : List Expr) (list : List Signature) : Type 0 where
  pub once : IsDistinct is_signature list
  pub each : AllByRecursion (λ e. list_any (is_signature (signature_of e)) list ≡ true) exprs
  pub only : AllByRecursion (λ s. list_any (λ e. is_signature s (signature_of e)) exprs ≡ true) list

-- the line of a signature: its text, and how many constants it has among the expressions
abbrev pub line_of : List Expr → Signature → GroupLine
line_of exprs s = record { text = signature_text s; constants = constants_in exprs s }

-- by the bytes of the text, then by the number of constants
abbrev pub line_cmp : GroupLine → GroupLine → Ordering
line_cmp a b = ordering_then (slice_cmp nat_cmp a.text b.text) (nat_cmp a.constants b.constants)

-- the lines of the groups of these expressions, in the order of the report
pub record AreGroupLines (exprs : List Expr) (lines : List GroupLine) : Type 0 where
  pub signatures : List Signature
  pub are : AreSignaturesOf exprs signatures
  pub permutation : IsPermutation (map (line_of exprs) signatures) lines
  pub order : IsSorted line_cmp lines
