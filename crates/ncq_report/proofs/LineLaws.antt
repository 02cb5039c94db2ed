-- The lines of the groups of expressions are one list.
use Rattle.std.proofs.Common.{◌≡◌, ℕ, ◌+◌, Bool, true, false, cond, List, [], ◌∷◌, map, refl, sym, ap, ◌∙◌, arith, add-one, suc}
use Rattle.std.specs.Prelude.{if◌then◌else◌}
use Rattle.std.specs.declared.cmp.Ordering.{Ordering}
use Rattle.std.specs.declared.cmp.Ordering.TheVariants.{Less, Equal, Greater}
use Rattle.std.specs.Ordering.{nat_cmp, is_lt, is_gt, ordering_then, ordering_reverse}
use Rattle.std.specs.Cmp.{IsTotalOrder}
use Rattle.std.specs.Cmp.Lexicographic.{slice_cmp}
use Rattle.std.specs.FinMap.{nat_cmp-IsAntisymmetric}
use Rattle.std.specs.List.{AllByRecursion}
use Rattle.std.specs.List.Sorted.{IsSorted}
use Rattle.std.proofs.lemmas.Bool.{false_from_ne_true}
use Rattle.std.proofs.lemmas.Cmp.{on_total, then_total, nat_list_cmp_total, nat_cmp_total, tied_itself, upto}
use native.Mathlib.Numerals.{unary_clauses}
use Rattle.ncq_base.specs.Counts.{total_by, SameCounts}
use Rattle.ncq_base.proofs.CountLaws.{counts_from_permutation}
use Rattle.ncq_base.proofs.Keyed.{bytes_apart}
use Rattle.ncq_plan.specs.declared.expr.Expr.{Expr}
use Rattle.ncq_signature.specs.declared.group.GroupLine.{GroupLine}
use Rattle.ncq_signature.specs.Groups.{AreGroupLines, line_cmp, line_of}
use Rattle.ncq_report.specs.Lines.{AreTheSame, group_lines, in_order, placed, signatures_in}
use Rattle.ncq_report.proofs.GroupLaws.{same_exprs, lines_alike}

-- the order of lines is total
lines_total : IsTotalOrder line_cmp
lines_total = then_total (on_total (λ (l : GroupLine). l.text) nat_list_cmp_total) (on_total (λ (l : GroupLine). l.constants) nat_cmp_total)

-- whether a line stands behind another
abbrev is_above : GroupLine → GroupLine → Bool
is_above a b = is_gt (line_cmp a b)

turned : (o : Ordering) → is_gt (ordering_reverse o) ≡ is_lt o
turned Less = refl
turned Equal = refl
turned Greater = refl

above_is : (a b : GroupLine) → is_above a b ≡ is_lt (line_cmp b a)
above_is a b = ap is_gt (lines_total.antisymm a b) ∙ turned (line_cmp b a)

above_itself : (a : GroupLine) → is_above a a ≡ false
above_itself a = ap is_gt (tied_itself lines_total a)

between : (o : Ordering) → is_gt o ≡ false → is_lt o ≡ false → o ≡ Equal
between Less h k = cc
between Equal h k = refl
between Greater h k = cc

both_equal : (o p : Ordering) → ordering_then o p ≡ Equal → (o ≡ Equal) × (p ≡ Equal)
both_equal Less p h = cc
both_equal Equal p h = (refl, h)
both_equal Greater p h = cc

-- of two lines of which none is behind the other both are one
same_line : (a b : GroupLine) → is_above a b ≡ false → is_above b a ≡ false → a ≡ b
same_line a b h k =
    let tied = between (line_cmp a b) h (sym (above_is b a) ∙ k) in
    let both = both_equal (slice_cmp nat_cmp a.text b.text) (nat_cmp a.constants b.constants) tied in
    let text = bytes_apart a.text b.text both.0 in
    let constants = nat_cmp-IsAntisymmetric a.constants b.constants both.1 in
    λ i. record { text = text i; constants = constants i }

-- the line is behind none of the list
abbrev IsFirst : GroupLine → List GroupLine → Type 0
IsFirst a lines = AllByRecursion (λ b. is_above a b ≡ false) lines

abbrev AreRising : List GroupLine → Type 0
AreRising [] = Unit {0}
AreRising (a ∷ more) = IsFirst a more × AreRising more

lower : (a b : GroupLine) → is_above a b ≡ false → (lines : List GroupLine) → IsFirst b lines → IsFirst a lines
lower a b h [] first = tt
lower a b h (c ∷ lines) first = (upto lines_total a b c h first.0, lower a b h lines first.1)

placed_behind : (a line : GroupLine) (lines : List GroupLine) → is_above a line ≡ false → IsFirst a lines → IsFirst a (placed line lines)
placed_behind a line [] h first = (h, tt)
placed_behind a line (other ∷ more) h first = elim (is_lt (line_cmp other line)) as (λ t. IsFirst a (if t then other ∷ placed line more else line ∷ other ∷ more)) [
  | true ↦ (first.0, placed_behind a line more h first.1)
  | false ↦ (h, first)
]

behind : (o : Ordering) → is_lt o ≡ true → is_gt o ≡ false
behind Less h = refl
behind Equal h = refl
behind Greater h = cc

placed_rising : (line : GroupLine) (lines : List GroupLine) → AreRising lines → AreRising (placed line lines)
placed_rising line [] rising = (tt, tt)
placed_rising line (other ∷ more) rising = elim (is_lt (line_cmp other line)) as (λ t. is_lt (line_cmp other line) ≡ t → AreRising (if t then other ∷ placed line more else line ∷ other ∷ more)) [
  | true ↦ λ below. (placed_behind other line more (behind (line_cmp other line) below) rising.0, placed_rising line more rising.1)
  | false ↦ λ above. let h = above_is line other ∙ above in ((h, lower line other h more rising.0), rising)
] refl

in_order_rising : (lines : List GroupLine) → AreRising (in_order lines)
in_order_rising [] = tt
in_order_rising (line ∷ lines) = placed_rising line (in_order lines) (in_order_rising lines)

placed_total : (f : GroupLine → ℕ) (line : GroupLine) (lines : List GroupLine) → total_by f (placed line lines) ≡ f line + total_by f lines
placed_total f line [] = refl
placed_total f line (other ∷ more) = elim (is_lt (line_cmp other line)) as (λ t. total_by f (if t then other ∷ placed line more else line ∷ other ∷ more) ≡ f line + total_by f (other ∷ more)) [
  | true ↦ let rest = placed_total f line more in omega arith
  | false ↦ refl
]

in_order_counts : (lines : List GroupLine) → SameCounts (in_order lines) lines
in_order_counts [] f = refl
in_order_counts (line ∷ lines) f = placed_total f line (in_order lines) ∙ ap (λ n. f line + n) (in_order_counts lines f)

sorted_rising : (lines : List GroupLine) → IsSorted line_cmp lines → AreRising lines
sorted_rising [] sorted = tt
sorted_rising (a ∷ []) sorted = (tt, tt)
sorted_rising (a ∷ b ∷ more) sorted =
    let h = above_is a b ∙ sorted 0 a (omega arith) (omega arith) in
    let rest = sorted_rising (b ∷ more) (λ k d low high. simp add-one (simp unary_clauses at (sorted (suc k) d (omega arith) (omega arith)))) in
    ((h, lower a b h more rest.0), rest)

-- how many lines a line is behind
nothing_below : (a : GroupLine) (lines : List GroupLine) → IsFirst a lines → total_by (λ x. cond (is_above a x) 1 0) lines ≡ 0
nothing_below a [] first = refl
nothing_below a (b ∷ lines) first = λ i. cond {A = ℕ} (first.0 i) 1 0 + nothing_below a lines first.1 i

-- the first of rising lines is behind none of those of the same lines in another order
first_of : (a b : GroupLine) (more more' : List GroupLine) → AreRising (a ∷ more) → SameCounts (a ∷ more) (b ∷ more') → is_above a b ≡ false
first_of a b more more' rising same = false_from_ne_true (is_above a b) (λ above.
    let none = nothing_below a (a ∷ more) (above_itself a, rising.0) in
    let counts = same (λ x. cond (is_above a x) 1 0) in
    let one : cond {A = ℕ} (is_above a b) 1 0 ≡ 1 = ap (λ (t : Bool). cond t 1 0) above in
    omega arith)

-- two rising lists of the same lines are one
one_rising : (xs ys : List GroupLine) → AreRising xs → AreRising ys → SameCounts xs ys → xs ≡ ys
one_rising [] [] h k same = refl
one_rising [] (b ∷ more) h k same = let e = same (λ _. 1) in absurd (omega arith)
one_rising (a ∷ more) [] h k same = let e = same (λ _. 1) in absurd (omega arith)
one_rising (a ∷ more) (b ∷ more') h k same =
    let e = same_line a b (first_of a b more more' h same) (first_of b a more' more k (λ f. sym (same f))) in
    let rest = one_rising more more' h.1 k.1 (λ f. let s = same f in let c : f a ≡ f b = ap f e in omega arith) in
    λ i. e i ∷ rest i

pub one_list : (exprs others : List Expr) (lines : List GroupLine) → AreTheSame exprs others → AreGroupLines exprs lines → lines ≡ group_lines others
one_list exprs others lines same are =
    let made = map (line_of others) (signatures_in others) in
    one_rising lines (in_order made) (sorted_rising lines are.order) (in_order_rising made) (λ f.
    sym (counts_from_permutation (map (line_of exprs) are.signatures) lines are.permutation f)
    ∙ lines_alike exprs others (same_exprs exprs others same) are.signatures are.are f
    ∙ sym (in_order_counts made f))
