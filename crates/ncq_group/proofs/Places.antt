-- The inputs of each operator, and what is added for them.
use Rattle.std.proofs.Common.{◌≡◌, ℕ, ◌<◌, ◌≤◌, ◌+◌, ◌^◌, List, ◌⊎◌, Bool, true, false, ◌&&◌, true≢false, refl, ◌∙◌, sym, subst, arith}
use Rattle.ncq_base.specs.declared.atom.Atom.{Atom}
use Rattle.ncq_row.specs.declared.pair.Pair.{Pair}
use Rattle.ncq_plan.specs.declared.expr.Expr.{Expr}
use Rattle.ncq_base.specs.declared.interval.Interval.{Interval}
use Rattle.ncq_plan.specs.declared.expr.Expr.TheVariants.{EqSel, RangeSel, Join}
use Rattle.ncq_plan.specs.Exprs.{World}
use Rattle.ncq_shelf.specs.Parts.{IsInput, IsPart}
use Rattle.ncq_shelf.specs.Parts.IsPart.{within}
use Rattle.ncq_plan.specs.Exprs.{operators}
use Rattle.ncq_shelf.proofs.CallerLemmas.{input_of-equal, equal-input_of, input_of-range, range-input_of, input_of-join, left-input_of, right-input_of}
use Rattle.ncq_plan.proofs.ExprCases.{fold_equal, fold_range, fold_join}
use Rattle.ncq_plan.proofs.CallerLemmas.{operators_equal, operators_range, operators_join, fit_equal, fit_range, fit_join}
use Rattle.ncq_plan.specs.WellFormed.{IsWellFormedExpr, paths_step, paths_are_formed, slots_fit}
use Rattle.ncq_shelf.specs.KeptFiles.{Files}
use Rattle.ncq_shelf.specs.Stands.{Stands}
use Rattle.ncq_shelf.specs.Inputs.{AreInputs}
use Rattle.ncq_shelf.specs.declared.inputs.Inputs.TheVariants.{One, Two}
use Rattle.ncq_group.specs.Grown.{IsGrown}
use Rattle.ncq_group.proofs.Collects.{stands_more}
use Rattle.ncq_group.proofs.Grown.{grown_within, grown_then}

-- the whole reads this expression alone
pub record HasOne (whole inner : Expr) : Type 0 where
  pub reads : IsInput inner whole
  pub counts : operators whole ≡ operators inner + 1
  pub only : (e : Expr) → IsInput e whole → e ≡ inner
  pub formed : IsWellFormedExpr whole → IsWellFormedExpr inner

-- the whole reads these two
pub record HasTwo (whole left right : Expr) : Type 0 where
  pub left_reads : IsInput left whole
  pub right_reads : IsInput right whole
  pub counts : operators whole ≡ operators left + operators right + 1
  pub only : (e : Expr) → IsInput e whole → (e ≡ left) ⊎ (e ≡ right)
  pub left_formed : IsWellFormedExpr whole → IsWellFormedExpr left
  pub right_formed : IsWellFormedExpr whole → IsWellFormedExpr right

first_true : (a b : Bool) → (a && b) ≡ true → a ≡ true
first_true true b h = refl
first_true false b h = h

second_true : (a b : Bool) → (a && b) ≡ true → b ≡ true
second_true true b h = h
second_true false b h = absurd (true≢false (sym h))

pub equal_one : (whole inner input : Expr) (slot : ℕ) (constant : Atom) → whole ≡ EqSel input slot constant → inner ≡ input → HasOne whole inner
equal_one whole inner input slot constant is same = subst (λ w. HasOne w inner) (sym is) (subst (λ i. HasOne (EqSel input slot constant) i) (sym same) (record {
  reads = equal-input_of input slot constant;
  counts = operators_equal input slot constant;
  only = λ e reads. input_of-equal e input slot constant reads;
  formed = λ w. record {
    small = let c = operators_equal input slot constant in let m = w.small in omega arith;
    slots = first_true (slots_fit input) _ (sym (fit_equal input slot constant) ∙ w.slots);
    paths = sym (fold_equal paths_step input slot constant) ∙ w.paths;
  };
}))

pub range_one : (whole inner input : Expr) (slot : ℕ) (interval : Interval) → whole ≡ RangeSel input slot interval → inner ≡ input → HasOne whole inner
range_one whole inner input slot interval is same = subst (λ w. HasOne w inner) (sym is) (subst (λ i. HasOne (RangeSel input slot interval) i) (sym same) (record {
  reads = range-input_of input slot interval;
  counts = operators_range input slot interval;
  only = λ e reads. input_of-range e input slot interval reads;
  formed = λ w. record {
    small = let c = operators_range input slot interval in let m = w.small in omega arith;
    slots = first_true (slots_fit input) _ (sym (fit_range input slot interval) ∙ w.slots);
    paths = sym (fold_range paths_step input slot interval) ∙ w.paths;
  };
}))

pub join_two : (whole first second left right : Expr) (pairs : List Pair) → whole ≡ Join left right pairs → first ≡ left → second ≡ right → HasTwo whole first second
join_two whole first second left right pairs is same other = subst (λ w. HasTwo w first second) (sym is) (subst (λ i. HasTwo (Join left right pairs) i second) (sym same) (subst (λ i. HasTwo (Join left right pairs) left i) (sym other) (record {
  left_reads = left-input_of left right pairs;
  right_reads = right-input_of left right pairs;
  counts = operators_join left right pairs;
  only = λ e reads. input_of-join e left right pairs reads;
  left_formed = λ w. record {
    small = let c = operators_join left right pairs in let m = w.small in omega arith;
    slots = first_true (slots_fit left) (slots_fit right) (first_true (slots_fit left && slots_fit right) _ (sym (fit_join left right pairs) ∙ w.slots));
    paths = first_true (paths_are_formed left) (paths_are_formed right) (sym (fold_join paths_step left right pairs) ∙ w.paths);
  };
  right_formed = λ w. record {
    small = let c = operators_join left right pairs in let m = w.small in omega arith;
    slots = second_true (slots_fit left) (slots_fit right) (first_true (slots_fit left && slots_fit right) _ (sym (fit_join left right pairs) ∙ w.slots));
    paths = second_true (paths_are_formed left) (paths_are_formed right) (sym (fold_join paths_step left right pairs) ∙ w.paths);
  };
})))

-- the parts of an input are parts of the whole
pub parts_one : (whole inner : Expr) → HasOne whole inner → (e : Expr) → IsPart e inner → IsPart e whole
parts_one whole inner has e p = within has.reads p

pub parts_left : (whole left right : Expr) → HasTwo whole left right → (e : Expr) → IsPart e left → IsPart e whole
parts_left whole left right has e p = within has.left_reads p

pub parts_right : (whole left right : Expr) → HasTwo whole left right → (e : Expr) → IsPart e right → IsPart e whole
parts_right whole left right has e p = within has.right_reads p

-- where there is room for the whole there is room for its inputs
pub room_in_one : (whole inner : Expr) → HasOne whole inner → (low : ℕ) → low + operators whole < 2 ^ 64 → low + operators inner < 2 ^ 64
room_in_one whole inner has low room = let c = has.counts in omega arith

pub room_in_left : (whole left right : Expr) → HasTwo whole left right → (low : ℕ) → low + operators whole < 2 ^ 64 → low + operators left < 2 ^ 64
room_in_left whole left right has low room = let c = has.counts in omega arith

pub room_in_right : (whole left right : Expr) → HasTwo whole left right → (low middle : ℕ) → middle ≤ low + operators left → low + operators whole < 2 ^ 64 → middle + operators right < 2 ^ 64
room_in_right whole left right has low middle grown room = let c = has.counts in omega arith

module _ (now : ℕ) (world : World) (whole : Expr) where
  module _ (inner : Expr) (has : HasOne whole inner) where
    pub grown_one : (old : Files) (low : ℕ) (new : Files) (high : ℕ) → IsGrown inner now world old low new high → IsGrown whole now world old low new high
    grown_one old low new high g = let c = has.counts in grown_within now world inner whole old low new high (λ e p. within has.reads p) (omega arith) g

    pub room_one : (old : Files) (low : ℕ) (new : Files) (high : ℕ) → IsGrown inner now world old low new high → high + 1 ≤ low + operators whole
    room_one old low new high g = let c = has.counts in let r = g.room in omega arith

    pub inputs_one : (files : Files) (number : ℕ) → Stands files inner number → AreInputs files whole (One number)
    inputs_one files number s = record { input = inner; reads = has.reads; only = has.only; stands = s }

  module _ (left right : Expr) (has : HasTwo whole left right) (old : Files) (low : ℕ) (mid : Files) (middle : ℕ) (first : IsGrown left now world old low mid middle) where
    pub grown_left : IsGrown whole now world old low mid middle
    grown_left = let c = has.counts in grown_within now world left whole old low mid middle (λ e p. within has.left_reads p) (omega arith) first

    module _ (new : Files) (high : ℕ) (second : IsGrown right now world mid middle new high) where
      pub grown_two : IsGrown whole now world old low new high
      grown_two = let c = has.counts in grown_then now world left right whole old low mid middle new high (λ e p. within has.left_reads p) (λ e p. within has.right_reads p) (omega arith) first second

      pub room_two : high + 1 ≤ low + operators whole
      room_two = let c = has.counts in let r = first.room in let s = second.room in omega arith

      pub inputs_two : (pairs : List Pair) → whole ≡ Join left right pairs → (one two : ℕ) → Stands mid left one → Stands new right two → AreInputs new whole (Two one two)
      inputs_two pairs is one two s t = record { first = left; second = right; pairs = pairs; is = is; on_left = stands_more second.stays s; on_right = t }
