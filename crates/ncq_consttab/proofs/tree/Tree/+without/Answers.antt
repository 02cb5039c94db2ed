use Rattle.std.proofs.Common.{◌≡◌, false, List, ◌++◌, ◌∷◌, arith, sym, subst}
use Rattle.ncq_base.proofs.CountLaws.{total_by-append}
use Rattle.ncq_base.specs.declared.atom.FileId.{FileId}
use Rattle.ncq_base.specs.declared.interval.Interval.{Interval}
use Rattle.ncq_consttab.specs.Trees.{IsTaken, is_entry}
use Rattle.ncq_consttab.proofs.TreeLaws.{entry_is, taken_left_then, taken_right_then}
use Rattle.ncq_consttab.proofs.tree.Tree.+without.Goals as goal

pub returns-then-is_entry : goal.returns-then-is_entry
returns-then-is_entry t c = λ f.
    let same : c.in-Inner.fork.value.entry ≡ c.args.entry.now = entry_is c.in-Inner.fork.value.entry c.args.entry.now (grind arith) in
    grind (arith, total_by-append)

pub returns-then-found : goal.returns-then-found
returns-then-found t c = λ f.
    let found = subst (λ b. IsTaken b c.args.entry.now c.take.result c.without-found.result.1) c.if-found.true c.without-found.ensures f in
    grind (arith, total_by-append)

pub returns-then-found-2 : goal.returns-then-found-2
returns-then-found-2 t c = λ f.
    let found = subst (λ b. IsTaken b c.args.entry.now c.take-2.result c.without-found-2.result.1) c.if-found-2.true c.without-found-2.ensures f in
    grind (arith, total_by-append)

pub returns-then-is_before : goal.returns-then-is_before
returns-then-is_before t c =
    let e = c.args.entry.now in
    let x = c.in-Inner.fork.value.entry in
    let b = c.without-found-then-is_before.result.0 in
    let l = c.take.result in
    let r = c.take-then-is_before.result in
    let ln = c.without-found.result.1 in
    let rn = c.without-found-then-is_before.result.1 in
    let left = subst (λ b. IsTaken b e l ln) c.if-found.false c.without-found.ensures in
    let other : is_entry x e ≡ false = grind arith in
    let old : c.args.self ≡ l ++ x ∷ r = grind arith in
    let new : c.balanced-then-is_before.result ≡ ln ++ x ∷ rn = grind arith in
    subst (λ (s : List (Interval × FileId)). IsTaken b e s c.balanced-then-is_before.result) (sym old)
    (subst (IsTaken b e (l ++ x ∷ r)) (sym new) (taken_right_then b e x l r ln rn other left c.without-found-then-is_before.ensures))

pub returns : goal.returns
returns t c =
    let e = c.args.entry.now in
    let x = c.in-Inner.fork.value.entry in
    let b = c.without-found-3.result.0 in
    let l = c.take-3.result in
    let r = c.take-2.result in
    let ln = c.without-found-3.result.1 in
    let rn = c.without-found-2.result.1 in
    let right = subst (λ b. IsTaken b e r rn) c.if-found-2.false c.without-found-2.ensures in
    let other : is_entry x e ≡ false = grind arith in
    let old : c.args.self ≡ l ++ x ∷ r = grind arith in
    let new : c.balanced-2.result ≡ ln ++ x ∷ rn = grind arith in
    subst (λ (s : List (Interval × FileId)). IsTaken b e s c.balanced-2.result) (sym old)
    (subst (IsTaken b e (l ++ x ∷ r)) (sym new) (taken_left_then b e x l r ln rn other right c.without-found-3.ensures))
