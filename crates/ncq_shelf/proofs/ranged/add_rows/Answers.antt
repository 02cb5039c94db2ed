use Rattle.std.proofs.Common.{◌≡◌, ◌∷◌, [], List, length, arith, refl, rules, sym, ap, ◌∙◌, subst}
use Rattle.std.specs.Vec.Iter.{into_iter_items}
use Rattle.std.proofs.lemmas.Grind.{common_steps}
use Rattle.ncq_midfile.specs.Views.{RangeState}
use Rattle.ncq_shelf.specs.Groups.{AreBehind}
use Rattle.ncq_shelf.proofs.GroupGains.{rows_in_file}
use Rattle.ncq_shelf.proofs.GroupEntries.{ArePartlyAdded, none_added, one_added, all_added, added_to}
use Rattle.ncq_shelf.proofs.Turns.{any_err}
use Rattle.ncq_shelf.proofs.ranged.add_rows.Goals as goal

pub loop-row-init : goal.loop-row-init
loop-row-init c =
    let held = c.in-Some.held.now in
    let items : into_iter_items c.into_iter-row-iterator.result ≡ c.args.rows = c.into_iter-row-iterator.ensures.into_iter_gives.0 ∙ c.into_vec-row-items.ensures in
    subst (ArePartlyAdded c.args.group.slot held c.args.rows held) (sym items)
    (none_added c.args.group.slot held c.args.rows c.requires.numbers (subst (λ rows. AreBehind rows c.args.rows) (ap rows_in_file (sym c.in-Some.ensures.value)) c.requires.rising))

pub add-requires-clause-last : goal.add-requires-clause-last
add-requires-clause-last c =
    let e : into_iter_items c.loop-row.row-iterator ≡ c.in-Some-row.row ∷ into_iter_items c.next.new.self = search rules in
    (subst (AreBehind c.loop-row.held.rows) e c.loop-row.invariant.behind).0

pub loop-row-preserved : goal.loop-row-preserved
loop-row-preserved c =
    let e : into_iter_items c.loop-row.row-iterator ≡ c.in-Some-row.row ∷ into_iter_items c.next.new.self = search rules in
    one_added c.args.group.slot c.in-Some.held.now c.args.rows c.loop-row.held c.add.new.self c.in-Some-row.row (into_iter_items c.next.new.self)
    (subst (ArePartlyAdded c.args.group.slot c.in-Some.held.now c.args.rows c.loop-row.held) e c.loop-row.invariant) c.add.ensures.slot c.in_ok-add.ensures.ok

pub returns-in_err-add-clause-err : goal.returns-in_err-add-clause-err
returns-in_err-add-clause-err c =
    let w = c.add.new.self in
    let inv = c.loop-row.invariant in
    let same : w ≡ c.loop-row.held = c.in_err-add.ensures.err in
    any_err c.from_residual.result (
      inv.some,
      record { rest = into_iter_items c.loop-row.row-iterator; is = inv.is },
      added_to c.args.groups.now.entries c.args.group (c.get_mut.follows.lender w).entries c.in-Some.held.now w inv.some (sym c.in-Some.ensures.value) ((c.get_mut.follows.holds w).3 (search rules)).0
          (ap (λ (h : RangeState). h.slot) same ∙ inv.same) (ap (λ (h : RangeState). h.rows) same ∙ inv.rows),
    )

nothing : {A : Type 0} (xs : List A) → length xs ≡ 0 → xs ≡ []
nothing [] e = refl
nothing (x ∷ xs) e = absurd (omega arith)

pub returns-clause-ok : goal.returns-clause-ok
returns-clause-ok c =
    let w = c.loop-row.held in
    let none : length (into_iter_items c.loop-row.row-iterator) ≡ 0 = grind (arith, common_steps) in
    let done = subst (ArePartlyAdded c.args.group.slot c.in-Some.held.now c.args.rows w) (nothing (into_iter_items c.loop-row.row-iterator) none) c.loop-row.invariant in
    added_to c.args.groups.now.entries c.args.group (c.get_mut.follows.lender w).entries c.in-Some.held.now w c.args.rows (sym c.in-Some.ensures.value) ((c.get_mut.follows.holds w).3 (search rules)).0
    done.same (all_added c.args.group.slot c.in-Some.held.now c.args.rows w done)
