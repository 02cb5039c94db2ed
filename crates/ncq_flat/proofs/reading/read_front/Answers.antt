use Rattle.std.proofs.Common.{◌≤◌, ◌∷◌, [], ap, subst, sym, arith, ◌∙◌}
use Rattle.std.specs.Prelude.{IfSome}
use Rattle.ncq_base.specs.Lines.{lines_in}
use Rattle.ncq_pyx.specs.declared.item.Item.TheVariants.{Put}
use Rattle.ncq_pyx.specs.Faults.{block_of, max_nesting}
use Rattle.ncq_pyx.specs.Joining.{behind_items}
use Rattle.ncq_flat.specs.Checked.{is_checked}
use Rattle.ncq_flat.specs.Items.{LeadsWhere}
use Rattle.ncq_flat.proofs.ItemLaws.{leads_where, front_test, front_whole, put_front, remove_front}
use Rattle.ncq_flat.proofs.reading.read_front.Goals as goal

pub returns-in-Some-erased-clause-step : goal.returns-in-Some-erased-clause-step
returns-in-Some-erased-clause-step c =
    remove_front c.args.text.now c.in-Some.line.now c.in-Some.behind.now c.in-Some-erased.escaped.now c.in_ok-key.key
    c.in-Some.ensures.0 c.in-Some.ensures.1 c.in-Some-erased.ensures c.in_ok-key.ensures
    ∙ ap (λ item. behind_items (item ∷ []) 1 (block_of max_nesting (lines_in c.in-Some.behind.now))) (sym c.remove.ensures)

pub of_checked-requires-clause-whole : goal.of_checked-requires-clause-whole
of_checked-requires-clause-whole c =
    let l = subst (λ n. IfSome n (λ f. LeadsWhere is_checked c.args.text.now f.1.now f.0)) c.in-Some-2.is c.in_ok-count.ensures.checked in
    front_whole c.args.text.now c.in-Some-2.more.now c.front_of.result.now c.in-Some-2.count (leads_where is_checked _ _ _ l) c.front_of.ensures

pub of_checked-requires-clause-checked : goal.of_checked-requires-clause-checked
of_checked-requires-clause-checked c =
    let l = subst (λ n. IfSome n (λ f. LeadsWhere is_checked c.args.text.now f.1.now f.0)) c.in-Some-2.is c.in_ok-count.ensures.checked in
    front_test is_checked c.args.text.now c.in-Some-2.more.now c.front_of.result.now c.in-Some-2.count l c.front_of.ensures

pub returns-clause-step : goal.returns-clause-step
returns-clause-step c =
    let few : c.in-Some-2.count ≤ 1024 = omega (arith, c.if-count-gt-FEW_LINES.false) in
    let l = subst (λ n. IfSome n (λ f. LeadsWhere is_checked c.args.text.now f.1.now f.0)) c.in-Some-2.is c.in_ok-count.ensures.checked in
    put_front c.args.text.now c.in-Some-2.more.now c.front_of.result.now c.in-Some-2.count (leads_where is_checked _ _ _ l) c.front_of.ensures
    c.in_ok-written.written few c.in_ok-written.ensures.lines c.in_ok-written.ensures.normal c.in_ok-written.ensures.named
    ∙ ap (λ item. behind_items (item ∷ []) c.in-Some-2.count (block_of max_nesting (lines_in c.in-Some-2.more.now)))
    (sym (c.put-item.ensures ∙ ap Put c.in_ok-new.ensures))
