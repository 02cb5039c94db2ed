use Rattle.std.proofs.Common.{sym, ◌∙◌, subst, arith}
use Rattle.ncq_count.specs.Counted.{AreCounted}
use Rattle.ncq_group.specs.declared.filed.Filed.{Filed}
use Rattle.ncq_group.proofs.Added.{absent_from, added_gone, grounded_added, idle_added}
use Rattle.ncq_group.proofs.place.put.Goals as goal

pub add_file-requires-clause-absent : goal.add_file-requires-clause-absent
add_file-requires-clause-absent g c = absent_from c.args.filed.now.shelf c.args.filed.now.next c.args.filed.now.next c.requires.below (omega arith)

pub count_in-requires : goal.count_in-requires
count_in-requires g c =
    let files = c.args.filed.now.shelf in
    let is = c.in_ok-add_file.ensures.ok.files in
    record {
      grounded = grounded_added c.args.expr.now files c.args.filed.now.next c.add_file.new.shelf c.in_ok-add_file.ensures.ok.content is c.requires.ready.grounded c.requires.below c.requires.new c.args.inputs c.requires.inputs;
      idle = idle_added c.args.expr.now files c.args.filed.now.next c.add_file.new.shelf c.in_ok-add_file.ensures.ok.content is c.requires.ready.grounded c.requires.below c.requires.new c.args.inputs c.requires.inputs;
      counted = subst (λ f. AreCounted f c.args.filed.now.groups) (sym (added_gone c.args.expr.now files c.args.filed.now.next c.add_file.new.shelf c.in_ok-add_file.ensures.ok.content is c.requires.ready.grounded c.requires.below c.requires.new)) c.requires.counted;
    }

pub remove-inputs-requires : goal.remove-inputs-requires
remove-inputs-requires g c =
    idle_added c.args.expr.now c.args.filed.now.shelf c.args.filed.now.next c.add_file.new.shelf c.in_ok-add_file.ensures.ok.content c.in_ok-add_file.ensures.ok.files c.requires.ready.grounded c.requires.below c.requires.new c.args.inputs c.requires.inputs

pub returns-in-Err-clause-err : goal.returns-in-Err-clause-err
returns-in-Err-clause-err g c =
    let gone = c.remove-inputs.ensures.gone ∙ added_gone c.args.expr.now c.args.filed.now.shelf c.args.filed.now.next c.add_file.new.shelf c.in_ok-add_file.ensures.ok.content c.in_ok-add_file.ensures.ok.files c.requires.ready.grounded c.requires.below c.requires.new in
    λ i. record { shelf = gone i; groups = c.in-Err.ensures.err i; next = c.args.filed.now.next }

pub returns-in-Err-clause-counted : goal.returns-in-Err-clause-counted
returns-in-Err-clause-counted g c = subst (λ (f : Filed). AreCounted f.shelf f.groups) (sym (returns-in-Err-clause-err g c)) c.requires.counted
