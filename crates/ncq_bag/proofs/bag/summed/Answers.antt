use Rattle.std.proofs.Common.{◌≡◌, ◌≤◌, ◌^◌, ◌++◌, ◌∙◌, ap, sym, append-nil, arith, rules, nat_abs, List, []}
use Rattle.std.specs.List.{flat_map}
use Rattle.std.specs.Vec.Iter.{into_iter_items}
use Rattle.std.proofs.lemmas.List.{nil_from_length}
use Rattle.ncq_bag.specs.Added.{runs}
use Rattle.ncq_bag.specs.Bags.{difference_of}
use Rattle.ncq_bag.specs.declared.bag.Difference.{Difference}
use Rattle.ncq_bag.proofs.AddLaws.{differences-runs, fits}
use Rattle.ncq_bag.proofs.bag.summed.Goals as goal

pub returns : goal.returns
returns c =
    let run = c.loop-add.run in
    let out = c.loop-add.out in
    let bound : nat_abs run.count ≤ 2 ^ 63 = omega (arith, c.loop-add.invariant.within) in
    let none : into_iter_items c.loop-add.add-iterator ≡ [] = search (rules, nil_from_length) in
    c.in_ok-push_difference.ensures
    ∙ (λ i. out ++ difference_of (run.key, fits run.count bound i))
    ∙ ap (λ ds. out ++ ds) (sym (append-nil (difference_of (run.key, run.count))))
    ∙ ap (λ (left : List Difference). out ++ flat_map difference_of (runs run.key run.count left)) (sym none)
    ∙ c.loop-add.invariant.out ∙ differences-runs c.args.list.items c.requires.rising
