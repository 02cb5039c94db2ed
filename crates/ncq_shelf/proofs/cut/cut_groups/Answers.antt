use Rattle.std.proofs.Common.{◌<◌, ◌≤◌, sym, ap, ◌∙◌, length, subst, arith}
use Rattle.ncq_shelf.specs.Shown.{cut_held}
use Rattle.ncq_shelf.proofs.EntryCuts.{written, cut_more, cut_length, whole_cut}
use Rattle.ncq_shelf.proofs.cut.cut_groups.Goals as goal

pub loop-at-preserved : goal.loop-at-preserved
loop-at-preserved c =
    let cut = cut_held c.args.change in
    cut_more cut c.loop-at.at c.args.groups.now.entries c.loop-at.groups.entries c.cut_group_at.new.groups.entries (subst (λ n. c.loop-at.at < n) c.len-at-end.ensures.len c.loop-at-test.true) c.loop-at.invariant
    (λ group held at. ap (λ m. m.entries) (c.cut_group_at.ensures group held at) ∙ written cut c.loop-at.groups c.loop-at.groups.entries c.loop-at.at _)

pub cut_group_at-requires : goal.cut_group_at-requires
cut_group_at-requires c = subst (λ n. c.loop-at.at < n) (c.len-at-end.ensures.len ∙ sym (ap length c.loop-at.invariant ∙ cut_length (cut_held c.args.change) c.loop-at.at c.args.groups.now.entries)) c.loop-at-test.true

pub returns : goal.returns
returns c = c.loop-at.invariant ∙ whole_cut (cut_held c.args.change) c.loop-at.at c.args.groups.now.entries (subst (λ n. n ≤ c.loop-at.at) c.len-at-end.ensures.len (omega arith))
