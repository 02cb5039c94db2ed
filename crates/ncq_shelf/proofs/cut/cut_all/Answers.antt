use Rattle.std.proofs.Common.{[], ◌<◌, ◌≤◌, sym, ap, ◌∙◌, length, slice_get, subst, arith}
use Rattle.std.proofs.lemmas.Cmp.{nat_eq_equiv}
use Rattle.std.proofs.lemmas.Map.Entries.{lookup_from_place}
use Rattle.ncq_shelf.proofs.CutLaws.{written, next_is, cut_more, cut_length, whole_cut}
use Rattle.ncq_shelf.proofs.cut.cut_all.Goals as goal

pub loop-at-preserved : goal.loop-at-preserved
loop-at-preserved c =
    cut_more [] c.args.change c.loop-at.at c.args.files.now.entries c.loop-at.files.entries c.cut_at.new.files.entries (subst (λ n. c.loop-at.at < n) c.len-at-end.ensures.len c.loop-at-test.true) c.loop-at.invariant
    (λ number file at. ap (λ m. m.entries) (c.cut_at.ensures number file at) ∙ written [] c.loop-at.files c.loop-at.files.entries c.loop-at.at _)

pub cut_at-requires-clause-base : goal.cut_at-requires-clause-base
cut_at-requires-clause-base c = λ number file at.
    let before = sym (next_is [] c.args.change c.loop-at.at c.args.files.now.entries) ∙ ap (λ es. slice_get es c.loop-at.at) (sym c.loop-at.invariant) ∙ at in
    c.requires number file (lookup_from_place nat_eq_equiv c.args.files.now.entries c.loop-at.at number file c.len-at-end.ensures.unique before)

pub cut_at-requires-clause-within : goal.cut_at-requires-clause-within
cut_at-requires-clause-within c = subst (λ n. c.loop-at.at < n) (c.len-at-end.ensures.len ∙ sym (ap length c.loop-at.invariant ∙ cut_length [] c.args.change c.loop-at.at c.args.files.now.entries)) c.loop-at-test.true

pub returns : goal.returns
returns c = c.loop-at.invariant ∙ whole_cut [] c.args.change c.loop-at.at c.args.files.now.entries (subst (λ n. n ≤ c.loop-at.at) c.len-at-end.ensures.len (omega arith))
