use Rattle.std.proofs.Common.{◌≡◌, ◌∷◌, [], min, max, slice_get, Some, sym, ap, ◌∙◌, subst}
use Rattle.std.specs.List.{AllByRecursion}
use Rattle.ncq_midfile.specs.Pairs.{taken_out}
use Rattle.ncq_midfile.specs.declared.signed.SignedRow.{SignedRow}
use Rattle.ncq_midfile.proofs.StrikeLaws.{IsNoPartner, LosesPair, must_have_come, struck}
use Rattle.std.proofs.lemmas.Option.{same_Some}
use Rattle.ncq_midfile.proofs.strike.strike.Goals as goal

pub unreachable-requires : goal.unreachable-requires
unreachable-requires c =
    let went = c.requires.went in
    let rows = c.args.rows.now.items in
    let seen = c.as_slice.ensures.value in
    must_have_come c.args.at rows went.0 went.1 went.2 c.requires.balanced
    (subst (AllByRecursion (IsNoPartner went.0.row)) seen (c.in-None.ensures.none went.0 (ap (λ xs. slice_get xs c.args.at) seen ∙ went.1)))

after : (c : goal.After-take_out) → LosesPair c.args.rows.now.items c.take_out.new.rows.items
after c =
    let rows = c.args.rows.now.items in
    let seen = c.as_slice.ensures.value in
    let partner = c.in-Some.partner in
    let at = c.args.at in
    let went = c.requires.went in
    let found = c.in-Some.ensures.some in
    let r = found.0 in
    let s = went.0 in
    let here : slice_get rows partner ≡ Some r = ap (λ xs. slice_get xs partner) (sym seen) ∙ found.2 in
    let seen_there : slice_get rows at ≡ Some found.1 = ap (λ xs. slice_get xs at) (sym seen) ∙ found.3 in
    let one : found.1 ≡ s = same_Some found.1 s (sym seen_there ∙ went.1) in
    let new : c.take_out.new.rows.items ≡ taken_out (min partner at ∷ max partner at ∷ []) rows =
    c.take_out.ensures ∙ (λ i. taken_out (c.min.ensures i ∷ c.max.ensures i ∷ []) rows) in
    subst (LosesPair rows) (sym new) (struck partner at rows r s here went.1 found.4 went.2 (found.5 ∙ ap (λ (x : SignedRow). x.row) one))

pub returns-clause-balanced : goal.returns-clause-balanced
returns-clause-balanced c = (after c).balanced c.requires.balanced

pub returns-clause-counts : goal.returns-clause-counts
returns-clause-counts c = (after c).counts

pub returns-clause-numbers : goal.returns-clause-numbers
returns-clause-numbers c = (after c).numbers
