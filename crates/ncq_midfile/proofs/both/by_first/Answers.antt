use Rattle.std.proofs.Common.{ℕ, ◌<◌, ◌∙◌, sym, ap, subst, length, arith}
use Rattle.std.specs.List.{All}
use Rattle.std.proofs.lemmas.List.Elements.{All-from_recursion}
use Rattle.ncq_midfile.specs.Matching.{chosen}
use Rattle.ncq_midfile.specs.Ranged.{is_early}
use Rattle.ncq_midfile.specs.Views.{is_within}
use Rattle.ncq_midfile.specs.declared.signed.SignedRow.{SignedRow}
use Rattle.ncq_midfile.proofs.Matches.{wanted_within}
use Rattle.ncq_midfile.proofs.Withins.{chosen_both, if_ok}
use Rattle.ncq_midfile.proofs.both.by_first.Goals as goal

pub only_within-requires : goal.only_within-requires
only_within-requires c =
    let rows = c.args.rows.now in
    let below = λ (place : ℕ). place < length rows in
    let test = is_early c.args.slot c.args.interval.now c.args.n in
    subst (All below) (sym (c.as_slice.ensures ∙ c.in_ok-early.ensures)) (All-from_recursion below _ (wanted_within test 0 (length rows) rows (omega arith)))

pub returns : goal.returns
returns c = if_ok c.only_within.result _ _ c.only_within.ensures (λ places those.
    let rows = c.args.rows.now in
    let within = λ (r : SignedRow). is_within c.args.second_slot c.args.second.now r.row in
    those ∙ ap (chosen within rows) (c.as_slice.ensures ∙ c.in_ok-early.ensures) ∙ chosen_both (is_early c.args.slot c.args.interval.now c.args.n) within rows)
