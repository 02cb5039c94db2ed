use Rattle.std.proofs.Common.{ℕ, ◌<◌, sym, ap, ◌∙◌, subst, length, arith}
use Rattle.std.specs.List.{All}
use Rattle.std.proofs.lemmas.List.Elements.{All-from_recursion}
use Rattle.ncq_midfile.specs.Content.{AreRising, signed_at}
use Rattle.ncq_midfile.specs.Ranged.{is_early}
use Rattle.ncq_midfile.proofs.Cuts.{ordered_numbered}
use Rattle.ncq_midfile.proofs.Early.{early_all}
use Rattle.ncq_midfile.proofs.Matches.{wanted_rising, wanted_within, wanted_signed}
use Rattle.ncq_midfile.proofs.Withins.{if_ok}
use Rattle.ncq_midfile.proofs.within.all_within.Goals as goal

pub returns-clause-rising : goal.returns-clause-rising
returns-clause-rising c = if_ok c.early_within.result _ _ c.early_within.ensures (λ places all.
    subst (AreRising 0) (sym all) (wanted_rising (is_early c.args.slot c.args.interval.now c.last_number-last.result) 0 c.args.rows.now))

pub returns-clause-within : goal.returns-clause-within
returns-clause-within c = if_ok c.early_within.result _ _ c.early_within.ensures (λ places all.
    let rows = c.args.rows.now in
    let below = λ (place : ℕ). place < length rows in
    subst (All below) (sym all) (All-from_recursion below _ (wanted_within (is_early c.args.slot c.args.interval.now c.last_number-last.result) 0 (length rows) rows (omega arith))))

pub returns-clause-rows : goal.returns-clause-rows
returns-clause-rows c = if_ok c.early_within.result _ _ c.early_within.ensures (λ places all.
    let rows = c.args.rows.now in
    let last = c.last_number-last.result in
    ap (λ ps. signed_at ps rows) all
    ∙ wanted_signed (is_early c.args.slot c.args.interval.now last) rows
    ∙ early_all c.args.slot c.args.interval.now last rows c.last_number-last.ensures.rows)

pub last_number-last-requires : goal.last_number-last-requires
last_number-last-requires c = ordered_numbered 0 0 c.args.rows.now c.requires.numbered
