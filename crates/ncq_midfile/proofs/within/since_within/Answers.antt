use Rattle.std.proofs.Common.{ℕ, ◌<◌, ◌∙◌, sym, ap, subst, length, drop, arith}
use Rattle.std.specs.List.{All}
use Rattle.std.proofs.lemmas.List.{length-drop}
use Rattle.std.proofs.lemmas.List.Elements.{All-from_recursion}
use Rattle.ncq_midfile.specs.Content.{AreRising, signed_at}
use Rattle.ncq_midfile.specs.Ranged.{is_early}
use Rattle.ncq_midfile.proofs.Cuts.{ordered_numbered, parted_numbered}
use Rattle.ncq_midfile.proofs.Early.{since_early}
use Rattle.ncq_midfile.proofs.Matches.{wanted_rising, wanted_within}
use Rattle.ncq_midfile.proofs.Parts.{rising_from}
use Rattle.ncq_midfile.proofs.Withins.{if_ok}
use Rattle.ncq_midfile.proofs.within.since_within.Goals as goal

pub returns-clause-rising : goal.returns-clause-rising
returns-clause-rising c = if_ok c.early_within.result _ _ c.early_within.ensures (λ places all.
    let from = c.count_up_to-from.result in
    let test = is_early c.args.slot c.args.interval.now c.last_number-last.result in
    subst (AreRising 0) (sym all) (rising_from 0 from _ (omega arith) (wanted_rising test from (drop from c.args.rows.now))))

pub returns-clause-within : goal.returns-clause-within
returns-clause-within c = if_ok c.early_within.result _ _ c.early_within.ensures (λ places all.
    let from = c.count_up_to-from.result in
    let rows = c.args.rows.now in
    let test = is_early c.args.slot c.args.interval.now c.last_number-last.result in
    let below = λ (place : ℕ). place < length rows in
    let long = length-drop from rows in
    let few = c.count_up_to-from.ensures.within in
    subst (All below) (sym all) (All-from_recursion below _ (wanted_within test from (length rows) (drop from rows) (omega arith))))

pub returns-clause-rows : goal.returns-clause-rows
returns-clause-rows c = if_ok c.early_within.result _ _ c.early_within.ensures (λ places all.
    let cut = c.count_up_to-from.ensures in
    ap (λ ps. signed_at ps c.args.rows.now) all
    ∙ since_early c.args.slot c.args.interval.now c.last_number-last.result c.args.n c.count_up_to-from.result c.args.rows.now cut.within cut.back c.last_number-last.ensures.rows)

pub count_up_to-from-requires : goal.count_up_to-from-requires
count_up_to-from-requires c = parted_numbered c.args.n 0 c.args.rows.now c.requires.numbered

pub last_number-last-requires : goal.last_number-last-requires
last_number-last-requires c = ordered_numbered 0 0 c.args.rows.now c.requires.numbered
