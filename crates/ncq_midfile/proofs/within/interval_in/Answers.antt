use Rattle.std.proofs.Common.{ℕ, ◌<◌, ◌++◌, ◌∙◌, sym, ap, subst, length, arith}
use Rattle.std.specs.List.{All}
use Rattle.std.proofs.lemmas.List.Elements.{All-from_recursion}
use Rattle.ncq_base.specs.Counts.{SameCounts}
use Rattle.ncq_midfile.specs.Content.{IsBalanced, AreRising, signed_at, rows_at, gains, losses}
use Rattle.ncq_midfile.specs.Ranged.{is_early}
use Rattle.ncq_midfile.specs.Views.{is_within}
use Rattle.ncq_midfile.proofs.Contents.{content_of_part}
use Rattle.ncq_midfile.proofs.Matches.{wanted_rising, wanted_within}
use Rattle.ncq_midfile.proofs.Parts.{part_rising}
use Rattle.ncq_midfile.proofs.ViewLaws.{sound_of_test}
use Rattle.ncq_midfile.proofs.Withins.{early_signed}
use Rattle.ncq_midfile.proofs.within.interval_in.Goals as goal

pub left_over-requires-clause-within : goal.left_over-requires-clause-within
left_over-requires-clause-within c =
    let rows = c.args.rows.now in
    let below = λ (place : ℕ). place < length rows in
    let all = c.as_slice.ensures ∙ c.in_ok-all.ensures in
    subst (All below) (sym all) (All-from_recursion below _ (wanted_within (is_early c.args.slot c.args.interval.now c.args.n) 0 (length rows) rows (omega arith)))

pub left_over-requires-clause-balanced : goal.left_over-requires-clause-balanced
left_over-requires-clause-balanced c =
    let all = c.as_slice.ensures ∙ c.in_ok-all.ensures in
    let signed = ap (λ ps. signed_at ps c.args.rows.now) all ∙ early_signed c.args.slot c.args.interval.now c.args.n c.args.rows.now in
    subst IsBalanced (sym signed) (sound_of_test c.args.n (is_within c.args.slot c.args.interval.now) c.args.rows.now c.requires.sound)

pub returns-clause-rising : goal.returns-clause-rising
returns-clause-rising c =
    let all = c.as_slice.ensures ∙ c.in_ok-all.ensures in
    part_rising 0 c.in_ok-left.left c.as_slice.result.now c.in_ok-left.ensures.part
    (subst (AreRising 0) (sym all) (wanted_rising (is_early c.args.slot c.args.interval.now c.args.n) 0 c.args.rows.now))

pub returns-clause-content : goal.returns-clause-content
returns-clause-content c =
    let rows = c.args.rows.now in
    let all = c.as_slice.ensures ∙ c.in_ok-all.ensures in
    let signed = ap (λ ps. signed_at ps rows) all ∙ early_signed c.args.slot c.args.interval.now c.args.n rows in
    content_of_part (is_within c.args.slot c.args.interval.now) c.args.n rows (rows_at c.in_ok-left.left rows) c.requires.sound
    (subst (λ rs. SameCounts (rows_at c.in_ok-left.left rows ++ losses rs) (gains rs)) signed c.in_ok-left.ensures.counts)
