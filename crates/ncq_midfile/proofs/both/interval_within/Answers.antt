use Rattle.std.proofs.Common.{ℕ, ◌<◌, ◌++◌, ◌∙◌, sym, ap, subst, length, arith}
use Rattle.std.specs.List.{All}
use Rattle.std.proofs.lemmas.List.Elements.{All-from_recursion}
use Rattle.ncq_base.specs.Counts.{SameCounts}
use Rattle.ncq_midfile.specs.Content.{IsBalanced, AreRising, signed_at, rows_at, gains, losses}
use Rattle.ncq_midfile.specs.Ranged.{is_early_of_both}
use Rattle.ncq_midfile.specs.Views.{is_within, of_rows}
use Rattle.ncq_midfile.proofs.Contents.{content_of_part}
use Rattle.ncq_midfile.proofs.Early.{both_signed_at}
use Rattle.ncq_midfile.proofs.Matches.{wanted_rising, wanted_within}
use Rattle.ncq_midfile.proofs.Parts.{part_rising}
use Rattle.ncq_midfile.proofs.ViewLaws.{sound_of_test}
use Rattle.ncq_midfile.proofs.both.interval_within.Goals as goal

pub left_over-requires-clause-within : goal.left_over-requires-clause-within
left_over-requires-clause-within c =
    let rows = c.args.rows.now in
    let below = λ (place : ℕ). place < length rows in
    let test = is_early_of_both c.args.slot c.args.interval.now c.args.outer_slot c.args.outer.now c.args.n in
    subst (All below) (sym (c.as_slice.ensures ∙ c.in_ok-both.ensures)) (All-from_recursion below _ (wanted_within test 0 (length rows) rows (omega arith)))

pub left_over-requires-clause-balanced : goal.left_over-requires-clause-balanced
left_over-requires-clause-balanced c =
    let rows = c.args.rows.now in
    let signed = ap (λ ps. signed_at ps rows) (c.as_slice.ensures ∙ c.in_ok-both.ensures) ∙ both_signed_at c.args.slot c.args.outer_slot c.args.interval.now c.args.outer.now c.args.n rows in
    subst IsBalanced (sym signed)
    (sound_of_test c.args.n (is_within c.args.slot c.args.interval.now) (of_rows (is_within c.args.outer_slot c.args.outer.now) rows) c.requires.sound)

pub returns-clause-rising : goal.returns-clause-rising
returns-clause-rising c =
    let test = is_early_of_both c.args.slot c.args.interval.now c.args.outer_slot c.args.outer.now c.args.n in
    part_rising 0 c.in_ok-left.left c.as_slice.result.now c.in_ok-left.ensures.part
    (subst (AreRising 0) (sym (c.as_slice.ensures ∙ c.in_ok-both.ensures)) (wanted_rising test 0 c.args.rows.now))

pub returns-clause-content : goal.returns-clause-content
returns-clause-content c =
    let rows = c.args.rows.now in
    let signed = ap (λ ps. signed_at ps rows) (c.as_slice.ensures ∙ c.in_ok-both.ensures) ∙ both_signed_at c.args.slot c.args.outer_slot c.args.interval.now c.args.outer.now c.args.n rows in
    content_of_part (is_within c.args.slot c.args.interval.now) c.args.n (of_rows (is_within c.args.outer_slot c.args.outer.now) rows) (rows_at c.in_ok-left.left rows) c.requires.sound
    (subst (λ rs. SameCounts (rows_at c.in_ok-left.left rows ++ losses rs) (gains rs)) signed c.in_ok-left.ensures.counts)
