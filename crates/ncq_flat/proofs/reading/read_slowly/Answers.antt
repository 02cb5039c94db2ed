use Rattle.std.proofs.Common.{◌+◌, ◌≤◌, ◌^◌, length, arith}
use Rattle.ncq_pyx.specs.Faults.{max_nesting}
use Rattle.ncq_flat.proofs.ItemLaws.{refusal_within}
use Rattle.ncq_flat.proofs.reading.read_slowly.Goals as goal

pub later-requires-clause-within : goal.later-requires-clause-within
later-requires-clause-within c =
    let few : length c.args.text.now + 1 ≤ 2 ^ 63 = omega (arith, c.requires) in
    refusal_within max_nesting (2 ^ 63) _ c.args.text.now c.in-Err.why c.in_ok-lines.ensures few c.in-Err.ensures.reads
