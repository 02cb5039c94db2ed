use Rattle.std.proofs.Common.{◌≡◌, ◌+◌, ◌<◌, ◌≢◌, ◌%◌, length, get_or, ap, ◌∙◌, arith, below_more, get_or-set_other, get_or-set_same}
use Rattle.std.proofs.lemmas.List.FromFn.{fill_by_all}
use Rattle.ncq_outside.proofs.Places.{first_place, next_place}
use Rattle.ncq_outside.proofs.repeat.fill_again.Goals as goal
use Rattle.ncq_outside.proofs.repeat.fill_again.Goals.{then-at-line, else-at-line}

pub loop-byte-preserved : goal.loop-byte-preserved
loop-byte-preserved c =
    let line = c.args.line.now in
    let place = c.args.from + c.loop-byte.byte-index in
    let at : c.loop-byte.at ≡ place % length line = c.loop-byte.invariant.0 in
    let turn : c.if-at-line.at ≡ (place + 1) % length line =
    elim c.if-at-line.branch [
      | then-at-line w ↦ omega (arith, next_place place (length line) (omega arith))
      | else-at-line w ↦ omega (arith, first_place place (length line) c.requires (omega arith))
    ]
    in (
      turn ∙ ap (λ n. n % length line) (omega arith),
      below_more _ _
          (λ k h. let other : k ≢ c.loop-byte.byte-index = omega arith in rw get_or-set_other (c.loop-byte.invariant.1 k h))
          (let inside : c.loop-byte.byte-index < length c.loop-byte.to = omega arith in rw get_or-set_same (ap (λ n. get_or line n 0) at)),
    )

pub returns : goal.returns
returns c = fill_by_all _ _ _ 0 (omega arith) (λ k h. c.loop-byte.invariant.1 k (omega arith))
