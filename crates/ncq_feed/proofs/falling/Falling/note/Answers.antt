use Rattle.std.proofs.Common.{◌≡◌, ◌<◌, ◌^◌, ◌||◌, length, get_or, nat_eq, reverse, subst, sym, ap, ◌∙◌, arith}
use Rattle.std.proofs.lemmas.List.{get_or_default}
use Rattle.ncq_feed.specs.Falling.{AreFalling}
use Rattle.ncq_feed.specs.Runs.{is_among}
use Rattle.ncq_feed.proofs.PendingLaws.{falling_insert, noted, noted_before}
use Rattle.ncq_feed.proofs.falling.Falling.note.Goals as goal
use Rattle.ncq_feed.proofs.falling.Falling.note.Goals.{else-at-len-via-then-at-len+else-index-number, else-at-len-via-else-at-len}

pub returns-then-index-number : goal.returns-then-index-number
returns-then-index-number c = λ other.
    let xs = c.self.inside.falling.items in
    let at = c.count_above-at.result in
    let size = c.len.ensures in
    let less : at < length xs = let test = c.if-at-len.true in omega arith in
    let here : get_or xs at 0 ≡ c.args.number = sym (get_or_default xs at c.index.result.now 0 less) ∙ sym c.index.ensures ∙ c.if-index-number.true in
    subst (λ numbers. is_among other numbers ≡ (nat_eq other c.args.number || is_among other numbers)) c.self.view_is (noted_before other c.args.number at xs less here)

pub invariant_of-self-2 : goal.invariant_of-self-2
invariant_of-self-2 c =
    let xs = c.self.inside.falling.items in
    let at = c.count_above-at.result in
    let here = c.as_slice.ensures.value in
    let within = rw here at c.count_above-at.ensures.within in
    let above = rw here at c.count_above-at.ensures.above in
    let below = rw here at c.count_above-at.ensures.below in
    let size = c.len.ensures in
    let apart : at < length xs → get_or xs at 0 < c.args.number = elim c.else-at-len.branch [
      | else-at-len-via-then-at-len+else-index-number w ↦ λ less.
          let low = below less in let other = w.if-index-number.false in
          let is = w.index.ensures ∙ get_or_default xs at w.index.result.now 0 less in omega arith
      | else-at-len-via-else-at-len w ↦ λ less. let most = w.if-at-len.false in absurd (omega arith)
    ] in
    subst (AreFalling (2 ^ 64)) (sym c.in_ok-insert.ensures.items) (falling_insert (2 ^ 64) c.args.number at xs c.self.invariant within c.ranges.number.fits above apart)

pub returns : goal.returns
returns c = λ other.
    ap (λ numbers. is_among other (reverse numbers)) c.in_ok-insert.ensures.items ∙ noted other c.args.number c.count_above-at.result c.self.inside.falling.items
    ∙ ap (λ numbers. nat_eq other c.args.number || is_among other numbers) c.self.view_is
