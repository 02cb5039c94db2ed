use Rattle.std.proofs.Common.{◌<◌, length, get_or, nat_eq, subst, sym, ap, ◌∙◌, arith}
use Rattle.std.specs.List.{list_any}
use Rattle.std.proofs.lemmas.List.{get_or_default}
use Rattle.ncq_midfile.specs.Content.{AreRising}
use Rattle.ncq_midfile.proofs.FewLaws.{rising_insert, any_put}
use Rattle.ncq_midfile.proofs.few.put.Goals as goal
use Rattle.ncq_midfile.proofs.few.put.Goals.{else-at-len-via-then-at-len+else-index-place, else-at-len-via-else-at-len}

pub returns-clause-rising : goal.returns-clause-rising
returns-clause-rising c =
    let xs = c.args.places.now.items in
    let at = c.count_below-at.result in
    let here = c.as_slice.ensures.value in
    let within = rw here at c.count_below-at.ensures.within in
    let below = rw here at c.count_below-at.ensures.below in
    let above = rw here at c.count_below-at.ensures.above in
    let size = c.len.ensures in
    let apart : at < length xs → c.args.place < get_or xs at 0 = elim c.else-at-len.branch [
      | else-at-len-via-then-at-len+else-index-place w ↦ λ less.
          let low = above less in let other = w.if-index-place.false in
          let is = w.index.ensures ∙ get_or_default xs at w.index.result.now 0 less in omega arith
      | else-at-len-via-else-at-len w ↦ λ less. let most = w.if-at-len.false in absurd (omega arith)
    ] in
    subst (AreRising 0) (sym c.in_ok-insert.ensures.items) (rising_insert 0 c.args.place at xs c.requires within (omega arith) below apart)

pub returns-clause-ok : goal.returns-clause-ok
returns-clause-ok c = λ q. ap (list_any (nat_eq q)) c.in_ok-insert.ensures.items ∙ any_put q c.args.place c.count_below-at.result c.args.places.now.items
