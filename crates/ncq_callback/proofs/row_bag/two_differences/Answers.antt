use Rattle.std.proofs.Common.{◌≡◌, ◌∙◌, sym}
use Rattle.std.specs.Ordering.{nat_cmp}
use Rattle.std.specs.Cmp.Lexicographic.{slice_cmp}
use Rattle.std.specs.declared.cmp.Ordering.TheVariants.{Less, Greater}
use Rattle.std.proofs.lemmas.Result.{IfOk-weaker}
use Rattle.ncq_callback.proofs.FewLaws.{two_rising, two_falling}
use Rattle.ncq_callback.proofs.row_bag.two_differences.Goals as goal

pub returns-in-Less : goal.returns-in-Less
returns-in-Less c =
    let a = c.args.before in
    let b = c.args.last in
    let rising : slice_cmp nat_cmp a.answer b.answer ≡ Less = sym c.compare.ensures ∙ c.in-Less.is in
    IfOk-weaker c.rising.result _ _
    (λ d h. h ∙ sym (two_rising a.answer b.answer a.times b.times a.gain b.gain rising))
    c.rising.ensures

pub returns-in-Greater : goal.returns-in-Greater
returns-in-Greater c =
    let a = c.args.before in
    let b = c.args.last in
    let falling : slice_cmp nat_cmp a.answer b.answer ≡ Greater = sym c.compare.ensures ∙ c.in-Greater.is in
    IfOk-weaker c.rising-in-Greater.result _ _
    (λ d h. h ∙ sym (two_falling a.answer b.answer a.times b.times a.gain b.gain falling))
    c.rising-in-Greater.ensures
