use Rattle.std.proofs.Common.{refl, sym}
use Rattle.std.proofs.lemmas.Result.{err_from_is_err_and}
use Rattle.ncq_xmlql.specs.Reading.{many}
use Rattle.ncq_xmlql.specs.TemplateReading.{starts_part, part_at}
use Rattle.ncq_xmlql.proofs.Loops.{many_go_on, many_fail, many_end}
use Rattle.ncq_xmlql.proofs.TemplateLaws.{shorter}
use Rattle.ncq_xmlql.proofs.template.+templates.Goals as goal

pub parts_at-returns-in_err-part : goal.parts_at-returns-in_err-part
parts_at-returns-in_err-part t c =
    let p = err_from_is_err_and c.from_residual.result c.from_residual.ensures.1 in
    rw (p.1, p.2) (many_fail starts_part (part_at c.args.depth) refl (shorter c.args.depth) c.in_err-part.field-0.0 c.parts.content c.parts.rest.now (many starts_part (part_at c.args.depth) c.args.tokens.now) (sym c.parts-test.ensures) c.in_err-part.ensures c.parts.invariant)

pub parts_at-parts-smaller : goal.parts_at-parts-smaller
parts_at-parts-smaller t c = shorter c.args.depth c.parts.rest.now (c.in_ok-part.part, c.in_ok-part.next.now) c.in_ok-part.ensures

pub parts_at-parts-preserved : goal.parts_at-parts-preserved
parts_at-parts-preserved t c =
    rw c.in_ok-push.ensures.ok (many_go_on starts_part (part_at c.args.depth) refl (shorter c.args.depth) c.parts.content c.parts.rest.now c.in_ok-part.part c.in_ok-part.next.now (many starts_part (part_at c.args.depth) c.args.tokens.now) (sym c.parts-test.ensures) c.in_ok-part.ensures c.parts.invariant)

pub parts_at-returns : goal.parts_at-returns
parts_at-returns t c = many_end starts_part (part_at c.args.depth) c.parts.content c.parts.rest.now (many starts_part (part_at c.args.depth) c.args.tokens.now) (sym c.parts-test.ensures) c.parts.invariant
