use Rattle.std.proofs.Common.{refl, sym}
use Rattle.std.proofs.lemmas.Result.{err_from_is_err_and}
use Rattle.ncq_xmlql.specs.Reading.{many, starts_tag}
use Rattle.ncq_xmlql.specs.PatternReading.{pattern_at}
use Rattle.ncq_xmlql.proofs.Loops.{many_go_on, many_fail, many_end}
use Rattle.ncq_xmlql.proofs.Complete.{shorter}
use Rattle.ncq_xmlql.proofs.pattern.+patterns.Goals as goal

pub patterns_at-returns-in_err-pattern : goal.patterns_at-returns-in_err-pattern
patterns_at-returns-in_err-pattern t c =
    let p = err_from_is_err_and c.from_residual.result c.from_residual.ensures.1 in
    rw (p.1, p.2) (many_fail starts_tag (pattern_at c.args.depth) refl (shorter c.args.depth) c.in_err-pattern.field-0.0 c.parts.patterns c.parts.rest.now (many starts_tag (pattern_at c.args.depth) c.args.tokens.now) (sym c.parts-test.ensures) c.in_err-pattern.ensures c.parts.invariant)

pub patterns_at-parts-smaller : goal.patterns_at-parts-smaller
patterns_at-parts-smaller t c = shorter c.args.depth c.parts.rest.now (c.in_ok-pattern.pattern, c.in_ok-pattern.next.now) c.in_ok-pattern.ensures

pub patterns_at-parts-preserved : goal.patterns_at-parts-preserved
patterns_at-parts-preserved t c =
    rw c.in_ok-push.ensures.ok (many_go_on starts_tag (pattern_at c.args.depth) refl (shorter c.args.depth) c.parts.patterns c.parts.rest.now c.in_ok-pattern.pattern c.in_ok-pattern.next.now (many starts_tag (pattern_at c.args.depth) c.args.tokens.now) (sym c.parts-test.ensures) c.in_ok-pattern.ensures c.parts.invariant)

pub patterns_at-returns : goal.patterns_at-returns
patterns_at-returns t c = many_end starts_tag (pattern_at c.args.depth) c.parts.patterns c.parts.rest.now (many starts_tag (pattern_at c.args.depth) c.args.tokens.now) (sym c.parts-test.ensures) c.parts.invariant
