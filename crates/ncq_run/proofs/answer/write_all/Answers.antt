use Rattle.std.proofs.Common.{◌≡◌, ◌++◌, ℕ, List, take, drop, ap, sym, ◌∙◌, append_assoc, arith}
use Rattle.std.proofs.KnownBytes.{Appends-trans}
use Rattle.std.proofs.lemmas.List.{take-append-drop}
use Rattle.ncq_run.proofs.answer.write_all.Goals as goal

pub loop-rest-preserved : goal.loop-rest-preserved
loop-rest-preserved g c =
    let was = c.loop-rest.invariant.written in
    let count = c.in_ok-count.count in
    let rest = c.loop-rest.rest.now in
    let split : c.args.bytes.now ≡ (was.0 ++ take count rest) ++ c.rest_of-rest.result.now =
    was.1 ∙ ap (λ (xs : List ℕ). was.0 ++ xs) (sym (take-append-drop count rest)) ∙ sym (append_assoc was.0 (take count rest) (drop count rest))
    ∙ ap (λ (xs : List ℕ). (was.0 ++ take count rest) ++ xs) (sym c.rest_of-rest.ensures) in
    record {
      written = (was.0 ++ take count rest, split, Appends-trans _ _ _ _ _ was.2 c.in_ok-count.ensures.bytes);
      sure = c.write.ensures.stays ∙ c.loop-rest.invariant.sure;
      later = omega (arith, c.loop-rest.invariant.later, c.write.ensures.cause.later);
      stands = λ full. let before = c.loop-rest.invariant.stands full in let here = c.write.ensures.cause.stands (omega (arith, before, full)) in omega (arith, before, here);
    }
