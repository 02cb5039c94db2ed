use Rattle.std.proofs.Common.{◌≢◌, ◌-◌, ◌*◌, ◌%◌, ◌++◌, [], ◌∷◌, sym, ap, ◌∙◌, arith}
use Rattle.std.proofs.lemmas.Result.{on_ok_weaker}
use Rattle.ncq_base.specs.AtomTexts.{fraction_digits}
use Rattle.ncq_base.proofs.FractionLaws.{digits_next}
use Rattle.ncq_base.proofs.Written.{front_still, two_written}
use Rattle.ncq_base.proofs.atom_text.+push_digits.Goals as goal

pub returns-clause-ok : goal.returns-clause-ok
returns-clause-ok t c =
    let out = c.args.out.now.items in
    let rest = fraction_digits (c.args.most - 1) (c.args.fraction * 10 % 1000000) in
    let some : c.args.most ≢ 0 = omega arith in
    let left : c.args.fraction ≢ 0 = omega arith in
    on_ok_weaker c.push_digits.result
    (λ h.
    two_written out (c.first_digit.result ∷ []) rest c.push.new.self.items c.push_digits.new.out.items c.in_ok-push.ensures.items h
    ∙ ap (λ d. out ++ d ∷ rest) c.first_digit.ensures
    ∙ ap (λ xs. out ++ xs) (sym (digits_next c.args.most c.args.fraction some left)))
    c.push_digits.ensures.ok

pub returns-clause-front : goal.returns-clause-front
returns-clause-front t c = front_still c.args.out.now.items (c.first_digit.result ∷ []) c.push.new.self.items c.push_digits.new.out.items c.in_ok-push.ensures.items c.push_digits.ensures.front
