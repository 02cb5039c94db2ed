use Rattle.std.proofs.Common.{◌≡◌, ◌++◌, nat_abs, to_z, of_z, ap, ◌∙◌}
use Rattle.std.proofs.lemmas.Int.{to_z-of_z}
use Rattle.std.proofs.lemmas.Result.{on_ok_weaker}
use Rattle.ncq_base.specs.AtomTexts.{sign_text, size_text}
use Rattle.ncq_base.proofs.Written.{front_still, two_written}
use Rattle.ncq_base.proofs.atom_text.write_number.Goals as goal
use Rattle.std.specs.Int.{w128}

pub returns-clause-ok : goal.returns-clause-ok
returns-clause-ok c =
    let n = c.args.n in
    let out = c.args.out.now.items in
    let sign : to_z w128 (of_z w128 n) ≡ n = to_z-of_z w128 n c.ranges.n in
    let size : c.unsigned_abs.result ≡ nat_abs n = c.unsigned_abs.ensures.value ∙ ap nat_abs sign in
    on_ok_weaker c.push_size.result
    (λ h.
    two_written out (sign_text (to_z w128 (of_z w128 n))) (size_text c.unsigned_abs.result) c.push_sign.new.out.items c.push_size.new.out.items c.in_ok-push_sign.ensures.ok h
    ∙ (λ i. out ++ (sign_text (sign i) ++ size_text (size i))))
    c.push_size.ensures.ok

pub returns-clause-front : goal.returns-clause-front
returns-clause-front c = front_still c.args.out.now.items _ c.push_sign.new.out.items c.push_size.new.out.items c.in_ok-push_sign.ensures.ok c.push_size.ensures.front
