use Rattle.std.proofs.Common.{◌∷◌, [], length, take, ap, ◌∙◌}
use Rattle.std.specs.List.{flat_map}
use Rattle.ncq_base.specs.AtomTexts.{quoted_byte}
use Rattle.ncq_base.proofs.Written.{front_still, front_written, three_written}
use Rattle.ncq_base.proofs.atom_text.push_quoted.Goals as goal

pub returns-clause-ok : goal.returns-clause-ok
returns-clause-ok c =
    three_written c.args.out.now.items (34 ∷ []) (flat_map quoted_byte c.args.text.now) (34 ∷ []) c.push.new.self.items c.push_quoted_bytes.new.out.items c.push-2.new.self.items c.in_ok-push.ensures.items c.in_ok-push_quoted_bytes.ensures.ok c.in_ok-push-2.ensures.items

pub returns-clause-front : goal.returns-clause-front
returns-clause-front c = front_written c.args.out.now.items _ c.push-2.new.self.items (returns-clause-ok c)

pub returns-in_err-push_quoted_bytes-clause-front : goal.returns-in_err-push_quoted_bytes-clause-front
returns-in_err-push_quoted_bytes-clause-front c = front_still c.args.out.now.items (34 ∷ []) c.push.new.self.items c.push_quoted_bytes.new.out.items c.in_ok-push.ensures.items c.push_quoted_bytes.ensures.front

pub returns-in_err-push-2-clause-front : goal.returns-in_err-push-2-clause-front
returns-in_err-push-2-clause-front c =
    ap (take (length c.args.out.now.items)) c.in_err-push-2.ensures.items
    ∙ front_still c.args.out.now.items (34 ∷ []) c.push.new.self.items c.push_quoted_bytes.new.out.items c.in_ok-push.ensures.items c.push_quoted_bytes.ensures.front
