use Rattle.std.proofs.Common.{ap, sym, ◌∙◌, ◌++◌, ◌∷◌, [], Some, cond, subst}
use Rattle.std.specs.Map.{lookup}
use Rattle.std.specs.Str.{bytes_eq}
use Rattle.ncq_bind.specs.Firsts.{FindsFirst}
use Rattle.ncq_bind.proofs.Firsts.{note_literal, note_known, note_new, known_entry, no_entry}
use Rattle.ncq_bind.proofs.names.note_first.Goals as goal

pub returns-in_ok-insert : goal.returns-in_ok-insert
returns-in_ok-insert c before at h =
    subst (λ o. FindsFirst c.insert.new.self.entries (before ++ o ∷ [])) (sym c.in-Variable.is)
    (note_new before c.in-Variable.x c.args.slot c.args.slots.now.entries c.insert.new.self.entries at h
    (no_entry c.get.result (lookup (bytes_eq c.in-Variable.x) c.args.slots.now.entries) c.get.ensures.value c.is_none.result c.is_none.ensures c.if-is_none.true)
    (λ q. c.in_ok-insert.ensures.updates.0 q ∙ ap (λ k. cond (bytes_eq k q) (Some c.args.slot) (lookup (bytes_eq q) c.args.slots.now.entries)) c.in_ok-copy.ensures))

pub returns-else-is_none : goal.returns-else-is_none
returns-else-is_none c before at h =
    subst (λ o. FindsFirst c.args.slots.now.entries (before ++ o ∷ [])) (sym c.in-Variable.is)
    (note_known before c.in-Variable.x c.args.slots.now.entries h
    (known_entry c.get.result (lookup (bytes_eq c.in-Variable.x) c.args.slots.now.entries) c.get.ensures.value c.if-is_none.ensures))

pub returns-in_default : goal.returns-in_default
returns-in_default c before at h =
    subst (λ o. FindsFirst c.args.slots.now.entries (before ++ o ∷ [])) (sym c.in_default.is) (note_literal before c.in_default.field-0 c.args.slots.now.entries h)
