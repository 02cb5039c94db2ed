use Rattle.std.proofs.Common.{sym, ap, ◌∙◌, nat_eq}
use Rattle.ncq_holders.specs.Held.{is_holder}
use Rattle.ncq_holders.proofs.HolderLaws.{seen_at, has}
use Rattle.ncq_holders.proofs.holders.Holders.is_holder.Goals as goal

pub returns-in-Some : goal.returns-in-Some
returns-in-Some c =
    c.contains.ensures ∙ ap (λ s. has s c.args.number) c.in-Some.ensures.value
    ∙ sym (seen_at c.self.inside.files.entries c.args.atom.now c.args.number) ∙ ap (λ h. is_holder h c.args.atom.now c.args.number) c.self.view_is

pub returns-in-None : goal.returns-in-None
returns-in-None c =
    ap (λ s. has s c.args.number) c.in-None.ensures.value ∙ sym (seen_at c.self.inside.files.entries c.args.atom.now c.args.number) ∙ ap (λ h. is_holder h c.args.atom.now c.args.number) c.self.view_is
