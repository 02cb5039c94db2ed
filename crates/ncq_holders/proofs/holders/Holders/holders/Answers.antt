use Rattle.std.proofs.Common.{sym, ap, ◌∙◌, nat_eq}
use Rattle.std.specs.List.{list_any}
use Rattle.ncq_holders.specs.Held.{is_holder}
use Rattle.ncq_holders.proofs.HolderLaws.{seen_at, has}
use Rattle.ncq_holders.proofs.holders.Holders.holders.Goals as goal

pub returns-in-Some : goal.returns-in-Some
returns-in-Some c number =
    ap (list_any (nat_eq number)) c.as_slice.ensures.keys ∙ ap (λ s. has s number) c.in-Some.ensures.value
    ∙ sym (seen_at c.self.inside.files.entries c.args.atom.now number) ∙ ap (λ h. is_holder h c.args.atom.now number) c.self.view_is

pub returns-in-None : goal.returns-in-None
returns-in-None c number =
    ap (λ s. has s number) c.in-None.ensures.value ∙ sym (seen_at c.self.inside.files.entries c.args.atom.now number) ∙ ap (λ h. is_holder h c.args.atom.now number) c.self.view_is
