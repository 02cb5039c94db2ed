use Rattle.std.proofs.Common.{false, cond, nat_eq, Some, None, sym, ap, ◌∙◌, subst, rules}
use Rattle.ncq_holders.specs.Held.{is_holder, Forgets}
use Rattle.ncq_holders.specs.Seen.{held_in}
use Rattle.ncq_holders.proofs.HolderLaws.{seen_at, has, save, save_kept, turns, turned_again, without_number, forgets_none, empty_has}
use Rattle.ncq_holders.proofs.holders.Holders.forget.Goals as goal

pub returns-in_default : goal.returns-in_default
returns-in_default c =
    let old = c.self.inside.files.entries in
    subst (λ h. Forgets h c.args.atom.now c.args.number (held_in c.get_mut.follows.lender-at-none.entries)) (ap (λ m. held_in m.entries) c.get_mut.follows.holds-at-none ∙ c.self.view_is)
    (forgets_none (held_in c.get_mut.follows.lender-at-none.entries) c.args.atom.now c.args.number
    (λ n. ap (λ m. is_holder (held_in m.entries) c.args.atom.now n) c.get_mut.follows.holds-at-none ∙ seen_at old c.args.atom.now n ∙ ap (λ o. has o n) (sym c.in_default.ensures.value)))

pub returns-then-not-is_empty : goal.returns-then-not-is_empty
returns-then-not-is_empty c =
    let old = c.self.inside.files.entries in
    let w = c.swap_remove.new.self in
    let new = (c.get_mut.follows.lender w).entries in
    subst (λ h. Forgets h c.args.atom.now c.args.number (held_in new)) c.self.view_is (turns old new c.args.atom.now (Some w) ((c.get_mut.follows.holds w).3 (search rules)).0 save save_kept c.args.number
    (without_number w (is_holder (held_in old) c.args.atom.now) c.args.number
    (λ n. c.swap_remove.ensures.updates.0 n ∙ ap (cond (nat_eq c.args.number n) false) (ap (λ o. has o n) c.in-Some.ensures.value ∙ sym (seen_at old c.args.atom.now n)))))

pub returns : goal.returns
returns c =
    let old = c.self.inside.files.entries in
    let w = c.swap_remove.new.self in
    let mid = (c.get_mut.follows.lender w).entries in
    let new = c.swap_remove-2.new.self.entries in
    let is = turned_again old mid new c.args.atom.now (Some w) None ((c.get_mut.follows.holds w).3 (search rules)).0 c.swap_remove-2.ensures.updates.0 in
    subst (λ h. Forgets h c.args.atom.now c.args.number (held_in new)) c.self.view_is (turns old new c.args.atom.now None is save save_kept c.args.number
    (λ n. empty_has w (c.is_empty.ensures.0 c.if-not-is_empty.false) n
    ∙ without_number w (is_holder (held_in old) c.args.atom.now) c.args.number
    (λ m. c.swap_remove.ensures.updates.0 m ∙ ap (cond (nat_eq c.args.number m) false) (ap (λ o. has o m) c.in-Some.ensures.value ∙ sym (seen_at old c.args.atom.now m))) n))
