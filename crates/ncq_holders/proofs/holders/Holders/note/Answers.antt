use Rattle.std.proofs.Common.{◌≡◌, true, cond, nat_eq, Some, sym, ap, ◌∙◌, subst, rules}
use Rattle.std.specs.List.{list_any}
use Rattle.std.specs.Map.{lookup}
use Rattle.ncq_base.specs.declared.atom.Atom.{Atom}
use Rattle.ncq_base.specs.contracts.atom.AtomPartialEq.TheImpl.{ghosts as atom_eq}
use Rattle.ncq_holders.specs.Held.{is_holder, Notes, HaveSame}
use Rattle.ncq_holders.specs.Seen.{held_in}
use Rattle.ncq_holders.proofs.HolderLaws.{seen_at, has, also, also_kept, turns, stays, with_number, any_err}
use Rattle.ncq_holders.proofs.holders.Holders.note.Goals as goal

pub returns-in_err-insert-clause-err : goal.returns-in_err-insert-clause-err
returns-in_err-insert-clause-err c =
    let old = c.self.inside.files.entries in
    let w = c.insert.new.self in
    let new = (c.get_mut.follows.lender w).entries in
    any_err c.from_residual.result (subst (λ h. HaveSame h (held_in new)) c.self.view_is (stays old new c.args.atom.now (Some w) ((c.get_mut.follows.holds w).3 (search rules)).0
    (λ n. ap (list_any (nat_eq n)) c.in_err-insert.ensures.err ∙ ap (λ o. has o n) c.in-Some.ensures.value ∙ sym (seen_at old c.args.atom.now n))))

pub returns-in-Some-clause-ok : goal.returns-in-Some-clause-ok
returns-in-Some-clause-ok c =
    let old = c.self.inside.files.entries in
    let w = c.insert.new.self in
    let new = (c.get_mut.follows.lender w).entries in
    subst (λ h. Notes h c.args.atom.now c.args.number (held_in new)) c.self.view_is (turns old new c.args.atom.now (Some w) ((c.get_mut.follows.holds w).3 (search rules)).0 also also_kept c.args.number
    (with_number w (is_holder (held_in old) c.args.atom.now) c.args.number
    (λ n. c.in_ok-insert.ensures.updates.0 n ∙ ap (cond (nat_eq c.args.number n) true) (ap (λ o. has o n) c.in-Some.ensures.value ∙ sym (seen_at old c.args.atom.now n)))))

pub returns-clause-ok : goal.returns-clause-ok
returns-clause-ok c =
    let old = c.self.inside.files.entries in
    let w = c.insert-2.new.self in
    let new = c.insert-3.new.self.entries in
    let is : (q : Atom) → lookup (atom_eq.eq q) new ≡ cond (atom_eq.eq c.args.atom.now q) (Some w) (lookup (atom_eq.eq q) old) =
    λ q. c.in_ok-insert-3.ensures.updates.0 q ∙ (λ i. cond (atom_eq.eq (c.in_ok-key.ensures i) q) (Some w) (lookup (atom_eq.eq q) ((c.get_mut.follows.holds-at-none i).entries))) in
    subst (λ h. Notes h c.args.atom.now c.args.number (held_in new)) c.self.view_is (turns old new c.args.atom.now (Some w) is also also_kept c.args.number
    (with_number w (is_holder (held_in old) c.args.atom.now) c.args.number
    (λ n. c.in_ok-insert-2.ensures.updates.0 n ∙ ap (cond (nat_eq c.args.number n) true) (ap (list_any (nat_eq n)) c.new-numbers.ensures.empty ∙ ap (λ o. has o n) c.in_default.ensures.value ∙ sym (seen_at old c.args.atom.now n)))))
