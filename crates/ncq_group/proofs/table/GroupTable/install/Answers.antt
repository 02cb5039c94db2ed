use Rattle.std.proofs.Common.{◌≡◌, ℕ, ◌+◌, ◌-◌, ◌<◌, ◌^◌, Some, refl, sym, ap, ◌∙◌, subst, lit<, arith}
use Rattle.std.specs.FinMap.{get}
use Rattle.ncq_change.specs.Stores.{world_in}
use Rattle.ncq_shelf.specs.KeptFiles.{KeptFile}
use Rattle.ncq_shelf.specs.Contents.{Fits}
use Rattle.ncq_count.proofs.CallerLemmas.{counted_again, one_changed}
use Rattle.ncq_group.specs.Inside.{table_of}
use Rattle.ncq_group.specs.Tables.{TableState, Facts}
use Rattle.ncq_group.specs.Installs.{IsInstalled, NamesTheMissing}
use Rattle.ncq_group.specs.Grown.{IsGrown}
use Rattle.ncq_group.proofs.Made.{made_cost}
use Rattle.ncq_group.proofs.Installed.{uses_fit, cut_back, unused_new, facts_installed, fits_installed, installed}
use Rattle.ncq_group.proofs.table.GroupTable.install.Goals as goal

pub overflow_add-uses : goal.overflow_add-uses
overflow_add-uses g c =
    let old = table_of c.self.inside.filed c.self.inside.number in
    let grown = subst (λ (n : ℕ). IsGrown c.args.expr.now n (world_in c.args.store.now) c.self.inside.filed.shelf c.self.inside.filed.next c.place.new.filed.shelf c.place.new.filed.next) (c.requires.number ∙ sym (ap (λ (t : TableState). t.number) c.self.view_is)) c.place.ensures.grown in
    let old_fit : (other : ℕ) (file : KeptFile) → get c.self.inside.filed.shelf other ≡ Some file → file.uses + 1 < 2 ^ 64 =
    λ other file at. let u : file.uses < 2 ^ 64 - 1 = c.requires.uses other file (subst (λ (t : TableState). get t.files other ≡ Some file) c.self.view_is at) in omega arith in
    let s = c.in-Ok.ensures.stands in
    let fit : s.file.uses + 1 < 2 ^ 64 =
    uses_fit c.args.expr.now (world_in c.args.store.now) old c.self.invariant.facts c.place.new.filed.shelf c.place.new.filed.next grown (2 ^ 64) c.in-Ok.number (lit< tt) old_fit s.file s.at in
    let is : c.uses-uses.result ≡ s.file.uses = c.uses-uses.ensures s.file s.at in
    omega arith

pub invariant_of-self : goal.invariant_of-self
invariant_of-self g c =
    let old = table_of c.self.inside.filed c.self.inside.number in
    let grown = subst (λ (n : ℕ). IsGrown c.args.expr.now n (world_in c.args.store.now) c.self.inside.filed.shelf c.self.inside.filed.next c.place.new.filed.shelf c.place.new.filed.next) (c.requires.number ∙ sym (ap (λ (t : TableState). t.number) c.self.view_is)) c.place.ensures.grown in
    let s = c.in-Ok.ensures.stands in
    record {
      facts = facts_installed c.args.expr.now (world_in c.args.store.now) old c.self.invariant.facts c.place.new.filed.shelf c.place.new.filed.next grown
          c.in-Ok.number c.uses-uses.result s c.in-Ok.ensures.unread s.file s.at (c.uses-uses.ensures s.file s.at) c.set_uses.new.self (c.set_uses.ensures s.file s.at);
      counted = counted_again c.place.new.filed.shelf c.set_uses.new.self (one_changed c.place.new.filed.shelf c.set_uses.new.self c.in-Ok.number s.file _ s.at refl (c.set_uses.ensures s.file s.at)) c.place.new.filed.groups c.place.ensures.counted;
    }

pub returns-in-Ok-clause-ok : goal.returns-in-Ok-clause-ok
returns-in-Ok-clause-ok g c =
    let old = table_of c.self.inside.filed c.self.inside.number in
    let grown = subst (λ (n : ℕ). IsGrown c.args.expr.now n (world_in c.args.store.now) c.self.inside.filed.shelf c.self.inside.filed.next c.place.new.filed.shelf c.place.new.filed.next) (c.requires.number ∙ sym (ap (λ (t : TableState). t.number) c.self.view_is)) c.place.ensures.grown in
    let s = c.in-Ok.ensures.stands in
    subst (λ (t : TableState). IsInstalled c.args.expr.now t (record { files = c.set_uses.new.self; next_file = c.place.new.filed.next; number = c.self.inside.number }) c.in-Ok.number) c.self.view_is
    (installed c.args.expr.now (world_in c.args.store.now) old c.self.invariant.facts c.place.new.filed.shelf c.place.new.filed.next grown
    c.in-Ok.number c.uses-uses.result s c.in-Ok.ensures.unread s.file s.at (c.uses-uses.ensures s.file s.at) c.set_uses.new.self (c.set_uses.ensures s.file s.at))

pub returns-in-Ok-clause-fits : goal.returns-in-Ok-clause-fits
returns-in-Ok-clause-fits g c =
    let old = table_of c.self.inside.filed c.self.inside.number in
    let grown = subst (λ (n : ℕ). IsGrown c.args.expr.now n (world_in c.args.store.now) c.self.inside.filed.shelf c.self.inside.filed.next c.place.new.filed.shelf c.place.new.filed.next) (c.requires.number ∙ sym (ap (λ (t : TableState). t.number) c.self.view_is)) c.place.ensures.grown in
    let s = c.in-Ok.ensures.stands in
    subst (λ (t : TableState). Fits t.number (world_in c.args.store.now) c.set_uses.new.self) c.self.view_is
    (fits_installed c.args.expr.now (world_in c.args.store.now) old c.self.invariant.facts c.place.new.filed.shelf c.place.new.filed.next grown
    c.in-Ok.number c.uses-uses.result s c.in-Ok.ensures.unread s.file s.at (c.uses-uses.ensures s.file s.at) c.set_uses.new.self (c.set_uses.ensures s.file s.at))

pub cut-requires-clause-unused : goal.cut-requires-clause-unused
cut-requires-clause-unused g c =
    let old = table_of c.self.inside.filed c.self.inside.number in
    let grown = subst (λ (n : ℕ). IsGrown c.args.expr.now n (world_in c.args.store.now) c.self.inside.filed.shelf c.self.inside.filed.next c.place.new.filed.shelf c.place.new.filed.next) (c.requires.number ∙ sym (ap (λ (t : TableState). t.number) c.self.view_is)) c.place.ensures.grown in
    unused_new c.args.expr.now (world_in c.args.store.now) old c.self.invariant.facts c.place.new.filed.shelf c.place.new.filed.next grown

pub invariant_of-self-in-Err : goal.invariant_of-self-in-Err
invariant_of-self-in-Err g c =
    let old = table_of c.self.inside.filed c.self.inside.number in
    let grown = subst (λ (n : ℕ). IsGrown c.args.expr.now n (world_in c.args.store.now) c.self.inside.filed.shelf c.self.inside.filed.next c.place.new.filed.shelf c.place.new.filed.next) (c.requires.number ∙ sym (ap (λ (t : TableState). t.number) c.self.view_is)) c.place.ensures.grown in
    let back : c.cut.new.filed.shelf ≡ c.self.inside.filed.shelf = cut_back c.args.expr.now (world_in c.args.store.now) old c.self.invariant.facts c.place.new.filed.shelf c.place.new.filed.next grown c.cut.new.filed.shelf c.cut.ensures.cut in
    record {
      facts = subst Facts (λ i. record { files = sym back i; next_file = sym c.cut.ensures.next i; number = c.self.inside.number }) c.self.invariant.facts;
      counted = c.cut.ensures.counted;
    }

pub returns-in-Err-clause-err : goal.returns-in-Err-clause-err
returns-in-Err-clause-err g c =
    let old = table_of c.self.inside.filed c.self.inside.number in
    let grown = subst (λ (n : ℕ). IsGrown c.args.expr.now n (world_in c.args.store.now) c.self.inside.filed.shelf c.self.inside.filed.next c.place.new.filed.shelf c.place.new.filed.next) (c.requires.number ∙ sym (ap (λ (t : TableState). t.number) c.self.view_is)) c.place.ensures.grown in
    let back : c.cut.new.filed.shelf ≡ c.self.inside.filed.shelf = cut_back c.args.expr.now (world_in c.args.store.now) old c.self.invariant.facts c.place.new.filed.shelf c.place.new.filed.next grown c.cut.new.filed.shelf c.cut.ensures.cut in
    (λ i. record { files = back i; next_file = c.cut.ensures.next i; number = c.self.inside.number }) ∙ c.self.view_is

pub returns-in-Ok-clause-cost : goal.returns-in-Ok-clause-cost
returns-in-Ok-clause-cost g c = λ missing names.
    let i = c.place.ensures.cost in
    made_cost (world_in c.args.store.now) c.args.expr.now c.self.inside.filed.shelf missing i.0 c.args.steps.now c.place.new.steps i.1
    (subst (λ (t : TableState). NamesTheMissing t.files c.args.expr.now missing) (sym c.self.view_is) names)

pub returns-in-Err-clause-cost : goal.returns-in-Err-clause-cost
returns-in-Err-clause-cost g c = λ missing names.
    let i = c.place.ensures.cost in
    made_cost (world_in c.args.store.now) c.args.expr.now c.self.inside.filed.shelf missing i.0 c.args.steps.now c.place.new.steps i.1
    (subst (λ (t : TableState). NamesTheMissing t.files c.args.expr.now missing) (sym c.self.view_is) names)
