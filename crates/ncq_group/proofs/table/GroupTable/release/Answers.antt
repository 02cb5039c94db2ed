use Rattle.std.proofs.Common.{◌≡◌, ℕ, ◌-◌, Some, refl, sym, ap, ◌∙◌, subst}
use Rattle.std.specs.FinMap.{get, insert}
use Rattle.ncq_shelf.specs.KeptFiles.{KeptFile, Files}
use Rattle.ncq_shelf.specs.Stands.{IsGrounded}
use Rattle.ncq_count.proofs.CallerLemmas.{counted_again, one_changed}
use Rattle.ncq_group.specs.Inside.{table_of}
use Rattle.ncq_group.specs.Tables.{TableState, Facts}
use Rattle.ncq_group.specs.Releases.{IsReleased, with_use_less}
use Rattle.ncq_group.specs.Collected.{IsCollected}
use Rattle.ncq_group.proofs.Released.{grounded_low, facts_after, released}
use Rattle.ncq_group.proofs.table.GroupTable.release.Goals as goal

-- the files after the count of uses was lowered are those of the definition
lowered : (files low : Files) (number uses : ℕ) (file : KeptFile) → uses ≡ file.uses → low ≡ insert files number (record file { uses = uses - 1 }) → low ≡ with_use_less files number file
lowered files low number uses file is e = e ∙ ap (λ (u : ℕ). insert files number (record file { uses = u - 1 })) is

pub collect-requires-clause-counted : goal.collect-requires-clause-counted
collect-requires-clause-counted c =
    let at = subst (λ (t : TableState). get t.files c.args.file.0 ≡ Some c.requires.file) (sym c.self.view_is) c.requires.at in
    let same = one_changed c.self.inside.filed.shelf c.set_uses.new.self c.args.file.0 c.requires.file _ at refl (c.set_uses.ensures c.requires.file at) in
    counted_again c.self.inside.filed.shelf c.set_uses.new.self same c.self.inside.filed.groups c.self.invariant.counted

pub collect-requires-clause-grounded : goal.collect-requires-clause-grounded
collect-requires-clause-grounded c =
    let old = table_of c.self.inside.filed c.self.inside.number in
    let v : c.self.inside.filed.shelf ≡ c.args.self.now.files = ap (λ t. t.files) c.self.view_is in
    let at : get c.self.inside.filed.shelf c.args.file.0 ≡ Some c.requires.file = subst (λ fs. get fs c.args.file.0 ≡ Some c.requires.file) (sym v) c.requires.at in
    let low = lowered c.self.inside.filed.shelf c.set_uses.new.self c.args.file.0 c.uses-uses.result c.requires.file (c.uses-uses.ensures c.requires.file at) (c.set_uses.ensures c.requires.file at) in
    subst IsGrounded (sym low) (grounded_low old c.self.invariant.facts c.args.file.0 c.requires.file at)

pub invariant_of-self : goal.invariant_of-self
invariant_of-self c =
    let old = table_of c.self.inside.filed c.self.inside.number in
    let v : c.self.inside.filed.shelf ≡ c.args.self.now.files = ap (λ t. t.files) c.self.view_is in
    let at : get c.self.inside.filed.shelf c.args.file.0 ≡ Some c.requires.file = subst (λ fs. get fs c.args.file.0 ≡ Some c.requires.file) (sym v) c.requires.at in
    let low = lowered c.self.inside.filed.shelf c.set_uses.new.self c.args.file.0 c.uses-uses.result c.requires.file (c.uses-uses.ensures c.requires.file at) (c.set_uses.ensures c.requires.file at) in
    record {
      facts = subst (λ n. Facts (record { files = c.collect.new.filed.shelf; next_file = n; number = c.self.inside.number })) (sym c.collect.ensures.next)
          (facts_after old c.self.invariant.facts c.args.file.0 c.requires.file at c.collect.new.filed.shelf c.collect.ensures.grounded
          (subst (λ fs. IsCollected fs c.args.file.0 c.collect.new.filed.shelf) low c.collect.ensures.collected));
      counted = c.collect.ensures.counted;
    }

pub returns-clause-files : goal.returns-clause-files
returns-clause-files c =
    let old = table_of c.self.inside.filed c.self.inside.number in
    let v : c.self.inside.filed.shelf ≡ c.args.self.now.files = ap (λ t. t.files) c.self.view_is in
    let at : get c.self.inside.filed.shelf c.args.file.0 ≡ Some c.requires.file = subst (λ fs. get fs c.args.file.0 ≡ Some c.requires.file) (sym v) c.requires.at in
    let low = lowered c.self.inside.filed.shelf c.set_uses.new.self c.args.file.0 c.uses-uses.result c.requires.file (c.uses-uses.ensures c.requires.file at) (c.set_uses.ensures c.requires.file at) in
    subst (λ fs. IsReleased fs c.args.file.0 c.collect.new.filed.shelf) v
    (released old c.self.invariant.facts c.args.file.0 c.requires.file at c.collect.new.filed.shelf c.collect.ensures.grounded
    (subst (λ fs. IsCollected fs c.args.file.0 c.collect.new.filed.shelf) low c.collect.ensures.collected))

pub uses-uses-requires : goal.uses-uses-requires
uses-uses-requires c = record { file = c.requires.file; at = subst (λ t. get t.files c.args.file.0 ≡ Some c.requires.file) (sym c.self.view_is) c.requires.at }

pub set_uses-requires : goal.set_uses-requires
set_uses-requires c = record { file = c.requires.file; at = subst (λ t. get t.files c.args.file.0 ≡ Some c.requires.file) (sym c.self.view_is) c.requires.at }
