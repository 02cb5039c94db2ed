use Rattle.std.proofs.Common.{◌≡◌, ◌↔◌, List, Some, map, sym, ap, ◌∙◌, subst}
use Rattle.std.specs.FinMap.{get}
use Rattle.std.specs.Option.{option_map}
use Rattle.std.proofs.lemmas.Result.{IfOk-weaker}
use Rattle.ncq_base.specs.declared.atom.FileId.{FileId}
use Rattle.ncq_shelf.specs.Ranges.{TakesValue}
use Rattle.ncq_shelf.specs.Readers.{IsAmong}
use Rattle.ncq_shelf.specs.Shown.{shown, state_of}
use Rattle.ncq_shelf.proofs.Maps.{there}
use Rattle.ncq_shelf.proofs.ShownFiles.{get_shown}
use Rattle.ncq_shelf.proofs.TakersTold.{takers_told, none_told}
use Rattle.ncq_shelf.proofs.shelf.Shelf.takers.Goals as goal

pub unreachable-requires : goal.unreachable-requires
unreachable-requires c =
    there (subst (λ f. get f c.args.input ≡ Some c.requires.file) (sym c.self.view_is) c.requires.at) (get_shown c.self.inside.groups.entries c.self.inside.files.entries c.args.input ∙ ap (option_map (state_of c.self.inside.groups.entries)) (sym c.in_default.ensures.value))

pub returns-in-Some-range_table : goal.returns-in-Some-range_table
returns-in-Some-range_table c = IfOk-weaker c.takers.result _ _ (λ told same n.
    subst (λ f. IsAmong n (map (λ (file : FileId). file.0) told) ↔ TakesValue f c.args.input c.args.slot c.args.value.now n) c.self.view_is
    (takers_told c.self.inside.groups.entries c.self.inside.files.entries c.self.inside.numbers.entries c.self.inside.scans.entries c.self.invariant.shelved c.args.input c.in-Some.file.now (sym c.in-Some.ensures.value)
    c.args.slot c.args.value.now n c.in-Some-range_table.ensures.tables c.in-Some-range_table.table.now (sym c.in-Some-range_table.ensures.table) told same)) c.takers.ensures.counts

pub returns-in-None : goal.returns-in-None
returns-in-None c = λ n.
    subst (λ f. IsAmong n (map (λ (file : FileId). file.0) c.new.result) ↔ TakesValue f c.args.input c.args.slot c.args.value.now n) c.self.view_is
    (subst (λ (files : List FileId). IsAmong n (map (λ (file : FileId). file.0) files) ↔ TakesValue (shown c.self.inside.groups.entries c.self.inside.files.entries) c.args.input c.args.slot c.args.value.now n) (sym c.new.ensures)
    (none_told c.self.inside.groups.entries c.self.inside.files.entries c.self.inside.numbers.entries c.self.inside.scans.entries c.self.invariant.shelved c.args.input c.in-Some.file.now (sym c.in-Some.ensures.value)
    c.args.slot c.args.value.now n (sym c.in-None.ensures.table)))
