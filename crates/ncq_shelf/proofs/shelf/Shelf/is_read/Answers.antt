use Rattle.std.proofs.Common.{◌≡◌, true, false, Some, sym, ap, ◌∙◌, subst}
use Rattle.std.specs.Option.{option_map}
use Rattle.std.specs.FinMap.{get}
use Rattle.std.specs.Prelude.{not}
use Rattle.ncq_shelf.specs.KeptFiles.{KeptFile}
use Rattle.ncq_shelf.specs.Shown.{shown, state_of}
use Rattle.ncq_shelf.specs.Stands.{IsReadIn, TellsRead}
use Rattle.ncq_readers.specs.ReaderTables.{TellsUnread}
use Rattle.ncq_shelf.proofs.Consumers.{told_read, told_unread}
use Rattle.ncq_shelf.proofs.Indexes.{shown_at}
use Rattle.ncq_shelf.proofs.Maps.{one_value, there}
use Rattle.ncq_shelf.proofs.ShownFiles.{get_shown}
use Rattle.ncq_shelf.proofs.shelf.Shelf.is_read.Goals as goal

pub unreachable-requires : goal.unreachable-requires
unreachable-requires c =
    there (subst (λ f. get f c.args.number ≡ Some c.requires.file) (sym c.self.view_is) c.requires.at) (get_shown c.self.inside.groups.entries c.self.inside.files.entries c.args.number ∙ ap (option_map (state_of c.self.inside.groups.entries)) (sym c.in_default.ensures.value))

pub returns : goal.returns
returns c =
    let gs = c.self.inside.groups.entries in
    let files = c.self.inside.files.entries in
    let file = c.in-Some.file.now in
    let found = sym c.in-Some.ensures.value in
    let here = shown_at gs files c.args.number file found in
    elim c.is_empty.result as (λ b. TellsUnread file.readers b → TellsRead c.args.self.now c.args.number (not b)) [
      | true ↦ λ none state at reads.
          let same : state_of gs file ≡ state = one_value here (subst (λ f. get f c.args.number ≡ Some state) (sym c.self.view_is) at) in
          told_unread gs files c.self.inside.numbers.entries c.self.inside.scans.entries c.self.invariant.shelved c.args.number file found none
          (subst (λ f. IsReadIn f file.expr) (sym c.self.view_is) (subst (λ (s : KeptFile). IsReadIn c.args.self.now s.expr) (sym same) reads))
      | false ↦ λ some state at.
          let same : state_of gs file ≡ state = one_value here (subst (λ f. get f c.args.number ≡ Some state) (sym c.self.view_is) at) in
          subst (λ f. IsReadIn f state.expr) c.self.view_is (subst (λ (s : KeptFile). IsReadIn (shown gs files) s.expr) same
          (told_read gs files c.self.inside.numbers.entries c.self.inside.scans.entries c.self.invariant.shelved c.args.number file found some))
    ] c.is_empty.ensures.tells
