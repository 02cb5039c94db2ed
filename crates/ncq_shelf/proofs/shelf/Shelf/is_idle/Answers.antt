use Rattle.std.proofs.Common.{◌≡◌, true, false, Some, sym, ap, ◌∙◌, subst}
use Rattle.std.specs.Option.{option_map}
use Rattle.std.specs.FinMap.{get}
use Rattle.ncq_shelf.specs.Stands.{IsReadIn, TellsIdle}
use Rattle.ncq_readers.specs.ReaderTables.{TellsUnread}
use Rattle.ncq_shelf.specs.KeptFiles.{KeptFile}
use Rattle.ncq_shelf.specs.Shown.{shown, state_of}
use Rattle.ncq_shelf.proofs.Maps.{one_value, there}
use Rattle.ncq_shelf.proofs.ShownFiles.{get_shown}
use Rattle.ncq_shelf.proofs.Indexes.{shown_at}
use Rattle.ncq_shelf.proofs.Consumers.{told_read, told_unread}
use Rattle.ncq_shelf.proofs.shelf.Shelf.is_idle.Goals as goal

pub returns-in_default : goal.returns-in_default
returns-in_default c = λ file at unused.
    absurd (there (subst (λ f. get f c.args.number ≡ Some file) (sym c.self.view_is) at) (get_shown c.self.inside.groups.entries c.self.inside.files.entries c.args.number ∙ ap (option_map (state_of c.self.inside.groups.entries)) (sym c.in_default.ensures.value)))

pub returns-then-file-ne0 : goal.returns-then-file-ne0
returns-then-file-ne0 c = λ file at unused.
    let e : state_of c.self.inside.groups.entries c.in-Some.file.now ≡ file =
    one_value (shown_at c.self.inside.groups.entries c.self.inside.files.entries c.args.number c.in-Some.file.now (sym c.in-Some.ensures.value)) (subst (λ f. get f c.args.number ≡ Some file) (sym c.self.view_is) at) in
    absurd (c.if-file-ne0.true (ap (λ s. s.uses) e ∙ unused))

pub returns : goal.returns
returns c =
    let file = c.in-Some.file.now in
    let found = sym c.in-Some.ensures.value in
    let here = shown_at c.self.inside.groups.entries c.self.inside.files.entries c.args.number file found in
    elim c.is_empty.result as (λ b. TellsUnread file.readers b → TellsIdle c.args.self.now c.args.number b) [
      | true ↦ λ none. record {
        file = state_of c.self.inside.groups.entries file;
        at = subst (λ f. get f c.args.number ≡ Some (state_of c.self.inside.groups.entries file)) c.self.view_is here;
        unused = c.if-file-ne0.false;
        unread = λ r. told_unread c.self.inside.groups.entries c.self.inside.files.entries c.self.inside.numbers.entries c.self.inside.scans.entries c.self.invariant.shelved c.args.number file found none (subst (λ f. IsReadIn f file.expr) (sym c.self.view_is) r);
      }
      | false ↦ λ some state at unused.
          let same : state_of c.self.inside.groups.entries file ≡ state = one_value here (subst (λ f. get f c.args.number ≡ Some state) (sym c.self.view_is) at) in
          subst (λ f. IsReadIn f state.expr) c.self.view_is (subst (λ (s : KeptFile). IsReadIn (shown c.self.inside.groups.entries c.self.inside.files.entries) s.expr) same
          (told_read c.self.inside.groups.entries c.self.inside.files.entries c.self.inside.numbers.entries c.self.inside.scans.entries c.self.invariant.shelved c.args.number file found some))
    ] c.is_empty.ensures.tells
