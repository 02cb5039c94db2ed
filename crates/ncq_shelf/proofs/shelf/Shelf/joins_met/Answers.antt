use Rattle.std.proofs.Common.{◌≡◌, ◌≤◌, nat_eq, Some, sym, ap, ◌∙◌, subst, true≢false}
use Rattle.std.specs.List.{IsDistinct}
use Rattle.std.specs.Option.{option_map}
use Rattle.std.specs.FinMap.{get}
use Rattle.ncq_shelf.specs.Readers.{AreJoinsOver}
use Rattle.ncq_shelf.specs.Shown.{state_of}
use Rattle.ncq_shelf.proofs.Maps.{there}
use Rattle.ncq_shelf.proofs.ShownFiles.{get_shown}
use Rattle.ncq_shelf.proofs.Consumers.{joins_told}
use Rattle.std.specs.List.{AllByRecursion}
use Rattle.ncq_midfile.specs.Content.{since, signed_at}
use Rattle.ncq_midfile.specs.Files.{FileState}
use Rattle.ncq_midfile.specs.Shown.{rows_below}
use Rattle.ncq_midfile.specs.declared.signed.SignedRow.{SignedRow}
use Rattle.ncq_shelf.specs.Contents.{AreFormed, AreWide}
use Rattle.ncq_shelf.specs.Readers.{AreJoinsMet}
use Rattle.ncq_shelf.specs.Met.{IsRowMet}
use Rattle.ncq_shelf.proofs.Indexes.{shown_at}
use Rattle.ncq_shelf.proofs.MeetLaws.{are_met}
use Rattle.ncq_shelf.proofs.shelf.Shelf.joins_met.Goals as goal

pub unreachable-requires : goal.unreachable-requires
unreachable-requires c =
    there (subst (λ f. get f c.args.input ≡ Some c.requires.there.file) (sym c.self.view_is) c.requires.there.at) (get_shown c.self.inside.groups.entries c.self.inside.files.entries c.args.input ∙ ap (option_map (state_of c.self.inside.groups.entries)) (sym c.in_default.ensures.value))

pub returns-then-joins-le-FEW_JOINS-clause-met : goal.returns-then-joins-le-FEW_JOINS-clause-met
returns-then-joins-le-FEW_JOINS-clause-met c =
    let all = subst (AreJoinsOver c.args.self.now c.args.input) (sym (c.in_ok-all.ensures ∙ c.joins-joins.ensures.joins)) (subst (λ f. AreJoinsOver f c.args.input c.in-Some.file.now.readers.joins) c.self.view_is
    (joins_told c.self.inside.groups.entries c.self.inside.files.entries c.self.inside.numbers.entries c.self.inside.scans.entries c.self.invariant.shelved c.args.input c.in-Some.file.now (sym c.in-Some.ensures.value))) in
    record {
      joins = λ number is. (all number).0 is;
      others = λ number over none. absurd (true≢false (sym ((all number).1 over) ∙ none));
    }

pub returns-then-joins-le-FEW_JOINS-clause-once : goal.returns-then-joins-le-FEW_JOINS-clause-once
returns-then-joins-le-FEW_JOINS-clause-once c = subst (IsDistinct nat_eq) (sym (c.in_ok-all.ensures ∙ c.joins-joins.ensures.joins)) c.joins-joins.ensures.once

pub view_of-view-requires : goal.view_of-view-requires
view_of-view-requires c = c.self.invariant.grouped.right c.args.input c.in-Some.file.now (sym c.in-Some.ensures.value)

pub since-requires : goal.since-requires
since-requires c =
    subst (λ (s : FileState). s.base ≤ c.args.change) (sym c.view_of-view.ensures.shown)
    (c.requires.base (state_of c.self.inside.groups.entries c.in-Some.file.now) (subst (λ f. get f c.args.input ≡ Some (state_of c.self.inside.groups.entries c.in-Some.file.now)) c.self.view_is (shown_at c.self.inside.groups.entries c.self.inside.files.entries c.args.input c.in-Some.file.now (sym c.in-Some.ensures.value))))

pub returns-clause-met : goal.returns-clause-met
returns-clause-met c =
    let files = c.self.inside.files.entries in
    let file = c.in-Some.file.now in
    let numbers = sym (c.in_ok-numbers.ensures ∙ c.as_slice-2.ensures.keys) in
    subst (AreJoinsMet c.args.self.now c.args.input c.args.change) numbers
    (subst (λ m. AreJoinsMet m c.args.input c.args.change c.in_ok-met.met.keys) c.self.view_is
    (are_met c.self.inside.groups.entries files c.self.inside.numbers.entries c.self.inside.scans.entries c.self.invariant.shelved c.self.inside.keys c.self.invariant.keyed c.args.input file (sym c.in-Some.ensures.value)
    (subst AreFormed (sym c.self.view_is) c.requires.formed) (subst AreWide (sym c.self.view_is) c.requires.wide) c.args.change c.in_ok-met.met.keys c.in_ok-met.ensures.only c.in_ok-met.ensures.always
    (subst (AllByRecursion (λ (r : SignedRow). IsRowMet files c.self.inside.keys c.args.input c.in_ok-met.met.keys r.row)) (ap (λ ps. signed_at ps (rows_below c.view_of-view.result)) c.as_slice.ensures ∙ c.in_ok-places.ensures.rows ∙ ap (λ (s : FileState). since c.args.change s.rows) c.view_of-view.ensures.shown) c.in_ok-met.ensures.rows)))

pub returns-clause-once : goal.returns-clause-once
returns-clause-once c = subst (IsDistinct nat_eq) (sym (c.in_ok-numbers.ensures ∙ c.as_slice-2.ensures.keys)) c.as_slice-2.ensures.unique
