use Rattle.std.proofs.Common.{◌≡◌, map, Some, sym, ap, ◌∙◌, subst}
use Rattle.std.specs.Option.{option_map}
use Rattle.std.specs.FinMap.{get}
use Rattle.ncq_shelf.specs.Contents.{cut_to}
use Rattle.ncq_shelf.specs.Keyed.{IsKept}
use Rattle.ncq_shelf.specs.Shown.{shown, state_of, cut_entry, cut_group}
use Rattle.ncq_shelf.proofs.Indexes.{shown_at}
use Rattle.ncq_shelf.proofs.AnyGroups.{shelved_any}
use Rattle.ncq_shelf.proofs.CutLaws.{shelved_cut, grouped_cut}
use Rattle.ncq_shelf.proofs.GroupCuts.{below_of, shown_all_cut, grouped_all_cut}
use Rattle.ncq_shelf.proofs.KeyedLaws.{keyed_cut}
use Rattle.ncq_shelf.proofs.shelf.Shelf.roll_back.Goals as goal

pub cut_all-requires : goal.cut_all-requires
cut_all-requires c = λ number file at.
    let gs = c.self.inside.groups.entries in
    below_of c.args.change gs file.expr file.content
    (c.requires number (state_of gs file) (subst (λ f. get f number ≡ Some (state_of gs file)) c.self.view_is (shown_at gs c.self.inside.files.entries number file at)))

pub invariant_of-self : goal.invariant_of-self
invariant_of-self c =
    let es = c.self.inside.files.entries in
    let gs = c.self.inside.groups.entries in
    let cut = map (cut_entry c.args.change) es in
    let cuts = map (cut_group c.args.change) gs in
    let kept : IsKept cuts cut c.self.inside.numbers.entries c.self.inside.scans.entries c.self.inside.keys =
    record {
      shelved = shelved_any cut gs cuts c.self.inside.numbers.entries c.self.inside.scans.entries (shelved_cut gs c.args.change es c.self.inside.numbers.entries c.self.inside.scans.entries c.self.invariant.shelved);
      grouped = grouped_all_cut c.args.change gs cut (grouped_cut gs c.args.change es c.self.invariant.grouped);
      keyed = keyed_cut gs c.args.change (shown gs es) (shown cuts cut) c.self.inside.keys (shown_all_cut c.args.change gs es) c.self.invariant.keyed;
    } in
    subst (λ g. IsKept g c.cut_all.new.files.entries c.self.inside.numbers.entries c.self.inside.scans.entries c.self.inside.keys) (sym c.cut_groups.ensures)
    (subst (λ fs. IsKept cuts fs c.self.inside.numbers.entries c.self.inside.scans.entries c.self.inside.keys) (sym c.cut_all.ensures) kept)

pub returns : goal.returns
returns c = λ number.
    let gs = c.self.inside.groups.entries in
    (λ i. get (shown (c.cut_groups.ensures i) (c.cut_all.ensures i)) number) ∙ shown_all_cut c.args.change gs c.self.inside.files.entries number ∙ ap (λ f. option_map (cut_to c.args.change) (get f number)) c.self.view_is
