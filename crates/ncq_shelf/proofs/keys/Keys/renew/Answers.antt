use Rattle.std.proofs.Common.{◌≡◌, [], refl, sym, ap, ◌∙◌, subst, rules}
use Rattle.std.specs.Option.{option_map_or}
use Rattle.ncq_midfile.specs.Shown.{shown}
use Rattle.ncq_shelf.specs.Readers.{IsAmong}
use Rattle.ncq_shelf.specs.Keyed.{AreHeld, slots_in}
use Rattle.ncq_shelf.specs.declared.keys.KeyedFile.{KeyedFile}
use Rattle.ncq_shelf.proofs.KeyLaws.{all_among, are_held_both, slots_kept}
use Rattle.ncq_shelf.proofs.keys.Keys.renew.Goals as goal

pub returns : goal.returns
returns c =
    let file = c.in-Some.keyed.now in
    let w : KeyedFile = record { slots = file.slots; atoms = c.note_slots.new.atoms } in
    let number = c.args.number in
    let rows = (shown c.args.content.now).rows in
    let old = c.args.self.now in
    let fresh = c.note_slots.new.holders in
    let at = sym c.in-Some.ensures.value in
    let slots : slots_in old.files.entries number ≡ c.as_slice.result.now =
    ap (λ o. option_map_or (λ (f : KeyedFile). f.slots.keys) o []) at ∙ sym c.as_slice.ensures.keys in
    record {
      slots = slots_kept old.files.entries (c.get_mut.follows.lender w).entries number file w at refl ((c.get_mut.follows.holds w).3 (search rules)).0;
      held = λ slot key was. are_held_both fresh number old.holders c.forget_gone.new.holders c.forget_gone.ensures.both slot rows
          (all_among (λ s. AreHeld fresh number s rows) c.as_slice.result.now c.in_ok-note_slots.ensures slot (subst (IsAmong slot) slots key)) was;
      others = c.forget_gone.ensures.others;
      always = λ other h. h;
    }
