use Rattle.std.proofs.Common.{◌≡◌, [], Some, cond, nat_eq, refl, sym, ap, ◌∙◌, subst, rules}
use Rattle.std.specs.Map.{lookup}
use Rattle.std.specs.Option.{option_map_or}
use Rattle.std.proofs.lemmas.Bool.{eq-eqb}
use Rattle.ncq_shelf.specs.Readers.{IsAmong}
use Rattle.ncq_shelf.specs.Keyed.{IsHeld, slots_in}
use Rattle.ncq_shelf.specs.declared.keys.KeyedFile.{KeyedFile}
use Rattle.ncq_shelf.proofs.Turns.{ok_more}
use Rattle.ncq_shelf.proofs.KeyLaws.{all_among}
use Rattle.ncq_shelf.proofs.keys.Keys.note_row.Goals as goal

pub returns-clause-ok : goal.returns-clause-ok
returns-clause-ok c =
    let w : KeyedFile = record { slots = c.in-Some.keyed.now.slots; atoms = c.note_at.new.atoms } in
    let old = c.args.self.now.files.entries in
    let new = (c.get_mut.follows.lender w).entries in
    let is = ((c.get_mut.follows.holds w).3 (search rules)).0 in
    let slots : slots_in new c.args.number ≡ c.as_slice.result.now =
    ap (λ o. option_map_or (λ (f : KeyedFile). f.slots.keys) o []) (is c.args.number ∙ ap (λ b. cond b (Some w) (lookup (nat_eq c.args.number) old)) (eq-eqb c.args.number c.args.number refl)) ∙ sym c.as_slice.ensures.keys in
    ok_more c.note_at.result (λ all slot k. all_among (λ s. IsHeld c.note_at.new.holders c.args.number s c.args.row.now) c.as_slice.result.now all slot (subst (IsAmong slot) slots k)) c.note_at.ensures.ok
