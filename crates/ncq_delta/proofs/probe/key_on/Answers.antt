use Rattle.std.proofs.Common.{◌≡◌, ℕ, ◌<◌, List, length, get_or, sym, ◌∙◌, subst}
use Rattle.std.specs.List.{All}
use Rattle.std.proofs.lemmas.List.{get_or-map, length-map}
use Rattle.ncq_row.specs.declared.pair.Pair.{Pair}
use Rattle.ncq_row.specs.Embeddings.{Row}
use Rattle.ncq_delta.specs.declared.probe.Side.{Side}
use Rattle.ncq_delta.specs.Probes.{slot_on, slots_on}
use Rattle.ncq_delta.proofs.probe.key_on.Goals as goal

within : (side : Side) (pairs items : List Pair) (i slot : ℕ) (d : Pair) (row : Row) → items ≡ pairs → i < length items → slot ≡ slot_on side (get_or items i d)
    → All (λ slot. slot < length row) (slots_on side pairs) → slot < length row
within side pairs items i slot d row same h is all =
    subst (λ n. n < length row) (get_or-map (slot_on side) items i d 0 h ∙ sym is)
    (subst (λ ps. All (λ n. n < length row) (slots_on side ps)) (sym same) all i 0 (subst (λ n. i < n) (sym (length-map items (slot_on side))) h))

pub slot_atom-requires : goal.slot_atom-requires
slot_atom-requires c =
    within c.args.side c.args.pairs.now c.as_slice-pair-items.result.now c.loop-pair.pair-index c.slot_on.result _ c.args.row.now c.as_slice-pair-items.ensures c.loop-pair-test.true c.slot_on.ensures c.requires
