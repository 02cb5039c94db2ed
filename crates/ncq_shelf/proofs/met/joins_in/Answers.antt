use Rattle.std.proofs.Common.{◌≡◌, Some, refl, arith, sym, ap, ◌∙◌, subst, nat_eq, inl, inr, true≢false}
use Rattle.std.specs.Prelude.{slice_get}
use Rattle.std.specs.List.{AllByRecursion, list_any}
use Rattle.ncq_midfile.specs.Shown.{rows_below}
use Rattle.ncq_midfile.specs.declared.signed.SignedRow.{SignedRow}
use Rattle.ncq_shelf.specs.Met.{IsRowMet, IsGathered, IsOver}
use Rattle.ncq_shelf.proofs.KeyLaws.{all_step, all_end, all_map, held_at, row_at_place}
use Rattle.ncq_shelf.proofs.MetLaws.{gathers_on, gathered_more, row_more}
use Rattle.ncq_shelf.proofs.met.joins_in.Goals as goal

pub loop-place-preserved : goal.loop-place-preserved
loop-place-preserved c =
    let files = c.args.files.now.entries in
    let below = rows_below c.args.view.now in
    let old = c.loop-place.met.keys in
    let new = c.add_row.new.met.keys in
    record {
      gathers = gathers_on files c.args.input c.add_joins.new.met.keys old new c.loop-place.invariant.gathers c.add_row.ensures.gathers;
      done = all_step (λ place. (r : SignedRow) → slice_get below place ≡ Some r → IsRowMet files c.args.keys.now c.args.input old r.row)
          (λ place. (r : SignedRow) → slice_get below place ≡ Some r → IsRowMet files c.args.keys.now c.args.input new r.row) c.args.places.now c.loop-place.place-index 0 _ refl c.loop-place-test.true
          (λ place h r at. row_more files c.args.input old new c.add_row.ensures.gathers c.args.keys.now r.row (h r at)) c.loop-place.invariant.done
          (λ r at. subst (IsRowMet files c.args.keys.now c.args.input new) (sym (row_at_place below _ c.row.result.now c.row.ensures r at)) c.in_ok-add_row.ensures.ok);
    }

pub returns-clause-rows : goal.returns-clause-rows
returns-clause-rows c =
    let files = c.args.files.now.entries in
    let below = rows_below c.args.view.now in
    let none = c.loop-place-test.false in
    held_at (λ (r : SignedRow). IsRowMet files c.args.keys.now c.args.input c.loop-place.met.keys r.row) below c.args.places.now
    (all_end (λ place. (r : SignedRow) → slice_get below place ≡ Some r → IsRowMet files c.args.keys.now c.args.input c.loop-place.met.keys r.row) c.args.places.now c.loop-place.place-index (omega arith) c.loop-place.invariant.done)

pub returns-clause-only : goal.returns-clause-only
returns-clause-only c n h =
    let files = c.args.files.now.entries in
    let all = gathers_on files c.args.input c.new-met.result.keys c.add_joins.new.met.keys c.loop-place.met.keys c.add_joins.ensures.gathers c.loop-place.invariant.gathers in
    elim (all.only n h) as (λ _. IsOver files c.args.input n) [ inl m ↦ absurd (true≢false (sym m ∙ ap (list_any (nat_eq n)) c.new-met.ensures.empty)) | inr o ↦ o ]

pub returns-clause-always : goal.returns-clause-always
returns-clause-always c =
    let files = c.args.files.now.entries in
    all_map (IsGathered files c.args.input c.add_joins.new.met.keys) (IsGathered files c.args.input c.loop-place.met.keys) (gathered_more files c.args.input c.add_joins.new.met.keys c.loop-place.met.keys c.loop-place.invariant.gathers) c.args.keys.now.always.keys
    (subst (AllByRecursion (IsGathered files c.args.input c.add_joins.new.met.keys)) c.always.ensures c.in_ok-add_joins.ensures.ok)
