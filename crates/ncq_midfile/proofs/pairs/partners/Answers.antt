use Rattle.std.proofs.Common.{◌≡◌, ◌<◌, ◌++◌, ◌∷◌, [], ℕ, length, get_or, slice_get, Some, true, refl, sym, ap, ◌∙◌, subst}
use Rattle.std.specs.List.{AllByRecursion}
use Rattle.ncq_midfile.specs.Content.{AreGains, rows_at, IsGainAt}
use Rattle.ncq_midfile.specs.declared.signed.SignedRow.{SignedRow}
use Rattle.ncq_midfile.proofs.Parts.{some_at, all_push}
use Rattle.ncq_midfile.proofs.PairLaws.{alike_more, some_is}
use Rattle.ncq_midfile.proofs.pairs.partners.Goals as goal

pub loop-place-preserved : goal.loop-place-preserved
loop-place-preserved c =
    let i = c.loop-place.place-index in
    let rows = c.args.rows.now in
    let lost = c.args.lost.now in
    let found = c.loop-place.found in
    let place = get_or lost i 0 in
    let r = c.index-rows-place.result in
    let mate = c.in-Some-2.partner in
    let at = some_at rows place r (c.requires i 0 c.loop-place-test.true) c.index-rows-place.is in
    let o = c.in_ok-partner.field-0 in
    let says = c.in_ok-partner.ensures in
    let below = some_is (λ (p : ℕ). p < length rows) o mate c.in-Some-2.is says.within in
    let like = some_is (λ (p : ℕ). (r : SignedRow) × (slice_get rows p ≡ Some r) × (r.plus ≡ true) × (r.row ≡ (get_or rows place c.index-rows-place.result).row)) o mate c.in-Some-2.is says.like in
    let gain : IsGainAt rows mate = (like.0, like.1, like.2) in
    let inv = c.loop-place.invariant in
    let pushed : c.push.new.self ≡ found ++ mate ∷ [] = c.in_ok-push.ensures.ok in
    record {
      within = subst (AllByRecursion (λ (p : ℕ). p < length rows)) (sym pushed) (all_push (λ (p : ℕ). p < length rows) found mate inv.within below);
      gains = subst (AreGains rows) (sym pushed) (all_push (IsGainAt rows) found mate inv.gains gain);
      alike = ap (λ ps. rows_at ps rows) pushed ∙ alike_more lost found i place mate rows r like.0 c.loop-place-test.true refl at like.1 (like.3 ∙ ap (λ (x : SignedRow). x.row) (sym c.index-rows-place.is)) inv.alike;
    }
