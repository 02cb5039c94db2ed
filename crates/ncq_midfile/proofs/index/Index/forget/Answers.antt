use Rattle.std.proofs.Common.{◌≡◌, ℕ, List, ◌-◌, ◌<◌, length, drop, get_or, ap, sym, ◌∙◌, subst, arith}
use Rattle.std.specs.List.{All}
use Rattle.std.proofs.lemmas.List.{length-map}
use Rattle.ncq_midfile.specs.Indexes.{row_hash}
use Rattle.ncq_midfile.specs.Pairs.{without, taken_out}
use Rattle.ncq_midfile.proofs.PairLaws.{next_within, taken_more, without_is, full_covers, at_ok}
use Rattle.ncq_midfile.proofs.index.Index.forget.Goals as goal

pub swap_remove-requires : goal.swap_remove-requires
swap_remove-requires c =
    let at = c.loop-left.left - 1 in
    let some = c.loop-left-test.true in
    let few = c.loop-left.invariant.few in
    let places = c.args.places.now in
    let hashes = c.args.self.now.hashes in
    let long : length c.args.rows.now ≡ length hashes = sym (ap length c.requires.full ∙ length-map c.args.rows.now (row_hash c.args.self.now.seed c.args.self.now.slots)) in
    subst (λ (xs : List ℕ). get_or places at 0 < length xs) (sym c.loop-left.invariant.hashes)
    (next_within places at c.loop-left.left hashes (omega arith) (omega arith) c.requires.rising
    (subst (λ n. All (λ (p : ℕ). p < n) places) long c.requires.within))

pub loop-left-preserved : goal.loop-left-preserved
loop-left-preserved c =
    let at = c.loop-left.left - 1 in
    let some = c.loop-left-test.true in
    let few = c.loop-left.invariant.few in
    let places = c.args.places.now in
    let all = c.args.self.now.hashes in
    let long : length c.args.rows.now ≡ length all = sym (ap length c.requires.full ∙ length-map c.args.rows.now (row_hash c.args.self.now.seed c.args.self.now.slots)) in
    let inside : get_or places at 0 < length c.loop-left.self.hashes =
    subst (λ (xs : List ℕ). get_or places at 0 < length xs) (sym c.loop-left.invariant.hashes)
    (next_within places at c.loop-left.left all (omega arith) (omega arith) c.requires.rising
    (subst (λ n. All (λ (p : ℕ). p < n) places) long c.requires.within)) in
    record {
      few = omega arith;
      seed = c.loop-left.invariant.seed;
      slots = c.loop-left.invariant.slots;
      hashes = at_ok c.swap_remove.result (sym c.is_err.ensures.value ∙ c.if-is_err.false) c.swap_remove.ensures.ok
          ∙ without_is (get_or c.args.places.now at 0) c.loop-left.self.hashes 0 (omega arith)
          ∙ ap (without (get_or c.args.places.now at 0)) c.loop-left.invariant.hashes
          ∙ taken_more c.args.places.now at c.loop-left.left c.args.self.now.hashes (omega arith) (omega arith);
    }

pub returns-clause-covers : goal.returns-clause-covers
returns-clause-covers c =
    let none = c.loop-left-test.false in
    let z : c.loop-left.left ≡ 0 = omega arith in
    full_covers c.args.self.now c.loop-left.self c.args.places.now c.args.rows.now c.requires.full c.loop-left.invariant.seed c.loop-left.invariant.slots
    (c.loop-left.invariant.hashes ∙ ap (λ l. taken_out (drop l c.args.places.now) c.args.self.now.hashes) z)
