use Rattle.std.proofs.Common.{◌≡◌, ◌∷◌, [], List, map, length, sym, subst, arith, refl}
use Rattle.std.specs.Vec.Iter.{into_iter_items}
use Rattle.std.proofs.lemmas.Grind.{common_steps}
use Rattle.ncq_source.specs.CanCommit.{CanCommit}
use Rattle.ncq_source.specs.StoreStates.{AreCommitted}
use Rattle.ncq_source.specs.Views.{source_of}
use Rattle.ncq_source.specs.declared.change.Portion.{Portion}
use Rattle.ncq_source.proofs.Portions.{can_behind, can_first, committed_behind, none_committed, rising_front}
use Rattle.ncq_source.proofs.commit.commit_each.Goals as goal

pub commit_one-requires : goal.commit_one-requires
commit_one-requires c =
    let xs = map source_of c.loop-portion.sources.items in
    can_first xs c.in-Some.portion (into_iter_items c.next.new.self) (subst (CanCommit xs) c.in-Some.ensures.steps.0 c.loop-portion.invariant.can)

pub loop-portion-preserved : goal.loop-portion-preserved
loop-portion-preserved c =
    let xs = map source_of c.loop-portion.sources.items in
    let ys = map source_of c.commit_one.new.sources.items in
    let portion = c.in-Some.portion in
    let more = into_iter_items c.next.new.self in
    let split = c.in-Some.ensures.steps.0 in
    let can = subst (CanCommit xs) split c.loop-portion.invariant.can in
    record {
      can = can_behind xs ys portion more c.args.number can c.commit_one.ensures;
      left = λ new done.
          c.loop-portion.invariant.left new
          (subst (λ (portions : List Portion). AreCommitted xs portions c.args.number new) (sym split)
          (committed_behind xs ys new portion more c.args.number (rising_front portion more can.rising) c.commit_one.ensures done));
    }

nothing : {A : Type 0} (xs : List A) → length xs ≡ 0 → xs ≡ []
nothing [] e = refl
nothing (x ∷ xs) e = absurd (omega arith)

pub returns : goal.returns
returns c =
    let none : length (into_iter_items c.loop-portion.portion-iterator) ≡ 0 = grind (arith, common_steps) in
    let now = map source_of c.loop-portion.sources.items in
    subst (λ (portions : List Portion). AreCommitted (map source_of c.args.sources.now.items) portions c.args.number now) c.into_iter-portion-iterator.ensures.into_iter_gives.0
    (c.loop-portion.invariant.left now
    (subst (λ (portions : List Portion). AreCommitted now portions c.args.number now) (sym (nothing (into_iter_items c.loop-portion.portion-iterator) none)) (none_committed now c.args.number)))
