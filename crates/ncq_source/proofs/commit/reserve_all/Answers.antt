use Rattle.std.proofs.Common.{◌∙◌, ◌<◌, sym, subst, map, set, length, take, arith}
use Rattle.std.proofs.Math.ListN.{length-set}
use Rattle.ncq_source.specs.Stores.{without_room}
use Rattle.ncq_source.specs.StoreStates.{HasRoomIn}
use Rattle.ncq_source.specs.Views.{source_of}
use Rattle.ncq_source.specs.declared.change.Portion.{Portion}
use Rattle.ncq_source.proofs.Portions.{all_at, all_taken, all_weaker, room_given, room_grows}
use Rattle.ncq_source.proofs.Places.{length_of, seen_same}
use Rattle.ncq_source.proofs.commit.reserve_all.Goals as goal

pub returns-in_err-reserve-clause-same : goal.returns-in_err-reserve-clause-same
returns-in_err-reserve-clause-same c =
    seen_same source_of without_room c.loop-portion.sources.items c.portion-item.result.source.0 c.index_mut.result.now c.reserve.new.self c.index_mut.ensures.value c.reserve.ensures.same ∙ c.loop-portion.invariant.same

pub loop-portion-preserved : goal.loop-portion-preserved
loop-portion-preserved c =
    let xs = c.loop-portion.sources.items in
    let portions = c.args.portions.now in
    let i = c.loop-portion.portion-index in
    let portion = c.portion-item.result in
    let x = c.index_mut.result.now in
    let y = c.reserve.new.self in
    let within : i < length portions = omega arith in
    let declared = all_at (λ (p : Portion). p.source.0 < length c.args.sources.now.items) portions i portion within c.portion-item.is c.requires in
    let there : portion.source.0 < length (map source_of xs) = subst (λ n. portion.source.0 < n) (sym c.loop-portion.invariant.count ∙ length_of source_of xs) declared in
    let given = c.in_ok-reserve.ensures.room in
    record {
      count = length-set xs portion.source.0 y ∙ c.loop-portion.invariant.count;
      same = seen_same source_of without_room xs portion.source.0 x y c.index_mut.ensures.value c.reserve.ensures.same ∙ c.loop-portion.invariant.same;
      room = all_taken (HasRoomIn (map source_of (set xs portion.source.0 y))) portions i portion within c.portion-item.is
          (room_given xs y portion (rw c.len-additional.ensures at given) there)
          (all_weaker (HasRoomIn (map source_of xs)) (HasRoomIn (map source_of (set xs portion.source.0 y))) (take i portions)
          (λ p room. room_grows xs portion.source.0 x y there c.index_mut.ensures.value c.reserve.ensures.more p room) c.loop-portion.invariant.room);
    }
