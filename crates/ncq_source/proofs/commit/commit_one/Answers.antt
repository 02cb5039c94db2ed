use Rattle.std.proofs.Common.{[], ◌∷◌, List, map, set, sym, subst}
use Rattle.ncq_source.specs.Stores.{Source}
use Rattle.ncq_source.specs.StoreStates.{AreCommitted}
use Rattle.ncq_source.specs.Views.{source_of}
use Rattle.ncq_source.proofs.Portions.{none_committed, one_committed}
use Rattle.ncq_source.proofs.Places.{map_set_is, seen_is}
use Rattle.ncq_source.proofs.commit.commit_one.Goals as goal

pub commit-requires : goal.commit-requires
commit-requires c =
    let x = c.index_mut.result.now in
    c.requires.room.0 (source_of x) (seen_is source_of c.args.sources.now.items c.args.portion.source.0 x c.requires.declared.0 c.index_mut.ensures.value)

pub returns : goal.returns
returns c =
    let xs = c.args.sources.now.items in
    let at = c.args.portion.source.0 in
    let x = c.index_mut.result.now in
    let new = set (map source_of xs) at (source_of c.commit.new.self) in
    subst (λ (new : List Source). AreCommitted (map source_of xs) (c.args.portion ∷ []) c.args.number new) (sym (map_set_is source_of xs at c.commit.new.self))
    (one_committed (map source_of xs) new c.args.portion [] c.args.number (source_of x) (source_of c.commit.new.self)
    (seen_is source_of xs at x c.requires.declared.0 c.index_mut.ensures.value) c.commit.ensures tt (none_committed new c.args.number))
