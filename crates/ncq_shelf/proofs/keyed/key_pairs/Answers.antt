use Rattle.ncq_shelf.specs.Keyed.{AreNotedIn}
use Rattle.ncq_shelf.proofs.KeyedLaws.{grows_on, noted_more}
use Rattle.ncq_shelf.proofs.keyed.key_pairs.Goals as goal

pub returns-clause-grows : goal.returns-clause-grows
returns-clause-grows c =
    let files = c.args.files.now.entries in
    let mid = c.key_side.new.keys in
    let new = c.key_side-2.new.keys in
    grows_on c.args.groups.now.entries (AreNotedIn c.args.groups.now.entries files mid.holders) (AreNotedIn c.args.groups.now.entries files new.holders) (AreNotedIn c.args.groups.now.entries files new.holders) c.args.keys.now mid new c.key_side.ensures.grows c.key_side-2.ensures.grows
    (λ n s. noted_more c.args.groups.now.entries files mid new (AreNotedIn c.args.groups.now.entries files new.holders) c.key_side-2.ensures.grows n s) (λ n s h. h)
