use Rattle.std.proofs.Common.{◌≡◌, ◌⊎◌, List, subst}
use Rattle.ncq_cache.specs.Cached.{Cached, with_pair}
use Rattle.ncq_cache.proofs.Puts.{put_or_not}
use Rattle.ncq_cache.proofs.cache.NoticeCache.put.Goals as goal

pub returns : goal.returns
returns c =
    subst
    (λ (pairs : List Cached). (c.put.new.self.entries ≡ pairs)
    ⊎ (c.put.new.self.entries ≡ with_pair c.args.key c.args.entries pairs))
    c.self.view_is
    (put_or_not c.put.result c.args.key c.args.entries c.self.inside.pairs c.put.new.self
    c.self.invariant c.put.ensures.entries c.put.ensures.err)
