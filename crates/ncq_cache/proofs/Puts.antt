-- A pair that is put, or that is let go.
use Rattle.std.proofs.Common.{◌≡◌, ◌⊎◌, List, ◌∙◌, ap, inl, inr}
use Rattle.std.specs.Prelude.{Result, Ok, Err, OnOk, OnErr}
use Rattle.lru.specs.LruCache.{LruCache, lru_cache, put_entries}
use Rattle.ncq_bag.specs.declared.bag.Difference.{Difference}
use Rattle.ncq_cache.specs.Cached.{is_key, most_cached, with_pair}
use Rattle.ncq_cache.specs.declared.key.NoticeKey.{NoticeKey}

abbrev Pairs : Type 0
Pairs = LruCache NoticeKey (List Difference)

pub put_or_not : {A B : Type 0} (result : Result A B) (key : NoticeKey) (entries : List Difference)
    (old new : Pairs) → old.cap ≡ most_cached
    → OnOk result (new ≡ lru_cache (put_entries is_key old key entries) old.cap)
    → OnErr result (new ≡ old)
    → (new.entries ≡ old.entries) ⊎ (new.entries ≡ with_pair key entries old.entries)
put_or_not (Err why) key entries old new cap put same = inl (ap (λ (c : Pairs). c.entries) same)
put_or_not (Ok gone) key entries old new cap put same =
    inr (ap (λ (c : Pairs). c.entries) put
    ∙ (λ i. put_entries is_key (lru_cache old.entries (cap i)) key entries))
