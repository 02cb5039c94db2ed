-- Entries of notices by what they were made of, the one that was used most lately first.
use Rattle.std.specs.Prelude.{ℕ, Bool, List, Option}
use Rattle.std.specs.Coded.{Coded, coded×, coded_list}
use Rattle.std.specs.Map.{lookup, remove_entry}
use Rattle.lru.specs.LruCache.{lru_cache, put_entries}
use Rattle.ncq_base.specs.Exact.{exact}
use Rattle.ncq_bag.specs.contracts.bag.Difference.{the_row as difference_row}
use Rattle.ncq_bag.specs.declared.bag.Difference.{Difference}
use Rattle.ncq_cache.specs.contracts.key.NoticeKey.{the_row as key_row}
use Rattle.ncq_cache.specs.declared.key.NoticeKey.{NoticeKey}

-- a key with the entries of a notice
abbrev pub Cached : Type 0
Cached = NoticeKey × List Difference

-- how pairs are written as a value
abbrev pub cached_code : Coded (List Cached)
cached_code = coded_list (coded× key_row.coded (coded_list difference_row.coded))

-- how many pairs there can be
abbrev pub most_cached : ℕ
most_cached = 64

-- whether the two are one key
abbrev pub is_key : NoticeKey → NoticeKey → Bool
is_key key other = exact key_row.coded key other

-- the entries of the key, if it is there
abbrev pub found : NoticeKey → List Cached → Option (List Difference)
found key pairs = lookup (is_key key) pairs

-- the pairs without that of the key
abbrev pub left : NoticeKey → List Cached → List Cached
left key pairs = remove_entry (is_key key) pairs

-- the pairs with the entries of the key in front: in place of those that it had, or as one pair
-- more, and then the last goes where there are too many
abbrev pub with_pair : NoticeKey → List Difference → List Cached → List Cached
with_pair key entries pairs = put_entries is_key (lru_cache pairs most_cached) key entries
