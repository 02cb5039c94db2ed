-- What a hasher is fed of a key. Only the crate's private clauses cite it.
use Rattle.std.specs.Prelude.{ℕ, List, ◌++◌}
use Rattle.std.specs.Hash as fed
use Rattle.ncq_cache.specs.declared.key.NoticeKey.{NoticeKey}

-- the numbers of its file and of its change
abbrev pub numbers_fed : NoticeKey → List (List ℕ)
numbers_fed key = fed.u64 key.file.0 ++ fed.u64 key.change
