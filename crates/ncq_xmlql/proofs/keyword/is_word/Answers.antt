use Rattle.std.proofs.Common.{◌≡◌, map}
use Rattle.std.specs.Char.{to_ascii_lowercase}
use lib.Pointwise.{bytes_decides}
use Rattle.ncq_xmlql.proofs.SameTests.{same_tests}
use Rattle.ncq_xmlql.proofs.keyword.is_word.Goals as goal

pub returns : goal.returns
returns c =
    let word = c.args.word.now in
    let keyword = c.args.keyword.now in
    same_tests (map to_ascii_lowercase word ≡ map to_ascii_lowercase keyword) c.eq_ignore_ascii_case.ensures.test (bytes_decides (map to_ascii_lowercase word) (map to_ascii_lowercase keyword))
