-- What holds of each path of a pattern, and of a query.
use Rattle.std.specs.Prelude.{Bool, true, ◌&&◌, nat_le, List}
use Rattle.std.specs.List.{list_all}
use Rattle.ncq_path.specs.declared.path.Path.{Path}
use Rattle.ncq_path.specs.Formed.{names_in}
use Rattle.ncq_xmlql.specs.declared.model.Content.{Content}
use Rattle.ncq_xmlql.specs.declared.model.Content.TheOpen.{Content-F, Pattern-F}
use Rattle.ncq_xmlql.specs.declared.model.Content.TheOpen.Content-F.{Parts, Value}
use Rattle.ncq_xmlql.specs.declared.model.Content.TheFolds.{para-Content, para-Pattern}
use Rattle.ncq_xmlql.specs.declared.model.Pattern.{Pattern}
use Rattle.ncq_xmlql.specs.declared.model.QueryItem.{QueryItem}
use Rattle.ncq_xmlql.specs.declared.model.QueryItem.TheVariants.{Match, Condition, Satisfies}

-- those of each part
abbrev pub content_layer : Content-F (Content × Bool) (Pattern × Bool) → Bool
content_layer (Parts below) = list_all (λ p. p.1) below
content_layer (Value operand) = true

-- the path, and those of the content
abbrev pub pattern_layer : (Path → Bool) → Pattern-F (Content × Bool) (Pattern × Bool) → Bool
pattern_layer test p = test p.tag && p.content.1

-- each path of the pattern, at every depth, passes the test
unfoldable pub pattern_paths : (Path → Bool) → Pattern → Bool
pattern_paths test = para-Pattern Bool Bool content_layer (pattern_layer test)

unfoldable pub content_paths : (Path → Bool) → Content → Bool
content_paths test = para-Content Bool Bool content_layer (pattern_layer test)

abbrev pub item_paths : (Path → Bool) → QueryItem → Bool
item_paths test (Match root arms source) = list_all (pattern_paths test) arms
item_paths test (Condition left op right) = true
item_paths test (Satisfies variable predicate argument) = true

abbrev pub all_paths : (Path → Bool) → List QueryItem → Bool
all_paths test items = list_all (item_paths test) items

-- the path has no more than 32 names
abbrev pub is_few : Path → Bool
is_few path = nat_le (names_in path) 32
