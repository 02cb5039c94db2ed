-- The counts of a query that have a limit: its arms, its slots and its conditions.
use Rattle.std.specs.Prelude.{ℕ, ◌+◌, List, length}
use Rattle.std.specs.List.{sum_by}
use Rattle.ncq_xmlql.specs.declared.model.Content.{Content}
use Rattle.ncq_xmlql.specs.declared.model.Content.TheOpen.{Content-F, Pattern-F}
use Rattle.ncq_xmlql.specs.declared.model.Content.TheOpen.Content-F.{Parts, Value}
use Rattle.ncq_xmlql.specs.declared.model.Content.TheFolds.{para-Content, para-Pattern}
use Rattle.ncq_xmlql.specs.declared.model.Pattern.{Pattern}
use Rattle.ncq_xmlql.specs.declared.model.Suffix.{Suffix}
use Rattle.ncq_xmlql.specs.declared.model.Suffix.TheVariants.{Plain, ElementAs, ContentAs}
use Rattle.ncq_xmlql.specs.declared.model.QueryItem.{QueryItem}
use Rattle.ncq_xmlql.specs.declared.model.QueryItem.TheVariants.{Match, Condition, Satisfies}

-- a suffix that binds is a slot
abbrev pub suffix_slots : Suffix → ℕ
suffix_slots Plain = 0
suffix_slots (ElementAs x) = 1
suffix_slots (ContentAs x) = 1

-- a content that is a literal or a variable is one slot; parts have the slots of each of them
abbrev pub content_layer : Content-F (Content × ℕ) (Pattern × ℕ) → ℕ
content_layer (Parts below) = sum_by (λ p. p.1) below
content_layer (Value operand) = 1

-- a pattern has a slot for each attribute, those of its content, and that of its suffix
abbrev pub pattern_layer : Pattern-F (Content × ℕ) (Pattern × ℕ) → ℕ
pattern_layer p = length p.attributes + p.content.1 + suffix_slots p.suffix

unfoldable pub pattern_slots : Pattern → ℕ
pattern_slots = para-Pattern ℕ ℕ content_layer pattern_layer

unfoldable pub content_slots : Content → ℕ
content_slots = para-Content ℕ ℕ content_layer pattern_layer

-- the patterns directly under the root
abbrev pub item_arms : QueryItem → ℕ
item_arms (Match root arms source) = length arms
item_arms (Condition left op right) = 0
item_arms (Satisfies variable predicate argument) = 0

-- the slots of all patterns, at every depth
abbrev pub item_slots : QueryItem → ℕ
item_slots (Match root arms source) = sum_by pattern_slots arms
item_slots (Condition left op right) = 0
item_slots (Satisfies variable predicate argument) = 0

abbrev pub item_conditions : QueryItem → ℕ
item_conditions (Match root arms source) = 0
item_conditions (Condition left op right) = 1
item_conditions (Satisfies variable predicate argument) = 1

abbrev pub arms : List QueryItem → ℕ
arms items = sum_by item_arms items

abbrev pub slots : List QueryItem → ℕ
slots items = sum_by item_slots items

abbrev pub conditions : List QueryItem → ℕ
conditions items = sum_by item_conditions items
