-- What holds of every statement that is spelled within the limits, whatever its names and texts
-- are.
use Rattle.std.specs.Prelude.{◌≡◌, ◌&&◌, ◌||◌, ℕ, Bool, true, false, List, [], ◌∷◌, map}
use Rattle.std.specs.List.{list_all}
use Rattle.ncq_base.specs.Names.{is_pyx_name}
use Rattle.ncq_xmlql.specs.declared.model.Template.{Template}
use Rattle.ncq_xmlql.specs.declared.model.Template.TheOpen.{Template-F}
use Rattle.ncq_xmlql.specs.declared.model.Template.TheOpen.Template-F.{Variable, Literal, Element}
use Rattle.ncq_xmlql.specs.declared.model.Template.TheFolds.{para-Template}
use Rattle.ncq_xmlql.specs.declared.model.QueryItem.{QueryItem}
use Rattle.ncq_xmlql.specs.declared.model.QueryItem.TheVariants.{Match, Condition, Satisfies}
use Rattle.ncq_xmlql.specs.declared.model.Statement.{Statement}
use Rattle.ncq_xmlql.specs.Reading.{all_differ}
use Rattle.ncq_xmlql.specs.ItemReading.{has_arm, is_variable}
use Rattle.ncq_xmlql.specs.Statements.{AreWithin}
use Rattle.ncq_xmlql.specs.PatternPaths.{all_paths}
use Rattle.ncq_path.specs.Formed.{is_formed}

-- the first item is a match
abbrev pub begins_with_match : List QueryItem → Bool
begins_with_match [] = false
begins_with_match ((Match root arms source) ∷ more) = true
begins_with_match ((Condition left op right) ∷ more) = false
begins_with_match ((Satisfies variable predicate argument) ∷ more) = false

-- a match has an arm, and a condition a variable
abbrev pub item_is_whole : QueryItem → Bool
item_is_whole (Match root arms source) = has_arm arms
item_is_whole (Condition left op right) = is_variable left || is_variable right
item_is_whole (Satisfies variable predicate argument) = true

-- each of these names is a PYX name, and none comes twice
abbrev pub names_are_good : List (List ℕ) → Bool
names_are_good names = list_all is_pyx_name names && all_differ names

-- an element has a PYX name, attributes of good names and good content; a variable and a literal
-- are good
abbrev pub template_layer : Template-F (Template × Bool) → Bool
template_layer (Variable x) = true
template_layer (Literal text) = true
template_layer (Element tag attributes content) = is_pyx_name tag
    && names_are_good (map (λ a. a.name) attributes) && list_all (λ t. t.1) content

-- at every depth, each element has a PYX name, and so have its attributes, no two of which have one
-- name
unfoldable pub template_is_good : Template → Bool
template_is_good = para-Template Bool template_layer

-- The first item is a match, each item is whole, the counts are within the limits, each path is
-- well formed, and the template is good.
pub record IsWellFormed (st : Statement) : Type 0 where
  pub begins : begins_with_match st.query.items ≡ true
  pub items : list_all item_is_whole st.query.items ≡ true
  pub within : AreWithin st.query.items
  pub paths : all_paths is_formed st.query.items ≡ true
  pub template : template_is_good st.query.template ≡ true
