-- Whether the variables that a query uses have places.
use Rattle.std.specs.Prelude.{ℕ, Bool, true, false, ◌&&◌, ◌||◌, List, [], ◌∷◌}
use Rattle.std.specs.List.{list_all}
use Rattle.std.specs.Str.{bytes_eq}
use Rattle.ncq_xmlql.specs.declared.model.Operand.{Operand}
use Rattle.ncq_xmlql.specs.declared.model.Operand.TheVariants.{Variable, Literal}
use Rattle.ncq_xmlql.specs.declared.model.QueryItem.{QueryItem}
use Rattle.ncq_xmlql.specs.declared.model.QueryItem.TheVariants.{Match, Condition, Satisfies}
use Rattle.ncq_xmlql.specs.declared.model.Query.{Query}
use Rattle.ncq_xmlql.specs.declared.model.Template.{Template}
use Rattle.ncq_xmlql.specs.declared.model.Template.TheOpen.{Template-F}
use Rattle.ncq_xmlql.specs.declared.model.Template.TheOpen.Template-F.{Variable as OneVariable}
use Rattle.ncq_xmlql.specs.declared.model.Template.TheOpen.Template-F.{Literal as OneLiteral}
use Rattle.ncq_xmlql.specs.declared.model.Template.TheOpen.Template-F.{Element as OneElement}
use Rattle.ncq_xmlql.specs.declared.model.Template.TheFolds.{para-Template}
use Rattle.ncq_bind.specs.Answers.{arms_of, places_of}

-- the variable has a place
abbrev pub is_bound : List Operand → List ℕ → Bool
is_bound [] x = false
is_bound ((Variable y) ∷ places) x = bytes_eq x y || is_bound places x
is_bound ((Literal text) ∷ places) x = is_bound places x

-- a variable has a place; a literal needs none
abbrev pub operand_is_bound : List Operand → Operand → Bool
operand_is_bound places (Variable x) = is_bound places x
operand_is_bound places (Literal text) = true

-- the variables of a condition have places
abbrev pub item_is_bound : List Operand → QueryItem → Bool
item_is_bound places (Match root arms source) = true
item_is_bound places (Condition left op right) =
    operand_is_bound places left && operand_is_bound places right
item_is_bound places (Satisfies variable predicate argument) = is_bound places variable

-- of a template whose content is given, each part with whether its variables have places
abbrev pub template_bound_layer : List Operand → Template-F (Template × Bool) → Bool
template_bound_layer places (OneVariable x) = is_bound places x
template_bound_layer places (OneLiteral text) = true
template_bound_layer places (OneElement tag attributes content) =
    list_all (λ a. operand_is_bound places a.value) attributes && list_all (λ t. t.1) content

-- the variables of a template have places
unfoldable pub template_is_bound : List Operand → Template → Bool
template_is_bound places = para-Template Bool (template_bound_layer places)

-- the variables of the conditions and of the template have places
abbrev pub query_is_bound : Query → Bool
query_is_bound query =
    let places = places_of (arms_of query.items) in
    list_all (item_is_bound places) query.items && template_is_bound places query.template
