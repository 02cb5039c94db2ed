-- The answer of a query over a world. It follows the query as it is written, over whole sources.
use Rattle.std.specs.Prelude.{ℕ, Bool, true, ◌&&◌, if◌then◌else◌, List, [], ◌∷◌, map, Option}
use Rattle.std.specs.List.{filter, flat_map, list_all}
use Rattle.std.specs.Option.{unwrap_or}
use Rattle.ncq_base.specs.declared.atom.Atom.{Atom}
use Rattle.ncq_base.specs.Atoms.{atom_of, same_atom, holds_of}
use Rattle.std.specs.Str.{bytes_eq}
use Rattle.ncq_tree.specs.declared.model.Attribute.{Attribute}
use Rattle.ncq_tree.specs.declared.model.Node.{Node}
use Rattle.ncq_tree.specs.declared.model.Node.TheVariants.{Text as text_node}
use Rattle.ncq_tree.specs.declared.model.Node.TheVariants.{Element as element_node}
use Rattle.ncq_tree.specs.Normal.{normal}
use Rattle.ncq_pyx.specs.Canonical.{pyx}
use Rattle.ncq_row.specs.declared.value.Value.{Value}
use Rattle.ncq_row.specs.declared.value.Value.TheVariants.{Text}
use Rattle.ncq_row.specs.Values.{value_atom, value_text}
use Rattle.ncq_row.specs.Embeddings.{Row, Rows, one_of_each}
use Rattle.ncq_plan.specs.Templates.{value_nodes}
use Rattle.ncq_plan.specs.Exprs.{World}
use Rattle.ncq_plan.specs.Relations.{Relations, relation_in, satisfies}
use Rattle.ncq_xmlql.specs.declared.model.Operand.{Operand}
use Rattle.ncq_xmlql.specs.declared.model.Operand.TheVariants.{Variable, Literal}
use Rattle.ncq_xmlql.specs.declared.model.Pattern.{Pattern}
use Rattle.ncq_xmlql.specs.declared.model.QueryItem.{QueryItem}
use Rattle.ncq_xmlql.specs.declared.model.QueryItem.TheVariants.{Match, Condition, Satisfies}
use Rattle.ncq_xmlql.specs.declared.model.Query.{Query}
use Rattle.ncq_xmlql.specs.declared.model.TemplateAttribute.{TemplateAttribute}
use Rattle.ncq_xmlql.specs.declared.model.Template.{Template}
use Rattle.ncq_xmlql.specs.declared.model.Template.TheOpen.{Template-F}
use Rattle.ncq_xmlql.specs.declared.model.Template.TheOpen.Template-F.{Variable as OneVariable}
use Rattle.ncq_xmlql.specs.declared.model.Template.TheOpen.Template-F.{Literal as OneLiteral}
use Rattle.ncq_xmlql.specs.declared.model.Template.TheOpen.Template-F.{Element}
use Rattle.ncq_xmlql.specs.declared.model.Template.TheFolds.{para-Template}
use Rattle.ncq_bag.specs.Counts.{each_once_by}
use Rattle.ncq_bind.specs.Places.{places}
use Rattle.ncq_bind.specs.Embeddings.{embeddings}

-- a top pattern of a query, with the name of its source
pub record QueryArm : Type 0 where
  pub pattern : Pattern
  pub source : List ℕ

-- the top pattern of a match with this source
abbrev pub arm_of : List ℕ → Pattern → QueryArm
arm_of source p = record { pattern = p; source = source }

-- the top patterns of an item
abbrev pub item_arms : QueryItem → List QueryArm
item_arms (Match root patterns source) = map (arm_of source) patterns
item_arms (Condition left op right) = []
item_arms (Satisfies variable predicate argument) = []

-- the arms of a query in reading order
abbrev pub arms_of : List QueryItem → List QueryArm
arms_of items = flat_map item_arms items

-- the places of all arms in reading order
abbrev pub places_of : List QueryArm → List Operand
places_of arms = flat_map (λ arm. places arm.pattern) arms

-- one embedding for each choice of an element of the arm's source and of an embedding in it
abbrev pub arm_embeddings : World → QueryArm → Rows
arm_embeddings world arm = flat_map (embeddings arm.pattern) (world arm.source)

-- one embedding of each arm, end to end, for every choice
abbrev pub choices : World → List QueryArm → Rows
choices world arms = one_of_each (map (arm_embeddings world) arms)

-- the value at the first place of a variable; an empty text where it has none
abbrev pub first_value : List Operand → Row → List ℕ → Value
first_value [] row x = Text []
first_value (operand ∷ places) [] x = Text []
first_value ((Variable y) ∷ places) (value ∷ row) x =
    if bytes_eq x y then value else first_value places row x
first_value ((Literal text) ∷ places) (value ∷ row) x = first_value places row x

-- a value has the atom of its variable's first value
abbrev pub agrees : (List ℕ → Value) → Operand → Value → Bool
agrees first (Variable x) value = same_atom (value_atom (first x)) (value_atom value)
agrees first (Literal text) value = true

-- so has each value at the place of a variable
abbrev pub all_agree : (List ℕ → Value) → List Operand → Row → Bool
all_agree first [] row = true
all_agree first (operand ∷ places) [] = true
all_agree first (operand ∷ places) (value ∷ row) =
    agrees first operand value && all_agree first places row

-- a variable stands for its first value
abbrev pub operand_atom : (List ℕ → Value) → Operand → Atom
operand_atom first (Variable x) = value_atom (first x)
operand_atom first (Literal text) = atom_of text

-- the atom of an argument: that of the empty text where there is none
abbrev pub argument_atom : Option (List ℕ) → Atom
argument_atom argument = atom_of (unwrap_or argument [])

-- of a condition, that it holds; one that asks a predicate holds where the predicate has a
-- relation, in which the variable's atom stands to the argument's
abbrev pub item_holds : Relations → (List ℕ → Value) → QueryItem → Bool
item_holds relations first (Match root arms source) = true
item_holds relations first (Condition left op right) =
    holds_of op (operand_atom first left) (operand_atom first right)
item_holds relations first (Satisfies variable predicate argument) =
    satisfies (relation_in predicate relations) (value_atom (first variable))
    (argument_atom argument)

-- all occurrences of each variable have one atom, and every condition holds
abbrev pub is_binding : Relations → List QueryItem → List Operand → Row → Bool
is_binding relations items places row =
    all_agree (first_value places row) places row
    && list_all (item_holds relations (first_value places row)) items

-- the string value of a variable's first value, or the literal
abbrev pub operand_text : (List ℕ → Value) → Operand → List ℕ
operand_text first (Variable x) = value_text (first x)
operand_text first (Literal text) = text

-- an attribute of a constructed element
abbrev pub made_attribute : (List ℕ → Value) → TemplateAttribute → Attribute
made_attribute first a = record { name = a.name; value = operand_text first a.value }

-- of a template whose content is given, each part with its nodes
abbrev pub template_layer
    : (List ℕ → Value) → Template-F (Template × List Node) → List Node
template_layer first (OneVariable x) = value_nodes (first x)
template_layer first (OneLiteral text) = text_node text ∷ []
template_layer first (Element tag attributes content) =
    element_node
    (record {
      name = tag;
      attributes = map (made_attribute first) attributes;
      children = flat_map (λ t. t.1) content;
    }) ∷ []

-- A variable gives its nodes, or for an attribute's value one text; a literal gives one text; an
-- element gives one element.
unfoldable pub made_nodes : (List ℕ → Value) → Template → List Node
made_nodes first = para-Template (List Node) (template_layer first)

-- the constructed forest, in normal form
abbrev pub made_forest : Template → List Operand → Row → List Node
made_forest template places row = normal (made_nodes (first_value places row) template)

-- All that a query answers: the constructed forest of each choice that is a binding.
abbrev pub all : Relations → Query → World → List (List Node)
all relations query world =
    let arms = arms_of query.items in
    map (made_forest query.template (places_of arms))
    (filter (is_binding relations query.items (places_of arms)) (choices world arms))

-- two forests are one where their canonical lines are
abbrev pub same_forest : List Node → List Node → Bool
same_forest a b = bytes_eq (pyx a) (pyx b)

-- The answer: all that the query answers, and with DISTINCT each forest of that once.
abbrev pub answer : Relations → Query → World → List (List Node)
answer relations query world =
    if query.distinct then each_once_by same_forest (all relations query world)
    else all relations query world
