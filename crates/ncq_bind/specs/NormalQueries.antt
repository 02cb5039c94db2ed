-- The normal query of a query.
use Rattle.std.specs.Prelude.{ℕ, Bool, ◌&&◌, if◌then◌else◌, List, [], ◌∷◌, ◌++◌, map}
use Rattle.std.specs.List.{flat_map, list_any}
use Rattle.ncq_base.specs.declared.atom.Op.TheVariants.{Eq}
use Rattle.ncq_plan.specs.declared.residual.Side.TheVariants.{Slot}
use Rattle.ncq_plan.specs.declared.residual.Check.{Check}
use Rattle.ncq_plan.specs.declared.residual.Check.TheVariants.{Compare}
use Rattle.ncq_plan.specs.declared.template.SlotText.{SlotText}
use Rattle.ncq_plan.specs.declared.template.SlotText.TheVariants as attribute
use Rattle.ncq_plan.specs.declared.template.SlotAttribute.{SlotAttribute}
use Rattle.ncq_plan.specs.declared.template.SlotTemplate.{SlotTemplate}
use Rattle.ncq_plan.specs.declared.template.SlotTemplate.TheVariants as slotted
use Rattle.ncq_plan.specs.declared.query.NormalQuery.{NormalQuery}
use Rattle.ncq_xmlql.specs.declared.model.Operand.{Operand}
use Rattle.ncq_xmlql.specs.declared.model.Operand.TheVariants as operand
use Rattle.ncq_xmlql.specs.declared.model.TemplateAttribute.{TemplateAttribute}
use Rattle.ncq_xmlql.specs.declared.model.Template.{Template}
use Rattle.ncq_xmlql.specs.declared.model.Template.TheOpen.{Template-F}
use Rattle.ncq_xmlql.specs.declared.model.Template.TheOpen.Template-F.{Variable, Literal, Element}
use Rattle.ncq_xmlql.specs.declared.model.Template.TheFolds.{para-Template}
use Rattle.ncq_xmlql.specs.declared.model.Query.{Query}
use Rattle.ncq_bind.specs.declared.open_arm.OpenArm.{OpenArm}
use Rattle.ncq_bind.specs.declared.constraint.Constraint.{Constraint}
use Rattle.ncq_bind.specs.declared.constraint.Constraint.TheVariants.{Equal, Bound, Alike, Other}
use Rattle.ncq_bind.specs.Answers.{arms_of, places_of}
use Rattle.ncq_bind.specs.Constraints.{first_slot, constraints_of}
use Rattle.ncq_bind.specs.NormalArms.{in_arm, open_arms, normal_arm}

-- whether both slots lie in one of the arms
abbrev pub in_one_arm : List OpenArm → ℕ → ℕ → Bool
in_one_arm arms left right =
    list_any (λ a. in_arm a.offset a.width left && in_arm a.offset a.width right) arms

-- the check that two slots of one arm have one atom
abbrev pub inner_check : List OpenArm → Constraint → List Check
inner_check arms (Alike left right) =
    if in_one_arm arms left right
    then Compare (record { op = Eq; left = left; right = Slot right }) ∷ [] else []
inner_check arms (Equal slot constant) = []
inner_check arms (Bound slot op number) = []
inner_check arms (Other check) = []

-- any other condition
abbrev pub other_check : Constraint → List Check
other_check (Other check) = check ∷ []
other_check (Equal slot constant) = []
other_check (Bound slot op number) = []
other_check (Alike left right) = []

-- the equalities within one arm, then all other conditions
abbrev pub residual_of : List OpenArm → List Constraint → List Check
residual_of arms constraints =
    flat_map (inner_check arms) constraints ++ flat_map other_check constraints

-- the value of an attribute, a variable by its first slot
abbrev pub slot_text_of : (List ℕ → ℕ) → Operand → SlotText
slot_text_of first (operand.Variable x) = attribute.Slot (first x)
slot_text_of first (operand.Literal text) = attribute.Text text

abbrev pub slot_attribute_of : (List ℕ → ℕ) → TemplateAttribute → SlotAttribute
slot_attribute_of first a = record { name = a.name; value = slot_text_of first a.value }

-- of a template whose content is given, each part with its form by slots
abbrev pub slot_layer : (List ℕ → ℕ) → Template-F (Template × SlotTemplate) → SlotTemplate
slot_layer first (Variable x) = slotted.Slot (first x)
slot_layer first (Literal text) = slotted.Text text
slot_layer first (Element tag attributes content) =
    slotted.Element tag (map (slot_attribute_of first) attributes) (map (λ t. t.1) content)

-- the template with the first slot of each variable in its place
unfoldable pub slot_template : (List ℕ → ℕ) → Template → SlotTemplate
slot_template first = para-Template SlotTemplate (slot_layer first)

-- the query with these places and arms
abbrev pub query_over : List Operand → List OpenArm → Query → NormalQuery
query_over places arms query =
    let constraints = constraints_of places query.items in
    record {
      arms = map (normal_arm constraints) arms;
      residual = residual_of arms constraints;
      template = slot_template (first_slot places) query.template;
    }

-- the normal query
abbrev pub normal_query : Query → NormalQuery
normal_query query =
    query_over (places_of (arms_of query.items)) (open_arms 0 (arms_of query.items)) query
