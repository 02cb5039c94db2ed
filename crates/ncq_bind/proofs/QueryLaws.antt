-- The normal query, where the query is bound.
use Rattle.std.proofs.Common.{◌≡◌, Bool, true, false, List, Some, None, sym, ap, ◌∙◌}
use Rattle.std.specs.Prelude.{◌&&◌, if◌then◌else◌, Option}
use Rattle.std.specs.List.{list_all}
use Rattle.ncq_plan.specs.declared.query.NormalQuery.{NormalQuery}
use Rattle.ncq_xmlql.specs.declared.model.Operand.{Operand}
use Rattle.ncq_xmlql.specs.declared.model.Query.{Query}
use Rattle.ncq_bind.specs.declared.open_arm.OpenArm.{OpenArm}
use Rattle.ncq_bind.specs.NormalQueries.{query_over}
use Rattle.ncq_bind.specs.Bound.{item_is_bound, template_is_bound}

-- whether the variables have these places
abbrev is_bound_at : Query → List Operand → Bool
is_bound_at query places = list_all (item_is_bound places) query.items && template_is_bound places query.template

-- the query with these places and arms, where its variables have these places
abbrev pub query_where_bound : List Operand → List OpenArm → Query → Option NormalQuery
query_where_bound places arms query = if is_bound_at query places then Some (query_over places arms query) else None

chosen : (b : Bool) (n m : NormalQuery) → b ≡ true → n ≡ m → Some n ≡ (if b then Some m else None)
chosen true n m e f = ap Some f
chosen false n m e f = absurd cc

pub made_is : (query : Query) (places names : List Operand) (arms : List OpenArm) (n : NormalQuery) → names ≡ places → n ≡ query_over names arms query → is_bound_at query names ≡ true
    → Some n ≡ query_where_bound places arms query
made_is query places names arms n same made bound =
    chosen (is_bound_at query places) n (query_over places arms query) (sym (ap (is_bound_at query) same) ∙ bound) (made ∙ ap (λ v. query_over v arms query) same)
