use Rattle.std.proofs.Common.{◌≡◌, ◌∙◌, ap}
use Rattle.std.proofs.lemmas.Result.{IfOk-weaker}
use Rattle.ncq_bind.specs.Answers.{arms_of, places_of}
use Rattle.ncq_bind.specs.NormalArms.{open_arms}
use Rattle.ncq_bind.proofs.QueryLaws.{query_where_bound}
use Rattle.ncq_bind.proofs.query.normal_query.Goals as goal

pub returns : goal.returns
returns c =
    let items : c.as_slice-items.result.now ≡ c.args.query.now.items = c.as_slice-items.ensures in
    let places : c.as_slice.result.now ≡ places_of (arms_of c.args.query.now.items) = c.as_slice.ensures ∙ c.in_ok-arms.ensures.places ∙ ap (λ v. places_of (arms_of v)) items in
    let arms : c.in_ok-arms.field-0.arms ≡ open_arms 0 (arms_of c.args.query.now.items) = c.in_ok-arms.ensures.arms ∙ ap (λ v. open_arms 0 (arms_of v)) items in
    IfOk-weaker c.bound_query.result _ _ (λ n h. h ∙ (λ i. query_where_bound (places i) (arms i) c.args.query.now)) c.bound_query.ensures
