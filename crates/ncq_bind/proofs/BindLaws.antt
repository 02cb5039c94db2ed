-- What `bind` answers, from what its parts answer.
use Rattle.std.specs.Prelude.{Ok, Err}
use Rattle.std.proofs.Common.{◌≡◌, ap, ◌∙◌, Bool, true, false, Some, None, refl, sym, subst}
use Rattle.std.specs.Prelude.{if◌then◌else◌, ◌&&◌}
use Rattle.std.specs.List.{list_all}
use Rattle.ncq_plan.specs.declared.query.NormalQuery.{NormalQuery}
use Rattle.ncq_plan.specs.WellFormed as formed
use Rattle.ncq_xmlql.specs.declared.model.Statement.{Statement}
use Rattle.ncq_xmlql.specs.WellFormed.{IsWellFormed}
use Rattle.ncq_bind.specs.Answers.{arms_of, places_of}
use Rattle.ncq_bind.specs.NormalQueries.{normal_query}
use Rattle.ncq_bind.specs.Bound.{item_is_bound, template_is_bound, query_is_bound}
use Rattle.ncq_base.proofs.Tests.{both_true}
use Rattle.ncq_bind.specs.declared.binding.BindError.TheVariants.{NoSource, RootDiffers}
use Rattle.ncq_bind.specs.declared.binding.BindError.TheVariants.{Unbound, OutOfMemory}
use Rattle.ncq_bind.specs.Laws.{OneAnswer}
use Rattle.ncq_bind.proofs.FormLaws.{query_formed}

pub bound_some : (b : Bool) (n m : NormalQuery) → Some n ≡ (if b then Some m else None) → (b ≡ true) × (n ≡ m)
bound_some true n m e = (refl, cc)
bound_some false n m e = absurd cc

pub bound_none : (b : Bool) (m : NormalQuery) → None ≡ (if b then Some m else None) → b ≡ false
bound_none true m e = absurd cc
bound_none false m e = refl

pub statement_formed : (st : Statement) (n : NormalQuery) → IsWellFormed st → query_is_bound st.query ≡ true → n ≡ normal_query st.query → formed.IsWellFormed n
statement_formed st n whole bound is =
    let both = both_true (list_all (item_is_bound (places_of (arms_of st.query.items))) st.query.items) (template_is_bound (places_of (arms_of st.query.items)) st.query.template) bound in
    subst formed.IsWellFormed (sym is) (query_formed st.query whole.begins whole.items whole.within whole.paths both.0 both.1)

clash : {A : Type 0} (b : Bool) → b ≡ true → b ≡ false → A
clash b e f = absurd (let c : true ≡ false = sym e ∙ f in cc)

pub answers_agree : OneAnswer
answers_agree relations query roots (Err OutOfMemory) b p q h k = absurd (h refl)
answers_agree relations query roots (Ok n) (Err OutOfMemory) p q h k = absurd (k refl)
answers_agree relations query roots (Err NoSource) (Err OutOfMemory) p q h k = absurd (k refl)
answers_agree relations query roots (Err RootDiffers) (Err OutOfMemory) p q h k = absurd (k refl)
answers_agree relations query roots (Err Unbound) (Err OutOfMemory) p q h k = absurd (k refl)
answers_agree relations query roots (Ok n) (Ok m) p q h k = ap Ok (p.answer ∙ sym q.answer)
answers_agree relations query roots (Ok n) (Err NoSource) p q h k = clash _ p.declared q
answers_agree relations query roots (Ok n) (Err RootDiffers) p q h k = clash _ p.root q.root
answers_agree relations query roots (Ok n) (Err Unbound) p q h k = clash _ (λ i. p.bound i && p.served i) q.bound
answers_agree relations query roots (Err NoSource) (Ok m) p q h k = clash _ q.declared p
answers_agree relations query roots (Err NoSource) (Err NoSource) p q h k = refl
answers_agree relations query roots (Err NoSource) (Err RootDiffers) p q h k = clash _ q.declared p
answers_agree relations query roots (Err NoSource) (Err Unbound) p q h k = clash _ q.declared p
answers_agree relations query roots (Err RootDiffers) (Ok m) p q h k = clash _ q.root p.root
answers_agree relations query roots (Err RootDiffers) (Err NoSource) p q h k = clash _ p.declared q
answers_agree relations query roots (Err RootDiffers) (Err RootDiffers) p q h k = refl
answers_agree relations query roots (Err RootDiffers) (Err Unbound) p q h k = clash _ q.root p.root
answers_agree relations query roots (Err Unbound) (Ok m) p q h k = clash _ (λ i. q.bound i && q.served i) p.bound
answers_agree relations query roots (Err Unbound) (Err NoSource) p q h k = clash _ p.declared q
answers_agree relations query roots (Err Unbound) (Err RootDiffers) p q h k = clash _ p.root q.root
answers_agree relations query roots (Err Unbound) (Err Unbound) p q h k = refl
