use Rattle.std.proofs.Common.{rules, ◌≡◌, ◌∙◌, ap, subst, sym, filter}
use Rattle.std.proofs.lemmas.Fn.{filter_same}
use Rattle.indexmap.proofs.CallerLemmas.{filter-RetainsPairs}
use Rattle.ncq_shelf.specs.KeptFiles.{Files}
use Rattle.ncq_live.specs.Wears.{WearState, KnowsTheWorn, bound_of}
use Rattle.ncq_live.proofs.WearLaws.{bounds_there, is_there, there_known, worn_there}
use Rattle.ncq_live.proofs.wear.Wear.forget.Goals as goal

pub invariant_of-self : goal.invariant_of-self
invariant_of-self c =
    let files : Files = c.args.groups.now.files in
    let bounds : c.retain-3.new.self.entries ≡ bounds_there files c.self.inside.bounds.entries =
    filter-RetainsPairs _ (λ e. is_there files e.0) _ (λ k v b w g call. search rules) _ _ c.retain-3.ensures.filtered in
    let pinned : c.retain-2.new.self.keys ≡ filter (is_there files) c.self.inside.pinned.keys =
    filter_same _ (is_there files) _ (λ x b g call. search rules) _ _ c.retain-2.ensures.filtered in
    let worn : c.retain.new.self.keys ≡ filter (is_there files) c.self.inside.worn.keys =
    filter_same _ (is_there files) _ (λ x b g call. search rules) _ _ c.retain.ensures.filtered in
    subst (λ es. KnowsTheWorn es c.retain.new.self.keys c.retain-2.new.self.keys) (sym bounds)
    (subst (λ ks. KnowsTheWorn (bounds_there files c.self.inside.bounds.entries) ks c.retain-2.new.self.keys) (sym worn)
    (subst (KnowsTheWorn (bounds_there files c.self.inside.bounds.entries) (filter (is_there files) c.self.inside.worn.keys)) (sym pinned)
    (worn_there files c.self.inside.bounds.entries c.self.inside.worn.keys c.self.inside.pinned.keys c.self.invariant)))

pub returns-clause-bounds : goal.returns-clause-bounds
returns-clause-bounds c = λ number file at.
    let files : Files = c.args.groups.now.files in
    let bounds : c.retain-3.new.self.entries ≡ bounds_there files c.self.inside.bounds.entries =
    filter-RetainsPairs _ (λ e. is_there files e.0) _ (λ k v b w g call. search rules) _ _ c.retain-3.ensures.filtered in
    ap (bound_of number) bounds ∙ there_known files c.self.inside.bounds.entries number file at ∙ ap (λ (w : WearState). bound_of number w.bounds) c.self.view_is
