use Rattle.std.proofs.Common.{◌≡◌, ◌∙◌, ap, sym, is_some, ℕ, refl, Some, None}
use Rattle.std.specs.Prelude.{Option}
use Rattle.std.specs.Option.{option_map}
use Rattle.ncq_source.specs.declared.change.SourceId.{SourceId}
use Rattle.ncq_source.proofs.SectionLaws.{known_found}
use Rattle.ncq_source.proofs.store.Store.is_declared.Goals as goal

mapped : (o : Option SourceId) → is_some (option_map (λ (id : SourceId). id.0) o) ≡ is_some o
mapped None = refl
mapped (Some id) = refl

pub returns : goal.returns
returns c = c.is_some.ensures ∙ sym (mapped c.find.result) ∙ ap (λ (o : Option ℕ). is_some o) c.find.ensures ∙ ap (λ n. is_some (Rattle.ncq_source.specs.StoreStates.found c.args.self.now n)) c.as_slice.ensures ∙ sym (known_found c.args.self.now c.args.section.now.source)
