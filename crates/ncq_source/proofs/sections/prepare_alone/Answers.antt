use Rattle.std.proofs.Common.{ap, sym, ◌∙◌}
use Rattle.std.specs.Option.{option_map}
use Rattle.ncq_source.specs.Changes.{prepared}
use Rattle.ncq_source.specs.Views.{source_of}
use Rattle.ncq_source.specs.declared.change.SourceId.{SourceId}
use Rattle.ncq_source.proofs.AloneLaws.{alone_is_portion}
use Rattle.ncq_source.proofs.sections.prepare_alone.Goals as goal

pub returns-clause-portions : goal.returns-clause-portions
returns-clause-portions c =
    let s = source_of c.source-source.result.now in
    alone_is_portion c.args.store.now c.args.section.now (record { source = c.in-Some.id; entries = c.in_ok-entries.entries }) s
    (sym c.place_of.ensures ∙ ap (option_map (λ (id : SourceId). id.0)) c.in-Some.is) c.source-source.ensures
    (ap (prepared s.key 1 s.elements) (sym c.as_slice-items.ensures) ∙ ap (λ kept. prepared s.key 1 kept c.as_slice-items.result.now) (sym c.new-ahead.ensures) ∙ c.in_ok-entries.ensures.tells)
