-- The language of this engine: what queries answer, which of them bind, how they are planned, and
-- its handlers. The predicates that it was handed decide the first two.
use Rattle.std.specs.Prelude.{◌&&◌, if◌then◌else◌, List, Option, Some, None}
use Rattle.std.specs.Option.{option_map}
use Rattle.ncq_bind.specs.Answers.{answer}
use Rattle.ncq_bind.specs.Bindings.{Roots, are_declared, have_roots}
use Rattle.ncq_bind.specs.Bound.{query_is_bound}
use Rattle.ncq_bind.specs.NormalQueries.{normal_query}
use Rattle.ncq_bind.specs.Served.{are_served}
use Rattle.ncq_callback.specs.Labels.{Handed}
use Rattle.ncq_plan.specs.Late.{bare_of}
use Rattle.ncq_plan.specs.Relations.{Relations}
use Rattle.ncq_script.specs.declared.refusal.Refusal.{Refusal}
use Rattle.ncq_script.specs.declared.refusal.Refusal.TheVariants as refusal
use Rattle.ncq_strategy.specs.Choices.{plan_among}
use Rattle.ncq_xmlql.specs.declared.model.Query.{Query}
use Rattle.ncq_engine.specs.History.{Source, source_in}
use Rattle.ncq_engine.specs.Notices.{Language}

-- the root of the source of each name
abbrev pub roots_of : List Source → Roots
roots_of sources name = option_map (λ source. source.root) (source_in name sources)

-- the first fault of a query: a source that is not declared, a root that is not its source's, a
-- variable without a place or a predicate that does not serve
abbrev pub binding_refusal : Relations → Query → Roots → Option Refusal
binding_refusal relations query roots =
    if are_declared roots query.items
    then (if have_roots roots query.items
    then (if query_is_bound query && are_served relations query.items then None
    else Some refusal.Unbound)
    else Some refusal.Root)
    else Some refusal.NoSource

abbrev pub language_of : Handed → Language
language_of handed = record {
  answer = answer handed.relations;
  binding = λ query sources. binding_refusal handed.relations query (roots_of sources);
  bare = λ query. bare_of (normal_query query);
  plan = λ query live. plan_among (normal_query query) live;
  handlers = handed.labels;
}
