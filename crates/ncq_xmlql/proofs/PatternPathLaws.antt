-- What holds of each path of a pattern, by its parts.
use Rattle.std.proofs.Common.{◌≡◌, Bool, true, List, sym, ap, ◌∙◌}
use Rattle.std.specs.Prelude.{◌&&◌}
use Rattle.std.specs.List.{list_all}
use Rattle.std.proofs.lemmas.List.Folds.{list_all-map}
use Rattle.ncq_path.specs.declared.path.Path.{Path}
use Rattle.ncq_xmlql.specs.declared.model.Content.TheVariants.{Parts, Value, rolls-Parts, rolls-Value}
use Rattle.ncq_xmlql.specs.declared.model.Content.TheViews.{out-Pattern, roll-out-Pattern}
use Rattle.ncq_xmlql.specs.declared.model.Content.TheOpen.Content-F.{Parts as PartsLayer, Value as ValueLayer}
use Rattle.ncq_xmlql.specs.declared.model.Content.TheFolds.{para-Content, para-Pattern, para-roll-Content, para-roll-Pattern}
use Rattle.ncq_xmlql.specs.declared.model.Operand.{Operand}
use Rattle.ncq_xmlql.specs.declared.model.Pattern.{Pattern}
use Rattle.ncq_xmlql.specs.PatternPaths.{content_layer, pattern_layer, pattern_paths, content_paths}

pub paths_of_pattern : (test : Path → Bool) (p : Pattern) → pattern_paths test p ≡ (test p.tag && content_paths test p.content)
unfolding pattern_paths content_paths
paths_of_pattern test p =
    ap (para-Pattern Bool Bool content_layer (pattern_layer test)) (sym (roll-out-Pattern p)) ∙ para-roll-Pattern Bool Bool content_layer (pattern_layer test) (out-Pattern p)

pub paths_of_value : (test : Path → Bool) (o : Operand) → content_paths test (Value o) ≡ true
unfolding content_paths
paths_of_value test o = ap (para-Content Bool Bool content_layer (pattern_layer test)) (sym (rolls-Value o)) ∙ para-roll-Content Bool Bool content_layer (pattern_layer test) (ValueLayer o)

pub paths_of_parts : (test : Path → Bool) (ps : List Pattern) → content_paths test (Parts ps) ≡ list_all (pattern_paths test) ps
unfolding content_paths pattern_paths
paths_of_parts test ps =
    ap (para-Content Bool Bool content_layer (pattern_layer test)) (sym (rolls-Parts ps))
    ∙ para-roll-Content Bool Bool content_layer (pattern_layer test) (PartsLayer ps)
    ∙ list_all-map (λ (p : Pattern × Bool). p.1) (λ (p : Pattern). (p, para-Pattern Bool Bool content_layer (pattern_layer test) p)) ps

pub ruleset paths_are = (paths_of_pattern, paths_of_value, paths_of_parts)
