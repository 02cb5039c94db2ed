use Rattle.std.proofs.Common.{◌≡◌, drop}
use Rattle.std.specs.List.{list_all}
use Rattle.ncq_xmlql.specs.PatternPaths.{pattern_paths, is_few}
use Rattle.ncq_xmlql.proofs.few.+few.Given as goal

-- what is left decides
abbrev pub invariant-patterns_are_few-loop-pattern : goal.invariant-patterns_are_few-loop-pattern
invariant-patterns_are_few-loop-pattern l = list_all (pattern_paths is_few) (drop l.pattern-index l.patterns) ≡ list_all (pattern_paths is_few) l.patterns
