-- What a path is as a regular expression over names, and which lists of names are in it.
use Rattle.std.specs.Prelude.{ℕ, List, [], ◌∷◌}
use Rattle.ncq_path.specs.declared.path.Path.{Path}
use Rattle.ncq_path.specs.declared.path.Path.TheOpen.{Path-F}
use Rattle.ncq_path.specs.declared.path.Path.TheOpen.Path-F.{Tag, Seq, Alt, Star, Plus}
use Rattle.ncq_path.specs.declared.path.Path.TheFolds.{fold-Path}
use Rattle.ncq_path.specs.Expressions.{Expression, IsIn}
use Rattle.ncq_path.specs.Expressions.Expression.{Letter, Empty, Never, Then, Or, ZeroOrMore, OneOrMore}

-- one of each, in order
abbrev pub each : {L : Type 0} → List (Expression L) → Expression L
each [] = Empty
each (a ∷ more) = Then a (each more)

-- any of them
abbrev pub any_of : {L : Type 0} → List (Expression L) → Expression L
any_of [] = Never
any_of (a ∷ more) = Or a (any_of more)

abbrev pub expression_layer : Path-F (Expression (List ℕ)) → Expression (List ℕ)
expression_layer (Tag name) = Letter name
expression_layer (Seq items) = each items
expression_layer (Alt items) = any_of items
expression_layer (Star item) = ZeroOrMore item
expression_layer (Plus item) = OneOrMore item

-- a name is a letter; a sequence has one of each of its paths, in order; an alternative has any of
-- its paths; a star has its path any number of times, a plus once or more
unfoldable pub expression : Path → Expression (List ℕ)
expression = fold-Path (Expression (List ℕ)) expression_layer

-- the names, in order, are in the path
abbrev pub InPath : Path → List (List ℕ) → Type 0
InPath path tags = IsIn (expression path) tags
