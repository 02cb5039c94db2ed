-- Whether a list is in an expression, and names in a path, as a test: by Brzozowski's derivatives.
-- That the test says the same as `IsIn` is the law `paths_are_decided`.
use Rattle.std.specs.Prelude.{ℕ, Bool, true, false, ◌&&◌, ◌||◌, if◌then◌else◌, List, [], ◌∷◌}
use Rattle.std.specs.Str.{bytes_eq}
use Rattle.ncq_path.specs.declared.path.Path.{Path}
use Rattle.ncq_path.specs.Expressions.{Expression}
use Rattle.ncq_path.specs.Expressions.Expression.{Letter, Empty, Never, Then, Or, ZeroOrMore, OneOrMore}
use Rattle.ncq_path.specs.Paths.{expression}

-- whether the empty list is in the expression
abbrev pub nullable : {L : Type 0} → Expression L → Bool
nullable (Letter l) = false
nullable Empty = true
nullable Never = false
nullable (Then a b) = nullable a && nullable b
nullable (Or a b) = nullable a || nullable b
nullable (ZeroOrMore a) = true
nullable (OneOrMore a) = nullable a

-- what may stand behind the name, where it stands first
abbrev pub derived : List ℕ → Expression (List ℕ) → Expression (List ℕ)
derived tag (Letter name) = if bytes_eq name tag then Empty else Never
derived tag Empty = Never
derived tag Never = Never
derived tag (Then a b) =
    if nullable a then Or (Then (derived tag a) b) (derived tag b) else Then (derived tag a) b
derived tag (Or a b) = Or (derived tag a) (derived tag b)
derived tag (ZeroOrMore a) = Then (derived tag a) (ZeroOrMore a)
derived tag (OneOrMore a) = Then (derived tag a) (ZeroOrMore a)

abbrev pub is_in : Expression (List ℕ) → List (List ℕ) → Bool
is_in e [] = nullable e
is_in e (tag ∷ tags) = is_in (derived tag e) tags

-- whether the names, in order, are in the path
abbrev pub in_path : Path → List (List ℕ) → Bool
in_path path tags = is_in (expression path) tags
