-- What a machine keeps of a path. Only the crate's private clauses cite it.
use Rattle.std.specs.Prelude.{ℕ, ◌+◌, ◌^◌, Bool, false, ◌&&◌, ◌||◌, not, nat_eq, List, [], ◌∷◌, ◌++◌}
use Rattle.std.specs.Int.Bits.{bit_and, bit_or}
use Rattle.std.specs.Str.{bytes_eq}
use Rattle.ncq_path.specs.declared.link.Link.{Link}
use Rattle.ncq_path.specs.Expressions.{Expression, size}
use Rattle.ncq_path.specs.Expressions.Expression.{Letter, Empty, Never, Then, Or, ZeroOrMore, OneOrMore}

-- The set of the positions behind which a reading of the expression may end, where it begins behind
-- the set `before` and its letters are numbered from n + 1.
abbrev pub ends_of : {L : Type 0} → Expression L → ℕ → ℕ → ℕ
ends_of (Letter l) n before = 2 ^ (n + 1)
ends_of Empty n before = before
ends_of Never n before = 0
ends_of (Then a b) n before = ends_of b (n + size a) (ends_of a n before)
ends_of (Or a b) n before = bit_or (ends_of a n before) (ends_of b (n + size a) before)
ends_of (ZeroOrMore a) n before = bit_or before (ends_of a n 0)
ends_of (OneOrMore a) n before = ends_of a n before

-- each name with the set of the positions behind which it may be read
abbrev pub links : Expression (List ℕ) → ℕ → ℕ → List Link
links (Letter l) n before = record { name = l; before = before } ∷ []
links Empty n before = []
links Never n before = []
links (Then a b) n before = links a n before ++ links b (n + size a) (ends_of a n before)
links (Or a b) n before = links a n before ++ links b (n + size a) before
links (ZeroOrMore a) n before = links a n (bit_or before (ends_of a n 0))
links (OneOrMore a) n before = links a n (bit_or before (ends_of a n 0))

-- whether two sets have a position in common
abbrev pub meets : ℕ → ℕ → Bool
meets a b = not (nat_eq (bit_and a b) 0)

-- whether the position is that of a name that takes the tag, of those numbered from n + 1
abbrev pub takes : List Link → ℕ → ℕ → List ℕ → ℕ → Bool
takes [] n bits tag position = false
takes (link ∷ more) n bits tag position =
    nat_eq (n + 1) position && (bytes_eq link.name tag && meets bits link.before)
    || takes more (n + 1) bits tag position
