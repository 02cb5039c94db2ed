-- Regular expressions over letters of any kind, and which lists of letters are in them.
use Rattle.std.specs.Prelude.{◌≡◌, ◌⊎◌, ℕ, ◌+◌, List, [], ◌∷◌, ◌++◌}
use Rattle.std.specs.List.{AllByRecursion, flat_map}

pub data Expression (L : Type 0) : Type 0 where
  Letter : L → Expression L
  Empty : Expression L
  Never : Expression L
  Then : Expression L → Expression L → Expression L
  Or : Expression L → Expression L → Expression L
  ZeroOrMore : Expression L → Expression L
  OneOrMore : Expression L → Expression L

-- parts that are each in a language, one behind the other
abbrev pub ArePartsOf : {L : Type 0} → (List L → Type 0) → List L → Type 0
ArePartsOf {L = L} language letters =
    (parts : List (List L)) × AllByRecursion language parts × (letters ≡ flat_map (λ p. p) parts)

-- two parts, the first in the one language and the second in the other
abbrev pub AreCut : {L : Type 0} → (List L → Type 0) → (List L → Type 0) → List L → Type 0
AreCut {L = L} first second letters =
    (front : List L) × (rest : List L) × first front × second rest × (letters ≡ front ++ rest)

-- The list of letters is in the expression: one letter; the empty list; none at all; a part of each
-- of the two, in order; one of either; any number of parts; one part and any number more.
abbrev pub IsIn : {L : Type 0} → Expression L → List L → Type 0
IsIn (Letter l) letters = letters ≡ l ∷ []
IsIn Empty letters = letters ≡ []
IsIn Never letters = ⊥
IsIn (Then a b) letters = AreCut (IsIn a) (IsIn b) letters
IsIn (Or a b) letters = IsIn a letters ⊎ IsIn b letters
IsIn (ZeroOrMore a) letters = ArePartsOf (IsIn a) letters
IsIn (OneOrMore a) letters = AreCut (IsIn a) (ArePartsOf (IsIn a)) letters

-- how many letters an expression has
abbrev pub size : {L : Type 0} → Expression L → ℕ
size (Letter l) = 1
size Empty = 0
size Never = 0
size (Then a b) = size a + size b
size (Or a b) = size a + size b
size (ZeroOrMore a) = size a
size (OneOrMore a) = size a

-- its letters with their positions, which are counted in reading order and go on from n
abbrev pub numbered : {L : Type 0} → ℕ → Expression L → Expression (ℕ × L)
numbered n (Letter l) = Letter (n + 1, l)
numbered n Empty = Empty
numbered n Never = Never
numbered n (Then a b) = Then (numbered n a) (numbered (n + size a) b)
numbered n (Or a b) = Or (numbered n a) (numbered (n + size a) b)
numbered n (ZeroOrMore a) = ZeroOrMore (numbered n a)
numbered n (OneOrMore a) = OneOrMore (numbered n a)
