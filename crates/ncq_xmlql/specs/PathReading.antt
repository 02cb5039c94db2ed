-- Reading paths from the front of a token list. The code reads by these; the grammar is apart from
-- them.
use Rattle.std.specs.Prelude.{ℕ, zero, suc, Bool, true, false, List, ◌∷◌, Option, Some, None}
use Rattle.ncq_path.specs.declared.path.Path.{Path}
use Rattle.ncq_path.specs.declared.path.Path.TheVariants as path
use Rattle.ncq_token.specs.declared.token.Token.{Token}
use Rattle.ncq_token.specs.declared.token.Token.TheVariants.{Name, Dot, Bar, Open, Shut}
use Rattle.ncq_token.specs.declared.token.Token.TheVariants as token
use Rattle.ncq_xmlql.specs.Reading.{Read, ◌>>=◌, many}
use Rattle.ncq_xmlql.specs.PathValues.{seq_of, alt_of}

abbrev pub starts_dot : List Token → Bool
starts_dot (Dot ∷ rest) = true
starts_dot tokens = false

abbrev pub starts_bar : List Token → Bool
starts_bar (Bar ∷ rest) = true
starts_bar tokens = false

-- what is read behind a `.`
abbrev pub dotted_at : (List Token → Read Path) → List Token → Read Path
dotted_at one (Dot ∷ rest) = one rest
dotted_at one tokens = None

-- what is read behind a `|`
abbrev pub barred_at : (List Token → Read Path) → List Token → Read Path
barred_at one (Bar ∷ rest) = one rest
barred_at one tokens = None

-- what stands behind a `)`
abbrev pub shut_at : List Token → Option (List Token)
shut_at (Shut ∷ rest) = Some rest
shut_at tokens = None

-- a name, or a path between round brackets, which is read by `group`
unfoldable pub item_of : (List Token → Read Path) → List Token → Read Path
item_of group ((Name n) ∷ rest) = Some (path.Tag n, rest)
item_of group (Open ∷ rest) = group rest >>= λ p. shut_at p.1 >>= λ after. Some (p.0, after)
item_of group tokens = None

-- the path, or the star or plus of it, and what stands behind that
abbrev pub repeated : Path → List Token → Path × List Token
repeated p (token.Star ∷ rest) = (path.Star p, rest)
repeated p (token.Plus ∷ rest) = (path.Plus p, rest)
repeated p tokens = (p, tokens)

unfoldable pub step_of : (List Token → Read Path) → List Token → Read Path
step_of group tokens = item_of group tokens >>= λ item. Some (repeated item.0 item.1)

-- the steps of which each stands behind a `.`
abbrev pub steps_of : (List Token → Read Path) → List Token → Read (List Path)
steps_of group tokens = many starts_dot (dotted_at (step_of group)) tokens

unfoldable pub sequence_of : (List Token → Read Path) → List Token → Read Path
sequence_of group tokens = do
  first ← step_of group tokens
  more ← steps_of group first.1
  Some (seq_of (first.0 ∷ more.0), more.1)

-- the sequences of which each stands behind a `|`
abbrev pub alternatives_of : (List Token → Read Path) → List Token → Read (List Path)
alternatives_of group tokens = many starts_bar (barred_at (sequence_of group)) tokens

unfoldable pub path_of : (List Token → Read Path) → List Token → Read Path
path_of group tokens = do
  first ← sequence_of group tokens
  more ← alternatives_of group first.1
  Some (alt_of (first.0 ∷ more.0), more.1)

-- a path, its brackets nested less deep than the number
unfoldable pub path_at : ℕ → List Token → Read Path
path_at zero tokens = None
path_at (suc depth) tokens = path_of (path_at depth) tokens
