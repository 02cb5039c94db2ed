-- The grammar of paths: which tokens inside a tag spell which path, and what stands behind it.
use Rattle.std.specs.Prelude.{ℕ, List, [], ◌∷◌}
use Rattle.ncq_path.specs.declared.path.Path.{Path}
use Rattle.ncq_path.specs.declared.path.Path.TheVariants as path
use Rattle.ncq_token.specs.declared.token.Token.{Token}
use Rattle.ncq_token.specs.declared.token.Token.TheVariants.{Name, Dot, Bar, Open, Shut}
use Rattle.ncq_token.specs.declared.token.Token.TheVariants as token
use Rattle.ncq_xmlql.specs.PathValues.{seq_of, alt_of}

mutual
  -- seq { "|" seq }
  pub data IsPath : List Token → Path → List Token → Type 0 where
    any : {first : Path} {more : List Path} {a b c : List Token} → IsSeq a first b
        → AreAlternatives b more c → IsPath a (alt_of (first ∷ more)) c

  pub data AreAlternatives : List Token → List Path → List Token → Type 0 where
    no_alternative : {a : List Token} → AreAlternatives a [] a
    alternative : {first : Path} {more : List Path} {a b c : List Token} → IsSeq a first b
        → AreAlternatives b more c → AreAlternatives (Bar ∷ a) (first ∷ more) c

  -- step { "." step }
  pub data IsSeq : List Token → Path → List Token → Type 0 where
    each : {first : Path} {more : List Path} {a b c : List Token} → IsStep a first b
        → AreSteps b more c → IsSeq a (seq_of (first ∷ more)) c

  pub data AreSteps : List Token → List Path → List Token → Type 0 where
    no_step : {a : List Token} → AreSteps a [] a
    next_step : {first : Path} {more : List Path} {a b c : List Token} → IsStep a first b
        → AreSteps b more c → AreSteps (Dot ∷ a) (first ∷ more) c

  -- ( Name | "(" path ")" ) [ "*" | "+" ]
  pub data IsStep : List Token → Path → List Token → Type 0 where
    once : {p : Path} {a b : List Token} → IsItem a p b → IsStep a p b
    star : {p : Path} {a b : List Token} → IsItem a p (token.Star ∷ b) → IsStep a (path.Star p) b
    plus : {p : Path} {a b : List Token} → IsItem a p (token.Plus ∷ b) → IsStep a (path.Plus p) b

  pub data IsItem : List Token → Path → List Token → Type 0 where
    name : {n : List ℕ} {a : List Token} → IsItem (Name n ∷ a) (path.Tag n) a
    group : {p : Path} {a b : List Token} → IsPath a p (Shut ∷ b) → IsItem (Open ∷ a) p b
