-- The greatest depth, token by token.
use Rattle.std.proofs.Common.{◌≡◌, max, ℕ, ◌≤◌, List, [], ◌∷◌, arith}
use Rattle.ncq_token.specs.declared.token.Token.{Token}
use Rattle.ncq_xmlql.specs.Nesting.{nest_from, depth_after}

deepest : (n : ℕ) (tokens : List Token) → n ≤ nest_from n tokens
deepest n [] = omega arith
deepest n (t ∷ tokens) = omega arith

pub nest_goes_on : (most n : ℕ) (t : Token) (rest : List Token) (whole : ℕ) → n ≤ most → max most (nest_from n (t ∷ rest)) ≡ whole → max (max most (depth_after n t)) (nest_from (depth_after n t) rest) ≡ whole
nest_goes_on most n t rest whole le e = omega (arith, le, e, deepest (depth_after n t) rest)
