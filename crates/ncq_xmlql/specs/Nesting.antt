-- How deep the tags of a statement and the round brackets in them nest, counted on its tokens.
use Rattle.std.specs.Prelude.{◌+◌, ◌-◌, max, ℕ, List, [], ◌∷◌}
use Rattle.ncq_token.specs.declared.token.Token.{Token}
use Rattle.ncq_token.specs.declared.token.Token.TheVariants.{TagStart, TagEnd, EmptyClose}
use Rattle.ncq_token.specs.declared.token.Token.TheVariants.{Open, Shut}

-- how deep it is behind a token: a tag that begins and a round bracket that opens in one add 1, the
-- end of a tag and a bracket that shuts take 1 away, never below 0
abbrev pub depth_after : ℕ → Token → ℕ
depth_after n TagStart = n + 1
depth_after n Open = n + 1
depth_after n EmptyClose = n - 1
depth_after n TagEnd = n - 1
depth_after n Shut = n - 1
depth_after n token = n

-- the greatest depth at any place, from a depth on
abbrev pub nest_from : ℕ → List Token → ℕ
nest_from n [] = n
nest_from n (token ∷ tokens) = max n (nest_from (depth_after n token) tokens)

-- the greatest depth at any place
abbrev pub nest : List Token → ℕ
nest = nest_from 0
