-- The name in a token.
use Rattle.std.specs.Prelude.{Bool, true}
use Rattle.ncq_base.specs.Names.{is_name}
use Rattle.ncq_token.specs.declared.token.Token.{Token}
use Rattle.ncq_token.specs.declared.token.Token.TheVariants.{Name}

-- the token is no name, or it is the name of an element or an attribute
abbrev pub is_well_named : Token → Bool
is_well_named (Name name) = is_name name
is_well_named token = true
