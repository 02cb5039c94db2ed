-- How the first slots of variables are kept. Only the crate's private clauses cite it.
use Rattle.std.specs.Prelude.{◌≡◌, ℕ, suc, if◌then◌else◌, List, [], ◌∷◌, Option, Some, None}
use Rattle.std.specs.Option.{option_map}
use Rattle.std.specs.Map.{lookup}
use Rattle.std.specs.Str.{bytes_eq}
use Rattle.ncq_xmlql.specs.declared.model.Operand.{Operand}
use Rattle.ncq_xmlql.specs.declared.model.Operand.TheVariants.{Variable, Literal}

-- the first slot of a variable, where it has one
abbrev pub found_first : List Operand → List ℕ → Option ℕ
found_first [] x = None
found_first ((Variable y) ∷ places) x =
    if bytes_eq x y then Some 0 else option_map suc (found_first places x)
found_first ((Literal text) ∷ places) x = option_map suc (found_first places x)

-- the entries give the first slot of each variable
abbrev pub FindsFirst : List (List ℕ × ℕ) → List Operand → Type 0
FindsFirst entries places = (x : List ℕ) → lookup (bytes_eq x) entries ≡ found_first places x
