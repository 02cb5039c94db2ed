-- What a part gives that is the name of a child alone. Only the crate's private clauses cite it.
use Rattle.std.specs.Prelude.{ℕ, Bool, true, false, List, [], ◌∷◌}
use Rattle.std.specs.List.{flat_map}
use Rattle.ncq_path.specs.declared.path.Path.TheVariants.{Tag}
use Rattle.ncq_tree.specs.declared.model.Element.{Element}
use Rattle.ncq_row.specs.Embeddings.{Rows, value_rows}
use Rattle.ncq_row.specs.Reached.{reached}

-- what a child gives: its value, or nothing where that is not taken
abbrev pub child_rows : Bool → Element → Rows
child_rows true child = value_rows child
child_rows false child = [] ∷ []

-- what the children of the name give
abbrev pub named_rows : List ℕ → Bool → Element → Rows
named_rows name valued e = flat_map (child_rows valued) (reached (Tag name) e.children)
