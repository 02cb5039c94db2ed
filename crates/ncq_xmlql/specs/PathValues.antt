-- The path that steps in order make, and the path that alternatives make.
use Rattle.std.specs.Prelude.{List, [], ◌∷◌, map}
use Rattle.std.specs.List.{flat_map}
use Rattle.ncq_path.specs.declared.path.Path.{Path}
use Rattle.ncq_path.specs.declared.path.Path.TheVariants as path
use Rattle.ncq_path.specs.declared.path.Path.TheOpen.{Path-F}
use Rattle.ncq_path.specs.declared.path.Path.TheOpen.Path-F.{Tag, Seq, Alt, Star, Plus}
use Rattle.ncq_path.specs.declared.path.Path.TheFolds.{para-Path}

abbrev pub seq_items_layer : Path-F (Path × List Path) → List Path
seq_items_layer (Tag name) = path.Tag name ∷ []
seq_items_layer (Seq items) = map (λ p. p.0) items
seq_items_layer (Alt items) = path.Alt (map (λ p. p.0) items) ∷ []
seq_items_layer (Star item) = path.Star item.0 ∷ []
seq_items_layer (Plus item) = path.Plus item.0 ∷ []

-- the items of a sequence, or the path alone
unfoldable pub seq_items : Path → List Path
seq_items = para-Path (List Path) seq_items_layer

abbrev pub alt_items_layer : Path-F (Path × List Path) → List Path
alt_items_layer (Tag name) = path.Tag name ∷ []
alt_items_layer (Seq items) = path.Seq (map (λ p. p.0) items) ∷ []
alt_items_layer (Alt items) = map (λ p. p.0) items
alt_items_layer (Star item) = path.Star item.0 ∷ []
alt_items_layer (Plus item) = path.Plus item.0 ∷ []

-- the items of an alternative, or the path alone
unfoldable pub alt_items : Path → List Path
alt_items = para-Path (List Path) alt_items_layer

-- one item stands for itself, others make a list
abbrev pub alone_or : (List Path → Path) → List Path → Path
alone_or list (item ∷ []) = item
alone_or list items = list items

-- steps in order: a sequence among them gives its items
abbrev pub seq_of : List Path → Path
seq_of steps = alone_or path.Seq (flat_map seq_items steps)

-- any of these: an alternative among them gives its items
abbrev pub alt_of : List Path → Path
alt_of seqs = alone_or path.Alt (flat_map alt_items seqs)
