-- Which paths are well formed.
use Rattle.std.specs.Prelude.{◌≡◌, ℕ, ◌≤◌, Bool, true, ◌&&◌, not, nat_le, length}
use Rattle.std.specs.List.{list_all}
use Rattle.ncq_path.specs.declared.path.Path.{Path}
use Rattle.ncq_path.specs.declared.path.Path.TheOpen.{Path-F}
use Rattle.ncq_path.specs.declared.path.Path.TheOpen.Path-F.{Tag, Seq, Alt, Star, Plus}
use Rattle.ncq_path.specs.declared.path.Path.TheFolds.{para-Path}
use Rattle.ncq_path.specs.Expressions.{size}
use Rattle.ncq_path.specs.Kinds.{is_alt, is_seq}
use Rattle.ncq_path.specs.Paths.{expression}

-- how many names a path has
abbrev pub names_in : Path → ℕ
names_in path = size (expression path)

-- an item that is joined, and no sequence
abbrev pub fits_seq : Path × Bool → Bool
fits_seq item = item.1 && not (is_seq item.0)

-- an item that is joined, and no alternative
abbrev pub fits_alt : Path × Bool → Bool
fits_alt item = item.1 && not (is_alt item.0)

abbrev pub joined_layer : Path-F (Path × Bool) → Bool
joined_layer (Tag name) = true
joined_layer (Seq items) = nat_le 2 (length items) && list_all fits_seq items
joined_layer (Alt items) = nat_le 2 (length items) && list_all fits_alt items
joined_layer (Star item) = item.1
joined_layer (Plus item) = item.1

-- whether each list of a sequence or an alternative has two items or more, none of the kind of the
-- list
unfoldable pub is_joined : Path → Bool
is_joined = para-Path Bool joined_layer

-- at most 32 names, and lists that are joined
pub record IsWellFormed (path : Path) : Type 0 where
  pub few : names_in path ≤ 32
  pub joined : is_joined path ≡ true

-- whether the path is well formed
abbrev pub is_formed : Path → Bool
is_formed path = nat_le (names_in path) 32 && is_joined path
