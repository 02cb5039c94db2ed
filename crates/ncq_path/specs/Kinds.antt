-- Which paths are names, sequences and alternatives.
use Rattle.std.specs.Prelude.{Bool, true, false}
use Rattle.ncq_path.specs.declared.path.Path.{Path}
use Rattle.ncq_path.specs.declared.path.Path.TheOpen.{Path-F}
use Rattle.ncq_path.specs.declared.path.Path.TheOpen.Path-F.{Tag, Seq, Alt, Star, Plus}
use Rattle.ncq_path.specs.declared.path.Path.TheFolds.{para-Path}

abbrev pub is_tag_layer : Path-F (Path × Bool) → Bool
is_tag_layer (Tag name) = true
is_tag_layer (Seq items) = false
is_tag_layer (Alt items) = false
is_tag_layer (Star item) = false
is_tag_layer (Plus item) = false

abbrev pub is_tag : Path → Bool
is_tag = para-Path Bool is_tag_layer

abbrev pub is_seq_layer : Path-F (Path × Bool) → Bool
is_seq_layer (Tag name) = false
is_seq_layer (Seq items) = true
is_seq_layer (Alt items) = false
is_seq_layer (Star item) = false
is_seq_layer (Plus item) = false

abbrev pub is_seq : Path → Bool
is_seq = para-Path Bool is_seq_layer

abbrev pub is_alt_layer : Path-F (Path × Bool) → Bool
is_alt_layer (Tag name) = false
is_alt_layer (Seq items) = false
is_alt_layer (Alt items) = true
is_alt_layer (Star item) = false
is_alt_layer (Plus item) = false

abbrev pub is_alt : Path → Bool
is_alt = para-Path Bool is_alt_layer
