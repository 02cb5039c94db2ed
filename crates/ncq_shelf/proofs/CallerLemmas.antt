-- What crates above use of files and their inputs.
pub use Rattle.ncq_shelf.proofs.Maps.{put_same, put_other, gone_same, gone_other, there, one_value, rest_stays}
pub use Rattle.ncq_shelf.proofs.Layers.{no_input-scan, input_of-equal, equal-input_of, input_of-range, range-input_of, input_of-join, left-input_of, right-input_of}
pub use Rattle.ncq_shelf.proofs.InputLaws.{only_told, sides_told, side_reads-left, side_reads-right, are_inputs_more, are_inputs_rest}
pub use Rattle.ncq_shelf.proofs.Alike.{HasAlike, HasAll, stands_alike, read_alike, grounded_alike, uses_there, uses_back, wide_alike}
pub use Rattle.ncq_shelf.proofs.KeyLaws.{all_map, all_part, all_parts}
