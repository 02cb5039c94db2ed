use Rattle.std.proofs.Common.{◌≡◌, drop}
use Rattle.std.specs.List.{list_all}
use Rattle.ncq_path.specs.Formed.{fits_seq, fits_alt}
use Rattle.ncq_path.proofs.FormedLaws.{tested}
use Rattle.ncq_path.proofs.formed.+joined.Given as goal

-- what is left decides
abbrev pub invariant-fit_seq-loop-item : goal.invariant-fit_seq-loop-item
invariant-fit_seq-loop-item l = list_all fits_seq (tested (drop l.item-index l.items)) ≡ list_all fits_seq (tested l.items)

abbrev pub invariant-fit_alt-loop-item : goal.invariant-fit_alt-loop-item
invariant-fit_alt-loop-item l = list_all fits_alt (tested (drop l.item-index l.items)) ≡ list_all fits_alt (tested l.items)
