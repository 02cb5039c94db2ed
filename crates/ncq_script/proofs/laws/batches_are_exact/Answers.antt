use Rattle.ncq_script.proofs.OneAnswer.{one_list, only, reads}
use Rattle.ncq_script.proofs.laws.batches_are_exact.Goals as goal

pub returns : goal.returns
returns c = record { exact = λ limit lines answer. (reads limit lines answer, only limit lines answer); once = one_list }
