use Rattle.std.proofs.lemmas.Bool.Decides.{Decides-eqb}
use Rattle.std.proofs.lemmas.Slice.Eq.{strip_prefix_is}
use Rattle.ncq_flat.proofs.RestLaws.{word_rest}
use Rattle.ncq_flat.proofs.same.behind_word.Goals as goal

pub returns : goal.returns
returns c =
    word_rest c.strip_prefix.result c.args.word.now c.args.text.now
    (strip_prefix_is Decides-eqb c.args.text.now c.args.word.now c.strip_prefix.result c.strip_prefix.ensures.cases)
