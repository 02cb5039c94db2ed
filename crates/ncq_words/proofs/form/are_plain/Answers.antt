use Rattle.std.proofs.Common.{rules, tests, ◌∙◌, sym}
use Rattle.std.proofs.lemmas.Iterator.{YieldsList-from_slice}
use Rattle.std.proofs.lemmas.Iterator.Search.{all_from_yields_List}
use Rattle.ncq_words.specs.Forms.{is_plain}
use Rattle.std.proofs.lemmas.List.Folds.{list_all-map}
use Rattle.ncq_words.proofs.form.are_plain.Goals as goal

pub returns : goal.returns
returns c = all_from_yields_List (λ word. is_plain word.now) _ _ c.all.result c.all.ensures.ran (YieldsList-from_slice c.args.words.now cc) (λ x b q k. search (rules, tests))
    ∙ sym (list_all-map is_plain (λ word. word.now) c.args.words.now)
