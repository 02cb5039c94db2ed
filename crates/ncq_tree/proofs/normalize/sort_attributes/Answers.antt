use Rattle.std.proofs.Common.{◌∙◌, ap, rules}
use Rattle.ncq_tree.specs.Normal.{sorted}
use Rattle.ncq_tree.proofs.SortLaws.{sorted_by_names}
use Rattle.ncq_tree.proofs.normalize.sort_attributes.Goals as goal

pub returns : goal.returns
returns c =
    c.from_vec.ensures
    ∙ sorted_by_names c.into_vec-list.result.items c.sort_by.new.self.items c.in_ok-sort_by.ensures.sorted c.in_ok-sort_by.ensures.stable (λ a r q k. search rules)
    ∙ ap sorted c.into_vec-list.ensures
