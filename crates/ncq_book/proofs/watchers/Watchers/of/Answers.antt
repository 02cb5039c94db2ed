use Rattle.std.proofs.Common.{◌∙◌, ap, subst, sym}
use Rattle.std.specs.Prelude.{nat_eq}
use Rattle.std.specs.List.{list_any}
use Rattle.std.specs.List.Sorted.{IsStrictlySortedBy}
use Rattle.std.specs.Ordering.{nat_cmp}
use Rattle.ncq_book.proofs.watchers.Watchers.of.Goals as goal

pub returns-clause-watchers : goal.returns-clause-watchers
returns-clause-watchers c = λ install.
    ap (list_any (nat_eq install)) c.from_vec.ensures
    ∙ c.in_ok-installs.ensures.same install
    ∙ c.in_ok-listed.ensures install

pub returns-clause-rising : goal.returns-clause-rising
returns-clause-rising c = subst (IsStrictlySortedBy nat_cmp) (sym c.from_vec.ensures) c.in_ok-installs.ensures.rising
