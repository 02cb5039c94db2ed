use Rattle.std.proofs.Common.{◌≡◌, ◌∙◌, ℕ, [], ◌∷◌, true, get_or, refl, sym, ap}
use Rattle.std.specs.Prelude.{nat_eq}
use Rattle.std.specs.List.{list_any}
use Rattle.std.proofs.lemmas.Bool.{eq-eqb}
use Rattle.std.proofs.lemmas.List.Folds.{list_any_at}
use Rattle.ncq_book.specs.Books.{timers_of}
use Rattle.ncq_live.proofs.PinLaws.{told_pins}
use Rattle.ncq_live.proofs.live_table.has_timer_behind.Goals as goal

pub returns-then-is_told_before : goal.returns-then-is_told_before
returns-then-is_told_before c = λ _ rows leaves.
    let items = c.as_slice-install-items.result.now in
    let install : ℕ = get_or items c.loop-install.install-index 0 in
    let listed : list_any (nat_eq install) (timers_of (c.args.file ∷ []) c.args.book.now.subscriptions) ≡ true =
    sym (ap (list_any (nat_eq install)) (c.as_slice-install-items.ensures ∙ c.in_ok-timers.ensures))
    ∙ list_any_at (nat_eq install) items c.loop-install.install-index 0 c.loop-install-test.true (eq-eqb install install refl) in
    told_pins c.args.file install c.args.last rows c.args.book.now.subscriptions c.facts.ensures.rise listed (c.is_told_before.ensures c.if-is_told_before.true) leaves
