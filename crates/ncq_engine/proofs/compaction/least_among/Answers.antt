use Rattle.std.proofs.Common.{◌∙◌, ◌≤◌, take, length, get_or, sym, ap, arith, ℕ, List}
use Rattle.std.proofs.lemmas.List.{take_all, take_more}
use Rattle.ncq_book.specs.Books.{subscription_of}
use Rattle.ncq_engine.specs.Compactions.{least_among, least_at}
use Rattle.ncq_engine.proofs.LeastLaws.{among_push}
use Rattle.ncq_engine.proofs.compaction.least_among.Goals as goal

pub loop-install-preserved : goal.loop-install-preserved
loop-install-preserved c =
    let store = c.args.store.now in
    let all = c.args.book.now.subscriptions in
    let installs = c.args.installs.now in
    let at = c.loop-install.install-index in
    let item : ℕ = get_or installs at 0 in
    c.least_at-least.ensures
    ∙ ap (least_at store (subscription_of item all)) c.loop-install.invariant
    ∙ sym (among_push store all (take at installs) item c.args.number)
    ∙ ap (λ (xs : List ℕ). least_among store all xs c.args.number) (sym (take_more installs at 0 c.loop-install-test.true))

pub returns : goal.returns
returns c =
    let past : length c.args.installs.now ≤ c.loop-install.install-index = omega (arith, c.loop-install-test.false) in
    c.loop-install.invariant ∙ ap (λ (xs : List ℕ). least_among c.args.store.now c.args.book.now.subscriptions xs c.args.number) (take_all c.loop-install.install-index c.args.installs.now past)
