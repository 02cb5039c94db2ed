use Rattle.std.proofs.Common.{◌≡◌, ℕ, ◌<◌, ◌++◌, length, sym, ap, ◌∙◌, subst, arith}
use Rattle.std.specs.List.{All}
use Rattle.std.proofs.lemmas.List.Elements.{All-append, All-from_recursion}
use Rattle.ncq_midfile.specs.Content.{AreRising, signed_at, since}
use Rattle.ncq_midfile.specs.Files.{AreLeftAt}
use Rattle.ncq_midfile.proofs.LeftAt.{early_below, front_left, gains_there, rising_append}
use Rattle.ncq_midfile.proofs.Parts.{range_below, range_rises, signed_at-append}
use Rattle.ncq_midfile.proofs.Withins.{back_signed}
use Rattle.ncq_midfile.proofs.compact.left_at.Goals as goal

pub returns-clause-rising : goal.returns-clause-rising
returns-clause-rising c =
    let early = c.count_up_to-early.result in
    let counts = c.count_up_to-early.ensures in
    let places = c.in_ok-places.places in
    let below = early_below c.args.n early c.args.rows.now places counts.within counts.front c.in_ok-places.ensures.early in
    subst (AreRising 0) (sym c.in_ok-append.ensures.ok)
    (rising_append 0 early places c.in_ok-later.later (omega arith) c.in_ok-places.ensures.rising below
    (subst (AreRising early) (sym c.in_ok-later.ensures) (range_rises early _)))

pub returns-clause-within : goal.returns-clause-within
returns-clause-within c =
    let early = c.count_up_to-early.result in
    let within = c.count_up_to-early.ensures.within in
    let below = λ (place : ℕ). place < length c.args.rows.now in
    subst (All below) (sym c.in_ok-append.ensures.ok)
    (All-append below c.in_ok-places.places c.in_ok-later.later c.in_ok-places.ensures.within
    (subst (All below) (sym c.in_ok-later.ensures) (All-from_recursion below _ (range_below early _ (length c.args.rows.now) (omega arith)))))

pub returns-clause-left : goal.returns-clause-left
returns-clause-left c =
    let n = c.args.n in
    let rows = c.args.rows.now in
    let early = c.count_up_to-early.result in
    let counts = c.count_up_to-early.ensures in
    let within = counts.within in
    let places = c.in_ok-places.places in
    let says = c.in_ok-places.ensures in
    let below = early_below n early rows places within counts.front says.early in
    let behind : signed_at c.in_ok-later.later rows ≡ since n rows =
    ap (λ ps. signed_at ps rows) c.in_ok-later.ensures ∙ back_signed early _ rows (omega arith) ∙ sym counts.back in
    let both : signed_at c.append.new.self rows ≡ signed_at places rows ++ since n rows =
    ap (λ ps. signed_at ps rows) c.in_ok-append.ensures.ok ∙ signed_at-append places c.in_ok-later.later rows ∙ ap (λ rs. signed_at places rows ++ rs) behind in
    subst (AreLeftAt n rows) (sym both)
    (front_left n rows (signed_at places rows) (gains_there n early rows places counts.front says.gains below) says.content)
