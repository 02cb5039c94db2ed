use Rattle.std.proofs.Common.{◌≡◌, List, ℕ, true, None, ap, ◌∙◌, subst, rules}
use Rattle.ncq_base.specs.Names.{is_pyx_name}
use Rattle.ncq_flat.specs.Checked.{are_checked, open_names}
use Rattle.ncq_flat.specs.Checked.Place.{Tag}
use Rattle.ncq_flat.proofs.CheckedLaws.{opening_taken}
use Rattle.ncq_flat.proofs.FrontLaws.{open_pushed, open_some}
use Rattle.ncq_flat.proofs.checking.take_opening.Goals as goal

pub returns : goal.returns
returns c = λ place lines h.
    let names = c.args.names.now.items in
    let e = ap open_names c.in_ok-push.ensures.items ∙ open_pushed names c.args.word in
    let named : is_pyx_name c.args.word.now ≡ true = search rules in
    opening_taken (open_names names) c.args.word.now place (open_some names c.requires) named lines
    (subst (λ (l : List (List ℕ)). are_checked l (Tag None) lines ≡ true) e h)
