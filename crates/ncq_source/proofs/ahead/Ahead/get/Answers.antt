use Rattle.std.proofs.Common.{◌≡◌, None, ap, ◌∙◌, sym}
use Rattle.std.specs.Option.{unwrap_or, option_copied}
use Rattle.std.specs.Map.{lookup}
use Rattle.std.specs.FinMap.{get}
use Rattle.std.specs.Str.{bytes_eq}
use Rattle.ncq_source.specs.Held.{changes_of, map_of, over}
use Rattle.ncq_source.proofs.Over.{get_over}
use Rattle.ncq_source.proofs.ahead.Ahead.get.Goals as goal

pub returns-in-Some-get : goal.returns-in-Some-get
returns-in-Some-get c =
    let kept = map_of c.self.inside.elements.now.pairs in
    let key = c.args.key.now in
    rw (← c.self.view_is)
    (c.as_ref.ensures.value ∙ sym (get_over kept c.in-Some.changed.entries key ∙ ap (λ o. unwrap_or o (get kept key)) (sym c.in-Some-get.ensures.value))
    ∙ ap (λ o. get (over kept (changes_of o)) key) (sym c.in-Some.is))

pub returns-in-None : goal.returns-in-None
returns-in-None c =
    let kept = map_of c.self.inside.elements.now.pairs in
    let key = c.args.key.now in
    let found : lookup (bytes_eq key) c.in-Some.changed.entries ≡ None = sym c.get-2.ensures.value ∙ ap option_copied c.in-None.is in
    rw (← c.self.view_is)
    (c.get-in-None.ensures ∙ sym (get_over kept c.in-Some.changed.entries key ∙ ap (λ o. unwrap_or o (get kept key)) found)
    ∙ ap (λ o. get (over kept (changes_of o)) key) (sym c.in-Some.is))
