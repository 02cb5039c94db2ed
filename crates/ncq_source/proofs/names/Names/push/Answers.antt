use Rattle.std.proofs.Common.{◌++◌, ◌∷◌, [], map, ap, ◌∙◌, if◌then◌else◌}
use Rattle.std.specs.Str.{bytes_eq}
use Rattle.ncq_source.proofs.Places.{any_map, map_push}
use Rattle.ncq_source.proofs.names.Names.push.Goals as goal

pub returns-clause-ok : goal.returns-clause-ok
returns-clause-ok c =
    let keys = c.self.inside.names.keys in
    let name = c.in_ok-name.name in
    let apart = rw (← c.self.view_is, ← c.in_ok-name.ensures.items) at c.requires in
    let new = c.in_ok-insert.ensures.keys ∙ ap (λ b. if b then keys else keys ++ name ∷ []) (any_map (λ v. v.items) (bytes_eq name.items) keys ∙ apart) in
    rw (← c.self.view_is, ← c.in_ok-name.ensures.items) (ap (map (λ v. v.items)) new ∙ map_push (λ v. v.items) keys name)
