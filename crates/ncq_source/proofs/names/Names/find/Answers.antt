use Rattle.std.proofs.Common.{ap, position, is_some, ◌∙◌}
use Rattle.std.specs.Str.{bytes_eq}
use Rattle.ncq_source.proofs.Places.{position_map, any_map, place_any}
use Rattle.ncq_source.proofs.names.Names.find.Goals as goal

pub returns-clause-place : goal.returns-clause-place
returns-clause-place c = rw (← c.self.view_is) (c.get_index_of.ensures.index ∙ position_map (λ v. v.items) (bytes_eq c.args.name.now) c.self.inside.names.keys)

pub returns-clause-there : goal.returns-clause-there
returns-clause-there c = rw (← c.self.view_is) (c.get_index_of.ensures.found ∙ any_map (λ v. v.items) (bytes_eq c.args.name.now) c.self.inside.names.keys)

pub returns-then-len-le-FEW-clause-place : goal.returns-then-len-le-FEW-clause-place
returns-then-len-le-FEW-clause-place c =
    rw (← c.self.view_is)
    (c.place_among.ensures.place
    ∙ ap (position (λ v. bytes_eq c.args.name.now v.items)) c.as_slice.ensures.keys
    ∙ position_map (λ v. v.items) (bytes_eq c.args.name.now) c.self.inside.names.keys)

pub returns-then-len-le-FEW-clause-there : goal.returns-then-len-le-FEW-clause-there
returns-then-len-le-FEW-clause-there c =
    rw (← c.self.view_is)
    (ap is_some (c.place_among.ensures.place
    ∙ ap (position (λ v. bytes_eq c.args.name.now v.items)) c.as_slice.ensures.keys)
    ∙ place_any (λ v. bytes_eq c.args.name.now v.items) c.self.inside.names.keys
    ∙ any_map (λ v. v.items) (bytes_eq c.args.name.now) c.self.inside.names.keys)
