use Rattle.std.proofs.Common.{◌∷◌, ℕ, sym, subst}
use Rattle.std.proofs.lemmas.Option.{IfSome_then}
use Rattle.std.proofs.lemmas.Result.{IfOk-weaker}
use Rattle.ncq_flat.specs.Checked.{Takes, open_names, place_of}
use Rattle.ncq_flat.proofs.checking.take_line.Goals as goal

pub returns-in-40 : goal.returns-in-40
returns-in-40 c =
    IfOk-weaker c.take_opening.result _ _ (λ next some. IfSome_then next some (λ behind taken.
    subst (λ (m : ℕ). Takes (open_names c.args.names.now.items) (place_of c.args.place) (m ∷ c.args.word.now) (open_names c.take_opening.new.names.items) (place_of behind)) (sym c.in-40.is) (taken (place_of c.args.place)))) c.take_opening.ensures

pub returns-in-41 : goal.returns-in-41
returns-in-41 c =
    IfSome_then c.take_closing.result c.take_closing.ensures (λ behind taken.
    subst (λ (m : ℕ). Takes (open_names c.args.names.now.items) (place_of c.args.place) (m ∷ c.args.word.now) (open_names c.take_closing.new.names.items) (place_of behind)) (sym c.in-41.is) (taken (place_of c.args.place)))
