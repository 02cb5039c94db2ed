use Rattle.std.proofs.Common.{◌≡◌, ℕ, Bool, Some, None, Option, is_some, sym, ◌∙◌, subst, true≢false}
use Rattle.std.specs.Prelude.{◌↔◌, IsTrue}
use Rattle.std.specs.FinMap.{get}
use Rattle.std.specs.Map.{lookup}
use Rattle.std.specs.Option.{option_map}
use Rattle.std.specs.Prelude.{nat_eq}
use Rattle.ncq_shelf.specs.KeptFiles.{KeptFile, Files}
use Rattle.ncq_shelf.specs.Shown.{state_of}
use Rattle.ncq_shelf.specs.Stands.{IsThere}
use Rattle.ncq_shelf.proofs.Maps.{there}
use Rattle.ncq_shelf.proofs.ShownFiles.{get_shown}
use Rattle.ncq_shelf.proofs.shelf.Shelf.has.Goals as goal

there_if : {X : Type 0} (files : Files) (number : ℕ) (f : X → KeptFile) (b : Bool) (o : Option X) → get files number ≡ option_map f o → b ≡ is_some o → IsTrue b ↔ IsThere files number
there_if files number f b None at e = (λ t. absurd (true≢false (sym t ∙ e)), λ is. absurd (there is.at at))
there_if files number f b (Some x) at e = (λ _. record { file = f x; at = at }, λ _. e)

pub returns : goal.returns
returns c =
    subst (λ f. IsTrue c.contains_key.result ↔ IsThere f c.args.number) c.self.view_is
    (there_if _ c.args.number (state_of c.self.inside.groups.entries) c.contains_key.result (lookup (nat_eq c.args.number) c.self.inside.files.entries)
    (get_shown c.self.inside.groups.entries c.self.inside.files.entries c.args.number) c.contains_key.ensures)
