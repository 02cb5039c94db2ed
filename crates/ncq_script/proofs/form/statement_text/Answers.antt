use Rattle.std.proofs.Common.{◌≡◌, ◌++◌, ◌∷◌, ◌∙◌, [], ap, ℕ, List}
use Rattle.std.specs.List.{flat_map}
use Rattle.ncq_script.specs.Forms.{next_line}
use Rattle.ncq_script.proofs.TextLaws.{text_fed, text_popped}
use Rattle.ncq_script.proofs.form.statement_text.Goals as goal

pub returns : goal.returns
returns c =
    let head : List ℕ = c.args.command.now.head in
    let block : List (List ℕ) = c.args.command.now.block in
    let whole : c.extend_from_slice.new.self.items ≡ (head ++ flat_map next_line block) ++ 10 ∷ [] =
    c.in_ok-extend_from_slice.ensures.items ∙ (λ i. (c.in_ok-push.ensures.items ∙ ap (λ (xs : List ℕ). xs ++ 10 ∷ []) (c.in_ok-text.ensures.items ∙ c.as_slice.ensures)) i ++ c.text.ensures.bytes i) ∙ text_fed head block in
    c.pop.ensures.rest ∙ text_popped c.extend_from_slice.new.self.items (head ++ flat_map next_line block) _ whole c.extend_from_slice.new.self.ok.0
