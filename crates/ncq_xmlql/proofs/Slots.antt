-- The slots of a pattern by its parts, and counts that stop at the greatest number.
use Rattle.std.proofs.Common.{◌≡◌, ℕ, ◌+◌, List, [], ◌∷◌, length, map, refl, sym, ap, ◌∙◌}
use Rattle.std.specs.List.{sum_by}
use Rattle.std.specs.Prelude.{fold}
use Rattle.ncq_xmlql.specs.declared.model.Content.TheVariants.{Parts, Value, rolls-Parts, rolls-Value}
use Rattle.ncq_xmlql.specs.declared.model.Content.TheViews.{out-Pattern, roll-out-Pattern}
use Rattle.ncq_xmlql.specs.declared.model.Content.TheOpen.Content-F.{Parts as PartsLayer, Value as ValueLayer}
use Rattle.ncq_xmlql.specs.declared.model.Content.TheFolds.{para-Content, para-Pattern, para-roll-Content, para-roll-Pattern}
use Rattle.ncq_xmlql.specs.declared.model.Operand.{Operand}
use Rattle.ncq_xmlql.specs.declared.model.Pattern.{Pattern}
use Rattle.ncq_xmlql.specs.Counts.{suffix_slots, content_layer, pattern_layer, pattern_slots, content_slots}

sum-of-map : {X Y : Type 0} (f : Y → ℕ) (g : X → Y) (n : ℕ) (xs : List X) → fold (λ a y. a + f y) n (map g xs) ≡ fold (λ a x. a + f (g x)) n xs
sum-of-map f g n [] = refl
sum-of-map f g n (x ∷ xs) = sum-of-map f g (n + f (g x)) xs

pub slots_of_pattern : (p : Pattern) → pattern_slots p ≡ length p.attributes + content_slots p.content + suffix_slots p.suffix
unfolding pattern_slots content_slots
slots_of_pattern p =
    ap (para-Pattern ℕ ℕ content_layer pattern_layer) (sym (roll-out-Pattern p)) ∙ para-roll-Pattern ℕ ℕ content_layer pattern_layer (out-Pattern p)

pub slots_of_value : (o : Operand) → content_slots (Value o) ≡ 1
unfolding content_slots
slots_of_value o = ap (para-Content ℕ ℕ content_layer pattern_layer) (sym (rolls-Value o)) ∙ para-roll-Content ℕ ℕ content_layer pattern_layer (ValueLayer o)

pub slots_of_parts : (ps : List Pattern) → content_slots (Parts ps) ≡ sum_by pattern_slots ps
unfolding content_slots pattern_slots
slots_of_parts ps =
    ap (para-Content ℕ ℕ content_layer pattern_layer) (sym (rolls-Parts ps))
    ∙ para-roll-Content ℕ ℕ content_layer pattern_layer (PartsLayer ps)
    ∙ sum-of-map (λ p. p.1) (λ p. (p, pattern_slots p)) 0 ps

-- the slots of a pattern and of a content, by its variant
pub ruleset slots_are = (slots_of_pattern, slots_of_value, slots_of_parts)
