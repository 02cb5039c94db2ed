-- The lines of bytes that were cut at their line feeds so far.
use Rattle.std.proofs.Common.{◌≡◌, ◌<◌, ◌++◌, ℕ, List, [], ◌∷◌, length, arith, ◌∙◌, ap, refl, append_assoc, length-append}
use Rattle.std.specs.Prelude.{All, map}
use Rattle.std.specs.List.{slice_split, flat_map}
use Rattle.std.proofs.lemmas.List.Splits.{slice_split_at, slice_split_none, length-slice_split}
use Rattle.std.proofs.lemmas.List.Elements.{All-head, All-tail}
use Rattle.ncq_script.specs.Lines.{LineText, line_at, lines, whole_lines, last_line, lines_of_parts, whole_of_parts}
use Rattle.ncq_base.specs.Lines.{is_feed, IsClean, ended}

pub split_given : (given : List (List ℕ)) (more : List ℕ) → All IsClean given → slice_split is_feed (flat_map ended given ++ more) ≡ given ++ slice_split is_feed more
split_given [] more clean = refl
split_given (part ∷ given) more clean =
    rw (append_assoc (part ++ 10 ∷ []) (flat_map ended given) more, append_assoc part (10 ∷ []) (flat_map ended given ++ more))
    (slice_split_at is_feed part 10 (flat_map ended given ++ more) (All-head IsClean part given clean) refl ∙ ap (λ (ps : List (List ℕ)). part ∷ ps) (split_given given more (All-tail IsClean part given clean)))

pub whole_more : (limit : ℕ) (part : List ℕ) (parts : List (List ℕ)) → 0 < length parts → whole_of_parts limit (part ∷ parts) ≡ line_at limit part ∷ whole_of_parts limit parts
whole_more limit part [] some = absurd (omega arith)
whole_more limit part (next ∷ parts) some = refl

pub lines_more : (limit : ℕ) (part : List ℕ) (parts : List (List ℕ)) → 0 < length parts → lines_of_parts limit (part ∷ parts) ≡ line_at limit part ∷ lines_of_parts limit parts
lines_more limit part [] some = absurd (omega arith)
lines_more limit part (next ∷ parts) some = refl

pub whole_given : (limit : ℕ) (given parts : List (List ℕ)) → 0 < length parts → whole_of_parts limit (given ++ parts) ≡ map (line_at limit) given ++ whole_of_parts limit parts
whole_given limit [] parts some = refl
whole_given limit (part ∷ given) parts some =
    let longer : 0 < length (given ++ parts) = omega (arith, length-append given parts) in
    whole_more limit part (given ++ parts) longer ∙ ap (λ (ls : List LineText). line_at limit part ∷ ls) (whole_given limit given parts some)

pub lines_given : (limit : ℕ) (given parts : List (List ℕ)) → 0 < length parts → lines_of_parts limit (given ++ parts) ≡ map (line_at limit) given ++ lines_of_parts limit parts
lines_given limit [] parts some = refl
lines_given limit (part ∷ given) parts some =
    let longer : 0 < length (given ++ parts) = omega (arith, length-append given parts) in
    lines_more limit part (given ++ parts) longer ∙ ap (λ (ls : List LineText). line_at limit part ∷ ls) (lines_given limit given parts some)

split_some : (bytes : List ℕ) → 0 < length (slice_split is_feed bytes)
split_some bytes = omega (arith, length-slice_split is_feed bytes)

-- what the lines are, where the bytes were cut so far
pub whole_are : (limit : ℕ) (given : List (List ℕ)) (more : List ℕ) → All IsClean given → whole_lines limit (flat_map ended given ++ more) ≡ map (line_at limit) given ++ whole_lines limit more
unfolding whole_lines
whole_are limit given more clean = ap (whole_of_parts limit) (split_given given more clean) ∙ whole_given limit given (slice_split is_feed more) (split_some more)

pub lines_are : (limit : ℕ) (given : List (List ℕ)) (more : List ℕ) → All IsClean given → lines limit (flat_map ended given ++ more) ≡ map (line_at limit) given ++ lines limit more
unfolding lines
lines_are limit given more clean = ap (lines_of_parts limit) (split_given given more clean) ∙ lines_given limit given (slice_split is_feed more) (split_some more)

-- one more line
pub whole_next : (limit : ℕ) (part rest : List ℕ) → IsClean part → whole_lines limit (part ++ 10 ∷ rest) ≡ line_at limit part ∷ whole_lines limit rest
unfolding whole_lines
whole_next limit part rest clean = ap (whole_of_parts limit) (slice_split_at is_feed part 10 rest clean refl) ∙ whole_more limit part (slice_split is_feed rest) (split_some rest)

pub lines_next : (limit : ℕ) (part rest : List ℕ) → IsClean part → lines limit (part ++ 10 ∷ rest) ≡ line_at limit part ∷ lines limit rest
unfolding lines
lines_next limit part rest clean = ap (lines_of_parts limit) (slice_split_at is_feed part 10 rest clean refl) ∙ lines_more limit part (slice_split is_feed rest) (split_some rest)

-- none is whole
pub whole_none : (limit : ℕ) (part : List ℕ) → IsClean part → whole_lines limit part ≡ []
unfolding whole_lines
whole_none limit part clean = ap (whole_of_parts limit) (slice_split_none is_feed part clean)

pub lines_last : (limit : ℕ) (part : List ℕ) → IsClean part → lines limit part ≡ last_line limit part
unfolding lines
lines_last limit part clean = ap (lines_of_parts limit) (slice_split_none is_feed part clean)
