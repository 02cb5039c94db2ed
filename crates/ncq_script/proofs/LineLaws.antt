-- What callers use of the lines of a script.
use Rattle.std.proofs.Common.{◌≡◌, ◌≤◌, ◌++◌, inl, inr, ℕ, Bool, true, false, List, [], ◌∷◌, length, arith, sym, ◌∙◌, ap, refl, append_assoc, length-append}
use Rattle.std.specs.Prelude.{All, map}
use Rattle.std.specs.List.{flat_map}
use Rattle.std.proofs.lemmas.Bool.{cases_Bool}
use Rattle.std.proofs.lemmas.Bool.Decides.{nat_tests}
use Rattle.std.proofs.lemmas.List.{append-nil, length-map}
use Rattle.std.proofs.lemmas.List.Elements.{All-nil, All-cons, All-head, All-tail}
use Rattle.ncq_script.specs.Lines.{LineText, line_at, last_line, lines, whole_lines, known_lines}
use Rattle.ncq_base.specs.Lines.{is_feed, IsClean, ended}
use Rattle.ncq_script.proofs.Cut.{whole_are, lines_are, whole_none, lines_last}

record IsCut (bytes : List ℕ) : Type 0 where
  given : List (List ℕ)
  part : List ℕ
  clean : All IsClean given
  clean_part : IsClean part
  is : bytes ≡ flat_map ended given ++ part

cut_feed : (b : ℕ) (bytes : List ℕ) → b ≡ 10 → IsCut bytes → IsCut (b ∷ bytes)
cut_feed b bytes e c = record { given = [] ∷ c.given; part = c.part; clean = All-cons IsClean [] c.given (All-nil (λ (x : ℕ). is_feed x ≡ false)) c.clean; clean_part = c.clean_part; is = rw e (ap (λ (xs : List ℕ). 10 ∷ xs) c.is) }

cut_onto : (b : ℕ) (bytes : List ℕ) → is_feed b ≡ false → (given : List (List ℕ)) (part : List ℕ) → All IsClean given → IsClean part → bytes ≡ flat_map ended given ++ part → IsCut (b ∷ bytes)
cut_onto b bytes n [] part clean clean_part e = record { given = []; part = b ∷ part; clean = clean; clean_part = All-cons (λ (x : ℕ). is_feed x ≡ false) b part n clean_part; is = ap (λ (xs : List ℕ). b ∷ xs) e }
cut_onto b bytes n (first ∷ given) part clean clean_part e = record {
  given = (b ∷ first) ∷ given;
  part = part;
  clean = All-cons IsClean (b ∷ first) given (All-cons (λ (x : ℕ). is_feed x ≡ false) b first n (All-head IsClean first given clean)) (All-tail IsClean first given clean);
  clean_part = clean_part;
  is = ap (λ (xs : List ℕ). b ∷ xs) e;
}

cut_of : (bytes : List ℕ) → IsCut bytes
cut_of [] = record { given = []; part = []; clean = All-nil IsClean; clean_part = All-nil (λ (x : ℕ). is_feed x ≡ false); is = refl }
cut_of (b ∷ bytes) =
    let c = cut_of bytes in
    elim (cases_Bool (is_feed b)) [
      | inl is_ten ↦ let ten : b ≡ 10 = grind (arith, nat_tests) in cut_feed b bytes ten c
      | inr other ↦ cut_onto b bytes other c.given c.part c.clean c.clean_part c.is
    ]

whole_is : (limit : ℕ) (bytes : List ℕ) (c : IsCut bytes) → whole_lines limit bytes ≡ map (line_at limit) c.given
whole_is limit bytes c = ap (whole_lines limit) c.is ∙ whole_are limit c.given c.part c.clean ∙ ap (λ (ls : List LineText). map (line_at limit) c.given ++ ls) (whole_none limit c.part c.clean_part) ∙ append-nil _

-- more bytes leave the whole lines in front
pub whole_grow : (limit : ℕ) (bytes more : List ℕ) → (others : List LineText) × (whole_lines limit (bytes ++ more) ≡ whole_lines limit bytes ++ others)
whole_grow limit bytes more =
    let c = cut_of bytes in (
      whole_lines limit (c.part ++ more),
      ap (λ (xs : List ℕ). whole_lines limit (xs ++ more)) c.is ∙ ap (whole_lines limit) (append_assoc (flat_map ended c.given) c.part more) ∙ whole_are limit c.given (c.part ++ more) c.clean
          ∙ ap (λ (ls : List LineText). ls ++ whole_lines limit (c.part ++ more)) (sym (whole_is limit bytes c)),
    )

pub lines_grow : (limit : ℕ) (bytes more : List ℕ) → (others : List LineText) × (lines limit (bytes ++ more) ≡ whole_lines limit bytes ++ others)
lines_grow limit bytes more =
    let c = cut_of bytes in (
      lines limit (c.part ++ more),
      ap (λ (xs : List ℕ). lines limit (xs ++ more)) c.is ∙ ap (lines limit) (append_assoc (flat_map ended c.given) c.part more) ∙ lines_are limit c.given (c.part ++ more) c.clean
          ∙ ap (λ (ls : List LineText). ls ++ lines limit (c.part ++ more)) (sym (whole_is limit bytes c)),
    )

few_given : (given : List (List ℕ)) → length given ≤ length (flat_map ended given)
few_given [] = omega arith
few_given (part ∷ given) = omega (arith, few_given given, length-append (part ++ 10 ∷ []) (flat_map ended given), length-append part (10 ∷ []))

few_last : (limit : ℕ) (part : List ℕ) → length (last_line limit part) ≤ length part
few_last limit [] = omega arith
few_last limit (b ∷ part) = omega arith

-- each line takes a byte
pub few_lines : (limit : ℕ) (bytes : List ℕ) → length (lines limit bytes) ≤ length bytes
few_lines limit bytes =
    let c = cut_of bytes in
    let e : lines limit bytes ≡ map (line_at limit) c.given ++ last_line limit c.part = ap (lines limit) c.is ∙ lines_are limit c.given c.part c.clean ∙ ap (λ (ls : List LineText). map (line_at limit) c.given ++ ls) (lines_last limit c.part c.clean_part) in
    omega (arith, ap length e, ap length c.is, length-append (map (line_at limit) c.given) (last_line limit c.part), length-map c.given (line_at limit), few_given c.given, few_last limit c.part, length-append (flat_map ended c.given) c.part)

pub few_whole : (limit : ℕ) (bytes : List ℕ) → length (whole_lines limit bytes) ≤ length bytes
few_whole limit bytes =
    let c = cut_of bytes in
    omega (arith, ap length (whole_is limit bytes c), ap length c.is, length-map c.given (line_at limit), few_given c.given, length-append (flat_map ended c.given) c.part)

pub few_known : (limit : ℕ) (finished : Bool) (bytes : List ℕ) → length (known_lines limit finished bytes) ≤ length bytes
few_known limit true bytes = few_lines limit bytes
few_known limit false bytes = few_whole limit bytes
