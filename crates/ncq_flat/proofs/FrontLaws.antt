-- The lines that are taken from the front of a text while they are canonical.
use Rattle.std.proofs.Common.{arith, ◌≡◌, ℕ, ◌+◌, ◌<◌, ◌==◌, length, map, reverse, true, None, List, [], ◌∷◌, ◌++◌, refl, ap, sym, ◌∙◌, subst, append_assoc, append-nil}
use Rattle.std.specs.Borrow.{Bor}
use Rattle.std.proofs.lemmas.List.{length-map, length-reverse, map-append, reverse-append}
use Rattle.std.proofs.lemmas.List.Elements.{All-nil}
use Rattle.ncq_base.specs.Lines.{IsClean}
use Rattle.ncq_base.specs.Names.{is_pyx_name}
use Rattle.ncq_flat.specs.Checked.{Place, are_checked, is_checked, open_names, Takes}
use Rattle.ncq_flat.specs.Checked.Place.{Tag}
use Rattle.ncq_flat.specs.Items.{LeadsWhere, Stand}
use Rattle.ncq_flat.proofs.CheckedLaws.{first_checked}
use Rattle.ncq_flat.proofs.ItemLaws.{stand_first, stand_more}

pub open_pushed : (names : List (Bor (List ℕ))) (name : Bor (List ℕ)) → open_names (names ++ name ∷ []) ≡ name.now ∷ open_names names
open_pushed names name =
    ap reverse (map-append (λ (n : Bor (List ℕ)). n.now) names (name ∷ [])) ∙ reverse-append (map (λ (n : Bor (List ℕ)). n.now) names) (name.now ∷ [])

pub open_some : (names : List (Bor (List ℕ))) → 0 < length names → 0 < length (open_names names)
open_some names some =
    let inner = map (λ (n : Bor (List ℕ)). n.now) names in
    omega (arith, some, length-reverse inner, length-map names (λ (n : Bor (List ℕ)). n.now))

pub open_none : (names : List (Bor (List ℕ))) → length names ≡ 0 → open_names names ≡ []
open_none [] h = refl
open_none (x ∷ l) h = absurd (omega (arith, h))

-- so many lines are taken, behind which these elements are open, and that stands in front; at first those were open
abbrev pub Taken : List (List ℕ) → List (List ℕ) → Place → List ℕ → List ℕ → ℕ → Type 0
Taken first now place text rest count =
    (lines : List (List ℕ)) × (Stand lines text rest count
    × ((more : List (List ℕ)) → are_checked now place more ≡ true → are_checked first (Tag None) (lines ++ more) ≡ true))

pub taken_none : (names : List (List ℕ)) (text : List ℕ) → Taken names names (Tag None) text text 0
taken_none names text = ([], ((All-nil IsClean, (refl, refl)), (λ more h. h)))

pub taken_more : (first now next : List (List ℕ)) (place behind : Place) (text rest line more : List ℕ) (count : ℕ)
    → IsClean line → rest ≡ line ++ 10 ∷ more → Takes now place line next behind
    → Taken first now place text rest count → Taken first next behind text more (count + 1)
taken_more first now next place behind text rest line more count clean cut step t = (
  t.0 ++ line ∷ [],
  (
    stand_more t.0 text rest line more count clean cut t.1.0,
    (λ lines h. ap (are_checked first (Tag None)) (append_assoc t.0 (line ∷ []) lines) ∙ t.1.1 (line ∷ lines) (step lines h)),
  ),
)

pub taken_all : (first now : List (List ℕ)) (place : Place) (text rest : List ℕ) (count : ℕ) → now ≡ []
    → Taken first now place text rest count → LeadsWhere (are_checked first (Tag None)) text rest count
taken_all first now place text rest count none t =
    (t.0, (t.1.0, ap (are_checked first (Tag None)) (sym (append-nil t.0)) ∙ t.1.1 [] (ap (λ (n : List (List ℕ)). are_checked n place []) none)))

pub front_opened : (text line more rest : List ℕ) (mark : ℕ) (word : List ℕ) (names : List (List ℕ)) (count : ℕ)
    → IsClean line → text ≡ line ++ 10 ∷ more → line ≡ mark ∷ word → (mark == 40) ≡ true → is_pyx_name word ≡ true → names ≡ word ∷ []
    → LeadsWhere (are_checked names (Tag None)) more rest count → LeadsWhere is_checked text rest (count + 1)
front_opened text line more rest mark word names count clean cut is first named only l = (
  line ∷ l.0,
  (
    stand_first l.0 text rest line more count clean cut l.1.0,
    ap (λ (x : List ℕ). is_checked (x ∷ l.0)) is
        ∙ first_checked mark word l.0 first named (ap (λ (n : List (List ℕ)). are_checked n (Tag None) l.0) (sym only) ∙ l.1.1),
  ),
)
