-- Taking bytes off the front of a text, one after another.
use Rattle.std.proofs.Common.{◌≡◌, ℕ, ◌+◌, ◌<◌, ◌≤◌, Bool, true, ◌&&◌, List, [], ◌∷◌, ◌++◌, length, drop, get_or, refl, ap, sym, ◌∙◌, subst, append_assoc, Option, Some, None}
use Rattle.std.specs.Prelude.{◌↔◌, ◌≢◌, MatchOption}
use Rattle.std.specs.Borrow.{Bor}
use Rattle.std.proofs.lemmas.Bool.{and_from}
use Rattle.std.proofs.lemmas.List.{append_cancel_left, at_drop_more, at_drop_all}
use Rattle.ncq_base.proofs.Tests.{both_true}
use Rattle.ncq_flat.specs.Rests.{Leaves, LeavesNone, IsRest}

-- the same bytes, allowed by the same test
pub same_rest : (found : Option (Bor (List ℕ))) (text : List ℕ) (p q : Bool) (a b : List ℕ) → p ≡ q → a ≡ b → IsRest found p a text → IsRest found q b text
same_rest found text p q a b same bytes rest = subst (λ v. IsRest found q v text) bytes (subst (λ v. IsRest found v a text) same rest)

-- bytes behind bytes
module _ (p q : Bool) (a b text : List ℕ) where
  leaves_two : (middle rest : List ℕ) → Leaves p a text middle → Leaves q b middle rest → Leaves (p && q) (a ++ b) text rest
  leaves_two middle rest one two = record {
    is_allowed = and_from p q one.is_allowed two.is_allowed;
    front = one.front ∙ ap (λ v. a ++ v) two.front ∙ sym (append_assoc a b rest);
  }

  -- what both leave the first leaves something of
  leaves_one : (rest : List ℕ) → Leaves (p && q) (a ++ b) text rest → Leaves p a text (b ++ rest)
  leaves_one rest both = record {
    is_allowed = (both_true p q both.is_allowed).0;
    front = both.front ∙ append_assoc a b rest;
  }

  leaves_other : (middle rest : List ℕ) → Leaves p a text middle → Leaves (p && q) (a ++ b) text rest → Leaves q b middle rest
  leaves_other middle rest one both = record {
    is_allowed = (both_true p q both.is_allowed).1;
    front = append_cancel_left a middle (b ++ rest) (sym one.front ∙ both.front ∙ append_assoc a b rest);
  }

  pub none_first : LeavesNone p a text → LeavesNone (p && q) (a ++ b) text
  none_first none rest both = none (b ++ rest) (leaves_one rest both)

  pub none_then : (middle : List ℕ) → Leaves p a text middle → LeavesNone q b middle → LeavesNone (p && q) (a ++ b) text
  none_then middle one none rest both = none rest (leaves_other middle rest one both)

-- the rest behind the second bytes is that behind both
pub rest_then : (found : Option (Bor (List ℕ))) (p q : Bool) (a b text middle : List ℕ) → Leaves p a text middle → IsRest found q b middle → IsRest found (p && q) (a ++ b) text
rest_then None p q a b text middle one none = none_then p q a b text middle one none
rest_then (Some rest) p q a b text middle one two = leaves_two p q a b text middle rest.now one two

-- what is left behind bytes of one text is left behind others of another
abbrev pub SameRests : Bool → List ℕ → List ℕ → Bool → List ℕ → List ℕ → Type 0
SameRests p a text q b other = (rest : List ℕ) → Leaves p a text rest ↔ Leaves q b other rest

-- a loop over items, each with its bytes and whether these are allowed: what is left decides
module _ {X : Type 0} (p : X → Bool) (f : X → List ℕ) (P : List X → Bool) (F : List X → List ℕ)
    (step : (x : X) (xs : List X) → (P (x ∷ xs) ≡ (p x && P xs)) × (F (x ∷ xs) ≡ f x ++ F xs))
    (none : (P [] ≡ true) × (F [] ≡ []))
    (xs : List X) (i : ℕ) (whole text : List ℕ)
    (left : SameRests (P xs) (F xs) whole (P (drop i xs)) (F (drop i xs)) text) where
  pub left_all : length xs ≤ i → Leaves (P xs) (F xs) whole text
  left_all end = (left text).1 (record {
    is_allowed = at_drop_all P xs i end ∙ none.0;
    front = ap (λ v. v ++ text) (sym (at_drop_all F xs i end ∙ none.1));
  })

  module _ (x : X) (is : x ≡ get_or xs i x) (here : i < length xs) where
    at_item : {A : Type 0} (G : List X → A) → G (drop i xs) ≡ G (x ∷ drop (i + 1) xs)
    at_item G = at_drop_more G xs i x here ∙ ap (λ v. G (v ∷ drop (i + 1) xs)) (sym is)

    left_item : (rest : List ℕ) → Leaves (P xs) (F xs) whole rest ↔ Leaves (p x && P (drop (i + 1) xs)) (f x ++ F (drop (i + 1) xs)) text rest
    left_item rest =
        let allowed : P (drop i xs) ≡ (p x && P (drop (i + 1) xs)) = at_item P ∙ (step x (drop (i + 1) xs)).0 in
        let bytes : F (drop i xs) ≡ f x ++ F (drop (i + 1) xs) = at_item F ∙ (step x (drop (i + 1) xs)).1 in (
          λ h. let now = (left rest).0 h in record { is_allowed = sym allowed ∙ now.is_allowed; front = now.front ∙ ap (λ v. v ++ rest) bytes },
          λ h. (left rest).1 (record { is_allowed = allowed ∙ h.is_allowed; front = h.front ∙ ap (λ v. v ++ rest) (sym bytes) }),
        )

    pub left_more : (middle : List ℕ) → Leaves (p x) (f x) text middle → SameRests (P xs) (F xs) whole (P (drop (i + 1) xs)) (F (drop (i + 1) xs)) middle
    left_more middle one rest =
        let more = drop (i + 1) xs in (
          λ h. leaves_other (p x) (P more) (f x) (F more) text middle rest one ((left_item rest).0 h),
          λ h. (left_item rest).1 (leaves_two (p x) (P more) (f x) (F more) text middle rest one h),
        )

    pub left_none : LeavesNone (p x) (f x) text → LeavesNone (P xs) (F xs) whole
    left_none stops rest h = none_first (p x) (P (drop (i + 1) xs)) (f x) (F (drop (i + 1) xs)) text stops rest ((left_item rest).0 h)

-- what `strip_prefix` says
pub word_rest : (found : Option (Bor (List ℕ))) (word text : List ℕ) → MatchOption found ((rest : List ℕ) → text ≢ word ++ rest) (λ rest. text ≡ word ++ rest.now) → IsRest found true word text
word_rest None word text none = λ rest h. none rest h.front
word_rest (Some rest) word text front = record { is_allowed = refl; front = front }
