-- The names and kinds of handlers, one more of them, and the handler of an action.
use Rattle.std.proofs.Common.{◌≡◌, ℕ, zero, suc, ◌+◌, ◌<◌, Bool, true, false, not, cond, List, [], ◌∷◌, ◌++◌, length, take, slice_get, get_or, refl, sym, ◌∙◌, ap, arith, true≢false, ◌⊎◌, inl, inr}
use mathlib.Core.Bool.{beq}
use Rattle.std.specs.Prelude.{Option, Some, None, nat_lt, position, IfSome, if◌then◌else◌}
use Rattle.std.specs.Option.{option_and_then, is_some, is_none}
use Rattle.std.specs.List.{position_or_len}
use Rattle.std.specs.Str.{bytes_eq}
use Rattle.std.proofs.lemmas.Bool.Decides.{nat_tests}
use Rattle.ncq_callback.specs.Labels.{Label}
use Rattle.ncq_callback.specs.declared.notice.Kind.{Kind}
use Rattle.ncq_callback.specs.declared.notice.Kind.TheVariants.{Print, Count, MailTo}
use Rattle.ncq_engine.specs.Applies.{kind_at}
use Rattle.ncq_engine.specs.Notices.{kind_in, name_at}
use Rattle.ncq_engine.specs.Output.{is_at_odds}
use Rattle.ncq_engine.proofs.HistoryLaws.{key_is}

-- one more name and kind
next_label : (xs : List Label) (at : ℕ) (name : List ℕ) (kind : Kind) → at < length xs
    → IfSome (slice_get xs at) (λ label. name ≡ label.0) → IfSome (slice_get xs at) (λ label. kind ≡ label.1) → take at xs ++ (name, kind) ∷ [] ≡ take (suc at) xs
next_label [] at name kind less n k = absurd (omega (arith, less))
next_label (x ∷ xs) zero name kind less n k = λ i. (n i, k i) ∷ []
next_label (x ∷ xs) (suc at) name kind less n k = ap (λ (l : List Label). x ∷ l) (next_label xs at name kind (let l : at < length xs = omega (arith, less) in l) n k)

pub label_more : (xs : List Label) (at : ℕ) (name copied : List ℕ) (kind : Kind) (found found' : List Label) → at < length xs
    → IfSome (slice_get xs at) (λ label. name ≡ label.0) → IfSome (slice_get xs at) (λ label. kind ≡ label.1) → copied ≡ name
    → found ≡ take at xs → found' ≡ found ++ (copied, kind) ∷ [] → found' ≡ take (at + 1) xs
label_more xs at name copied kind found found' less n k same was more =
    more ∙ (λ i. was i ++ (same i, kind) ∷ []) ∙ next_label xs at name kind less n k ∙ (let e : suc at ≡ at + 1 = omega arith in ap (λ m. take m xs) e)

-- the kind at a place
pub kind_is : (xs : List Label) (at : ℕ) (kind : Kind) → at < length xs → IfSome (slice_get xs at) (λ label. kind ≡ label.1) → kind_at xs at ≡ Some kind
kind_is [] at kind less k = absurd (omega (arith, less))
kind_is (x ∷ xs) zero kind less k = ap (λ (l : Kind). Some l) (sym k)
kind_is (x ∷ xs) (suc at) kind less k = kind_is xs at kind (let l : at < length xs = omega (arith, less) in l) k

-- the place of a name has its kind
kind_place : (name : List ℕ) (all : List Label)
    → option_and_then (kind_at all) (cond (nat_lt (position_or_len (λ label. bytes_eq name label.0) all) (length all)) (Some (position_or_len (λ label. bytes_eq name label.0) all)) None) ≡ kind_in name all
kind_place name [] = refl
kind_place name (d ∷ all) =
    elim (bytes_eq name d.0) as (λ t. option_and_then (kind_at (d ∷ all))
    (cond (nat_lt (cond (not t) (1 + position_or_len (λ label. bytes_eq name label.0) all) 0) (suc (length all))) (Some (cond (not t) (1 + position_or_len (λ label. bytes_eq name label.0) all) 0)) None)
    ≡ (if t then Some d.1 else kind_in name all)) [
      | true ↦
          let w : nat_lt 0 (suc (length all)) ≡ true = grind (arith, nat_tests) in
          λ i. option_and_then (kind_at (d ∷ all)) (cond (w i) (Some 0) None)
      | false ↦ behind (position_or_len (λ label. bytes_eq name label.0) all) (kind_place name all)
    ]
  where
    behind : (k : ℕ) → option_and_then (kind_at all) (cond (nat_lt k (length all)) (Some k) None) ≡ kind_in name all
        → option_and_then (kind_at (d ∷ all)) (cond (nat_lt (1 + k) (suc (length all))) (Some (1 + k)) None) ≡ kind_in name all
    behind k e = elim (nat_lt k (length all)) as (λ t. nat_lt k (length all) ≡ t
        → option_and_then (kind_at all) (cond t (Some k) None) ≡ kind_in name all
        → option_and_then (kind_at (d ∷ all)) (cond (nat_lt (1 + k) (suc (length all))) (Some (1 + k)) None) ≡ kind_in name all) [
          | true ↦ λ p q.
              let w : nat_lt (1 + k) (suc (length all)) ≡ true = grind (arith, nat_tests, p) in
              let n : 1 + k ≡ suc k = omega arith in
              (λ i. option_and_then (kind_at (d ∷ all)) (cond (w i) (Some (n i)) None)) ∙ q
          | false ↦ λ p q. let w : nat_lt (1 + k) (suc (length all)) ≡ false = grind (arith, nat_tests, p) in (λ i. option_and_then (kind_at (d ∷ all)) (cond (w i) (Some (1 + k)) None)) ∙ q
        ] refl e

pub found_kind : (name : List ℕ) (xs : List Label) (at : ℕ) → position (λ label. bytes_eq name label.0) xs ≡ Some at → kind_at xs at ≡ kind_in name xs
found_kind name xs at e = ap (option_and_then (kind_at xs)) (sym e) ∙ kind_place name xs

-- and its own name
pub found_name : (name : List ℕ) (xs : List Label) (at : ℕ) (d : Label) → at < length xs → bytes_eq name (get_or xs at d).0 ≡ true → name_at xs at ≡ Some name
found_name name [] at d less e = absurd (omega (arith, less))
found_name name (x ∷ xs) zero d less e = ap (λ (n : List ℕ). Some n) (sym (key_is name x.0 e))
found_name name (x ∷ xs) (suc at) d less e = found_name name xs at d (let l : at < length xs = omega (arith, less) in l) e

pub no_kind : (name : List ℕ) (xs : List Label) → position (λ label. bytes_eq name label.0) xs ≡ None → kind_in name xs ≡ None
no_kind name xs e = sym (kind_place name xs) ∙ ap (option_and_then (kind_at xs)) e

pub odds_of_print : (kind : Kind) (argument : Option (List ℕ)) → (kind ≡ Print) ⊎ (kind ≡ Count) → is_at_odds (Some kind) argument ≡ is_some argument
odds_of_print kind argument h = elim h [ inl e ↦ ap (λ k. is_at_odds (Some k) argument) e | inr e ↦ ap (λ k. is_at_odds (Some k) argument) e ]

pub odds_of_mail : (kind : Kind) (argument : Option (List ℕ)) → kind ≡ MailTo → is_at_odds (Some kind) argument ≡ not (is_some argument)
odds_of_mail kind argument e = ap (λ k. is_at_odds (Some k) argument) e ∙ other argument
  where
    other : (o : Option (List ℕ)) → is_none o ≡ not (is_some o)
    other None = refl
    other (Some x) = refl

pub same_tests : (a b : Bool) → beq a b ≡ true → a ≡ b
same_tests true true h = refl
same_tests true false h = absurd (true≢false (sym h))
same_tests false true h = absurd (true≢false (sym h))
same_tests false false h = refl

pub other_tests : (a b : Bool) → beq a b ≡ false → a ≡ not b
other_tests true true h = absurd (true≢false h)
other_tests true false h = refl
other_tests false true h = refl
other_tests false false h = absurd (true≢false h)
