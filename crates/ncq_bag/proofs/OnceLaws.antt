-- Items that are one where their texts are.
use Rattle.std.proofs.Common.{◌≡◌, ℕ, Bool, true, false, not, cond, List, [], ◌∷◌, map, refl, ap, ◌∙◌}
use Rattle.std.specs.List.{filter}
use Rattle.std.specs.Str.{bytes_eq}
use Rattle.ncq_bag.specs.Counts.{each_once, each_once_by}

-- the texts of the items whose text passes the test
texts_kept : {A : Type 0} (text : A → List ℕ) (test : List ℕ → Bool) (items : List A)
    → map text (filter (λ item. test (text item)) items) ≡ filter test (map text items)
texts_kept text test [] = refl
texts_kept text test (item ∷ items) =
    let rest = filter (λ other. test (text other)) items in
    elim (test (text item)) as
    (λ t. map text (cond t (item ∷ rest) rest)
    ≡ cond t (text item ∷ filter test (map text items)) (filter test (map text items))) [
      | true ↦ ap (λ (ts : List (List ℕ)). text item ∷ ts) (texts_kept text test items)
      | false ↦ texts_kept text test items
    ]

pub texts_once : {A : Type 0} (text : A → List ℕ) (items : List A)
    → map text (each_once_by (λ a b. bytes_eq (text a) (text b)) items) ≡ each_once (map text items)
texts_once text [] = refl
texts_once text (item ∷ items) =
    let others : List ℕ → Bool = λ t. not (bytes_eq (text item) t) in
    ap (λ (ts : List (List ℕ)). text item ∷ ts)
    (texts_kept text others (each_once_by (λ a b. bytes_eq (text a) (text b)) items)
    ∙ ap (filter others) (texts_once text items))
