-- Whether the lists of a path are joined, by its variants and item by item.
use Rattle.std.proofs.Common.{◌≡◌, ℕ, ◌+◌, ◌<◌, Bool, true, false, List, ◌∷◌, length, get_or, drop, map, refl, sym, ap, ◌∙◌, add-one}
use Rattle.std.specs.Prelude.{◌&&◌, nat_le}
use Rattle.std.specs.List.{list_all}
use Rattle.std.proofs.Math.Seq.{drop-cons}
use Rattle.std.proofs.lemmas.List.{length-map}
use Rattle.ncq_path.specs.declared.path.Path.{Path}
use Rattle.ncq_path.specs.declared.path.Path.TheVariants.{Tag, Seq, Alt, Star, Plus}
use Rattle.ncq_path.specs.Formed.{is_joined, joined_layer, fits_seq, fits_alt}
use Rattle.ncq_path.proofs.PathCases.{para_tag, para_seq, para_alt, para_star, para_plus}

-- the paths, each with whether its lists are joined
abbrev pub tested : List Path → List (Path × Bool)
tested items = map (λ p. (p, is_joined p)) items

length_tested : (items : List Path) → length (tested items) ≡ length items
length_tested items = length-map items (λ p. (p, is_joined p))

pub joined_tag : (name : List ℕ) → is_joined (Tag name) ≡ true
unfolding is_joined
joined_tag name = para_tag joined_layer name

pub joined_seq : (items : List Path) → is_joined (Seq items)
    ≡ (nat_le 2 (length items) && list_all fits_seq (tested items))
unfolding is_joined
joined_seq items =
    para_seq joined_layer items ∙ ap (λ (n : ℕ). nat_le 2 n && list_all fits_seq (tested items)) (length_tested items)

pub joined_alt : (items : List Path) → is_joined (Alt items)
    ≡ (nat_le 2 (length items) && list_all fits_alt (tested items))
unfolding is_joined
joined_alt items =
    para_alt joined_layer items ∙ ap (λ (n : ℕ). nat_le 2 n && list_all fits_alt (tested items)) (length_tested items)

pub joined_star : (item : Path) → is_joined (Star item) ≡ is_joined item
unfolding is_joined
joined_star item = para_star joined_layer item

pub joined_plus : (item : Path) → is_joined (Plus item) ≡ is_joined item
unfolding is_joined
joined_plus item = para_plus joined_layer item

pub ruleset joined_is = (joined_tag, joined_seq, joined_alt, joined_star, joined_plus)

-- one item: where it fits, the rest decides, and where it does not, nothing more does
pub next_tested : (fits : Path × Bool → Bool) (items : List Path) (i : ℕ) (item : Path) → i < length items
    → item ≡ get_or items i item
    → list_all fits (tested (drop i items))
    ≡ (fits (item, is_joined item) && list_all fits (tested (drop (i + 1) items)))
next_tested fits items i item h p =
    ap (λ (xs : List Path). list_all fits (tested xs))
    ((let d : drop i items ≡ get_or items i item ∷ drop (i + 1) items = rw (add-one, drop-cons items i item h) refl in d)
    ∙ (λ j. sym p j ∷ drop (i + 1) items))

pub still_fits : (fits : Path × Bool → Bool) (items : List Path) (i : ℕ) (item : Path) (total : Bool)
    → i < length items → item ≡ get_or items i item → fits (item, is_joined item) ≡ true
    → list_all fits (tested (drop i items)) ≡ total → list_all fits (tested (drop (i + 1) items)) ≡ total
still_fits fits items i item total h p f t =
    sym (next_tested fits items i item h p
    ∙ (λ j. f j && list_all fits (tested (drop (i + 1) items)))) ∙ t

pub fits_no_more : (fits : Path × Bool → Bool) (items : List Path) (i : ℕ) (item : Path) (total : Bool)
    → i < length items → item ≡ get_or items i item → fits (item, is_joined item) ≡ false
    → list_all fits (tested (drop i items)) ≡ total → false ≡ total
fits_no_more fits items i item total h p f t =
    sym (next_tested fits items i item h p
    ∙ (λ j. f j && list_all fits (tested (drop (i + 1) items)))) ∙ t
