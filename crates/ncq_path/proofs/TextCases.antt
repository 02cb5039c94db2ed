-- The texts of paths, by their variants.
use Rattle.std.proofs.Common.{◌≡◌, ℕ, ◌+◌, ◌<◌, ◌≤◌, List, [], ◌∷◌, ◌++◌, length, length-take, length-drop, get_or, take, drop, map, refl, sym, ap, ◌∙◌, true, false, Bool, arith, append_assoc, append-nil, add-one}
use Rattle.std.proofs.Math.Seq.{drop-cons}
use Rattle.std.proofs.lemmas.List.{length-map, get_or-map, take-take}
use Rattle.std.specs.Prelude.{codes, not}
use Rattle.std.specs.List.{join_with_byte}
use Rattle.ncq_path.specs.declared.path.Path.{Path}
use Rattle.ncq_path.specs.declared.path.Path.TheVariants.{Tag, Seq, Alt, Star, Plus}
use Rattle.ncq_path.specs.Kinds.{is_alt, is_alt_layer, is_seq, is_seq_layer, is_tag, is_tag_layer}
use Rattle.ncq_path.specs.Texts.{path_text, item_text, text_layer, bracketed}
use Rattle.ncq_path.proofs.PathCases.{para_tag, para_seq, para_alt, para_star, para_plus}

pub text_of_tag : (name : List ℕ) → path_text (Tag name) ≡ name
unfolding path_text
text_of_tag name = para_tag text_layer name

each_text : (items : List Path) → map (λ (p : Path × List ℕ). bracketed (is_alt p.0) p.1) (map (λ p. (p, path_text p)) items)
    ≡ map (λ p. bracketed (is_alt p) (path_text p)) items
each_text [] = refl
each_text (p ∷ items) = λ i. bracketed (is_alt p) (path_text p) ∷ each_text items i

any_text : (items : List Path) → map (λ (p : Path × List ℕ). p.1) (map (λ p. (p, path_text p)) items)
    ≡ map path_text items
any_text [] = refl
any_text (p ∷ items) = λ i. path_text p ∷ any_text items i

pub text_of_seq : (items : List Path) → path_text (Seq items)
    ≡ join_with_byte 46 (map (λ p. bracketed (is_alt p) (path_text p)) items)
unfolding path_text
text_of_seq items = para_seq text_layer items ∙ ap (join_with_byte 46) (each_text items)

pub text_of_alt : (items : List Path) → path_text (Alt items) ≡ join_with_byte 124 (map path_text items)
unfolding path_text
text_of_alt items = para_alt text_layer items ∙ ap (join_with_byte 124) (any_text items)

pub text_of_star : (item : Path) → path_text (Star item)
    ≡ bracketed (not (is_tag item)) (path_text item) ++ codes "*"
unfolding path_text
text_of_star item = para_star text_layer item

pub text_of_plus : (item : Path) → path_text (Plus item)
    ≡ bracketed (not (is_tag item)) (path_text item) ++ codes "+"
unfolding path_text
text_of_plus item = para_plus text_layer item

pub ruleset texts_are = (text_of_tag, text_of_seq, text_of_alt, text_of_star, text_of_plus)

pub alt_tag : (name : List ℕ) → is_alt (Tag name) ≡ false
alt_tag name = para_tag is_alt_layer name

pub alt_seq : (items : List Path) → is_alt (Seq items) ≡ false
alt_seq items = para_seq is_alt_layer items

pub alt_alt : (items : List Path) → is_alt (Alt items) ≡ true
alt_alt items = para_alt is_alt_layer items

pub alt_star : (item : Path) → is_alt (Star item) ≡ false
alt_star item = para_star is_alt_layer item

pub alt_plus : (item : Path) → is_alt (Plus item) ≡ false
alt_plus item = para_plus is_alt_layer item

pub ruleset alts_are = (alt_tag, alt_seq, alt_alt, alt_star, alt_plus)

pub seq_tag : (name : List ℕ) → is_seq (Tag name) ≡ false
seq_tag name = para_tag is_seq_layer name

pub seq_seq : (items : List Path) → is_seq (Seq items) ≡ true
seq_seq items = para_seq is_seq_layer items

pub seq_alt : (items : List Path) → is_seq (Alt items) ≡ false
seq_alt items = para_alt is_seq_layer items

pub seq_star : (item : Path) → is_seq (Star item) ≡ false
seq_star item = para_star is_seq_layer item

pub seq_plus : (item : Path) → is_seq (Plus item) ≡ false
seq_plus item = para_plus is_seq_layer item

pub ruleset seqs_are = (seq_tag, seq_seq, seq_alt, seq_star, seq_plus)

pub tag_tag : (name : List ℕ) → is_tag (Tag name) ≡ true
tag_tag name = para_tag is_tag_layer name

pub tag_seq : (items : List Path) → is_tag (Seq items) ≡ false
tag_seq items = para_seq is_tag_layer items

pub tag_alt : (items : List Path) → is_tag (Alt items) ≡ false
tag_alt items = para_alt is_tag_layer items

pub tag_star : (item : Path) → is_tag (Star item) ≡ false
tag_star item = para_star is_tag_layer item

pub tag_plus : (item : Path) → is_tag (Plus item) ≡ false
tag_plus item = para_plus is_tag_layer item

pub ruleset tags_are = (tag_tag, tag_seq, tag_alt, tag_star, tag_plus)

-- the texts, each with the mark in front
abbrev pub marked : ℕ → List (List ℕ) → List ℕ
marked mark [] = []
marked mark (text ∷ more) = mark ∷ text ++ marked mark more

joined_first : (mark : ℕ) (text : List ℕ) (more : List (List ℕ))
    → join_with_byte mark (text ∷ more) ≡ text ++ marked mark more
joined_first mark text [] = sym (append-nil text)
joined_first mark text (next ∷ more) = λ i. text ++ mark ∷ joined_first mark next more i

next_drop : {A : Type 0} (xs : List A) (i : ℕ) (x : A) → i < length xs → drop i xs ≡ get_or xs i x ∷ drop (i + 1) xs
next_drop xs i x h = rw (add-one, drop-cons xs i x h) refl

pub joined_init : (brackets : Bool) (mark : ℕ) (items : List Path) (first : Path) (out more : List ℕ)
    → 0 < length items → first ≡ get_or items 0 first → more ≡ out ++ item_text brackets first
    → more ++ marked mark (drop 1 (map (item_text brackets) items))
    ≡ out ++ join_with_byte mark (map (item_text brackets) items)
joined_init brackets mark [] first out more h p e = absurd (omega arith)
joined_init brackets mark (x ∷ items) first out more h p e =
    let rest = map (item_text brackets) items in
    (λ i. (e ∙ (λ j. out ++ item_text brackets (p j))) i ++ marked mark rest)
    ∙ append_assoc out (item_text brackets x) (marked mark rest)
    ∙ (λ i. out ++ sym (joined_first mark (item_text brackets x) rest) i)

pub joined_next : (brackets : Bool) (mark : ℕ) (items : List Path) (i : ℕ) (item : Path)
    (out more total : List ℕ) → i < length items → item ≡ get_or items i item
    → more ≡ out ++ mark ∷ item_text brackets item
    → out ++ marked mark (drop i (map (item_text brackets) items)) ≡ total
    → more ++ marked mark (drop (i + 1) (map (item_text brackets) items)) ≡ total
joined_next brackets mark items i item out more total h p e t =
    let texts = map (item_text brackets) items in
    let rest = marked mark (drop (i + 1) texts) in
    let l = length-map items (item_text brackets) in
    let at : get_or texts i (item_text brackets item) ≡ item_text brackets item =
    get_or-map (item_text brackets) items i item (item_text brackets item) h ∙ ap (item_text brackets) (sym p) in
    let split : drop i texts ≡ item_text brackets item ∷ drop (i + 1) texts =
    next_drop texts i (item_text brackets item) (omega arith) ∙ (λ j. at j ∷ drop (i + 1) texts) in
    (λ j. e j ++ rest)
    ∙ append_assoc out (mark ∷ item_text brackets item) rest
    ∙ (λ j. out ++ marked mark (sym split j))
    ∙ t

pub joined_end : (brackets : Bool) (mark : ℕ) (items : List Path) (i : ℕ) (out total : List ℕ)
    → length items ≤ i → out ++ marked mark (drop i (map (item_text brackets) items)) ≡ total
    → out ≡ total
joined_end brackets mark items i out total h t =
    let texts = map (item_text brackets) items in
    let l = length-map items (item_text brackets) in
    let n = length-drop i texts in
    sym (append-nil out) ∙ (λ j. out ++ marked mark (sym (nothing (drop i texts) (omega arith)) j)) ∙ t
  where
    nothing : (xs : List (List ℕ)) → length xs ≡ 0 → xs ≡ []
    nothing [] e = refl
    nothing (x ∷ xs) e = absurd (omega arith)

-- what stands in front of what stands in front stands in front
pub front_through : (first old new : List ℕ) → take (length old) new ≡ old
    → take (length first) old ≡ first → take (length first) new ≡ first
front_through first old new f g =
    let l = length-take (length first) old in
    let k = ap length g in
    sym (take-take (length first) (length old) new (omega arith)) ∙ ap (take (length first)) f ∙ g
