-- One item more of a sequence or an alternative.
use Rattle.std.proofs.Common.{◌≡◌, ℕ, ◌+◌, ◌<◌, ◌≤◌, List, [], ◌∷◌, ◌++◌, length, length-append, length-drop, get_or, drop, map, refl, sym, ap, ◌∙◌, append_assoc, append-nil, arith, add-one}
use Rattle.std.specs.Prelude.{◌||◌}
use Rattle.std.specs.Int.Bits.{bit_or, or_zero_r}
use Rattle.std.proofs.Math.Bool.{or_assoc}
use Rattle.std.proofs.Math.Seq.{drop-cons}
use Rattle.ncq_path.specs.declared.link.Link.{Link}
use Rattle.ncq_path.specs.declared.path.Path.{Path}
use Rattle.ncq_path.specs.declared.path.Path.TheVariants.{Seq, Alt, Star, Plus}
use Rattle.ncq_path.specs.Expressions.{size}
use Rattle.ncq_path.specs.Paths.{expression, each, any_of}
use Rattle.ncq_path.specs.Positions.{has}
use Rattle.ncq_path.specs.PositionLaws.{has_or, same_set}
use Rattle.ncq_path.specs.Links.{ends_of, links}
use Rattle.ncq_path.proofs.Linked.{length_links, ends_of_again}
use Rattle.ncq_path.proofs.PathCases.{expression_seq, expression_alt, expression_star, expression_plus}

pub seq_fits : (path : Path) (items : List Path) (at : ℕ) → path ≡ Seq items
    → at + size (expression path) ≤ 32 → at + size (each (map expression items)) ≤ 32
seq_fits path items at e h =
    let k : size (expression path) ≡ size (each (map expression items)) = ap size (ap expression e ∙ expression_seq items) in omega arith

pub alt_fits : (path : Path) (items : List Path) (at : ℕ) → path ≡ Alt items
    → at + size (expression path) ≤ 32 → at + size (any_of (map expression items)) ≤ 32
alt_fits path items at e h =
    let k : size (expression path) ≡ size (any_of (map expression items)) = ap size (ap expression e ∙ expression_alt items) in omega arith

pub star_fits : (path item : Path) (at : ℕ) → path ≡ Star item
    → at + size (expression path) ≤ 32 → at + size (expression item) ≤ 32
star_fits path item at e h =
    let k : size (expression path) ≡ size (expression item) = ap size (ap expression e ∙ expression_star item) in omega arith

pub plus_fits : (path item : Path) (at : ℕ) → path ≡ Plus item
    → at + size (expression path) ≤ 32 → at + size (expression item) ≤ 32
plus_fits path item at e h =
    let k : size (expression path) ≡ size (expression item) = ap size (ap expression e ∙ expression_plus item) in omega arith

pub or_assoc_bits : (a b c : ℕ) → bit_or (bit_or a b) c ≡ bit_or a (bit_or b c)
or_assoc_bits a b c = same_set _ _ (λ r.
    has_or (bit_or a b) c r ∙ (λ i. has_or a b r i || has c r) ∙ or_assoc (has a r) (has b r) (has c r)
    ∙ (λ i. has a r || sym (has_or b c r) i) ∙ sym (has_or a (bit_or b c) r))

next_drop : (items : List Path) (i : ℕ) (item : Path) → i < length items → item ≡ get_or items i item
    → drop i items ≡ item ∷ drop (i + 1) items
next_drop items i item h p =
    (let e : drop i items ≡ get_or items i item ∷ drop (i + 1) items = rw (add-one, drop-cons items i item h) refl in e)
    ∙ (λ j. sym p j ∷ drop (i + 1) items)

none_left : (items : List Path) (i : ℕ) → length items ≤ i → drop i items ≡ []
none_left items i h = nothing (drop i items) (let n = length-drop i items in omega arith)
  where
    nothing : (xs : List Path) → length xs ≡ 0 → xs ≡ []
    nothing [] e = refl
    nothing (x ∷ xs) e = absurd (omega arith)

module _ (items : List Path) (i : ℕ) (item : Path) (h : i < length items) (p : item ≡ get_or items i item) where
  each_size : size (each (map expression (drop i items)))
      ≡ size (expression item) + size (each (map expression (drop (i + 1) items)))
  each_size = ap (λ (xs : List Path). size (each (map expression xs))) (next_drop items i item h p)

  any_size : size (any_of (map expression (drop i items)))
      ≡ size (expression item) + size (any_of (map expression (drop (i + 1) items)))
  any_size = ap (λ (xs : List Path). size (any_of (map expression xs))) (next_drop items i item h p)

  pub each_first : (at : ℕ) → at + size (each (map expression (drop i items))) ≤ 32
      → at + size (expression item) ≤ 32
  each_first at f = let e = each_size in omega arith

  pub any_first : (at : ℕ) → at + size (any_of (map expression (drop i items))) ≤ 32
      → at + size (expression item) ≤ 32
  any_first at f = let e = any_size in omega arith

  pub each_rest : (at next : ℕ) → at + size (each (map expression (drop i items))) ≤ 32
      → next ≡ at + size (expression item) → next + size (each (map expression (drop (i + 1) items))) ≤ 32
  each_rest at next f n = let e = each_size in omega arith

  pub any_rest : (at next : ℕ) → at + size (any_of (map expression (drop i items))) ≤ 32
      → next ≡ at + size (expression item) → next + size (any_of (map expression (drop (i + 1) items))) ≤ 32
  any_rest at next f n = let e = any_size in omega arith

  pub each_next : (at before next after total : ℕ) → next ≡ at + size (expression item)
      → after ≡ ends_of (expression item) at before
      → ends_of (each (map expression (drop i items))) at before ≡ total
      → ends_of (each (map expression (drop (i + 1) items))) next after ≡ total
  each_next at before next after total n a t =
      (λ j. ends_of (each (map expression (drop (i + 1) items))) (n j) (a j))
      ∙ ap (λ (xs : List Path). ends_of (each (map expression xs)) at before) (sym (next_drop items i item h p))
      ∙ t

  pub any_next : (at before next all more total : ℕ) → next ≡ at + size (expression item)
      → more ≡ bit_or all (ends_of (expression item) at before)
      → bit_or all (ends_of (any_of (map expression (drop i items))) at before) ≡ total
      → bit_or more (ends_of (any_of (map expression (drop (i + 1) items))) next before) ≡ total
  any_next at before next all more total n a t =
      (λ j. bit_or (a j) (ends_of (any_of (map expression (drop (i + 1) items))) (n j) before))
      ∙ or_assoc_bits all (ends_of (expression item) at before)
      (ends_of (any_of (map expression (drop (i + 1) items))) (at + size (expression item)) before)
      ∙ ap (λ (xs : List Path). bit_or all (ends_of (any_of (map expression xs)) at before)) (sym (next_drop items i item h p))
      ∙ t

  pub grown : (kept more : List Link) (before : ℕ)
      → more ≡ kept ++ links (expression item) (length kept) before
      → length more ≡ length kept + size (expression item)
  grown kept more before m =
      ap length m ∙ length-append kept (links (expression item) (length kept) before)
      ∙ (λ j. length kept + length_links (expression item) (length kept) before j)

  pub each_linked : (kept more total : List Link) (before after : ℕ)
      → more ≡ kept ++ links (expression item) (length kept) before
      → after ≡ ends_of (expression item) (length kept) before
      → kept ++ links (each (map expression (drop i items))) (length kept) before ≡ total
      → more ++ links (each (map expression (drop (i + 1) items))) (length more) after ≡ total
  each_linked kept more total before after m a t =
      (λ j. m j ++ links (each (map expression (drop (i + 1) items))) (grown kept more before m j) (a j))
      ∙ append_assoc kept (links (expression item) (length kept) before)
      (links (each (map expression (drop (i + 1) items))) (length kept + size (expression item)) (ends_of (expression item) (length kept) before))
      ∙ ap (λ (xs : List Path). kept ++ links (each (map expression xs)) (length kept) before) (sym (next_drop items i item h p))
      ∙ t

  pub any_linked : (kept more total : List Link) (before : ℕ)
      → more ≡ kept ++ links (expression item) (length kept) before
      → kept ++ links (any_of (map expression (drop i items))) (length kept) before ≡ total
      → more ++ links (any_of (map expression (drop (i + 1) items))) (length more) before ≡ total
  any_linked kept more total before m t =
      (λ j. m j ++ links (any_of (map expression (drop (i + 1) items))) (grown kept more before m j) before)
      ∙ append_assoc kept (links (expression item) (length kept) before)
      (links (any_of (map expression (drop (i + 1) items))) (length kept + size (expression item)) before)
      ∙ ap (λ (xs : List Path). kept ++ links (any_of (map expression xs)) (length kept) before) (sym (next_drop items i item h p))
      ∙ t

-- where no item is left, what stands is the whole
pub each_end : (items : List Path) (i at before total : ℕ) → length items ≤ i
    → ends_of (each (map expression (drop i items))) at before ≡ total → before ≡ total
each_end items i at before total h t =
    ap (λ (xs : List Path). ends_of (each (map expression xs)) at before) (sym (none_left items i h)) ∙ t

pub any_end : (items : List Path) (i at before all total : ℕ) → length items ≤ i
    → bit_or all (ends_of (any_of (map expression (drop i items))) at before) ≡ total → all ≡ total
any_end items i at before all total h t =
    sym (or_zero_r all)
    ∙ ap (λ (xs : List Path). bit_or all (ends_of (any_of (map expression xs)) at before)) (sym (none_left items i h)) ∙ t

pub each_linked_end : (items : List Path) (i before : ℕ) (kept total : List Link) → length items ≤ i
    → kept ++ links (each (map expression (drop i items))) (length kept) before ≡ total → kept ≡ total
each_linked_end items i before kept total h t =
    sym (append-nil kept)
    ∙ ap (λ (xs : List Path). kept ++ links (each (map expression xs)) (length kept) before) (sym (none_left items i h)) ∙ t

pub any_linked_end : (items : List Path) (i before : ℕ) (kept total : List Link) → length items ≤ i
    → kept ++ links (any_of (map expression (drop i items))) (length kept) before ≡ total → kept ≡ total
any_linked_end items i before kept total h t =
    sym (append-nil kept)
    ∙ ap (λ (xs : List Path). kept ++ links (any_of (map expression xs)) (length kept) before) (sym (none_left items i h)) ∙ t

-- behind a plus a reading ends where it would, had it not begun behind its own ends as well
pub plus_ends : (path item again : Path) (n m before round ends : ℕ) → path ≡ Plus item → again ≡ item
    → m ≡ n → round ≡ ends_of (expression item) m 0
    → ends ≡ ends_of (expression again) n (bit_or before round)
    → ends ≡ ends_of (expression path) n before
plus_ends path item again n m before round ends p a l r e =
    e ∙ (λ i. ends_of (expression (a i)) n (bit_or before ((r ∙ (λ j. ends_of (expression item) (l j) 0)) i)))
    ∙ ends_of_again (expression item) n before
    ∙ (λ i. ends_of (sym (ap expression p ∙ expression_plus item) i) n before)
