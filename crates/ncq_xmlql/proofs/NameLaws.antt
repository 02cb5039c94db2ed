-- Names that differ, read one after the other, and the set of those that were read.
use Rattle.std.proofs.Common.{◌≡◌, ℕ, ◌+◌, ◌<◌, Bool, true, false, cond, List, [], ◌∷◌, ◌++◌, length, take, drop, get_or, refl, sym, ap, ◌∙◌, add-one}
use Rattle.std.specs.Prelude.{◌&&◌, ◌||◌, not}
use Rattle.std.specs.BTreeSet.{BTreeSet, contains}
use Rattle.std.specs.Cmp.Lexicographic.{slice_cmp}
use Rattle.std.specs.Ordering.{nat_cmp, is_eq}
use Rattle.std.proofs.lemmas.Bool.Decides.{same_from_decides, Decides-like}
use Rattle.std.proofs.lemmas.List.{take-append-drop, map-append}
use Rattle.std.proofs.lemmas.List.Folds.{list_any-append}
use Rattle.std.proofs.Math.Bool.{and-false}
use Rattle.std.proofs.Math.Seq.{take-suc}
use lib.Pointwise.{bytes_decides}
use Rattle.ncq_base.specs.contracts.bytes.BytesOrd.TheImpl.Laws.{matches_eq-law}
use Rattle.ncq_xmlql.specs.declared.model.PatternAttribute.{PatternAttribute}
use Rattle.ncq_xmlql.specs.Reading.{is_same, has_name, all_differ, names_of, names_differ}

-- ---- names, one more behind the others

is_same-sym : (a b : List ℕ) → is_same a b ≡ is_same b a
is_same-sym a b = same_from_decides (is_same a b) (is_same b a) (bytes_decides a b) (Decides-like (is_same b a) (λ e. sym e) (λ e. sym e) (bytes_decides b a))

or-none : (a : Bool) → (a || false) ≡ a
or-none true = refl
or-none false = refl

has_name-push : (names : List (List ℕ)) (name q : List ℕ) → has_name q (names ++ name ∷ []) ≡ (has_name q names || is_same name q)
has_name-push names name q =
    list_any-append (λ (other : List ℕ). is_same other q) names (name ∷ []) ∙ ap (λ (b : Bool). has_name q names || b) (or-none (is_same name q))

regrouped : (a s d h : Bool) → (not (a || s) && (d && not h)) ≡ ((not a && d) && not (s || h))
regrouped true s d h = refl
regrouped false true true h = refl
regrouped false true false h = refl
regrouped false false d h = refl

all_differ-push : (names : List (List ℕ)) (name : List ℕ) → all_differ (names ++ name ∷ []) ≡ (all_differ names && not (has_name name names))
all_differ-push [] name = refl
all_differ-push (first ∷ names) name =
    rw (has_name-push names name first, all_differ-push names name, is_same-sym name first) (regrouped (has_name first names) (is_same first name) (all_differ names) (has_name name names))

-- what comes twice comes twice in the whole
all_differ-append_false : (names more : List (List ℕ)) → all_differ names ≡ false → all_differ (names ++ more) ≡ false
all_differ-append_false [] more e = absurd cc
all_differ-append_false (first ∷ names) more e =
    rw (list_any-append (λ (other : List ℕ). is_same other first) names more)
    (split (has_name first names) (has_name first more) (all_differ names) (all_differ (names ++ more)) (all_differ-append_false names more) e)
  where
    split : (h k d w : Bool) → (d ≡ false → w ≡ false) → (not h && d) ≡ false → (not (h || k) && w) ≡ false
    split true k d w go e = refl
    split false k d w go e = rw (go e) (and-false (not k))

-- ---- the attributes that were read

names_of-take : (attributes : List PatternAttribute) (i : ℕ) (a : PatternAttribute) → i < length attributes → a ≡ get_or attributes i a
    → names_of (take (i + 1) attributes) ≡ names_of (take i attributes) ++ a.name ∷ []
names_of-take attributes i a below is =
    ap names_of (ap (λ (n : ℕ). take n attributes) (add-one i) ∙ take-suc attributes i a below ∙ ap (λ (x : PatternAttribute). take i attributes ++ (x ∷ [])) (sym is))
    ∙ map-append (λ (x : PatternAttribute). x.name) (take i attributes) (a ∷ [])

-- whether all names differ so far, with one more attribute that was read
one_more : (attributes : List PatternAttribute) (i : ℕ) (a : PatternAttribute) → i < length attributes → a ≡ get_or attributes i a → all_differ (names_of (take i attributes)) ≡ true
    → all_differ (names_of (take (i + 1) attributes)) ≡ not (has_name a.name (names_of (take i attributes)))
one_more attributes i a below is differ =
    ap all_differ (names_of-take attributes i a below is)
    ∙ all_differ-push (names_of (take i attributes)) a.name
    ∙ ap (λ (b : Bool). b && not (has_name a.name (names_of (take i attributes)))) differ

-- ---- the set of the names

-- the set has these names
abbrev pub Knows : BTreeSet (List ℕ) → List (List ℕ) → Type 0
Knows seen names = (q : List ℕ) → contains (slice_cmp nat_cmp) seen q ≡ has_name q names

or-cond : (s t : Bool) → cond s true t ≡ (t || s)
or-cond true true = refl
or-cond true false = refl
or-cond false true = refl
or-cond false false = refl

pub knows_more : (seen more : BTreeSet (List ℕ)) (names : List (List ℕ)) (name : List ℕ)
    → ((q : List ℕ) → contains (slice_cmp nat_cmp) more q ≡ cond (is_eq (slice_cmp nat_cmp name q)) true (contains (slice_cmp nat_cmp) seen q))
    → Knows seen names → Knows more (names ++ name ∷ [])
knows_more seen more names name updated known q =
    updated q
    ∙ ap (λ (v : Bool). cond v true (contains (slice_cmp nat_cmp) seen q)) (sym (matches_eq-law name q))
    ∙ or-cond (is_same name q) (contains (slice_cmp nat_cmp) seen q)
    ∙ ap (λ (v : Bool). v || is_same name q) (known q)
    ∙ sym (has_name-push names name q)

-- ---- one more attribute, of which the name's copy was put into the set

module _ (attributes : List PatternAttribute) (i : ℕ) (a : PatternAttribute) (below : i < length attributes) (is : a ≡ get_or attributes i a)
    (seen : BTreeSet (List ℕ)) (known : Knows seen (names_of (take i attributes))) (key : List ℕ) (copied : key ≡ a.name) where
  -- whether all names differ is whether the name was new
  pub differ_more : (added : Bool) → added ≡ not (contains (slice_cmp nat_cmp) seen key) → all_differ (names_of (take i attributes)) ≡ true
      → all_differ (names_of (take (i + 1) attributes)) ≡ added
  differ_more added new differ =
      one_more attributes i a below is differ
      ∙ ap not (sym (known a.name) ∙ ap (contains (slice_cmp nat_cmp) seen) (sym copied))
      ∙ sym new

  pub seen_more : (more : BTreeSet (List ℕ))
      → ((q : List ℕ) → contains (slice_cmp nat_cmp) more q ≡ cond (is_eq (slice_cmp nat_cmp key q)) true (contains (slice_cmp nat_cmp) seen q))
      → Knows more (names_of (take (i + 1) attributes))
  seen_more more updated q =
      knows_more seen more (names_of (take i attributes)) key updated known q
      ∙ ap (has_name q) (ap (λ (name : List ℕ). names_of (take i attributes) ++ name ∷ []) copied ∙ sym (names_of-take attributes i a below is))

pub some_twice : (attributes : List PatternAttribute) (i : ℕ) → all_differ (names_of (take i attributes)) ≡ false → names_differ attributes ≡ false
some_twice attributes i e =
    ap names_differ (sym (take-append-drop i attributes))
    ∙ ap all_differ (map-append (λ (x : PatternAttribute). x.name) (take i attributes) (drop i attributes))
    ∙ all_differ-append_false (names_of (take i attributes)) (names_of (drop i attributes)) e
