-- The items of a path, by its variants, and which paths are one name.
use lib.Pointwise.{bytes_decides}
use Rattle.std.proofs.Common.{◌≡◌, ℕ, Bool, true, false, List, [], ◌∷◌, map, refl, sym, ap, ◌∙◌}
use Rattle.ncq_path.specs.declared.path.Path.{Path}
use Rattle.ncq_path.specs.declared.path.Path.TheVariants.{Tag, Seq, Alt, Star, Plus}
use Rattle.ncq_path.proofs.PathCases.{para_tag, para_seq, para_alt, para_star, para_plus, path_induction}
use Rattle.ncq_xmlql.specs.PathValues.{seq_items, seq_items_layer, alt_items, alt_items_layer}
use Rattle.ncq_xmlql.specs.Reading.{is_same}
use Rattle.ncq_xmlql.specs.PatternReading.{is_the_name, is_name_layer}

firsts : {B : Type 0} (f : Path → B) (items : List Path) → map (λ (e : Path × B). e.0) (map (λ (p : Path). (p, f p)) items) ≡ items
firsts f [] = refl
firsts f (p ∷ items) = ap (λ (ps : List Path). p ∷ ps) (firsts f items)

pub seq_items_tag : (name : List ℕ) → seq_items (Tag name) ≡ Tag name ∷ []
unfolding seq_items
seq_items_tag name = para_tag seq_items_layer name

pub seq_items_seq : (items : List Path) → seq_items (Seq items) ≡ items
unfolding seq_items
seq_items_seq items = para_seq seq_items_layer items ∙ firsts seq_items items

pub seq_items_alt : (items : List Path) → seq_items (Alt items) ≡ Alt items ∷ []
unfolding seq_items
seq_items_alt items = para_alt seq_items_layer items ∙ ap (λ (ps : List Path). Alt ps ∷ []) (firsts seq_items items)

pub seq_items_star : (item : Path) → seq_items (Star item) ≡ Star item ∷ []
unfolding seq_items
seq_items_star item = para_star seq_items_layer item

pub seq_items_plus : (item : Path) → seq_items (Plus item) ≡ Plus item ∷ []
unfolding seq_items
seq_items_plus item = para_plus seq_items_layer item

pub ruleset seq_items_are = (seq_items_tag, seq_items_seq, seq_items_alt, seq_items_star, seq_items_plus)

pub alt_items_tag : (name : List ℕ) → alt_items (Tag name) ≡ Tag name ∷ []
unfolding alt_items
alt_items_tag name = para_tag alt_items_layer name

pub alt_items_seq : (items : List Path) → alt_items (Seq items) ≡ Seq items ∷ []
unfolding alt_items
alt_items_seq items = para_seq alt_items_layer items ∙ ap (λ (ps : List Path). Seq ps ∷ []) (firsts alt_items items)

pub alt_items_alt : (items : List Path) → alt_items (Alt items) ≡ items
unfolding alt_items
alt_items_alt items = para_alt alt_items_layer items ∙ firsts alt_items items

pub alt_items_star : (item : Path) → alt_items (Star item) ≡ Star item ∷ []
unfolding alt_items
alt_items_star item = para_star alt_items_layer item

pub alt_items_plus : (item : Path) → alt_items (Plus item) ≡ Plus item ∷ []
unfolding alt_items
alt_items_plus item = para_plus alt_items_layer item

pub ruleset alt_items_are = (alt_items_tag, alt_items_seq, alt_items_alt, alt_items_star, alt_items_plus)

-- ---- paths of one name

pub name_tag : (name tag : List ℕ) → is_the_name name (Tag tag) ≡ is_same tag name
unfolding is_the_name
name_tag name tag = para_tag (is_name_layer name) tag

pub name_seq : (name : List ℕ) (items : List Path) → is_the_name name (Seq items) ≡ false
unfolding is_the_name
name_seq name items = para_seq (is_name_layer name) items

pub name_alt : (name : List ℕ) (items : List Path) → is_the_name name (Alt items) ≡ false
unfolding is_the_name
name_alt name items = para_alt (is_name_layer name) items

pub name_star : (name : List ℕ) (item : Path) → is_the_name name (Star item) ≡ false
unfolding is_the_name
name_star name item = para_star (is_name_layer name) item

pub name_plus : (name : List ℕ) (item : Path) → is_the_name name (Plus item) ≡ false
unfolding is_the_name
name_plus name item = para_plus (is_name_layer name) item

pub ruleset names_are = (name_tag, name_seq, name_alt, name_star, name_plus)

never : (b : Bool) {A : Type 0} → b ≡ false → b ≡ true → A
never true e f = absurd cc
never false e f = absurd cc

-- where the path is the one name, by the test
pub name_is : (name : List ℕ) (path : Path) → is_the_name name path ≡ true → path ≡ Tag name
name_is name =
    path_induction (λ path. is_the_name name path ≡ true → path ≡ Tag name)
    (λ tag e. ap Tag ((bytes_decides tag name).0 (sym (name_tag name tag) ∙ e)))
    (λ below e. never _ (name_seq name (map (λ x. x.0) below)) e)
    (λ below e. never _ (name_alt name (map (λ x. x.0) below)) e)
    (λ item h e. never _ (name_star name item) e)
    (λ item h e. never _ (name_plus name item) e)

pub is_name : (name : List ℕ) (path : Path) → path ≡ Tag name → is_the_name name path ≡ true
is_name name path e = ap (is_the_name name) e ∙ name_tag name name ∙ (bytes_decides name name).1 refl
