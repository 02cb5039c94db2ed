-- Paths by their variants: induction, and what is said of each.
use Rattle.std.proofs.Common.{◌≡◌, inl, ℕ, ◌+◌, Bool, true, List, [], ◌∷◌, length, map, refl, sym, ap, ◌∙◌, subst, arith, zero-add}
use Rattle.std.specs.Prelude.{◌&&◌, not, nat_le, fold}
use Rattle.std.specs.List.{list_all, sum_by}
use Rattle.ncq_path.specs.declared.path.Path.{Path}
use Rattle.ncq_path.specs.declared.path.Path.TheVariants.{Tag, Seq, Alt, Star, Plus, rolls-Tag, rolls-Seq, rolls-Alt, rolls-Star, rolls-Plus}
use Rattle.ncq_path.specs.declared.path.Path.TheOpen.{Path-F}
use Rattle.ncq_path.specs.declared.path.Path.TheOpen.Path-F.{Tag as TagLayer, Seq as SeqLayer, Alt as AltLayer, Star as StarLayer, Plus as PlusLayer}
use Rattle.ncq_path.specs.declared.path.Path.TheFolds.{fold-Path, fold-roll-Path, para-Path, para-roll-Path, ind-Path, map-Path}
use Rattle.ncq_path.specs.declared.path.Path.TheViews.{roll-Path}
use Rattle.ncq_path.specs.Expressions.{Expression, size}
use Rattle.ncq_path.specs.Expressions.Expression.{Letter, ZeroOrMore, OneOrMore}
use Rattle.ncq_path.specs.Paths.{expression, expression_layer, each, any_of}
use Rattle.ncq_path.specs.Formed.{names_in, is_joined, joined_layer, fits_seq, fits_alt}
use Rattle.ncq_path.specs.Kinds.{is_seq, is_alt}
use Rattle.ncq_path.proofs.Language.{Live, Filled, each_both}

module _ {A : Type 0} (step : Path-F A → A) where
  pub fold_tag : (name : List ℕ) → fold-Path A step (Tag name) ≡ step (TagLayer name)
  fold_tag name = ap (fold-Path A step) (sym (rolls-Tag name)) ∙ fold-roll-Path A step (TagLayer name)

  pub fold_seq : (items : List Path) → fold-Path A step (Seq items) ≡ step (SeqLayer (map (fold-Path A step) items))
  fold_seq items = ap (fold-Path A step) (sym (rolls-Seq items)) ∙ fold-roll-Path A step (SeqLayer items)

  pub fold_alt : (items : List Path) → fold-Path A step (Alt items) ≡ step (AltLayer (map (fold-Path A step) items))
  fold_alt items = ap (fold-Path A step) (sym (rolls-Alt items)) ∙ fold-roll-Path A step (AltLayer items)

  pub fold_star : (item : Path) → fold-Path A step (Star item) ≡ step (StarLayer (fold-Path A step item))
  fold_star item = ap (fold-Path A step) (sym (rolls-Star item)) ∙ fold-roll-Path A step (StarLayer item)

  pub fold_plus : (item : Path) → fold-Path A step (Plus item) ≡ step (PlusLayer (fold-Path A step item))
  fold_plus item = ap (fold-Path A step) (sym (rolls-Plus item)) ∙ fold-roll-Path A step (PlusLayer item)

module _ {A : Type 0} (step : Path-F (Path × A) → A) where
  pub para_tag : (name : List ℕ) → para-Path A step (Tag name) ≡ step (TagLayer name)
  para_tag name = ap (para-Path A step) (sym (rolls-Tag name)) ∙ para-roll-Path A step (TagLayer name)

  pub para_seq : (items : List Path) → para-Path A step (Seq items) ≡ step (SeqLayer (map (λ p. (p, para-Path A step p)) items))
  para_seq items = ap (para-Path A step) (sym (rolls-Seq items)) ∙ para-roll-Path A step (SeqLayer items)

  pub para_alt : (items : List Path) → para-Path A step (Alt items) ≡ step (AltLayer (map (λ p. (p, para-Path A step p)) items))
  para_alt items = ap (para-Path A step) (sym (rolls-Alt items)) ∙ para-roll-Path A step (AltLayer items)

  pub para_star : (item : Path) → para-Path A step (Star item) ≡ step (StarLayer (item, para-Path A step item))
  para_star item = ap (para-Path A step) (sym (rolls-Star item)) ∙ para-roll-Path A step (StarLayer item)

  pub para_plus : (item : Path) → para-Path A step (Plus item) ≡ step (PlusLayer (item, para-Path A step item))
  para_plus item = ap (para-Path A step) (sym (rolls-Plus item)) ∙ para-roll-Path A step (PlusLayer item)

-- what holds of each variant where it holds of the items holds of every path
module _ (P : Path → Type 0)
    (of_tag : (name : List ℕ) → P (Tag name))
    (of_seq : (below : List ((p : Path) × P p)) → P (Seq (map (λ e. e.0) below)))
    (of_alt : (below : List ((p : Path) × P p)) → P (Alt (map (λ e. e.0) below)))
    (of_star : (item : Path) → P item → P (Star item))
    (of_plus : (item : Path) → P item → P (Plus item)) where
  by_variant : (y : Path-F ((p : Path) × P p)) → P (roll-Path (map-Path _ _ (λ e. e.0) y))
  by_variant (TagLayer name) = subst P (sym (rolls-Tag name)) (of_tag name)
  by_variant (SeqLayer below) = subst P (sym (rolls-Seq (map (λ (e : (p : Path) × P p). e.0) below))) (of_seq below)
  by_variant (AltLayer below) = subst P (sym (rolls-Alt (map (λ (e : (p : Path) × P p). e.0) below))) (of_alt below)
  by_variant (StarLayer item) = subst P (sym (rolls-Star item.0)) (of_star item.0 item.1)
  by_variant (PlusLayer item) = subst P (sym (rolls-Plus item.0)) (of_plus item.0 item.1)

  pub path_induction : (path : Path) → P path
  path_induction = ind-Path P (λ x y e. subst (λ w. P (roll-Path w)) e (by_variant y))

pub expression_tag : (name : List ℕ) → expression (Tag name) ≡ Letter name
unfolding expression
expression_tag name = fold_tag expression_layer name

pub expression_seq : (items : List Path) → expression (Seq items) ≡ each (map expression items)
unfolding expression
expression_seq items = fold_seq expression_layer items

pub expression_alt : (items : List Path) → expression (Alt items) ≡ any_of (map expression items)
unfolding expression
expression_alt items = fold_alt expression_layer items

pub expression_star : (item : Path) → expression (Star item) ≡ ZeroOrMore (expression item)
unfolding expression
expression_star item = fold_star expression_layer item

pub expression_plus : (item : Path) → expression (Plus item) ≡ OneOrMore (expression item)
unfolding expression
expression_plus item = fold_plus expression_layer item

pub ruleset expressions_are = (expression_tag, expression_seq, expression_alt, expression_star, expression_plus)

sum_from : {A : Type 0} (f : A → ℕ) (n : ℕ) (xs : List A) → fold (λ a x. a + f x) n xs ≡ n + sum_by f xs
sum_from f n [] = omega arith
sum_from f n (x ∷ xs) = let more = sum_from f (n + f x) xs in let rest = sum_from f (0 + f x) xs in
    omega arith

sum_of_first : {A : Type 0} (f : A → ℕ) (x : A) (xs : List A) → f x + sum_by f xs ≡ sum_by f (x ∷ xs)
sum_of_first f x xs = sym (sum_from f (0 + f x) xs ∙ ap (λ n. n + sum_by f xs) (zero-add (f x)))

size_each : (items : List Path) → size (each (map expression items)) ≡ sum_by names_in items
size_each [] = refl
size_each (p ∷ items) = ap (λ (n : ℕ). names_in p + n) (size_each items) ∙ sum_of_first names_in p items

size_any : (items : List Path) → size (any_of (map expression items)) ≡ sum_by names_in items
size_any [] = refl
size_any (p ∷ items) = ap (λ (n : ℕ). names_in p + n) (size_any items) ∙ sum_of_first names_in p items

pub size_of_tag : (name : List ℕ) → size (expression (Tag name)) ≡ 1
size_of_tag name = ap size (expression_tag name)

pub size_of_seq : (items : List Path) → size (expression (Seq items)) ≡ sum_by names_in items
size_of_seq items = ap size (expression_seq items) ∙ size_each items

pub size_of_alt : (items : List Path) → size (expression (Alt items)) ≡ sum_by names_in items
size_of_alt items = ap size (expression_alt items) ∙ size_any items

pub size_of_star : (item : Path) → size (expression (Star item)) ≡ size (expression item)
size_of_star item = ap size (expression_star item)

pub size_of_plus : (item : Path) → size (expression (Plus item)) ≡ size (expression item)
size_of_plus item = ap size (expression_plus item)

pub ruleset sizes_are = (size_of_tag, size_of_seq, size_of_alt, size_of_star, size_of_plus)

-- a path whose lists are joined has lists of names, and each prefix of one goes on
abbrev pub IsWhole : Path → Type 0
IsWhole path = is_joined path ≡ true → Filled (expression path) × Live (expression path)

-- the paths, each with whether its lists are joined
abbrev tested : List ((p : Path) × IsWhole p) → List (Path × Bool)
tested below = map (λ (p : Path). (p, is_joined p)) (map (λ (e : (p : Path) × IsWhole p). e.0) below)

abbrev expressions : List ((p : Path) × IsWhole p) → List (Expression (List ℕ))
expressions below = map expression (map (λ (e : (p : Path) × IsWhole p). e.0) below)

whole_each : (below : List ((p : Path) × IsWhole p)) → list_all fits_seq (tested below) ≡ true
    → Filled (each (expressions below)) × Live (each (expressions below))
whole_each [] h = (tt, tt)
whole_each (x ∷ below) h =
    let s = each_both (is_joined x.0 && not (is_seq x.0)) (list_all fits_seq (tested below)) h in
    let here = x.1 (each_both (is_joined x.0) (not (is_seq x.0)) s.0).0 in
    let more = whole_each below s.1 in
    ((here.0, more.0), (here.1, more.1, more.0))

live_any : (below : List ((p : Path) × IsWhole p)) → list_all fits_alt (tested below) ≡ true
    → Live (any_of (expressions below))
live_any [] h = tt
live_any (x ∷ below) h =
    let s = each_both (is_joined x.0 && not (is_alt x.0)) (list_all fits_alt (tested below)) h in
    let here = x.1 (each_both (is_joined x.0) (not (is_alt x.0)) s.0).0 in
    (here.1, live_any below s.1)

filled_any : (below : List ((p : Path) × IsWhole p)) → nat_le 2 (length (tested below)) ≡ true
    → list_all fits_alt (tested below) ≡ true → Filled (any_of (expressions below))
filled_any [] n h = cc
filled_any (x ∷ below) n h =
    let s = each_both (is_joined x.0 && not (is_alt x.0)) (list_all fits_alt (tested below)) h in
    let here = x.1 (each_both (is_joined x.0) (not (is_alt x.0)) s.0).0 in
    inl here.0

both_by : (x y : Expression (List ℕ)) → x ≡ y → Filled y × Live y → Filled x × Live x
both_by x y e h = subst (λ (z : Expression (List ℕ)). Filled z × Live z) (sym e) h

whole_star : (item : Path) → IsWhole item → IsWhole (Star item)
unfolding is_joined
whole_star item known h =
    both_by (expression (Star item)) (ZeroOrMore (expression item)) (expression_star item)
    (tt, (known (sym (para_star joined_layer item) ∙ h)).1)

whole_plus : (item : Path) → IsWhole item → IsWhole (Plus item)
unfolding is_joined
whole_plus item known h =
    both_by (expression (Plus item)) (OneOrMore (expression item)) (expression_plus item)
    (known (sym (para_plus joined_layer item) ∙ h))

whole_seq : (below : List ((p : Path) × IsWhole p)) → IsWhole (Seq (map (λ e. e.0) below))
unfolding is_joined
whole_seq below h =
    let items : List Path = map (λ (e : (p : Path) × IsWhole p). e.0) below in
    let j : (nat_le 2 (length (tested below)) && list_all fits_seq (tested below)) ≡ true =
    sym (para_seq joined_layer items) ∙ h in
    both_by (expression (Seq items)) (each (expressions below)) (expression_seq items)
    (whole_each below (each_both (nat_le 2 (length (tested below))) (list_all fits_seq (tested below)) j).1)

whole_alt : (below : List ((p : Path) × IsWhole p)) → IsWhole (Alt (map (λ e. e.0) below))
unfolding is_joined
whole_alt below h =
    let items : List Path = map (λ (e : (p : Path) × IsWhole p). e.0) below in
    let j : (nat_le 2 (length (tested below)) && list_all fits_alt (tested below)) ≡ true =
    sym (para_alt joined_layer items) ∙ h in
    let s = each_both (nat_le 2 (length (tested below))) (list_all fits_alt (tested below)) j in
    both_by (expression (Alt items)) (any_of (expressions below)) (expression_alt items)
    (filled_any below s.0 s.1, live_any below s.1)

pub whole : (path : Path) → IsWhole path
whole = path_induction IsWhole
    (λ name h. both_by (expression (Tag name)) (Letter name) (expression_tag name) (tt, tt))
    whole_seq whole_alt whole_star whole_plus
