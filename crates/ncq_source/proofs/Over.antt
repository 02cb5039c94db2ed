-- Elements with changes over them.
use Rattle.std.proofs.Common.{◌≡◌, ℕ, Bool, true, false, cond, List, [], ◌∷◌, Option, Some, None, refl, sym, ap, ◌∙◌}
use Rattle.std.specs.Ordering.{nat_cmp, eq_by_cmp}
use Rattle.std.specs.Option.{unwrap_or}
use Rattle.std.specs.Map.{lookup}
use Rattle.std.specs.Cmp.Lexicographic.{slice_cmp, texts_ties, nat_list_cmp_total}
use Rattle.std.specs.FinMap.{get, get-insert, get-remove, same_map}
use Rattle.std.specs.Str.{bytes_eq}
use Rattle.ncq_base.proofs.Keyed.{bytes_apart, turned}
use Rattle.ncq_tree.specs.declared.model.Element.{Element}
use Rattle.ncq_source.specs.Held.{Kept, with_at, over}

pub get_with_at : (kept : Kept) (k : List ℕ) (w : Option Element) (q : List ℕ) → get (with_at kept k w) q ≡ cond (eq_by_cmp (slice_cmp nat_cmp) q k) w (get kept q)
get_with_at kept k None q = get-remove nat_list_cmp_total kept k q
get_with_at kept k (Some e) q = get-insert nat_list_cmp_total kept k e q

picked : (b : Bool) (w : Option Element) (o : Option (Option Element)) (d : Option Element) → cond b w (unwrap_or o d) ≡ unwrap_or (cond b (Some w) o) d
picked true w o d = refl
picked false w o d = refl

-- what the key holds is what the changes say, or what it held
pub get_over : (kept : Kept) (changes : List (List ℕ × Option Element)) (q : List ℕ) → get (over kept changes) q ≡ unwrap_or (lookup (bytes_eq q) changes) (get kept q)
get_over kept [] q = refl
get_over kept (p ∷ more) q =
    get_with_at (over kept more) p.0 p.1 q
    ∙ (λ i. cond (sym (texts_ties q p.0) i) p.1 (get_over kept more q i))
    ∙ picked (bytes_eq q p.0) p.1 (lookup (bytes_eq q) more) (get kept q)

-- one more change
pub over_set : (kept : Kept) (old new : List (List ℕ × Option Element)) (k : List ℕ) (w : Option Element)
    → ((q : List ℕ) → lookup (bytes_eq q) new ≡ cond (bytes_eq k q) (Some w) (lookup (bytes_eq q) old)) → over kept new ≡ with_at (over kept old) k w
over_set kept old new k w is = same_map nat_list_cmp_total bytes_apart _ _ (λ q.
    get_over kept new q
    ∙ ap (λ o. unwrap_or o (get kept q)) (is q)
    ∙ sym (picked (bytes_eq k q) w (lookup (bytes_eq q) old) (get kept q))
    ∙ (λ i. cond (turned k q i) w (sym (get_over kept old q) i))
    ∙ sym (get_with_at (over kept old) k w q))
