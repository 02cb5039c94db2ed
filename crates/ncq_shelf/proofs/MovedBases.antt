-- What a file shows once a change is its base: rows of its own, or those of its group as they are.
use Rattle.std.proofs.Common.{◌≡◌, ◌⊎◌, ◌≤◌, ℕ, List, Some, None, Option, Result, OnOk, OnErr, inl, inr, refl, sym, ap, ◌∙◌, subst}
use Rattle.std.proofs.lemmas.Result.{on_ok_weaker}
use Rattle.ncq_plan.specs.declared.expr.Expr.{Expr}
use Rattle.ncq_row.specs.Embeddings.{Row}
use Rattle.ncq_midfile.specs.Content.{IsContent, since}
use Rattle.ncq_midfile.specs.Files.{FileState}
use Rattle.ncq_holders.specs.Held.{Held}
use Rattle.ncq_shelf.specs.Groups.{Groups, HasBase, content_of, group_of}
use Rattle.ncq_shelf.specs.Keyed.{AreHeld}
use Rattle.ncq_shelf.specs.declared.group.Group.{Group}
use Rattle.ncq_shelf.specs.declared.rows.Rows.{Rows}
use Rattle.ncq_shelf.specs.declared.rows.Rows.TheVariants.{Ranged}
use Rattle.ncq_shelf.proofs.Grouped.{raised_content}
use Rattle.ncq_shelf.proofs.KeyedAdded.{compacted_held}

-- what a file shows, once a change is its base, of what it showed
pub record IsMoved (change : ℕ) (old new : FileState) : Type 0 where
  pub base : new.base ≡ change
  pub later : since change new.rows ≡ since change old.rows
  pub stays : (at : ℕ) (list : List Row) → change ≤ at → IsContent at old.rows list → IsContent at new.rows list

module _ {T E : Type 0} (r : Result T E) (change : ℕ) (gs : Groups) (expr : Expr) (old new : Rows)
    (own : OnOk r (group_of old ≡ None → (gs : Groups) (expr : Expr) → HasBase change (content_of gs expr old) (content_of gs expr new)))
    (ranged : (group : Group) → group_of old ≡ Some group → new ≡ Ranged group change) (err : OnErr r (new ≡ old)) where
  -- the rows of a group are shown as they were, with the change as the base
  raised : (group : Group) → group_of old ≡ Some group → content_of gs expr new ≡ record { base = change; rows = (content_of gs expr old).rows }
  raised group of = ap (content_of gs expr) (ranged group of) ∙ raised_content gs expr old group change of

  pub moved_on : OnOk r (IsMoved change (content_of gs expr old) (content_of gs expr new))
  moved_on = on_ok_weaker r (λ based. by based (group_of old) refl) own
    where
      by : (group_of old ≡ None → (gs : Groups) (expr : Expr) → HasBase change (content_of gs expr old) (content_of gs expr new)) → (o : Option Group) → group_of old ≡ o → IsMoved change (content_of gs expr old) (content_of gs expr new)
      by based None e = let b = based e gs expr in record { base = b.base; later = b.left.later; stays = b.stays }
      by based (Some group) e = record {
        base = ap (λ (s : FileState). s.base) (raised group e);
        later = ap (λ (s : FileState). since change s.rows) (raised group e);
        stays = λ at list later is. subst (λ (s : FileState). IsContent at s.rows list) (sym (raised group e)) is;
      }

  pub moved_rows : (group : Group) → group_of old ≡ Some group → (content_of gs expr new).rows ≡ (content_of gs expr old).rows
  moved_rows group of = ap (λ (s : FileState). s.rows) (raised group of)

  pub moved_held : (held : Held) (number slot : ℕ) → AreHeld held number slot (content_of gs expr old).rows → AreHeld held number slot (content_of gs expr new).rows
  moved_held held number slot h = by (group_of old) refl
    where
      by : (o : Option Group) → group_of old ≡ o → AreHeld held number slot (content_of gs expr new).rows
      by None e = compacted_held gs r held number slot change gs expr old new (on_ok_weaker r (λ based. based e) own) err h
      by (Some group) e = subst (λ (s : FileState). AreHeld held number slot s.rows) (sym (raised group e)) h

-- a file of which a virtual one has the change as its base, and another is as it was
module _ (change : ℕ) (gs : Groups) (expr : Expr) (old new : Rows) (own : group_of old ≡ None → new ≡ old) (ranged : (group : Group) → group_of old ≡ Some group → new ≡ Ranged group change) where
  pub same_group : group_of new ≡ group_of old
  same_group = by (group_of old) refl
    where
      by : (o : Option Group) → group_of old ≡ o → group_of new ≡ group_of old
      by None e = ap group_of (own e)
      by (Some group) e = ap group_of (ranged group e) ∙ sym e

  pub with_base : (group : Group) → group_of old ≡ Some group → (content_of gs expr new).base ≡ change
  with_base group e = ap (λ (rows : Rows). (content_of gs expr rows).base) (ranged group e)

  pub same_rows : (content_of gs expr new).rows ≡ (content_of gs expr old).rows
  same_rows = by (group_of old) refl
    where
      by : (o : Option Group) → group_of old ≡ o → (content_of gs expr new).rows ≡ (content_of gs expr old).rows
      by None e = ap (λ (rows : Rows). (content_of gs expr rows).rows) (own e)
      by (Some group) e = ap (λ (s : FileState). s.rows) (ap (content_of gs expr) (ranged group e) ∙ raised_content gs expr old group change e)

  pub either_base : ((content_of gs expr new).base ≡ (content_of gs expr old).base) ⊎ ((content_of gs expr new).base ≡ change)
  either_base = by (group_of old) refl
    where
      by : (o : Option Group) → group_of old ≡ o → ((content_of gs expr new).base ≡ (content_of gs expr old).base) ⊎ ((content_of gs expr new).base ≡ change)
      by None e = inl (ap (λ (rows : Rows). (content_of gs expr rows).base) (own e))
      by (Some group) e = inr (with_base group e)
