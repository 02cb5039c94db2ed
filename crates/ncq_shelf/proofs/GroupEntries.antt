-- Rows that are added to the file of a group one by one.
use Rattle.std.proofs.Common.{◌≡◌, ℕ, ◌++◌, cond, List, [], ◌∷◌, Some, refl, sym, ap, ◌∙◌, subst, append-nil, append_assoc}
use Rattle.std.specs.List.{AllByRecursion}
use Rattle.std.specs.Map.{lookup}
use Rattle.ncq_midfile.specs.Views.{HasNumber, RangeState}
use Rattle.ncq_midfile.specs.declared.signed.SignedRow.{SignedRow}
use Rattle.ncq_shelf.specs.Groups.{Groups, is_group, AddsToGroup, AreBehind}
use Rattle.ncq_shelf.specs.declared.group.Group.{Group}
use Rattle.ncq_shelf.proofs.GroupGains.{group_itself}
use Rattle.ncq_shelf.proofs.Maps.{one_value}

module _ (old : Groups) (group : Group) where
  -- its file was written over by one with more rows
  pub added_to : (new : Groups) (start w : RangeState) (some : List SignedRow) → lookup (is_group group) old ≡ Some start
      → ((q : Group) → lookup (is_group q) new ≡ cond (is_group group q) (Some w) (lookup (is_group q) old)) → w.slot ≡ start.slot → w.rows ≡ start.rows ++ some → AddsToGroup old group some new
  added_to new start w some at put slot rows = record {
    here = λ held found.
        let same : start ≡ held = one_value at found in
        put group ∙ ap (λ b. cond b (Some w) (lookup (is_group group) old)) (group_itself group)
        ∙ (λ i. Some (record { slot = (slot ∙ ap (λ (h : RangeState). h.slot) same) i; rows = (rows ∙ ap (λ (h : RangeState). h.rows ++ some) same) i }));
    others = λ other differs. put other ∙ ap (λ b. cond b (Some w) (lookup (is_group other) old)) differs;
  }

-- some of the rows are there, and the rest may follow
pub record ArePartlyAdded (slot : ℕ) (start : RangeState) (all : List SignedRow) (held : RangeState) (rest : List SignedRow) : Type 0 where
  pub some : List SignedRow
  pub is : some ++ rest ≡ all
  pub rows : held.rows ≡ start.rows ++ some
  pub same : held.slot ≡ start.slot
  pub numbers : AllByRecursion (λ r. HasNumber slot r.row) rest
  pub behind : AreBehind held.rows rest

module _ (slot : ℕ) (start : RangeState) (all : List SignedRow) where
  pub none_added : AllByRecursion (λ r. HasNumber slot r.row) all → AreBehind start.rows all → ArePartlyAdded slot start all start all
  none_added numbers behind = record { some = []; is = refl; rows = sym (append-nil start.rows); same = refl; numbers = numbers; behind = behind }

  pub one_added : (held next : RangeState) (row : SignedRow) (rest : List SignedRow) → ArePartlyAdded slot start all held (row ∷ rest) → next.slot ≡ held.slot → next.rows ≡ held.rows ++ row ∷ [] → ArePartlyAdded slot start all next rest
  one_added held next row rest part kept e = record {
    some = part.some ++ row ∷ [];
    is = append_assoc part.some (row ∷ []) rest ∙ part.is;
    rows = e ∙ ap (λ x. x ++ row ∷ []) part.rows ∙ append_assoc start.rows part.some (row ∷ []);
    same = kept ∙ part.same;
    numbers = part.numbers.1;
    behind = subst (λ x. AreBehind x rest) (sym e) part.behind.1;
  }

  pub all_added : (held : RangeState) → ArePartlyAdded slot start all held [] → held.rows ≡ start.rows ++ all
  all_added held part = part.rows ∙ ap (λ x. start.rows ++ x) (sym (append-nil part.some) ∙ part.is)
