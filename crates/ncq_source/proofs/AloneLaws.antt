-- One section, prepared alone.
use Rattle.std.proofs.Common.{◌≡◌, Bool, true, false, ◌||◌, [], ◌∷◌, slice_get, Some, None, is_some, refl, sym, ap, ◌∙◌, arith}
use Rattle.std.specs.Prelude.{◌==◌, if◌then◌else◌}
use Rattle.std.specs.List.Sorted.{IsStrictlySortedBy}
use Rattle.std.specs.Str.{bytes_eq}
use Rattle.std.proofs.lemmas.Bool.Decides.{nat_tests}
use Rattle.std.proofs.lemmas.List.{append-nil}
use Rattle.ncq_base.proofs.Keyed.{is_key_equiv}
use Rattle.ncq_source.specs.Changes.{prepared}
use Rattle.ncq_source.specs.Changes.Trial.{Good}
use Rattle.ncq_source.specs.ChangeStates.{AreRising}
use Rattle.ncq_source.specs.Sections.{items_for}
use Rattle.ncq_source.specs.Stores.{Source}
use Rattle.ncq_source.specs.StoreStates.{ArePortionsOf, StoreState, found}
use Rattle.ncq_source.specs.declared.change.Portion.{Portion}
use Rattle.ncq_source.specs.declared.change.Section.{Section}
use Rattle.ncq_source.proofs.Places.{same_Some}
use Rattle.ncq_source.proofs.SectionLaws.{found_source, same_name}

one_rises : (portion : Portion) → AreRising (portion ∷ [])
unfolding IsStrictlySortedBy
one_rises portion = (tt, tt)

or_false : (b : Bool) → (b || false) ≡ b
or_false true = refl
or_false false = refl

module _ (store : StoreState) (section : Section) (portion : Portion) (s : Source) (asked : found store section.source ≡ Some portion.source.0) (here : slice_get store.sources portion.source.0 ≡ Some s)
    (good : prepared s.key 1 s.elements section.items ≡ Good portion.entries) where
  own_name : s.name ≡ section.source
  own_name = let f = found_source store section.source portion.source.0 asked in ap (λ (x : Source). x.name) (same_Some s f.0 (sym here ∙ f.1)) ∙ f.2

  own : bytes_eq s.name section.source ≡ true
  own = ap (λ n. bytes_eq n section.source) own_name ∙ is_key_equiv.refl section.source

  own_items : items_for s.name (section ∷ []) ≡ section.items
  own_items = append-nil _ ∙ ap (λ t. if t then section.items else []) own

  -- the entries of its source are those of its items
  pub alone_is_portion : ArePortionsOf store (section ∷ []) (portion ∷ [])
  alone_is_portion = record {
    rising = one_rises portion;
    each = (
      record {
        source = s;
        here = here;
        found = ap (found store) own_name ∙ asked;
        named = ap (λ t. t || false) own;
        entries = ap (prepared s.key 1 s.elements) own_items ∙ good;
      },
      tt,
    );
    all = λ name q named finds.
        let same : name ≡ section.source = same_name name section.source (sym (or_false (bytes_eq name section.source)) ∙ named) in
        let placed : q ≡ portion.source.0 = same_Some q portion.source.0 (sym finds ∙ ap (found store) same ∙ asked) in
        let there : (q == portion.source.0) ≡ true = grind (arith, nat_tests, placed) in
        ap (λ t. is_some (if t then Some portion.entries else None)) there;
  }
