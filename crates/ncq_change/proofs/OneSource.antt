-- Entries of one source are a change of all sources.
use Rattle.std.proofs.Common.{◌≡◌, ℕ, true, false, List, [], refl, sym, subst, ◌∙◌}
use Rattle.std.specs.Prelude.{if◌then◌else◌}
use Rattle.std.specs.Cmp.Lexicographic.{texts_ties}
use Rattle.std.specs.Str.{bytes_eq}
use Rattle.ncq_base.proofs.Keyed.{bytes_apart}
use Rattle.ncq_base.proofs.Totals.{is_equal}
use Rattle.ncq_source.specs.declared.change.Entry.{Entry}
use Rattle.ncq_source.specs.Changes.{Chains}
use Rattle.ncq_source.specs.Changes as changes
use Rattle.ncq_source.specs.Held.{Kept}
use Rattle.ncq_change.specs.Entries.{IsChange, of_source, after_in}

-- names that the test takes for one are one
pub name_is : (a b : List ℕ) → bytes_eq a b ≡ true → a ≡ b
name_is a b t = bytes_apart a b (is_equal _ (sym (texts_ties a b) ∙ t))

pub one_source_changes : (before : List ℕ → Kept) (name : List ℕ) (entries : List Entry) → Chains (before name) entries
    → IsChange before (after_in before name entries) (of_source name entries)
one_source_changes before name entries chains = record {
  chains = λ source.
      elim (bytes_eq name source) as (λ t. bytes_eq name source ≡ t → Chains (before source) (if t then entries else [])) [
        | true ↦ λ p. subst (λ s. Chains (before s) entries) (name_is name source p) chains
        | false ↦ λ p. tt
      ] refl;
  ends = λ source.
      elim (bytes_eq name source) as (λ t. (if t then changes.after (before source) entries else before source) ≡ changes.after (before source) (if t then entries else [])) [
        | true ↦ refl
        | false ↦ refl
      ];
}
