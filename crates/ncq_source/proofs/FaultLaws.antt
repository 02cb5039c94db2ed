-- What cannot be prepared is what the first item that cannot be applied says.
use Rattle.std.proofs.Common.{◌≡◌, ℕ, ◌+◌, List, [], ◌∷◌, length, Option, Some, None, refl, ap, ◌∙◌}
use Rattle.std.specs.Prelude.{if◌then◌else◌}
use Rattle.std.specs.FinMap.{get, insert, remove}
use Rattle.std.specs.Option.{is_none, option_or}
use Rattle.ncq_tree.specs.declared.model.Element.{Element}
use Rattle.ncq_pyx.specs.declared.item.Item.{Item}
use Rattle.ncq_pyx.specs.declared.item.Item.TheVariants.{Put, Remove}
use Rattle.ncq_source.specs.Changes.{Trial, prepared, put_entry, gone_entry, behind, next, put_at}
use Rattle.ncq_source.specs.Changes.Trial.{Good, NoKey, NotThere}
use Rattle.ncq_source.specs.Faults.{batch_fault, fault_in, first_fault, section_fault}
use Rattle.ncq_source.specs.Held.{Kept}
use Rattle.ncq_source.specs.Keys.{key_of}
use Rattle.ncq_source.specs.Sections.{Holding, Holdings, after_section, batch_trial, go_on, section_trial}
use Rattle.ncq_source.specs.declared.change.ChangeError.TheVariants.{BadKey, NoSuchKey}
use Rattle.ncq_source.specs.declared.change.Entry.{Entry}
use Rattle.ncq_source.specs.declared.change.Section.{Section}
use Rattle.ncq_source.specs.declared.key.Key.{Key}
use Rattle.ncq_source.proofs.Folds.{rest_of}

fault_behind : (e : Entry) (t : Trial (List Entry)) → fault_in (behind e t) ≡ fault_in t
fault_behind e (Good entries) = refl
fault_behind e (NoKey position) = refl
fault_behind e (NotThere position) = refl

-- items have no entries for the first of them that cannot be applied
pub fault_in-prepared : (rule : Key) (p : ℕ) (kept : Kept) (items : List Item) → fault_in (prepared rule p kept items) ≡ first_fault rule p kept items
fault_in-prepared rule p kept [] = refl
fault_in-prepared rule p kept (Put x ∷ items) = by (λ k. fault_in-prepared rule (p + 1) (insert kept k x) items) (key_of rule x)
  where
    by : ((k : List ℕ) → fault_in (prepared rule (p + 1) (insert kept k x) items) ≡ first_fault rule (p + 1) (insert kept k x) items)
        → (o : Option (List ℕ)) → fault_in (next (put_entry p kept o x) (rest_of rule p kept items))
        ≡ option_or (if is_none o then Some (BadKey p) else None) (first_fault rule (p + 1) (put_at kept o x) items)
    by again None = refl
    by again (Some k) = fault_behind _ _ ∙ again k
fault_in-prepared rule p kept (Remove k ∷ items) = by (fault_in-prepared rule (p + 1) (remove kept k) items) (get kept k)
  where
    by : fault_in (prepared rule (p + 1) (remove kept k) items) ≡ first_fault rule (p + 1) (remove kept k) items
        → (o : Option Element) → fault_in (next (gone_entry p k o) (rest_of rule p kept items))
        ≡ option_or (if is_none o then Some (NoSuchKey p) else None) (first_fault rule (p + 1) (remove kept k) items)
    by again None = refl
    by again (Some x) = fault_behind _ _ ∙ again

fault_go_on : {A : Type 0} (t : Trial (List Entry)) (rest : Trial A) → fault_in (go_on t rest) ≡ option_or (fault_in t) (fault_in rest)
fault_go_on (Good entries) rest = refl
fault_go_on (NoKey position) rest = refl
fault_go_on (NotThere position) rest = refl

fault_in-section : (p : ℕ) (items : List Item) (o : Option Holding) → fault_in (section_trial p items o) ≡ section_fault p items o
fault_in-section p items None = refl
fault_in-section p items (Some h) = fault_in-prepared h.rule p h.elements items

-- sections cannot be applied for the first of their items that cannot be
pub fault_in-batch : (p : ℕ) (holdings : Holdings) (sections : List Section) → fault_in (batch_trial p holdings sections) ≡ batch_fault p holdings sections
fault_in-batch p holdings [] = refl
fault_in-batch p holdings (section ∷ more) =
    let rest = batch_trial (p + length section.items) (after_section holdings section) more in
    fault_go_on (section_trial p section.items (holdings section.source)) rest
    ∙ ap (λ o. option_or o (fault_in rest)) (fault_in-section p section.items (holdings section.source))
    ∙ ap (option_or (section_fault p section.items (holdings section.source))) (fault_in-batch (p + length section.items) (after_section holdings section) more)
