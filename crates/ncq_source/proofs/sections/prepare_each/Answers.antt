use Rattle.std.proofs.Common.{◌≡◌, ◌+◌, ◌<◌, ◌∷◌, [], ◌∙◌, ℕ, List, Some, None, Option, Bool, true, false, cond, length, drop, ap, sym, subst, arith, refl}
use Rattle.std.specs.Prelude.{IsFalse, ◌==◌, ◌-◌}
use Rattle.std.specs.Option.{option_map}
use Rattle.std.specs.BTreeMap.{get}
use Rattle.std.specs.Ordering.{nat_cmp, is_eq}
use Rattle.std.proofs.lemmas.Bool.Decides.{nat_tests}
use Rattle.std.proofs.lemmas.Grind.{common_steps}
use Rattle.ncq_pyx.specs.declared.item.Item.{Item}
use Rattle.ncq_source.specs.Sections.{are_known, batch_trial}
use Rattle.ncq_source.specs.StoreStates.{found, holdings_of}
use Rattle.ncq_source.specs.Seens.{Takes}
use Rattle.ncq_source.specs.Views.{source_of}
use Rattle.ncq_source.specs.declared.change.Section.{Section}
use Rattle.ncq_source.specs.declared.change.SourceId.{SourceId}
use Rattle.ncq_source.specs.declared.sections.Seen.{Seen}
use Rattle.ncq_source.proofs.SectionLaws.{AreNamed, IsGathered, gathers, known_behind, names_go_on, now_of, portions_are, sources_go_on, trial_goes_on}
use Rattle.ncq_source.proofs.Trials.{from_here, nothing_left, some_left}
use Rattle.ncq_source.proofs.sections.prepare_each.Goals as goal

-- what was taken out and put back
put_back : (old mid new : Option Seen) (one : Seen) (t : Bool) → mid ≡ cond t None old → new ≡ cond t (Some one) mid → new ≡ cond t (Some one) old
put_back old mid new one true a b = b
put_back old mid new one false a b = b ∙ a

pub loop-section-preserved : goal.loop-section-preserved
loop-section-preserved c =
    let store = c.args.store.now in
    let all = c.args.sections.now in
    let index = c.loop-section.section-index in
    let section = c.section-item.result in
    let more = drop (index + 1) all in
    let here_left = sym (from_here all index section c.loop-section-test.true c.section-item.is) in
    let at = c.in-Some.id.0 in
    let asked : found store section.source ≡ Some at = sym c.place_of.ensures ∙ ap (option_map (λ (id : SourceId). id.0)) c.in-Some.is in
    let s = source_of c.source.result.now in
    let here = c.source.ensures in
    let seen = get nat_cmp c.loop-section.seen in
    let mid = get nat_cmp c.remove-one.new.self in
    let new = get nat_cmp c.keep.new.seen in
    let one = c.in_ok-one.one in
    let before = c.loop-section.before in
    let count = c.loop-section.invariant.count in
    let items : c.as_slice-items.result.now ≡ section.items = c.as_slice-items.ensures in
    let sum : c.in-Some-checked_add.behind ≡ before + length section.items = grind (arith, common_steps, c.in-Some-checked_add.ensures, ap (λ (xs : List Item). length xs) items) in
    let last : Bool = c.loop-section.left - 1 == 0 in
    let takes = subst (λ (o : Option Seen). Takes s o section.items before last one) c.remove-one.ensures.value (subst (λ (xs : List Item). Takes s c.remove-one.result xs before last one) items c.in_ok-one.ensures) in
    let updates = λ (q : ℕ). put_back (seen q) (mid q) (new q) one (is_eq (nat_cmp at q)) (c.remove-one.ensures.updates.0 q) (c.in_ok-keep.ensures.0 q) in
    let goes_on : 0 < length more → IsFalse last = λ some. let behind : index + 1 < length all = some_left all (index + 1) some in let more_left : 0 < c.loop-section.left - 1 = omega (arith, count) in grind (arith, nat_tests, more_left) in
    record {
      count = omega (arith, count);
      known = sym (known_behind store section more at asked) ∙ ap (are_known (holdings_of store)) (sym here_left) ∙ c.loop-section.invariant.known;
      trial = trial_goes_on store section more at s asked here seen new one before last takes updates goes_on (c.in-Some-checked_add.behind + 1) (omega (arith, sum))
          ∙ ap (batch_trial (before + 1) (now_of store seen)) (sym here_left) ∙ c.loop-section.invariant.trial;
      gathered = gathers store section more at s asked here seen new one before last takes updates goes_on all (subst (λ (sections : List Section). IsGathered store all sections seen) here_left c.loop-section.invariant.gathered);
      named = names_go_on store section more at s asked here seen new one before last takes updates goes_on all (subst (λ (sections : List Section). AreNamed store all sections seen) here_left c.loop-section.invariant.named);
      sources = sources_go_on store section more at s asked here seen new one before last takes updates goes_on c.loop-section.invariant.sources;
    }

nothing : {A : Type 0} (xs : List A) → length xs ≡ 0 → xs ≡ []
nothing [] e = refl
nothing (x ∷ xs) e = absurd (omega arith)

pub returns-clause-portions : goal.returns-clause-portions
returns-clause-portions c =
    let store = c.args.store.now in
    let all = c.args.sections.now in
    let seen = get nat_cmp c.loop-section.seen in
    let empty = nothing (drop c.loop-section.section-index all) (nothing_left all c.loop-section.section-index c.loop-section-test.false) in
    portions_are store all c.loop-section.seen
    (subst (λ (sections : List Section). IsGathered store all sections seen) empty c.loop-section.invariant.gathered)
    (subst (λ (sections : List Section). AreNamed store all sections seen) empty c.loop-section.invariant.named)
    c.loop-section.invariant.sources c.in_ok-portions_of.field-0.items c.in_ok-portions_of.ensures.portions c.in_ok-portions_of.ensures.rising
