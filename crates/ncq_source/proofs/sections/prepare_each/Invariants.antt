use Rattle.std.proofs.Common.{◌≡◌, ◌+◌, length, drop}
use Rattle.std.specs.BTreeMap.{get}
use Rattle.std.specs.Ordering.{nat_cmp}
use Rattle.ncq_source.specs.Sections.{are_known, batch_trial}
use Rattle.ncq_source.specs.StoreStates.{holdings_of}
use Rattle.ncq_source.proofs.SectionLaws.{AreNamed, AreSources, IsGathered, now_of}
use Rattle.ncq_source.proofs.sections.prepare_each.Given as goal

-- what is left decides
abbrev pub invariant-loop-section : goal.invariant-loop-section
invariant-loop-section l = record {
  count : l.left + l.section-index ≡ length l.sections;
  known : are_known (holdings_of l.store) (drop l.section-index l.sections) ≡ are_known (holdings_of l.store) l.sections;
  trial : batch_trial (l.before + 1) (now_of l.store (get nat_cmp l.seen)) (drop l.section-index l.sections) ≡ batch_trial 1 (holdings_of l.store) l.sections;
  gathered : IsGathered l.store l.sections (drop l.section-index l.sections) (get nat_cmp l.seen);
  named : AreNamed l.store l.sections (drop l.section-index l.sections) (get nat_cmp l.seen);
  sources : AreSources l.store (get nat_cmp l.seen);
}
