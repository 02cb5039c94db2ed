use Rattle.std.proofs.Common.{◌≡◌, Some, ◌∙◌, subst}
use Rattle.std.specs.Option.{option_map}
use Rattle.std.specs.FinMap.{get}
use Rattle.ncq_shelf.specs.Contents.{cut_to}
use Rattle.ncq_count.proofs.CallerLemmas.{counted_again, all_cut}
use Rattle.ncq_group.specs.Inside.{table_of}
use Rattle.ncq_group.specs.Tables.{TableState}
use Rattle.ncq_group.proofs.SameTable.{facts_like, cut_up, cut_back, cut_wide, cut_last}
use Rattle.ncq_group.proofs.table.GroupTable.roll_back.Goals as goal

pub roll_back-requires : goal.roll_back-requires
roll_back-requires c = λ number file at. c.requires.base number file (subst (λ (t : TableState). get t.files number ≡ Some file) c.self.view_is at)

pub invariant_of-self : goal.invariant_of-self
invariant_of-self c =
    let old = table_of c.self.inside.filed c.self.inside.number in
    let new : TableState = record { files = c.roll_back.new.self; next_file = c.args.mark.next_file; number = c.args.mark.number } in
    let cut = c.roll_back.ensures in
    record {
      facts = facts_like old new c.self.invariant.facts (cut_up old.files new.files c.args.mark.number cut) (cut_back old.files new.files c.args.mark.number cut) (cut_wide old.files new.files c.args.mark.number cut c.self.invariant.facts.wide)
          (cut_last old.files new.files c.args.mark.number cut (λ number file at. c.requires.base number file (subst (λ (t : TableState). get t.files number ≡ Some file) c.self.view_is at)))
          (λ number file at. c.requires.below number file (subst (λ (t : TableState). get t.files number ≡ Some file) c.self.view_is at));
      counted = counted_again old.files new.files (all_cut old.files new.files c.args.mark.number cut) c.self.inside.filed.groups c.self.invariant.counted;
    }

pub returns-clause-files : goal.returns-clause-files
returns-clause-files c = λ number.
    c.roll_back.ensures number ∙ (λ i. option_map (cut_to c.args.mark.number) (get (c.self.view_is i).files number))
