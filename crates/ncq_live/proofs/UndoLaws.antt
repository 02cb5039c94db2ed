-- An expression that is installed and then released leaves the table that was.
use Rattle.std.proofs.Common.{◌≡◌, ℕ, ◌+◌, ◌-◌, ◌<◌, ◌≤◌, inl, inr, refl, sym, ◌∙◌, ap, subst, arith}
use Rattle.std.specs.Prelude.{Option, Some, None}
use Rattle.std.specs.Option.{option_map}
use Rattle.std.specs.FinMap.{get, same_map, nat_cmp-IsAntisymmetric}
use Rattle.std.proofs.lemmas.Bool.{cases_eq, cases_lt}
use Rattle.std.proofs.lemmas.Cmp.{nat_cmp_total}
use Rattle.ncq_plan.specs.declared.expr.Expr.{Expr}
use Rattle.ncq_shelf.specs.Contents.{AreUpTo, cut_to}
use Rattle.ncq_shelf.specs.KeptFiles.{KeptFile, Files}
use Rattle.ncq_shelf.proofs.CallerLemmas.{put_same, put_other, there, one_value}
use Rattle.ncq_feed.proofs.ContentLaws.{all_up}
use Rattle.ncq_group.specs.Closure.{IsNeeded}
use Rattle.ncq_group.specs.Closure.IsNeeded.{used, read}
use Rattle.ncq_group.specs.Installs.{IsInstalled}
use Rattle.ncq_group.specs.Releases.{HasUse, IsReleased, with_use_less}
use Rattle.ncq_group.specs.Tables.{TableState, Facts, mark_of}
use Rattle.ncq_group.specs.declared.mark.GroupMark.{GroupMark}
use Rattle.ncq_group.proofs.Closures.{all_needed, reader_above}
use Rattle.ncq_group.proofs.Collects.{needed_more}
use Rattle.ncq_group.proofs.Released.{grounded_low}

-- files without a row of a later change are left as they are by a cut
cut_nothing : (change : ℕ) (files : Files) → AreUpTo change files → (number : ℕ) → option_map (cut_to change) (get files number) ≡ get files number
cut_nothing change files last number = by (get files number) refl
  where
    by : (o : Option KeptFile) → get files number ≡ o → option_map (cut_to change) o ≡ o
    by None e = refl
    by (Some file) e = λ i. Some (record file { content = record { base = file.content.base; rows = all_up change file.content.rows (last number file e).last i } })

module _ (plan : Expr) (old mid : TableState) (number : ℕ) (i : IsInstalled plan old mid number) where
  -- the expression has a use
  pub installed_use : HasUse mid.files number
  installed_use =
      let s = i.stands in
      elim (cases_lt number old.next_file) [
        | inl less ↦
            let b = i.before number s.file s.at less in
            let e : s.file ≡ record (b.0) { uses = b.0.uses + 1 } = one_value s.at (i.gains b.0 b.1) in
            let u : s.file.uses ≡ b.0.uses + 1 = ap (λ (f : KeptFile). f.uses) e in
            record { file = s.file; at = s.at; used = omega arith }
        | inr above ↦
            let u = i.first_use s.file s.at above in
            record { file = s.file; at = s.at; used = omega arith }
      ]

  module _ (facts : Facts old) (mid_facts : Facts mid) (low : Files) (r : IsReleased mid.files number low) where
    abbrev less : Files
    less = with_use_less mid.files number r.file

    abbrev lower : KeptFile
    lower = record (r.file) { uses = r.file.uses - 1 }

    lower_at : get less number ≡ Some lower
    lower_at = put_same mid.files number lower

    -- what was there has its uses of before
    old_stays : (other : ℕ) (file : KeptFile) → get old.files other ≡ Some file → get less other ≡ Some file
    old_stays other file at = elim (cases_eq other number) [
      | inl here ↦
          let more : KeptFile = record file { uses = file.uses + 1 } in
          let is : r.file ≡ more = one_value r.at (i.gains file (subst (λ n. get old.files n ≡ Some file) here at)) in
          let back : file.uses + 1 - 1 ≡ file.uses = omega arith in
          let same : lower ≡ file = (λ j. record (is j) { uses = (is j).uses - 1 }) ∙ (λ j. record file { uses = back j }) in
          subst (λ n. get less n ≡ Some file) (sym here) (lower_at ∙ ap Some same)
      | inr differs ↦ put_other mid.files number lower other differs ∙ i.others other file at differs
    ]

    there_at : (other : ℕ) (file : KeptFile) → get less other ≡ Some file → (was : KeptFile) × (get mid.files other ≡ Some was)
    there_at other file at = elim (cases_eq other number) [
      | inl here ↦ (r.file, subst (λ n. get mid.files n ≡ Some r.file) (sym here) r.at)
      | inr differs ↦ (file, sym (put_other mid.files number lower other differs) ∙ at)
    ]

    -- what is there under a number of before was there
    old_back : (other : ℕ) (file : KeptFile) → get less other ≡ Some file → other < old.next_file → get old.files other ≡ Some file
    old_back other file at under =
        let was = there_at other file at in
        let before = i.before other was.0 was.1 under in
        before.1 ∙ ap Some (one_value (old_stays other before.0 before.1) at)

    -- nothing needs a new file
    none_needed : {other : ℕ} → IsNeeded less other → old.next_file ≤ other → ⊥
    none_needed (used {number = other} {file = file} at some) above = elim (cases_eq other number) [
      | inl here ↦
          let is : file ≡ lower = one_value (subst (λ n. get less n ≡ Some file) here at) lower_at in
          let one = i.first_use r.file r.at (subst (λ n. old.next_file ≤ n) here above) in
          let none : file.uses ≡ r.file.uses - 1 = ap (λ (f : KeptFile). f.uses) is in
          absurd (omega arith)
      | inr differs ↦
          let none = i.unused other file (sym (put_other mid.files number lower other differs) ∙ at) above differs in
          absurd (omega arith)
    ]
    none_needed (read {number = other} {reader = reader} {file = file} {by = by} at_reader needed at reads) above =
        let up = reader_above less (grounded_low mid mid_facts number r.file r.at) other file at reader by at_reader reads in
        none_needed needed (omega arith)

    -- the files are those of before
    pub files_back : low ≡ old.files
    files_back = same_map nat_cmp_total nat_cmp-IsAntisymmetric low old.files (λ other. by other (get old.files other) refl)
      where
        by : (other : ℕ) (o : Option KeptFile) → get old.files other ≡ o → get low other ≡ get old.files other
        by other (Some file) e = r.kept other (needed_more old_stays (all_needed old facts other file e)) ∙ old_stays other file e ∙ sym e
        by other None e = absent (get low other) refl
          where
            absent : (o : Option KeptFile) → get low other ≡ o → get low other ≡ get old.files other
            absent None h = h ∙ sym e
            absent (Some file) h =
                let s = r.stays other file h in
                elim (cases_lt other old.next_file) [
                  | inl under ↦ absurd (there (old_back other file s.0 under) e)
                  | inr above ↦ absurd (none_needed s.1 above)
                ]

    -- each file was there when the mark was made
    pub at_mark : (mark : GroupMark) → mark ≡ mark_of old → (other : ℕ) (file : KeptFile) → get low other ≡ Some file → (file.content.base ≤ mark.number) × (other < mark.next_file)
    at_mark mark is other file at =
        let was : get old.files other ≡ Some file = (λ i. get (sym files_back i) other) ∙ at in
        subst (λ (m : GroupMark). (file.content.base ≤ m.number) × (other < m.next_file)) (sym is) ((facts.up_to other file was).base, facts.below other file was)

    -- and rolled back to the mark, the table is the one of before
    pub table_back : (mark : GroupMark) (new : TableState) → mark ≡ mark_of old → new.number ≡ mark.number → new.next_file ≡ mark.next_file
        → ((other : ℕ) → get new.files other ≡ option_map (cut_to mark.number) (get low other)) → new ≡ old
    table_back mark new is to next cut =
        let files : new.files ≡ old.files =
        same_map nat_cmp_total nat_cmp-IsAntisymmetric new.files old.files
        (λ other. cut other ∙ (λ j. option_map (cut_to (is j).number) (get (files_back j) other)) ∙ cut_nothing old.number old.files facts.up_to other) in
        λ j. record { files = files j; next_file = (next ∙ ap (λ (m : GroupMark). m.next_file) is) j; number = (to ∙ ap (λ (m : GroupMark). m.number) is) j }
