-- A file that no file reads has nothing to pass on.
use Rattle.std.proofs.Common.{ℕ, Bool, List, inl, inr, refl, sym, subst}
use Rattle.ncq_plan.specs.declared.expr.Expr.{Expr}
use Rattle.ncq_midfile.specs.declared.signed.SignedRow.{SignedRow}
use Rattle.ncq_shelf.specs.KeptFiles.{AtFile, Files}
use Rattle.ncq_shelf.specs.Parts.{IsInput}
use Rattle.ncq_shelf.specs.Readers.{IsJoinOver, SelectsFrom}
use Rattle.ncq_shelf.specs.Readers.SelectsFrom.{equal as equal_from, range as range_from}
use Rattle.ncq_shelf.specs.Stands.{IsReadIn, Stands}
use Rattle.ncq_shelf.proofs.CallerLemmas.{equal-input_of, range-input_of, left-input_of, right-input_of}
use Rattle.ncq_feed.specs.Runs.{Run, IsUnderWay}
use Rattle.ncq_feed.specs.Turns.{IsPassedDown, AreTold}
use Rattle.ncq_feed.proofs.GrowthLaws.{stands_up}

module _ (run : Run) (files : Files) (under : IsUnderWay run files) (at : ℕ) (unread : AtFile files at (λ file. IsReadIn files file.expr → ⊥)) where
  none_reads : (whole inner : Expr) (number : ℕ) → Stands run.files whole number → IsInput inner whole → Stands run.files inner at → ⊥
  none_reads whole inner number reader reads on =
      let r = stands_up run files under whole number reader in
      let o = stands_up run files under inner at on in
      unread o.file o.at (record {
        reader = number;
        file = r.file;
        at = r.at;
        reads = subst (λ (w : Expr). IsInput o.file.expr w) (sym r.of) (subst (λ (i : Expr). IsInput i whole) (sym o.of) reads);
      })

  no_selection : (number : ℕ) (test : SignedRow → Bool) → SelectsFrom run.files number at test → ⊥
  no_selection number _ (equal_from inner slot constant reader on) = none_reads _ inner number reader (equal-input_of inner slot constant) on
  no_selection number _ (range_from inner slot interval reader on) = none_reads _ inner number reader (range-input_of inner slot interval) on

  no_join : (number : ℕ) → IsJoinOver run.files at number → ⊥
  no_join number over =
      let j = over.joins in
      elim over.here [
        | inl e ↦ none_reads _ j.first number j.stands (left-input_of j.first j.second j.pairs) (subst (Stands run.files j.first) e j.on_left)
        | inr e ↦ none_reads _ j.second number j.stands (right-input_of j.first j.second j.pairs) (subst (Stands run.files j.second) e j.on_right)
      ]

  pub nothing_down : (keys : List ℕ) → IsPassedDown run at keys keys files files
  nothing_down keys = record {
    taken = λ number test selects. absurd (no_selection number test selects);
    others = λ number apart. refl;
    quiet = λ number idle. (idle, refl);
    noted = λ number is. inl is;
  }

  pub nothing_told : (keys : List ℕ) → AreTold run at files keys keys
  nothing_told keys = record {
    stays = λ number idle. idle;
    told = λ number idle over. absurd (no_join number over);
    noted = λ number is. inl is;
  }
