-- A file goes: the files that it read know it no more, nor does its source if it is a scan.
use Rattle.std.proofs.Common.{◌≡◌, ◌≢◌, ◌↔◌, ℕ, cond, List, Some, None, nat_eq, inl, inr, refl, sym, ap, ◌∙◌, subst}
use Rattle.std.specs.Map.{lookup}
use Rattle.std.proofs.lemmas.Bool.{cases_eq, eq-eqb, ne_eqb}
use Rattle.std.specs.FinMap.{get, remove}
use Rattle.ncq_plan.specs.declared.expr.Expr.{Expr}
use Rattle.ncq_plan.specs.declared.expr.Expr.TheVariants.{Scan}
use Rattle.ncq_shelf.specs.KeptFiles.{Files}
use Rattle.ncq_shelf.specs.Stands.{Stands, IsIdle}
use Rattle.ncq_shelf.specs.Inputs.{AreInputs}
use Rattle.ncq_shelf.specs.Readers.{IsScanOf}
use Rattle.ncq_plan.specs.ExprLists.{is_expr}
use Rattle.ncq_shelf.specs.Shown.{shown, state_of}
use Rattle.ncq_shelf.specs.Wired.{Reads, KnowsReaders, KnowsScans, IsShelved, IsStruck}
use Rattle.ncq_shelf.specs.Enrolled.{OneEach, IsKnown, IsScanIn, ScansSource, LosesScan}
use Rattle.ncq_shelf.specs.declared.file.File.{File}
use Rattle.ncq_shelf.proofs.Maps.{gone_same, gone_other, one_value, rest_stays, there as is_there}
use Rattle.ncq_shelf.proofs.InputLaws.{are_inputs_rest}
use Rattle.ncq_shelf.proofs.Indexes.{shown_at, shown_gone, indexed_rest}
use Rattle.ncq_shelf.proofs.ScanLaws.{Scans}
use Rattle.ncq_shelf.proofs.Others.{struck_others, shown_others, was_there, indexed_others, one_each}
use Rattle.ncq_shelf.proofs.Added.{scans_known, knows_scans}
use Rattle.ncq_shelf.specs.Groups.{Groups}

module _ (gs : Groups) where
  module _ (f0 : List (ℕ × File)) (n0 : List (Expr × ℕ)) (s0 : Scans) (shelved : IsShelved gs f0 n0 s0) (number : ℕ) (idle : IsIdle (shown gs f0) number) (file : File) (at : lookup (nat_eq number) f0 ≡ Some file)
      (f1 : List (ℕ × File)) (is : (q : ℕ) → lookup (nat_eq q) f1 ≡ cond (nat_eq number q) None (lookup (nat_eq q) f0))
      (n1 : List (Expr × ℕ)) (gone : (q : Expr) → lookup (is_expr q) n1 ≡ cond (is_expr file.expr q) None (lookup (is_expr q) n0)) where
    shown_first : shown gs f1 ≡ remove (shown gs f0) number
    shown_first = shown_gone gs f0 f1 number is

    here : Stands (shown gs f0) file.expr number
    here = record { file = state_of gs file; at = shown_at gs f0 number file at; of = refl }

    -- what is left was there
    was_left : (q : ℕ) (g : File) → lookup (nat_eq q) f1 ≡ Some g → (q ≢ number) × (lookup (nat_eq q) f0 ≡ Some g)
    was_left q g k = elim (cases_eq q number) [
      | inl same ↦ absurd (is_there k (is q ∙ ap (λ b. cond b None (lookup (nat_eq q) f0)) (eq-eqb number q (sym same))))
      | inr differs ↦ (differs, sym (is q ∙ ap (λ b. cond b None (lookup (nat_eq q) f0)) (ne_eqb number q (λ e. differs (sym e)))) ∙ k)
    ]

    -- what the file reads is still there, and knows it
    pub inputs_left : AreInputs (shown gs f1) file.expr file.inputs
    inputs_left = subst (λ m. AreInputs m file.expr file.inputs) (sym shown_first) (are_inputs_rest (shown gs f0) number idle number (state_of gs file) (shown_at gs f0 number file at) file.inputs (shelved.indexed.inputs number file at))

    pub one_left : OneEach f1
    one_left = one_each gs f1 n1 (indexed_rest gs f0 n0 shelved.indexed number idle file at f1 n1 is gone)

    pub known_left : IsKnown f1 file.expr number
    known_left q g reading k reads =
        let w = was_left q g k in
        (shelved.wired.readers q g w.1 reading number).1 (record { whole = file.expr; reads = reads; stands = here })

    module _ (f2 : List (ℕ × File)) (struck : IsStruck f1 file.expr number f2) (s1 : Scans) (loses : LosesScan s0 (λ source. ScansSource source file.expr) number s1) where
      abbrev less : Files
      less = remove (shown gs f0) number

      seen : shown gs f2 ≡ shown gs f1
      seen = shown_others gs f1 f2 (struck_others gs f1 f2 file.expr number struck)

      pub shown_less : shown gs f2 ≡ remove (shown gs f0) number
      shown_less = seen ∙ shown_first

      -- what stands apart from the file stands still
      keep : (e : Expr) (n : ℕ) → Stands (shown gs f0) e n → n ≢ number → Stands less e n
      keep e n s differs = record { file = s.file; at = gone_other (shown gs f0) number n differs ∙ s.at; of = s.of }

      back : (e : Expr) (n : ℕ) → Stands less e n → Stands (shown gs f0) e n
      back e n s = record { file = s.file; at = rest_stays (shown gs f0) number n s.file s.at; of = s.of }

      apart : (e : Expr) (n : ℕ) → Stands less e n → n ≢ number
      apart e n s same = is_there (subst (λ m. get (remove (shown gs f0) number) m ≡ Some s.file) same s.at) (gone_same (shown gs f0) number)

      its : (e : Expr) (n : ℕ) → n ≡ number → Stands (shown gs f0) e n → file.expr ≡ e
      its e n same s = ap (λ x. x.expr) (one_value (shown_at gs f0 number file at) (subst (λ m. get (shown gs f0) m ≡ Some s.file) same s.at)) ∙ s.of

      knows_left : (q : ℕ) (g0 g : File) → lookup (nat_eq q) f0 ≡ Some g0 → lookup (nat_eq q) f1 ≡ Some g0 → lookup (nat_eq q) f2 ≡ Some g → KnowsReaders less g.readers g.expr
      knows_left q g0 g k0 k1 k2 =
          let a = struck.there q g0 k1 in
          subst (λ x. KnowsReaders less x.readers x.expr) (one_value a.1 k2)
          (subst (λ e. KnowsReaders less a.0.readers e) (sym a.2.expr)
          (λ way n. (
            λ r.
                let h = (a.3 way n).0 r in
                let s = (shelved.wired.readers q g0 k0 way n).0 h.0 in
                record { whole = s.whole; reads = s.reads; stands = keep s.whole n s.stands (λ same. h.1 (subst (Reads g0.expr way) (sym (its s.whole n same s.stands)) s.reads) same) },
            λ r. (a.3 way n).1 ((shelved.wired.readers q g0 k0 way n).1 (record { whole = r.whole; reads = r.reads; stands = back r.whole n r.stands }), λ reads same. apart r.whole n r.stands same),
          )))

      knows_all : (q : ℕ) (g : File) → lookup (nat_eq q) f2 ≡ Some g → KnowsReaders less g.readers g.expr
      knows_all q g k =
          let w = was_there gs f1 f2 (struck_others gs f1 f2 file.expr number struck) q g k in
          knows_left q w.0 g (was_left q w.0 w.1).1 w.1 k

      scans_all : (source : List ℕ) (n : ℕ) → IsScanIn s1 source n ↔ IsScanOf less source n
      scans_all source n =
          let k = scans_known gs (shown gs f0) s0 source (shelved.wired.scans source) n in (
            λ i.
                let h = (loses source n).0 i in
                let s = k.0 h.0 in
                record { shape = s.shape; stands = keep (Scan source s.shape) n s.stands (λ same. h.1 (record { shape = s.shape; is = its (Scan source s.shape) n same s.stands }) same) },
            λ s. (loses source n).1 (k.1 (record { shape = s.shape; stands = back (Scan source s.shape) n s.stands }), λ scans same. apart (Scan source s.shape) n s.stands same),
          )

      pub shelved_less : IsShelved gs f2 n1 s1
      shelved_less = record {
        indexed = indexed_others gs f1 f2 (struck_others gs f1 f2 file.expr number struck) n1 (indexed_rest gs f0 n0 shelved.indexed number idle file at f1 n1 is gone);
        wired = record {
          readers = λ q g k. subst (λ m. KnowsReaders m g.readers g.expr) (sym shown_less) (knows_all q g k);
          scans = λ source. subst (λ m. KnowsScans m s1 source) (sym shown_less) (knows_scans gs less s1 source (scans_all source));
        };
      }
