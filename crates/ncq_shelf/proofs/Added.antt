-- A file comes in: the files that it reads know it, and its source does if it is a scan.
use Rattle.std.proofs.Common.{◌≡◌, ◌⊎◌, ◌↔◌, ℕ, cond, List, [], Some, None, nat_eq, inl, inr, refl, sym, ap, ◌∙◌, subst, true≢false}
use Rattle.std.specs.Map.{lookup}
use Rattle.std.specs.Str.{bytes_eq}
use Rattle.std.proofs.lemmas.Bool.{cases_eq, eq-eqb, ne_eqb}
use Rattle.std.specs.FinMap.{get, insert}
use Rattle.ncq_plan.specs.declared.expr.Expr.{Expr}
use Rattle.ncq_plan.specs.declared.expr.Expr.TheVariants.{Scan}
use Rattle.ncq_readers.specs.Readings.{Reading}
use Rattle.ncq_readers.specs.Readings.Reading.{equal, range, joined}
use Rattle.ncq_readers.specs.ReaderTables.{ReaderTables, IsReader}
use Rattle.ncq_shelf.specs.Parts.{IsInput}
use Rattle.ncq_shelf.specs.KeptFiles.{Files}
use Rattle.ncq_shelf.specs.Stands.{Stands}
use Rattle.ncq_shelf.specs.Inputs.{AreInputs}
use Rattle.ncq_shelf.specs.Readers.{IsScanOf}
use Rattle.ncq_plan.specs.ExprLists.{is_expr}
use Rattle.ncq_shelf.specs.Indexed.{IsIndexed}
use Rattle.ncq_shelf.specs.Shown.{shown, state_of}
use Rattle.ncq_shelf.specs.Wired.{Reads, ReadsSo, KnowsReaders, KnowsScans, IsShelved, IsEnrolled, AreAlike}
use Rattle.ncq_shelf.specs.Enrolled.{IsUnread, IsScanIn, ScansSource, GainsScan, SameScans}
use Rattle.ncq_shelf.specs.declared.file.File.{File}
use Rattle.ncq_shelf.specs.declared.inputs.Inputs.{Inputs}
use Rattle.ncq_shelf.specs.declared.inputs.Inputs.TheVariants.{Nothing, One, Two}
use Rattle.ncq_shelf.proofs.Maps.{put_same, put_other, one_value, there as is_there}
use Rattle.ncq_shelf.proofs.InputLaws.{only_told, sides_told}
use Rattle.ncq_shelf.proofs.Indexes.{kept_at, shown_put, indexed_added}
use Rattle.ncq_shelf.proofs.Readings.{reads_input}
use Rattle.ncq_shelf.proofs.ScanLaws.{Scans}
use Rattle.ncq_shelf.proofs.Others.{AreOthers, enrolled_others, alike_others, shown_others, was_there, indexed_others}
use Rattle.ncq_shelf.specs.Groups.{Groups}

module _ (gs : Groups) where
  -- an input of a file stands
  pub input_stands : (files : Files) (whole : Expr) (inputs : Inputs) → AreInputs files whole inputs → (input : Expr) → IsInput input whole → (n : ℕ) × Stands files input n
  input_stands files whole inputs are input i = elim inputs as (λ x. AreInputs files whole x → (n : ℕ) × Stands files input n) [
    | Nothing ↦ λ a. absurd (a input i)
    | One n ↦ λ a. (n, only_told files whole n a input i)
    | Two left right ↦ λ a. elim (sides_told files whole left right a input i) as (λ _. (n : ℕ) × Stands files input n) [ inl s ↦ (left, s) | inr s ↦ (right, s) ]
  ] are

  -- and so is an input of a file that is kept
  pub input_of_kept : (files : List (ℕ × File)) (numbers : List (Expr × ℕ)) → IsIndexed gs files numbers → (whole : Expr) (n : ℕ) → Stands (shown gs files) whole n → (input : Expr) → IsInput input whole → (below : ℕ) × Stands (shown gs files) input below
  input_of_kept files numbers indexed whole n s input i =
      let k = kept_at gs files n s.file s.at in
      let same : k.0.expr ≡ whole = sym (ap (λ x. x.expr) k.2) ∙ s.of in
      input_stands (shown gs files) k.0.expr k.0.inputs (indexed.inputs n k.0 k.1) input (subst (IsInput input) (sym same) i)

  -- scans by one word
  pub scans_known : (m : Files) (es : Scans) (source : List ℕ) → KnowsScans m es source → (n : ℕ) → IsScanIn es source n ↔ IsScanOf m source n
  scans_known m es source k n = (
    λ i. (k.known i.tables i.at n).0 i.reader,
    λ s. elim (lookup (bytes_eq source) es) as (λ o. lookup (bytes_eq source) es ≡ o → IsScanIn es source n) [
      | Some t ↦ λ e. record { tables = t; at = e; reader = (k.known t e n).1 s }
      | None ↦ λ e. absurd (k.unknown e n s)
    ] refl,
  )

  pub knows_scans : (m : Files) (es : Scans) (source : List ℕ) → ((n : ℕ) → IsScanIn es source n ↔ IsScanOf m source n) → KnowsScans m es source
  knows_scans m es source k = record {
    known = λ t at n. (
      λ r. (k n).0 (record { tables = t; at = at; reader = r }),
      λ s. let i = (k n).1 s in subst (λ x. IsReader x joined n) (one_value i.at at) i.reader,
    );
    unknown = λ none n s. is_there ((k n).1 s).at none;
  }

  -- nothing is known otherwise
  pub shelved_alike : (old new : List (ℕ × File)) (numbers : List (Expr × ℕ)) (s0 s1 : Scans) → IsShelved gs old numbers s0 → AreAlike old new → SameScans s0 s1 → IsShelved gs new numbers s1
  shelved_alike old new numbers s0 s1 shelved alike same = record {
    indexed = indexed_others gs old new others numbers shelved.indexed;
    wired = record {
      readers = λ q g k.
          let w = was_there gs old new others q g k in
          let a = alike.there q w.0 w.1 in
          subst (λ x. KnowsReaders (shown gs new) x.readers x.expr) (one_value a.1 k)
          (subst (λ m. KnowsReaders m a.0.readers a.0.expr) (sym seen)
          (subst (λ e. KnowsReaders (shown gs old) a.0.readers e) (sym a.2.expr)
          (λ way n.
          let known = shelved.wired.readers q w.0 w.1 way n in
          (λ r. known.0 ((a.3 way n).0 r), λ r. (a.3 way n).1 (known.1 r)))));
      scans = λ source. subst (λ m. KnowsScans m s1 source) (sym seen) (knows_scans (shown gs old) s1 source (λ n.
          let k = scans_known (shown gs old) s0 source (shelved.wired.scans source) n in
          (λ i. k.0 ((same source n).0 i), λ s. (same source n).1 (k.1 s))));
    };
  }
    where
      others : AreOthers gs old new
      others = alike_others gs old new alike

      seen : shown gs new ≡ shown gs old
      seen = shown_others gs old new (alike_others gs old new alike)

  module _ (f0 : List (ℕ × File)) (n0 : List (Expr × ℕ)) (s0 : Scans) (shelved : IsShelved gs f0 n0 s0) where
    -- a new file
    module _ (number : ℕ) (whole : Expr) (absent : get (shown gs f0) number ≡ None) (unknown : (n : ℕ) → Stands (shown gs f0) whole n → ⊥) where
      stands_known : (q : ℕ) (g : File) (way : Reading) (n : ℕ) → lookup (nat_eq q) f0 ≡ Some g → IsReader g.readers way n → ReadsSo (shown gs f0) g.expr way n
      stands_known q g way n k r = (shelved.wired.readers q g k way n).0 r

      pub unread_yet : IsUnread f0 whole number
      unread_yet = record {
        equals = λ q g slot constant n k is r. let s = stands_known q g (equal slot constant) n k r in unknown n (subst (λ x. Stands (shown gs f0) x n) (s.reads ∙ sym is) s.stands);
        ranges = λ q g slot interval n k is r. let s = stands_known q g (range slot interval) n k r in unknown n (subst (λ x. Stands (shown gs f0) x n) (s.reads ∙ sym is) s.stands);
        joins = λ q g k r. let s = stands_known q g joined number k r in is_there s.stands.at absent;
      }

      module _ (file : File) (same : file.expr ≡ whole) (are : AreInputs (shown gs f0) whole file.inputs) (empty : (way : Reading) (n : ℕ) → IsReader file.readers way n → ⊥)
          (f1 : List (ℕ × File)) (enrolled : IsEnrolled f0 whole number f1) (f2 : List (ℕ × File)) (is : (q : ℕ) → lookup (nat_eq q) f2 ≡ cond (nat_eq number q) (Some file) (lookup (nat_eq q) f1))
          (n1 : List (Expr × ℕ)) (known : (q : Expr) → lookup (is_expr q) n1 ≡ cond (is_expr file.expr q) (Some number) (lookup (is_expr q) n0)) (s1 : Scans) (gains : GainsScan s0 (λ source. ScansSource source whole) number s1) where
        seen : shown gs f1 ≡ shown gs f0
        seen = shown_others gs f0 f1 (enrolled_others gs f0 f1 whole number enrolled)

        abbrev more : Files
        more = insert (shown gs f0) number (state_of gs file)

        pub shown_more : shown gs f2 ≡ insert (shown gs f0) number (state_of gs file)
        shown_more = shown_put gs f1 f2 number file is ∙ ap (λ m. insert m number (state_of gs file)) seen

        indexed_more : IsIndexed gs f2 n1
        indexed_more =
            indexed_added gs f1 n0 (indexed_others gs f0 f1 (enrolled_others gs f0 f1 whole number enrolled) n0 shelved.indexed) number file
            (ap (λ m. get m number) seen ∙ absent)
            (λ n s. unknown n (subst (λ x. Stands (shown gs f0) x n) same (subst (λ m. Stands m file.expr n) seen s)))
            (subst (λ m. AreInputs m file.expr file.inputs) (sym seen) (subst (λ x. AreInputs (shown gs f0) x file.inputs) (sym same) are))
            f2 n1 is known

        split : (e : Expr) (n : ℕ) → Stands more e n → Stands (shown gs f0) e n ⊎ ((whole ≡ e) × (n ≡ number))
        split e n s = elim (cases_eq n number) as (λ _. Stands (shown gs f0) e n ⊎ ((whole ≡ e) × (n ≡ number))) [
          | inl this ↦
              let f : s.file ≡ state_of gs file = one_value (subst (λ m. get more m ≡ Some s.file) this s.at) (put_same (shown gs f0) number (state_of gs file)) in
              inr (sym same ∙ sym (ap (λ x. x.expr) f) ∙ s.of, this)
          | inr differs ↦ inl (record { file = s.file; at = sym (put_other (shown gs f0) number (state_of gs file) n differs) ∙ s.at; of = s.of })
        ]

        keep : (e : Expr) (n : ℕ) → Stands (shown gs f0) e n → Stands more e n
        keep e n s = elim (cases_eq n number) as (λ _. Stands more e n) [
          | inl this ↦ absurd (is_there (subst (λ m. get (shown gs f0) m ≡ Some s.file) this s.at) absent)
          | inr differs ↦ record { file = s.file; at = put_other (shown gs f0) number (state_of gs file) n differs ∙ s.at; of = s.of }
        ]

        its : (n : ℕ) → n ≡ number → Stands more whole n
        its n e = subst (Stands more whole) (sym e) (record { file = state_of gs file; at = put_same (shown gs f0) number (state_of gs file); of = same })

        nothing_reads : (e : Expr) → whole ≡ e → (way : Reading) (n : ℕ) → ReadsSo more e way n → ⊥
        nothing_reads e is_whole way n r =
            let i : IsInput whole r.whole = subst (λ x. IsInput x r.whole) (sym is_whole) (reads_input e way r.whole r.reads) in
            elim (split r.whole n r.stands) as (λ _. ⊥) [
              | inl s ↦ let b = input_of_kept f0 n0 shelved.indexed r.whole n s whole i in unknown b.0 b.1
              | inr p ↦ let b = input_stands (shown gs f0) whole file.inputs are whole (subst (IsInput whole) (sym p.0) i) in unknown b.0 b.1
            ]

        knows_old : (q : ℕ) (g0 g : File) → lookup (nat_eq q) f0 ≡ Some g0 → lookup (nat_eq q) f1 ≡ Some g → KnowsReaders more g.readers g.expr
        knows_old q g0 g k0 k1 =
            let a = enrolled.there q g0 k0 in
            subst (λ x. KnowsReaders more x.readers x.expr) (one_value a.1 k1)
            (subst (λ e. KnowsReaders more a.0.readers e) (sym a.2.expr)
            (λ way n. (
              λ r. elim ((a.3 way n).0 r) as (λ _. ReadsSo more g0.expr way n) [
                | inl h ↦ let s = (shelved.wired.readers q g0 k0 way n).0 h in record { whole = s.whole; reads = s.reads; stands = keep s.whole n s.stands }
                | inr p ↦ record { whole = whole; reads = p.0; stands = its n p.1 }
              ],
              λ r. elim (split r.whole n r.stands) as (λ _. IsReader a.0.readers way n) [
                | inl s ↦ (a.3 way n).1 (inl ((shelved.wired.readers q g0 k0 way n).1 (record { whole = r.whole; reads = r.reads; stands = s })))
                | inr p ↦ (a.3 way n).1 (inr (subst (Reads g0.expr way) (sym p.0) r.reads, p.1))
              ],
            )))

        knows_all : (q : ℕ) (g : File) → lookup (nat_eq q) f2 ≡ Some g → KnowsReaders more g.readers g.expr
        knows_all q g k = elim (cases_eq q number) as (λ _. KnowsReaders more g.readers g.expr) [
          | inl this ↦
              let e : file ≡ g = sym (one_value k (is q ∙ ap (λ b. cond b (Some file) (lookup (nat_eq q) f1)) (eq-eqb number q (sym this)))) in
              subst (λ x. KnowsReaders more x.readers x.expr) e (λ way n. (λ r. absurd (empty way n r), λ r. absurd (nothing_reads file.expr (sym same) way n r)))
          | inr differs ↦
              let k1 = sym (is q ∙ ap (λ b. cond b (Some file) (lookup (nat_eq q) f1)) (ne_eqb number q (λ e. differs (sym e)))) ∙ k in
              let w = was_there gs f0 f1 (enrolled_others gs f0 f1 whole number enrolled) q g k1 in
              knows_old q w.0 g w.1 k1
        ]

        scans_all : (source : List ℕ) (n : ℕ) → IsScanIn s1 source n ↔ IsScanOf more source n
        scans_all source n =
            let k = scans_known (shown gs f0) s0 source (shelved.wired.scans source) n in (
              λ i. elim ((gains source n).0 i) as (λ _. IsScanOf more source n) [
                | inl h ↦ let s = k.0 h in record { shape = s.shape; stands = keep (Scan source s.shape) n s.stands }
                | inr p ↦ record { shape = p.0.shape; stands = subst (λ e. Stands more e n) p.0.is (its n p.1) }
              ],
              λ s. elim (split (Scan source s.shape) n s.stands) as (λ _. IsScanIn s1 source n) [
                | inl t ↦ (gains source n).1 (inl (k.1 (record { shape = s.shape; stands = t })))
                | inr p ↦ (gains source n).1 (inr (record { shape = s.shape; is = p.0 }, p.1))
              ],
            )

        pub shelved_more : IsShelved gs f2 n1 s1
        shelved_more = record {
          indexed = indexed_more;
          wired = record {
            readers = λ q g k. subst (λ m. KnowsReaders m g.readers g.expr) (sym shown_more) (knows_all q g k);
            scans = λ source. subst (λ m. KnowsScans m s1 source) (sym shown_more) (knows_scans more s1 source (scans_all source));
          };
        }

  -- what a reservation leaves
  pub kept_again : (old new : List (ℕ × File)) (n0 n1 : List (Expr × ℕ)) (s : Scans) → new ≡ old → n1 ≡ n0 → IsShelved gs old n0 s → IsShelved gs new n1 s
  kept_again old new n0 n1 s e d shelved = subst (λ f. IsShelved gs f n1 s) (sym e) (subst (λ n. IsShelved gs old n s) (sym d) shelved)

  pub same_scans : (s : Scans) → SameScans s s
  same_scans s source n = (λ i. i, λ i. i)

  -- nothing reads through tables without entries
  pub nothing_yet : (t : ReaderTables) → t ≡ record { equals = []; ranges = []; joins = [] } → (way : Reading) (n : ℕ) → IsReader t way n → ⊥
  nothing_yet t is way n r = none way (subst (λ (x : ReaderTables). IsReader x way n) is r)
    where
      none : (w : Reading) → IsReader (record { equals = []; ranges = []; joins = [] }) w n → ⊥
      none (equal slot constant) e = is_there e refl
      none (range slot interval) e = is_there e refl
      none joined e = true≢false (sym e)
