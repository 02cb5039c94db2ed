-- The scans of each source, as one of them changes.
use Rattle.std.proofs.Common.{◌≡◌, ◌≢◌, ◌⊎◌, ◌↔◌, ℕ, Bool, true, false, cond, List, [], Some, None, Option, nat_eq, inl, inr, refl, sym, ap, ◌∙◌, subst, true≢false}
use Rattle.std.specs.Map.{lookup}
use Rattle.std.specs.List.{list_any}
use Rattle.std.specs.Str.{bytes_eq}
use Rattle.std.proofs.lemmas.Slice.Eq.{bytes_eq-Decides}
use Rattle.ncq_row.specs.declared.shape.Shape.{Shape}
use Rattle.ncq_plan.specs.declared.expr.Expr.{Expr}
use Rattle.ncq_plan.specs.declared.expr.Expr.TheVariants.{Scan}
use Rattle.ncq_readers.specs.Readings.Reading.{joined}
use Rattle.ncq_readers.specs.ReaderTables.{ReaderTables, IsReader, TellsUnread, Gains, Loses}
use Rattle.ncq_shelf.specs.Enrolled.{IsScanIn, ScansSource, GainsScan, LosesScan}
use Rattle.ncq_shelf.proofs.Maps.{one_value, there}
use Rattle.ncq_shelf.proofs.Layers.{out-Scan}
use Rattle.ncq_shelf.proofs.Arms.{layers}

abbrev pub Scans : Type 0
Scans = List (List ℕ × ReaderTables)

-- sources are one or differ
pub which : (a b : List ℕ) → (a ≡ b) ⊎ (a ≢ b)
which a b = elim (bytes_eq a b) as (λ t. bytes_eq a b ≡ t → (a ≡ b) ⊎ (a ≢ b)) [
  | true ↦ λ e. inl ((bytes_eq-Decides a b).0 e)
  | false ↦ λ e. inr (λ same. true≢false (sym ((bytes_eq-Decides a b).1 same) ∙ e))
] refl

differ : (a b : List ℕ) → a ≢ b → bytes_eq a b ≡ false
differ a b differs = elim (bytes_eq a b) as (λ t. bytes_eq a b ≡ t → t ≡ false) [
  | true ↦ λ e. absurd (differs ((bytes_eq-Decides a b).0 e))
  | false ↦ λ e. refl
] refl

-- the entry of one source is another
module _ (old new : Scans) (source : List ℕ) (o : Option ReaderTables) (is : (q : List ℕ) → lookup (bytes_eq q) new ≡ cond (bytes_eq source q) o (lookup (bytes_eq q) old)) where
  pub turned_here : lookup (bytes_eq source) new ≡ o
  turned_here = is source ∙ ap (λ b. cond b o (lookup (bytes_eq source) old)) ((bytes_eq-Decides source source).1 refl)

  pub turned_others : (q : List ℕ) → q ≢ source → lookup (bytes_eq q) new ≡ lookup (bytes_eq q) old
  turned_others q differs = is q ∙ ap (λ b. cond b o (lookup (bytes_eq q) old)) (differ source q (λ e. differs (sym e)))

-- and another again
pub turned_again : (old mid new : Scans) (source : List ℕ) (o p : Option ReaderTables) → ((q : List ℕ) → lookup (bytes_eq q) mid ≡ cond (bytes_eq source q) o (lookup (bytes_eq q) old)) → ((q : List ℕ) → lookup (bytes_eq q) new ≡ cond (bytes_eq source q) p (lookup (bytes_eq q) mid))
    → (q : List ℕ) → lookup (bytes_eq q) new ≡ cond (bytes_eq source q) p (lookup (bytes_eq q) old)
turned_again old mid new source o p one two q = two q ∙ ap (cond (bytes_eq source q) p) (one q) ∙ by (bytes_eq source q)
  where
    by : (b : Bool) → cond b p (cond b o (lookup (bytes_eq q) old)) ≡ cond b p (lookup (bytes_eq q) old)
    by true = refl
    by false = refl

-- what a source's tables hold, with them and without
pub with_tables : (es : Scans) (source : List ℕ) (t : ReaderTables) → lookup (bytes_eq source) es ≡ Some t → (n : ℕ) → IsScanIn es source n ↔ IsReader t joined n
with_tables es source t at n = (λ i. subst (λ x. IsReader x joined n) (one_value i.at at) i.reader, λ r. record { tables = t; at = at; reader = r })

pub without_tables : (es : Scans) (source : List ℕ) (t : ReaderTables) → lookup (bytes_eq source) es ≡ None → ((n : ℕ) → IsReader t joined n → ⊥) → (n : ℕ) → IsScanIn es source n ↔ IsReader t joined n
without_tables es source t none empty n = (λ i. absurd (there i.at none), λ r. absurd (empty n r))

-- a scan of another source
pub elsewhere : (old new : Scans) (q : List ℕ) → lookup (bytes_eq q) new ≡ lookup (bytes_eq q) old → (n : ℕ) → IsScanIn old q n → IsScanIn new q n
elsewhere old new q is n i = record { tables = i.tables; at = is ∙ i.at; reader = i.reader }

module _ (old new : Scans) (source : List ℕ) (others : (q : List ℕ) → q ≢ source → lookup (bytes_eq q) new ≡ lookup (bytes_eq q) old) (t w : ReaderTables)
    (before : (n : ℕ) → IsScanIn old source n ↔ IsReader t joined n) (after : (n : ℕ) → IsScanIn new source n ↔ IsReader w joined n) (number : ℕ) where
  forth : (q : List ℕ) → q ≢ source → (n : ℕ) → IsScanIn old q n → IsScanIn new q n
  forth q differs n i = elsewhere old new q (others q differs) n i

  back : (q : List ℕ) → q ≢ source → (n : ℕ) → IsScanIn new q n → IsScanIn old q n
  back q differs n i = elsewhere new old q (sym (others q differs)) n i

  gains_here : Gains t joined number w → (q : List ℕ) (n : ℕ) → q ≡ source → IsScanIn new q n ↔ (IsScanIn old q n ⊎ ((q ≡ source) × (n ≡ number)))
  gains_here g q n same = subst (λ (s : List ℕ). IsScanIn new s n ↔ (IsScanIn old s n ⊎ ((s ≡ source) × (n ≡ number)))) (sym same) (
    λ i. elim (g.only joined n ((after n).0 i)) as (λ _. IsScanIn old source n ⊎ ((source ≡ source) × (n ≡ number))) [ inl b ↦ inl ((before n).1 b) | inr p ↦ inr (refl, p.1) ],
    λ s. elim s as (λ _. IsScanIn new source n) [
      | inl i ↦ (after n).1 (g.kept joined n ((before n).0 i))
      | inr p ↦ (after n).1 (subst (λ m. IsReader w joined m) (sym p.1) g.here)
    ],
  )

  pub gains_scan : Gains t joined number w → GainsScan old (λ q. q ≡ source) number new
  gains_scan g q n = elim (which q source) as (λ _. IsScanIn new q n ↔ (IsScanIn old q n ⊎ ((q ≡ source) × (n ≡ number)))) [
    | inl same ↦ gains_here g q n same
    | inr differs ↦ (λ i. inl (back q differs n i), λ s. elim s as (λ _. IsScanIn new q n) [ inl i ↦ forth q differs n i | inr p ↦ absurd (differs p.0) ])
  ]

  loses_here : Loses t joined number w → (q : List ℕ) (n : ℕ) → q ≡ source → IsScanIn new q n ↔ (IsScanIn old q n × (q ≡ source → n ≡ number → ⊥))
  loses_here l q n same = subst (λ (s : List ℕ). IsScanIn new s n ↔ (IsScanIn old s n × (s ≡ source → n ≡ number → ⊥))) (sym same) (
    λ i. ((before n).1 (l.only joined n ((after n).0 i)), λ _ e. l.gone (subst (λ m. IsReader w joined m) e ((after n).0 i))),
    λ p. elim (l.kept joined n ((before n).0 p.0)) as (λ _. IsScanIn new source n) [ inl b ↦ (after n).1 b | inr x ↦ absurd (p.1 refl x.1) ],
  )

  pub loses_scan : Loses t joined number w → LosesScan old (λ q. q ≡ source) number new
  loses_scan l q n = elim (which q source) as (λ _. IsScanIn new q n ↔ (IsScanIn old q n × (q ≡ source → n ≡ number → ⊥))) [
    | inl same ↦ loses_here l q n same
    | inr differs ↦ (λ i. (back q differs n i, λ e _. differs e), λ p. forth q differs n p.0)
  ]

-- the source of a scan is one
module _ (whole : Expr) (source : List ℕ) (shape : Shape) (is : whole ≡ Scan source shape) where
  source_is : (q : List ℕ) → ScansSource q whole → q ≡ source
  source_is q s = let l = layers [] _ _ _ _ (sym s.is ∙ is) (out-Scan q s.shape) (out-Scan source shape) in cc

  scans_it : (q : List ℕ) → q ≡ source → ScansSource q whole
  scans_it q e = record { shape = shape; is = is ∙ ap (λ s. Scan s shape) (sym e) }

  pub gains_by : (old new : Scans) (number : ℕ) → GainsScan old (λ q. q ≡ source) number new → GainsScan old (λ q. ScansSource q whole) number new
  gains_by old new number g q n = (
    λ i. elim ((g q n).0 i) as (λ _. IsScanIn old q n ⊎ (ScansSource q whole × (n ≡ number))) [ inl b ↦ inl b | inr p ↦ inr (scans_it q p.0, p.1) ],
    λ s. elim s as (λ _. IsScanIn new q n) [ inl b ↦ (g q n).1 (inl b) | inr p ↦ (g q n).1 (inr (source_is q p.0, p.1)) ],
  )

  pub loses_by : (old new : Scans) (number : ℕ) → LosesScan old (λ q. q ≡ source) number new → LosesScan old (λ q. ScansSource q whole) number new
  loses_by old new number l q n = (
    λ i. let h = (l q n).0 i in (h.0, λ s e. h.1 (source_is q s) e),
    λ p. (l q n).1 (p.0, λ e x. p.1 (scans_it q e) x),
  )

-- where the expression scans no source
module _ (old : Scans) (whole : Expr) (number : ℕ) (nothing : (source : List ℕ) → ScansSource source whole → ⊥) where
  pub gains_nowhere : GainsScan old (λ q. ScansSource q whole) number old
  gains_nowhere q n = (λ i. inl i, λ s. elim s as (λ _. IsScanIn old q n) [ inl i ↦ i | inr p ↦ absurd (nothing q p.0) ])

  pub loses_nowhere : LosesScan old (λ q. ScansSource q whole) number old
  loses_nowhere q n = (λ i. (i, λ s _. nothing q s), λ p. p.0)

-- tables without joins
pub no_joins : (t : ReaderTables) → t.joins ≡ [] → (n : ℕ) → IsReader t joined n → ⊥
no_joins t none n r = true≢false (sym r ∙ ap (list_any (nat_eq n)) none)

pub no_reader : (t : ReaderTables) (told : Bool) → TellsUnread t told → told ≡ true → (n : ℕ) → IsReader t joined n → ⊥
no_reader t true tells is n r = tells joined n r
no_reader t false tells is n r = true≢false (sym is)
