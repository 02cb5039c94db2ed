-- One constant or one interval more or less in its table.
use Rattle.std.proofs.Common.{◌≡◌, ℕ, suc, ◌+◌, ◌++◌, ◌&&◌, Bool, true, false, cond, true≢false, List, [], ◌∷◌, length, refl, sym, ◌∙◌, ap, subst, arith, is_some, length-append}
use Rattle.std.specs.Prelude.{Option, Some, None, IfSome, IfNone}
use Rattle.std.specs.declared.cmp.Ordering.{Ordering}
use Rattle.std.specs.declared.cmp.Ordering.TheVariants.{Less, Equal, Greater}
use Rattle.std.specs.Ordering.{eq_by_cmp, is_eq}
use Rattle.std.specs.Cmp.{eq_by_cmp_equiv}
use Rattle.std.specs.FinMap.{FinMap, get, insert, remove, empty, len, get-empty, get-insert, get-remove, len-insert, empty_of_len}
use Rattle.std.specs.List.{IsDistinct, AllByRecursion}
use Rattle.std.specs.Map.{lookup, keys_of}
use Rattle.std.proofs.lemmas.Map.Keys.{IsDistinct-head, IsDistinct-tail, IsDistinct-cons}
use Rattle.std.proofs.lemmas.Bool.Decides.{Decides-int_eq}
use Rattle.ncq_base.proofs.AtomOrder.{atom_cmp_total}
use Rattle.ncq_base.specs.Atoms.{atom_cmp}
use Rattle.ncq_base.specs.Counts.{total_by, SameCounts}
use Rattle.ncq_base.specs.declared.atom.Atom.{Atom}
use Rattle.ncq_base.specs.declared.atom.FileId.{FileId}
use Rattle.ncq_base.specs.declared.interval.End.{End}
use Rattle.ncq_base.specs.declared.interval.End.TheVariants.{Unbounded, Included, Excluded}
use Rattle.ncq_base.specs.declared.interval.Interval.{Interval}
use Rattle.ncq_base.specs.contracts.interval.EndPartialEq.TheImpl.{ghosts as end_eq}
use Rattle.ncq_consttab.specs.Ranges.{is_interval}
use Rattle.ncq_consttab.proofs.Constants.{atoms_apart}
use Rattle.ncq_consttab.proofs.Intervals.{interval_is}
use Rattle.ncq_readers.specs.Tables.{file_of, IsEqualTable, IsRangeTable}
use Rattle.ncq_readers.proofs.TableLaws.{absent}

-- constants

equal_of : (r : Ordering) → is_eq r ≡ true → r ≡ Equal
equal_of Less h = cc
equal_of Equal h = refl
equal_of Greater h = cc

pub constant_is : (a b : Atom) → eq_by_cmp atom_cmp a b ≡ true → a ≡ b
constant_is a b h = atoms_apart a b (equal_of (atom_cmp a b) h)

pub constant_itself : (a : Atom) → eq_by_cmp atom_cmp a a ≡ true
constant_itself a = (eq_by_cmp_equiv atom_cmp_total).refl a

module _ (table : FinMap atom_cmp FileId) (constant : Atom) where
  pub constant_more : (file : FileId) (k : Atom) → get (insert table constant file) k ≡ cond (eq_by_cmp atom_cmp k constant) (Some file) (get table k)
  constant_more file k = get-insert atom_cmp_total table constant file k

  pub constant_less : (k : Atom) → get (remove table constant) k ≡ cond (eq_by_cmp atom_cmp k constant) None (get table k)
  constant_less k = get-remove atom_cmp_total table constant k

  pub some_constant : (file : FileId) → get table constant ≡ None → IsEqualTable (insert table constant file)
  some_constant file free =
      let more : len (insert table constant file) ≡ len table + 1 = len-insert atom_cmp_total table constant file ∙ ap (λ o. cond (is_some o) (len table) (len table + 1)) free in
      omega arith

pub constant_alone : (constant : Atom) (file : FileId) (k : Atom) → get {R = atom_cmp} (insert empty constant file) k ≡ cond (eq_by_cmp atom_cmp k constant) (Some file) None
constant_alone constant file k = constant_more empty constant file k ∙ ap (cond (eq_by_cmp atom_cmp k constant) (Some file)) (get-empty atom_cmp k)

pub no_constant : (table : FinMap atom_cmp FileId) → len table ≡ 0 → (k : Atom) → get table k ≡ None
no_constant table none k = ap (λ (t : FinMap atom_cmp FileId). get t k) (empty_of_len table none) ∙ get-empty atom_cmp k

-- intervals

end_itself : (e : End) → end_eq.eq e e ≡ true
end_itself Unbounded = refl
end_itself (Included n) = (Decides-int_eq n n).1 refl
end_itself (Excluded n) = (Decides-int_eq n n).1 refl

pub interval_itself : (a : Interval) → is_interval a a ≡ true
interval_itself a = λ i. end_itself a.low i && end_itself a.high i

interval_turned : (a b : Interval) → is_interval a b ≡ false → is_interval b a ≡ false
interval_turned a b h = by (is_interval b a) refl
  where
    by : (t : Bool) → is_interval b a ≡ t → t ≡ false
    by false q = refl
    by true q = let e = interval_is b a q in absurd (true≢false (sym q ∙ (λ i. is_interval (e i) (sym e i)) ∙ h))

module _ {K X : Type 0} (test : K → Bool) where
  none_in_front : (es : List (K × X)) (e : K × X) → lookup test es ≡ None → lookup test (es ++ e ∷ []) ≡ cond (test e.0) (Some e.1) None
  none_in_front [] e h = refl
  none_in_front (d ∷ es) e h =
      elim (test d.0) as (λ b. cond b (Some d.1) (lookup test es) ≡ None → cond b (Some d.1) (lookup test (es ++ e ∷ [])) ≡ cond (test e.0) (Some e.1) None) [
        | true ↦ λ q. cc
        | false ↦ λ q. none_in_front es e q
      ] h

  none_behind : (es : List (K × X)) (e : K × X) → test e.0 ≡ false → lookup test (es ++ e ∷ []) ≡ lookup test es
  none_behind [] e h = ap (λ b. cond b (Some e.1) None) h
  none_behind (d ∷ es) e h = ap (cond (test d.0) (Some d.1)) (none_behind es e h)

  none_passes : (es : List (K × X)) → lookup test es ≡ None → AllByRecursion (λ k. test k ≡ false) (keys_of es)
  none_passes [] h = tt
  none_passes (e ∷ es) h =
      elim (test e.0) as (λ b. cond b (Some e.1) (lookup test es) ≡ None → (b ≡ false) × AllByRecursion (λ k. test k ≡ false) (keys_of es)) [
        | true ↦ λ q. cc
        | false ↦ λ q. (refl, none_passes es q)
      ] h

pushed_apart : (ks : List Interval) (k : Interval) → IsDistinct is_interval ks → AllByRecursion (λ other. is_interval k other ≡ false) ks → IsDistinct is_interval (ks ++ k ∷ [])
pushed_apart [] k apart none = IsDistinct-cons is_interval k [] tt apart
pushed_apart (first ∷ ks) k apart none =
    IsDistinct-cons is_interval first (ks ++ k ∷ [])
    (pushed ks (IsDistinct-head is_interval first ks apart)) (pushed_apart ks k (IsDistinct-tail is_interval first ks apart) none.1)
  where
    pushed : (ks : List Interval) → AllByRecursion (λ other. is_interval first other ≡ false) ks → AllByRecursion (λ other. is_interval first other ≡ false) (ks ++ k ∷ [])
    pushed [] h = (interval_turned k first none.0, tt)
    pushed (other ∷ ks) h = (h.0, pushed ks h.1)

keys_pushed : (es : List (Interval × FileId)) (e : Interval × FileId) → keys_of (es ++ e ∷ []) ≡ keys_of es ++ e.0 ∷ []
keys_pushed [] e = refl
keys_pushed (d ∷ es) e = ap (λ ks. d.0 ∷ ks) (keys_pushed es e)

-- a number for what a look-up finds, and its weight at each entry
number_of : Option FileId → ℕ
number_of None = 0
number_of (Some file) = suc file.0

number_tells : (o p : Option FileId) → number_of o ≡ number_of p → o ≡ p
unfolding number_of
number_tells None None e = refl
number_tells None (Some q) e = absurd (omega arith)
number_tells (Some f) None e = absurd (omega arith)
number_tells (Some f) (Some q) e = let is : f.0 ≡ q.0 = omega arith in λ i. Some (record { 0 = is i })

abbrev weight : Interval → Interval × FileId → ℕ
weight k e = cond (is_interval k e.0) (suc e.1.0) 0

weighed : (k : Interval) (es : List (Interval × FileId)) → IsDistinct is_interval (keys_of es) → total_by (weight k) es ≡ number_of (file_of es k)
unfolding number_of
weighed k [] apart = refl
weighed k (e ∷ es) apart =
    let rest = weighed k es (IsDistinct-tail is_interval e.0 (keys_of es) apart) in
    elim (is_interval k e.0) as (λ b. is_interval k e.0 ≡ b → cond b (suc e.1.0) 0 + total_by (weight k) es ≡ number_of (cond b (Some e.1) (file_of es k))) [
      | true ↦ λ q.
          let none : file_of es k ≡ None = ap (file_of es) (interval_is k e.0 q) ∙ absent (is_interval e.0) es (IsDistinct-head is_interval e.0 (keys_of es) apart) in
          let zero : total_by (weight k) es ≡ 0 = rest ∙ ap number_of none in
          omega arith
      | false ↦ λ q. let same : 0 + total_by (weight k) es ≡ total_by (weight k) es = omega arith in same ∙ rest
    ] refl

module _ (table : List (Interval × FileId)) (interval : Interval) where
  pub interval_more : (file : FileId) → file_of table interval ≡ None → (k : Interval) → file_of (table ++ (interval, file) ∷ []) k ≡ cond (is_interval k interval) (Some file) (file_of table k)
  interval_more file free k =
      elim (is_interval k interval) as (λ b. is_interval k interval ≡ b → file_of (table ++ (interval, file) ∷ []) k ≡ cond b (Some file) (file_of table k)) [
        | true ↦ λ q. none_in_front (is_interval k) table (interval, file) (ap (file_of table) (interval_is k interval q) ∙ free) ∙ ap (λ b. cond b (Some file) None) q
        | false ↦ λ q. none_behind (is_interval k) table (interval, file) q
      ] refl

  pub good_interval : (file : FileId) → IsDistinct is_interval (keys_of table) → file_of table interval ≡ None → IsRangeTable (table ++ (interval, file) ∷ [])
  good_interval file apart free = (
    subst (IsDistinct is_interval) (sym (keys_pushed table (interval, file))) (pushed_apart (keys_of table) interval apart (none_passes (is_interval interval) table free)),
    omega (arith, length-append table ((interval, file) ∷ [])),
  )

  none_at : (rest : List (Interval × FileId)) → file_of rest interval ≡ None → (k : Interval) → is_interval k interval ≡ true → file_of rest k ≡ None
  none_at rest gone k q = ap (file_of rest) (interval_is k interval q) ∙ gone

  pub interval_less : (rest : List (Interval × FileId)) (found : Option FileId) → found ≡ file_of table interval → file_of rest interval ≡ None
      → IfSome found (λ file. SameCounts table ((interval, file) ∷ rest)) → IfNone found (rest ≡ table)
      → IsDistinct is_interval (keys_of table) → IsDistinct is_interval (keys_of rest)
      → (k : Interval) → file_of rest k ≡ cond (is_interval k interval) None (file_of table k)
  interval_less rest None is gone some none apart left k =
      elim (is_interval k interval) as (λ b. is_interval k interval ≡ b → file_of rest k ≡ cond b None (file_of table k)) [
        | true ↦ λ q. none_at rest gone k q
        | false ↦ λ q. ap (λ es. file_of es k) none
      ] refl
  interval_less rest (Some file) is gone some none apart left k =
      elim (is_interval k interval) as (λ b. is_interval k interval ≡ b → file_of rest k ≡ cond b None (file_of table k)) [
        | true ↦ λ q. none_at rest gone k q
        | false ↦ λ q.
            let more : weight k (interval, file) ≡ 0 = ap (λ b. cond b (suc file.0) 0) q in
            let same = some (weight k) in
            let one = weighed k table apart in
            let two = weighed k rest left in
            let numbers : number_of (file_of rest k) ≡ number_of (file_of table k) = omega arith in
            number_tells _ _ numbers
      ] refl

pub no_interval : (table : List (Interval × FileId)) → length table ≡ 0 → (k : Interval) → file_of table k ≡ None
no_interval [] none k = refl
no_interval (e ∷ es) none k = absurd (omega arith)

pub interval_alone : (interval : Interval) (file : FileId) (k : Interval) → file_of ((interval, file) ∷ []) k ≡ cond (is_interval k interval) (Some file) None
interval_alone interval file k = interval_more [] interval file refl k

pub good_alone : (interval : Interval) (file : FileId) → IsRangeTable ((interval, file) ∷ [])
unfolding IsDistinct
good_alone interval file = good_interval [] interval file tt refl
