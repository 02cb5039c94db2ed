-- Files whose readers change, file by file.
use Rattle.std.proofs.Common.{◌≡◌, ◌≢◌, ◌⊎◌, ◌↔◌, ℕ, cond, List, Some, None, Ok, Err, Result, OnOk, OnErr, nat_eq, inl, inr, refl, sym, ap, ◌∙◌, subst}
use Rattle.std.specs.Result.{result_and}
use Rattle.std.specs.Map.{lookup}
use Rattle.std.proofs.lemmas.Bool.{cases_eq, eq-eqb, ne_eqb}
use Rattle.ncq_readers.specs.Readings.{Reading}
use Rattle.ncq_readers.specs.Readings.Reading.{joined}
use Rattle.ncq_readers.specs.ReaderTables.{ReaderTables, IsReader, Gains, Loses}
use Rattle.ncq_plan.specs.declared.expr.Expr.{Expr}
use Rattle.ncq_shelf.specs.Wired.{HasOthers, Reads, IsEnrolled, IsStruck, AreAlike}
use Rattle.ncq_shelf.specs.Enrolled.{HasFile, is_at, is_at_either, Enrolls, Strikes}
use Rattle.ncq_shelf.specs.declared.file.File.{File}
use Rattle.ncq_shelf.proofs.Maps.{one_value, there as is_there}

pub ok_more : {T E P Q : Type 0} (r : Result T E) → (P → Q) → OnOk r P → OnOk r Q
ok_more (Ok x) f p = f p
ok_more (Err e) f p = tt

pub err_more : {T E P Q : Type 0} (r : Result T E) → (P → Q) → OnErr r P → OnErr r Q
err_more (Ok x) f p = tt
err_more (Err e) f p = f p

pub any_err : {T E P : Type 0} (r : Result T E) → P → OnErr r P
any_err (Ok x) p = tt
any_err (Err e) p = p

-- of two results the first fails, or the second is the answer
pub ok_and : {T U E : Type 0} (P : Type 0) (r : Result T E) (s t : Result U E) → t ≡ result_and r s → OnOk r P → OnOk t P
ok_and P r s t is p = subst (λ x. OnOk x P) (sym is) (by r s p)
  where
    by : {T U E : Type 0} (r : Result T E) (s : Result U E) → OnOk r P → OnOk (result_and r s) P
    by (Ok x) (Ok y) p = p
    by (Ok x) (Err e) p = tt
    by (Err e) s p = tt

pub others_itself : (f : File) → HasOthers f f
others_itself f = record { expr = refl; uses = refl; content = refl; inputs = refl; rows_lost = refl }

others_on : (f g h : File) → HasOthers f g → HasOthers g h → HasOthers f h
others_on f g h a b = record { expr = b.expr ∙ a.expr; uses = b.uses ∙ a.uses; content = b.content ∙ a.content; inputs = b.inputs ∙ a.inputs; rows_lost = b.rows_lost ∙ a.rows_lost }

-- the file at the number differs in its readers at most, and those are so
abbrev pub Next : (ReaderTables → ReaderTables → Type 0) → List (ℕ × File) → ℕ → File → Type 0
Next P new at f = (next : File) × (lookup (nat_eq at) new ≡ Some next) × HasOthers f next × P f.readers next.readers

-- one more reader, one less, the same
abbrev pub More : (Reading → Type 0) → ℕ → ReaderTables → ReaderTables → Type 0
More reads number old new = (reading : Reading) (n : ℕ) → IsReader new reading n ↔ (IsReader old reading n ⊎ (reads reading × (n ≡ number)))

abbrev pub Less : (Reading → Type 0) → ℕ → ReaderTables → ReaderTables → Type 0
Less reads number old new = (reading : Reading) (n : ℕ) → IsReader new reading n ↔ (IsReader old reading n × (reads reading → n ≡ number → ⊥))

abbrev pub Same : ReaderTables → ReaderTables → Type 0
Same old new = (reading : Reading) (n : ℕ) → IsReader new reading n ↔ IsReader old reading n

-- the readers of one file are written over
module _ (old new : List (ℕ × File)) (at : ℕ) (file : File) (here : lookup (nat_eq at) old ≡ Some file) (tables : ReaderTables)
    (is : (q : ℕ) → lookup (nat_eq q) new ≡ cond (nat_eq at q) (Some (record file { readers = tables })) (lookup (nat_eq q) old)) where
  abbrev written : File
  written = record file { readers = tables }

  at_it : (q : ℕ) → q ≡ at → lookup (nat_eq q) new ≡ Some written
  at_it q same = is q ∙ ap (λ b. cond b (Some written) (lookup (nat_eq q) old)) (eq-eqb at q (sym same))

  at_others : (q : ℕ) → q ≢ at → lookup (nat_eq q) new ≡ lookup (nat_eq q) old
  at_others q differs = is q ∙ ap (λ b. cond b (Some written) (lookup (nat_eq q) old)) (ne_eqb at q (λ e. differs (sym e)))

  turned : (P : ℕ → ReaderTables → ReaderTables → Type 0) → P at file.readers tables → ((q : ℕ) → q ≢ at → (t : ReaderTables) → P q t t) → (q : ℕ) (f : File) → lookup (nat_eq q) old ≡ Some f → Next (P q) new q f
  turned P it others q f k = elim (cases_eq q at) as (λ _. Next (P q) new q f) [
    | inl same ↦
        let e : f ≡ file = one_value (subst (λ n. lookup (nat_eq n) old ≡ Some f) same k) here in
        subst (λ x. Next (P q) new q x) (sym e)
        (written, at_it q same, record { expr = refl; uses = refl; content = refl; inputs = refl; rows_lost = refl }, subst (λ n. P n file.readers tables) (sym same) it)
    | inr differs ↦ (f, at_others q differs ∙ k, others_itself f, others q differs f.readers)
  ]

  none_there : (q : ℕ) → lookup (nat_eq q) old ≡ None → lookup (nat_eq q) new ≡ None
  none_there q none = elim (cases_eq q at) as (λ _. lookup (nat_eq q) new ≡ None) [
    | inl same ↦ absurd (is_there here (subst (λ n. lookup (nat_eq n) old ≡ None) same none))
    | inr differs ↦ at_others q differs ∙ none
  ]

  module _ (reading : Reading) (number : ℕ) where
    more_here : Gains file.readers reading number tables → More (is_at at reading at) number file.readers tables
    more_here g way n = (
      λ i. elim (g.only way n i) as (λ _. IsReader file.readers way n ⊎ (is_at at reading at way × (n ≡ number))) [ inl b ↦ inl b | inr p ↦ inr ((refl, p.0), p.1) ],
      λ s. elim s as (λ _. IsReader tables way n) [
        | inl b ↦ g.kept way n b
        | inr p ↦ subst (λ m. IsReader tables way m) (sym p.1) (subst (λ w. IsReader tables w number) (sym p.0.1) g.here)
      ],
    )

    more_there : (q : ℕ) → q ≢ at → (t : ReaderTables) → More (is_at at reading q) number t t
    more_there q differs t way n = (λ i. inl i, λ s. elim s as (λ _. IsReader t way n) [ inl b ↦ b | inr p ↦ absurd (differs p.0.0) ])

    pub gains_at : Gains file.readers reading number tables → Enrolls old (is_at at reading) number new
    gains_at g = record { there = turned (λ q. More (is_at at reading q) number) (more_here g) more_there; none = none_there }

    less_here : Loses file.readers reading number tables → Less (is_at at reading at) number file.readers tables
    less_here l way n = (
      λ i. (l.only way n i, λ a e. l.gone (subst (λ m. IsReader tables reading m) e (subst (λ w. IsReader tables w n) a.1 i))),
      λ p. elim (l.kept way n p.0) as (λ _. IsReader tables way n) [ inl b ↦ b | inr x ↦ absurd (p.1 (refl, x.0) x.1) ],
    )

    less_there : (q : ℕ) → q ≢ at → (t : ReaderTables) → Less (is_at at reading q) number t t
    less_there q differs t way n = (λ i. (i, λ a e. differs a.0), λ p. p.0)

    pub loses_at : Loses file.readers reading number tables → Strikes old (is_at at reading) number new
    loses_at l = record { there = turned (λ q. Less (is_at at reading q) number) (less_here l) less_there; none = none_there }

  pub alike_at : tables ≡ file.readers → AreAlike old new
  alike_at e = record {
    there = turned (λ _. Same) (λ way n. (λ i. subst (λ t. IsReader t way n) e i, λ i. subst (λ t. IsReader t way n) (sym e) i)) (λ q differs t way n. (λ i. i, λ i. i));
    none = none_there;
  }

-- one change after another
module _ (old mid new : List (ℕ × File)) where
  chained : (P Q R : ℕ → ReaderTables → ReaderTables → Type 0) → ((q : ℕ) (f : File) → lookup (nat_eq q) old ≡ Some f → Next (P q) mid q f) → ((q : ℕ) (f : File) → lookup (nat_eq q) mid ≡ Some f → Next (Q q) new q f)
      → ((q : ℕ) (f : File) → lookup (nat_eq q) old ≡ Some f → (b c : ReaderTables) → P q f.readers b → Q q b c → R q f.readers c) → (q : ℕ) (f : File) → lookup (nat_eq q) old ≡ Some f → Next (R q) new q f
  chained P Q R one two both q f k =
      let a = one q f k in
      let b = two q a.0 a.1 in
      (b.0, b.1, others_on f a.0 b.0 a.2 b.2, both q f k a.0.readers b.0.readers a.3 b.3)

  module _ (left right : ℕ) (reading : Reading) (number : ℕ) where
    pub enrolls_both : Enrolls old (is_at left reading) number mid → Enrolls mid (is_at right reading) number new → Enrolls old (is_at_either left right reading) number new
    enrolls_both one two = record {
      there = chained (λ q. More (is_at left reading q) number) (λ q. More (is_at right reading q) number) (λ q. More (is_at_either left right reading q) number) one.there two.there
          (λ q f k b c x y way n. (
            λ i. elim ((y way n).0 i) as (λ _. IsReader f.readers way n ⊎ (is_at_either left right reading q way × (n ≡ number))) [
              | inl h ↦ elim ((x way n).0 h) as (λ _. IsReader f.readers way n ⊎ (is_at_either left right reading q way × (n ≡ number))) [ inl g ↦ inl g | inr p ↦ inr (inl p.0, p.1) ]
              | inr p ↦ inr (inr p.0, p.1)
            ],
            λ s. elim s as (λ _. IsReader c way n) [
              | inl h ↦ (y way n).1 (inl ((x way n).1 (inl h)))
              | inr p ↦ elim p.0 as (λ _. IsReader c way n) [ inl u ↦ (y way n).1 (inl ((x way n).1 (inr (u, p.1)))) | inr u ↦ (y way n).1 (inr (u, p.1)) ]
            ],
          ));
      none = λ q h. two.none q (one.none q h);
    }

    pub strikes_both : Strikes old (is_at left reading) number mid → Strikes mid (is_at right reading) number new → Strikes old (is_at_either left right reading) number new
    strikes_both one two = record {
      there = chained (λ q. Less (is_at left reading q) number) (λ q. Less (is_at right reading q) number) (λ q. Less (is_at_either left right reading q) number) one.there two.there
          (λ q f k b c x y way n. (
            λ i.
                let h = (y way n).0 i in
                let g = (x way n).0 h.0 in
                (g.0, λ u e. elim u as (λ _. ⊥) [ inl v ↦ g.1 v e | inr v ↦ h.1 v e ]),
            λ p. (y way n).1 ((x way n).1 (p.0, λ u e. p.1 (inl u) e), λ u e. p.1 (inr u) e),
          ));
      none = λ q h. two.none q (one.none q h);
    }

-- a join that is put in and taken out again
module _ (old mid kept new : List (ℕ × File)) (left number : ℕ) (unread : (at : ℕ) (file : File) → lookup (nat_eq at) old ≡ Some file → IsReader file.readers joined number → ⊥) where
  pub undone : Enrolls old (is_at left joined) number mid → AreAlike mid kept → Strikes kept (is_at left joined) number new → AreAlike old new
  undone one two three = record {
    there = chained old mid new (λ q. More (is_at left joined q) number) (λ q. Less (is_at left joined q) number) (λ _. Same) one.there
        (chained mid kept new (λ _. Same) (λ q. Less (is_at left joined q) number) (λ q. Less (is_at left joined q) number) two.there three.there
        (λ q f k b c x y way n. (λ i. let h = (y way n).0 i in ((x way n).0 h.0, h.1), λ p. (y way n).1 ((x way n).1 p.0, p.1))))
        (λ q f k b c x y way n. (
          λ i.
              let h = (y way n).0 i in
              elim ((x way n).0 h.0) as (λ _. IsReader f.readers way n) [ inl g ↦ g | inr p ↦ absurd (h.1 p.0 p.1) ],
          λ g. (y way n).1 ((x way n).1 (inl g), λ u e. unread q f k (subst (λ m. IsReader f.readers joined m) e (subst (λ w. IsReader f.readers w n) u.1 g))),
        ));
    none = λ q h. three.none q (two.none q (one.none q h));
  }

-- where the readings are those of the whole expression
module _ (old new : List (ℕ × File)) (reads : ℕ → Reading → Type 0) (whole : Expr) (number : ℕ)
    (same : (q : ℕ) (f : File) (way : Reading) → lookup (nat_eq q) old ≡ Some f → reads q way ↔ Reads f.expr way whole) where
  pub enrolled : Enrolls old reads number new → IsEnrolled old whole number new
  enrolled e = record {
    there = λ q f k.
        let a = e.there q f k in (
          a.0,
          a.1,
          a.2,
          λ way n. (
            λ i. elim ((a.3 way n).0 i) as (λ _. IsReader f.readers way n ⊎ (Reads f.expr way whole × (n ≡ number))) [ inl h ↦ inl h | inr p ↦ inr ((same q f way k).0 p.0, p.1) ],
            λ s. elim s as (λ _. IsReader a.0.readers way n) [ inl h ↦ (a.3 way n).1 (inl h) | inr p ↦ (a.3 way n).1 (inr ((same q f way k).1 p.0, p.1)) ],
          ),
        );
    none = e.none;
  }

  pub struck : Strikes old reads number new → IsStruck old whole number new
  struck e = record {
    there = λ q f k.
        let a = e.there q f k in (
          a.0,
          a.1,
          a.2,
          λ way n. (
            λ i. let h = (a.3 way n).0 i in (h.0, λ u x. h.1 ((same q f way k).1 u) x),
            λ p. (a.3 way n).1 (p.0, λ u x. p.1 ((same q f way k).0 u) x),
          ),
        );
    none = e.none;
  }

-- where the whole expression reads nothing
module _ (old : List (ℕ × File)) (whole : Expr) (number : ℕ) (nothing : (inner : Expr) (way : Reading) → Reads inner way whole → ⊥) where
  pub enrolled_nowhere : IsEnrolled old whole number old
  enrolled_nowhere = record {
    there = λ q f k. (f, k, others_itself f, λ way n. (λ i. inl i, λ s. elim s as (λ _. IsReader f.readers way n) [ inl h ↦ h | inr p ↦ absurd (nothing f.expr way p.0) ]));
    none = λ q h. h;
  }

  pub struck_nowhere : IsStruck old whole number old
  struck_nowhere = record {
    there = λ q f k. (f, k, others_itself f, λ way n. (λ i. (i, λ u e. nothing f.expr way u), λ p. p.0));
    none = λ q h. h;
  }

  pub alike_nowhere : (new : List (ℕ × File)) → IsEnrolled old whole number new → AreAlike old new
  alike_nowhere new e = record {
    there = λ q f k.
        let a = e.there q f k in (
          a.0,
          a.1,
          a.2,
          λ way n. (
            λ i. elim ((a.3 way n).0 i) as (λ _. IsReader f.readers way n) [ inl h ↦ h | inr p ↦ absurd (nothing f.expr way p.0) ],
            λ h. (a.3 way n).1 (inl h),
          ),
        );
    none = e.none;
  }

-- all is as it was
pub alike_itself : (old : List (ℕ × File)) → AreAlike old old
alike_itself old = record { there = λ q f k. (f, k, others_itself f, λ way n. (λ i. i, λ i. i)); none = λ q h. h }

-- what is there stays there
module _ (old new : List (ℕ × File)) (at : ℕ) (has : HasFile old at) where
  pub has_enrolled : (reads : ℕ → Reading → Type 0) (number : ℕ) → Enrolls old reads number new → HasFile new at
  has_enrolled reads number e = let a = e.there at has.file has.at in record { file = a.0; at = a.1 }

  pub has_struck : (reads : ℕ → Reading → Type 0) (number : ℕ) → Strikes old reads number new → HasFile new at
  has_struck reads number e = let a = e.there at has.file has.at in record { file = a.0; at = a.1 }

  pub has_alike : AreAlike old new → HasFile new at
  has_alike e = let a = e.there at has.file has.at in record { file = a.0; at = a.1 }
