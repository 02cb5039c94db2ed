-- The files of each atom, as those of one atom change.
use Rattle.std.proofs.Common.{◌≡◌, ℕ, Bool, true, false, ◌&&◌, ◌||◌, cond, List, [], ◌∷◌, length, Some, None, Option, nat_eq, refl, sym, ap, ◌∙◌, true≢false, Ok, Err}
use Rattle.std.specs.Prelude.{not, OnErr}
use Rattle.std.specs.declared.result.Result.{Result}
use Rattle.std.specs.List.{list_any}
use Rattle.std.specs.Map.{lookup}
use Rattle.std.specs.Option.{option_map_or}
use Rattle.std.specs.Cmp.Lexicographic.{bytes_decides}
use Rattle.std.proofs.lemmas.Bool.{eq-eqb}
use Rattle.std.proofs.lemmas.Bool.Decides.{Decides-int_eq}
use Rattle.indexmap.specs.IndexSet.{IndexSet}
use Rattle.ncq_base.specs.Atoms.{same_atom}
use Rattle.ncq_base.specs.declared.atom.Atom.{Atom}
use Rattle.ncq_base.specs.declared.atom.Atom.TheVariants.{Num, Text}
use Rattle.ncq_base.specs.contracts.atom.AtomPartialEq.TheImpl.{ghosts as atom_eq}
use Rattle.ncq_holders.specs.Held.{Held, is_holder, Notes, Forgets, HaveSame}
use Rattle.ncq_holders.specs.Seen.{held_in}

-- `==` is true where the two are the same
ties : (a b : Atom) → atom_eq.eq a b ≡ same_atom a b
ties (Num m) (Num n) = refl
ties (Num m) (Text t) = refl
ties (Text s) (Num n) = refl
ties (Text s) (Text t) = refl

pub atoms_same : (a b : Atom) → same_atom a b ≡ true → a ≡ b
atoms_same (Num m) (Num n) e = ap Num ((Decides-int_eq m n).0 e)
atoms_same (Num m) (Text t) e = absurd (true≢false (sym e))
atoms_same (Text s) (Num n) e = absurd (true≢false (sym e))
atoms_same (Text s) (Text t) e = ap Text ((bytes_decides s t).0 e)

pub atom_itself : (a : Atom) → same_atom a a ≡ true
atom_itself (Num m) = (Decides-int_eq m m).1 refl
atom_itself (Text s) = (bytes_decides s s).1 refl

-- what a note and what a forgetting leave
pub noted_here : (old new : Held) (atom : Atom) (number : ℕ) → Notes old atom number new → is_holder new atom number ≡ true
noted_here old new atom number n =
    n atom number ∙ (λ i. is_holder old atom number || (atom_itself atom i && eq-eqb number number refl i)) ∙ or_true (is_holder old atom number)
  where
    or_true : (b : Bool) → (b || true) ≡ true
    or_true true = refl
    or_true false = refl

pub noted_kept : (old new : Held) (atom : Atom) (number : ℕ) → Notes old atom number new → (a : Atom) (n : ℕ) → is_holder old a n ≡ true → is_holder new a n ≡ true
noted_kept old new atom number notes a n h = notes a n ∙ ap (λ b. b || (same_atom atom a && nat_eq number n)) h

pub forgotten_kept : (old new : Held) (atom : Atom) (number : ℕ) → Forgets old atom number new → (a : Atom) (n : ℕ) → nat_eq number n ≡ false → is_holder old a n ≡ true → is_holder new a n ≡ true
forgotten_kept old new atom number f a n differs h = f a n ∙ (λ i. h i && not (same_atom atom a && differs i)) ∙ kept (same_atom atom a)
  where
    kept : (b : Bool) → (true && not (b && false)) ≡ true
    kept true = refl
    kept false = refl

-- the tests of the two ways
abbrev pub also : Bool → Bool → Bool
also before here = before || here

abbrev pub save : Bool → Bool → Bool
save before here = before && not here

pub also_kept : (b : Bool) → also b false ≡ b
also_kept true = refl
also_kept false = refl

pub save_kept : (b : Bool) → save b false ≡ b
save_kept true = refl
save_kept false = refl

module _ {S : Type 0} where
  -- whether the set has the number
  abbrev pub has : Option (IndexSet ℕ S) → ℕ → Bool
  has set n = option_map_or (λ s. list_any (nat_eq n) s.keys) set false

  pub seen_at : (es : List (Atom × IndexSet ℕ S)) (a : Atom) (n : ℕ) → is_holder (held_in es) a n ≡ has (lookup (atom_eq.eq a) es) n
  seen_at [] a n = refl
  seen_at (e ∷ es) a n = (λ i. option_map_or (list_any (nat_eq n)) (cond (sym (ties a e.0) i) (Some e.1.keys) (lookup (same_atom a) (held_in es))) false) ∙ by (atom_eq.eq a e.0) (seen_at es a n)
    where
      by : (b : Bool) → is_holder (held_in es) a n ≡ has (lookup (atom_eq.eq a) es) n
          → option_map_or (list_any (nat_eq n)) (cond b (Some e.1.keys) (lookup (same_atom a) (held_in es))) false ≡ has (cond b (Some e.1) (lookup (atom_eq.eq a) es)) n
      by true h = refl
      by false h = h

  module _ (old new : List (Atom × IndexSet ℕ S)) (atom : Atom) (set : Option (IndexSet ℕ S)) (is : (q : Atom) → lookup (atom_eq.eq q) new ≡ cond (atom_eq.eq atom q) set (lookup (atom_eq.eq q) old)) where
    -- the files of one atom change
    pub turns : (f : Bool → Bool → Bool) → ((b : Bool) → f b false ≡ b) → (number : ℕ) → ((n : ℕ) → has set n ≡ f (is_holder (held_in old) atom n) (nat_eq number n))
        → (a : Atom) (n : ℕ) → is_holder (held_in new) a n ≡ f (is_holder (held_in old) a n) (same_atom atom a && nat_eq number n)
    turns f keeps number here a n = by (same_atom atom a) refl
      where
        goes : (b : Bool) → same_atom atom a ≡ b → is_holder (held_in new) a n ≡ has (cond b set (lookup (atom_eq.eq a) old)) n
        goes b e = seen_at new a n ∙ ap (λ o. has o n) (is a ∙ ap (λ t. cond t set (lookup (atom_eq.eq a) old)) (ties atom a ∙ e))

        by : (b : Bool) → same_atom atom a ≡ b → is_holder (held_in new) a n ≡ f (is_holder (held_in old) a n) (b && nat_eq number n)
        by true e = goes true e ∙ here n ∙ ap (λ x. f (is_holder (held_in old) x n) (nat_eq number n)) (atoms_same atom a e)
        by false e = goes false e ∙ sym (seen_at old a n) ∙ sym (keeps (is_holder (held_in old) a n))

    -- they stay the same
    pub stays : ((n : ℕ) → has set n ≡ is_holder (held_in old) atom n) → HaveSame (held_in old) (held_in new)
    stays here a n = turns (λ b _. b) (λ b. refl) 0 here a n

  -- what an insertion and what a removal make of a set
  pub with_number : (w : IndexSet ℕ S) (before : ℕ → Bool) (number : ℕ) → ((n : ℕ) → list_any (nat_eq n) w.keys ≡ cond (nat_eq number n) true (before n)) → (n : ℕ) → has (Some w) n ≡ also (before n) (nat_eq number n)
  with_number w before number is n = is n ∙ by (nat_eq number n) (before n)
    where
      by : (t b : Bool) → cond t true b ≡ also b t
      by true true = refl
      by true false = refl
      by false true = refl
      by false false = refl

  pub without_number : (w : IndexSet ℕ S) (before : ℕ → Bool) (number : ℕ) → ((n : ℕ) → list_any (nat_eq n) w.keys ≡ cond (nat_eq number n) false (before n)) → (n : ℕ) → has (Some w) n ≡ save (before n) (nat_eq number n)
  without_number w before number is n = is n ∙ by (nat_eq number n) (before n)
    where
      by : (t b : Bool) → cond t false b ≡ save b t
      by true true = refl
      by true false = refl
      by false true = refl
      by false false = refl

-- an error, whatever it is
pub any_err : {T E P : Type 0} (r : Result T E) → P → OnErr r P
any_err (Ok x) p = tt
any_err (Err e) p = p

-- an atom without files has none to forget
pub forgets_none : (held : Held) (atom : Atom) (number : ℕ) → ((n : ℕ) → is_holder held atom n ≡ false) → Forgets held atom number held
forgets_none held atom number none a n = by (same_atom atom a) refl
  where
    by : (b : Bool) → same_atom atom a ≡ b → is_holder held a n ≡ save (is_holder held a n) (b && nat_eq number n)
    by true e =
        let no : is_holder held a n ≡ false = ap (λ x. is_holder held x n) (sym (atoms_same atom a e)) ∙ none n in
        no ∙ ap (λ b. save b (nat_eq number n)) (sym no)
    by false e = sym (save_kept (is_holder held a n))

-- what one atom has is another set, and another again
module _ {S : Type 0} where
  pub turned_again : (old mid new : List (Atom × IndexSet ℕ S)) (atom : Atom) (o p : Option (IndexSet ℕ S)) → ((q : Atom) → lookup (atom_eq.eq q) mid ≡ cond (atom_eq.eq atom q) o (lookup (atom_eq.eq q) old))
      → ((q : Atom) → lookup (atom_eq.eq q) new ≡ cond (atom_eq.eq atom q) p (lookup (atom_eq.eq q) mid)) → (q : Atom) → lookup (atom_eq.eq q) new ≡ cond (atom_eq.eq atom q) p (lookup (atom_eq.eq q) old)
  turned_again old mid new atom o p one two q = two q ∙ ap (cond (atom_eq.eq atom q) p) (one q) ∙ by (atom_eq.eq atom q)
    where
      by : (b : Bool) → cond b p (cond b o (lookup (atom_eq.eq q) old)) ≡ cond b p (lookup (atom_eq.eq q) old)
      by true = refl
      by false = refl

-- a set without numbers has none
pub empty_has : {S : Type 0} (w : IndexSet ℕ S) → length w.keys ≡ 0 → (n : ℕ) → has {S = S} None n ≡ has (Some w) n
empty_has w none n = by w.keys none
  where
    by : (ks : List ℕ) → length ks ≡ 0 → false ≡ list_any (nat_eq n) ks
    by [] e = refl
    by (k ∷ ks) e = cc
