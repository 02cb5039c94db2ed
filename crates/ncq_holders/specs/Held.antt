-- Which files have had an atom.
use Rattle.std.specs.Prelude.{◌≡◌, ◌&&◌, ◌||◌, ℕ, Bool, false, not, List, nat_eq}
use Rattle.std.specs.Coded.{Coded, coded×, coded_ℕ, coded_list}
use Rattle.std.specs.List.{list_any}
use Rattle.std.specs.Map.{lookup}
use Rattle.std.specs.Option.{option_map_or}
use Rattle.ncq_base.specs.Atoms.{same_atom}
use Rattle.ncq_base.specs.declared.atom.Atom.{Atom}
use Rattle.ncq_base.specs.contracts.atom.Atom.{the_row as atom_row}

-- atoms with the numbers of their files
abbrev pub Held : Type 0
Held = List (Atom × List ℕ)

abbrev pub held_code : Coded Held
held_code = coded_list (coded× atom_row.coded (coded_list coded_ℕ))

-- whether the file of this number has had the atom
abbrev pub is_holder : Held → Atom → ℕ → Bool
is_holder held atom number =
    option_map_or (list_any (nat_eq number)) (lookup (same_atom atom) held) false

-- the file has had the atom, too; all else is as before
abbrev pub Notes : Held → Atom → ℕ → Held → Type 0
Notes old atom number new =
    (a : Atom) (n : ℕ) → is_holder new a n ≡ (is_holder old a n || (same_atom atom a && nat_eq
    number n))

-- the file has not had the atom; all else is as before
abbrev pub Forgets : Held → Atom → ℕ → Held → Type 0
Forgets old atom number new =
    (a : Atom) (n : ℕ) → is_holder new a n ≡ (is_holder old a n && not (same_atom atom a && nat_eq
    number n))

-- the same files have had the same atoms
abbrev pub HaveSame : Held → Held → Type 0
HaveSame old new = (a : Atom) (n : ℕ) → is_holder new a n ≡ is_holder old a n
