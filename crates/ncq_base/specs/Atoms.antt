-- Texts that are numbers, and the atom of a text.
use Rattle.std.specs.Prelude.{ℕ, ◌+◌, ◌-◌, ◌*◌, ◌^◌, Bool, ◌&&◌, ◌==◌, nat_le, nat_lt}
use Rattle.std.specs.Prelude.{if◌then◌else◌, List, [], ◌∷◌, length, take, drop, ℤ, pos, neg_ℤ}
use Rattle.std.specs.Prelude.{Option, Some, None, option_map}
use Rattle.std.specs.List.{prefix_len, list_all}
use Rattle.ncq_base.specs.Numbers.{is_digit, digits_value}
use Rattle.ncq_base.specs.declared.atom.Atom.{Atom}
use Rattle.ncq_base.specs.declared.atom.Atom.TheVariants.{Num, Text}
use Rattle.ncq_base.specs.declared.atom.Op.{Op}
use Rattle.ncq_base.specs.declared.atom.Op.TheVariants.{Eq, Ne, Lt, Le, Gt, Ge}
use Rattle.std.specs.Prelude.{not, false, nat_eq}
use lib.Pointwise.{pointwise}
use Rattle.std.specs.declared.cmp.Ordering.{Ordering}
use Rattle.std.specs.declared.cmp.Ordering.TheVariants.{Less, Greater}
use Rattle.std.specs.Ordering.{int_cmp, int_eq, nat_cmp, is_lt, is_le, is_gt, is_ge, is_some_and}
use Rattle.std.specs.Cmp.Lexicographic.{slice_cmp}

-- what follows the digits in front, in millionths: nothing, or a point and 1 to 6 digits
abbrev pub fraction_of : List ℕ → Option ℕ
fraction_of [] = Some 0
fraction_of (point ∷ digits) =
    if (point == 46) && nat_lt 0 (length digits) && nat_le (length digits) 6
    && list_all is_digit digits
    then Some (digits_value digits * 10 ^ (6 - length digits))
    else None

-- 1 to 15 digits and a fraction, in millionths
abbrev pub unsigned_of : List ℕ → Option ℕ
unsigned_of text =
    let n = prefix_len is_digit text in
    if nat_lt 0 n && nat_le n 15
    then option_map (λ f. digits_value (take n text) * 1000000 + f) (fraction_of (drop n text))
    else None

-- the same behind an optional sign
abbrev pub number_of : List ℕ → Option ℤ
number_of [] = None
number_of (sign ∷ rest) =
    if sign == 45 then option_map (λ n. neg_ℤ (pos n)) (unsigned_of rest)
    else (if sign == 43 then option_map pos (unsigned_of rest)
    else option_map pos (unsigned_of (sign ∷ rest)))

-- a number where the text is one, and else the text
abbrev pub atom_of : List ℕ → Atom
atom_of text = elim (number_of text) [ Some n ↦ Num n | None ↦ Text text ]

-- numbers by value; none where one is a text
abbrev pub compared : Atom → Atom → Option Ordering
compared (Num m) (Num n) = Some (int_cmp m n)
compared (Num m) (Text t) = None
compared (Text s) (Num n) = None
compared (Text s) (Text t) = None

-- numbers before texts, numbers by value, texts by bytes
abbrev pub atom_cmp : Atom → Atom → Ordering
atom_cmp (Num m) (Num n) = int_cmp m n
atom_cmp (Num m) (Text t) = Less
atom_cmp (Text s) (Num n) = Greater
atom_cmp (Text s) (Text t) = slice_cmp nat_cmp s t

abbrev pub same_atom : Atom → Atom → Bool
same_atom (Num m) (Num n) = int_eq m n
same_atom (Num m) (Text t) = false
same_atom (Text s) (Num n) = false
same_atom (Text s) (Text t) = pointwise nat_eq s t

abbrev pub holds_of : Op → Atom → Atom → Bool
holds_of Eq a b = same_atom a b
holds_of Ne a b = not (same_atom a b)
holds_of Lt a b = is_some_and is_lt (compared a b)
holds_of Le a b = is_some_and is_le (compared a b)
holds_of Gt a b = is_some_and is_gt (compared a b)
holds_of Ge a b = is_some_and is_ge (compared a b)
