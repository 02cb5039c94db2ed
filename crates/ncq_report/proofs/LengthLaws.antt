-- How long the commands of a load are.
use Rattle.std.proofs.Common.{◌≡◌, ◌+◌, ◌-◌, ◌*◌, ◌%◌, ◌<◌, ◌≤◌, ◌==◌, ◌^◌, ◌++◌, ℕ, zero, suc, Bool, true, false, List, [], length, refl, arith, length-append}
use Rattle.std.specs.Prelude.{codes, decimal, if◌then◌else◌, nat_le, nat_lt}
use Rattle.std.proofs.lemmas.Bool.Decides.{nat_tests}
use Rattle.itoa.proofs.Decimal.{length_wide}
use Rattle.ncq_report.specs.Loads.{area_create, block_end, companies, companies_text, company, create_text, load_text, part_text, parts_text, price_create, quote_text, symbol_create}

-- a text that is written out
short : (xs : List ℕ) → nat_le (length xs) 200 ≡ true → length xs ≤ 200
short xs e = grind (arith, nat_tests, e)

digits : (n : ℕ) → n < 2 ^ 64 → length (decimal n) ≤ 39
digits n small = length_wide n (omega (arith, small))

-- texts with a number behind the first and another behind the next
module _ (a b c : List ℕ) (m n : ℕ) (p : length a ≤ 200) (q : length b ≤ 200) (r : length c ≤ 200) (s : m < 2 ^ 64) (t : n < 2 ^ 64) where
  front : length (a ++ decimal m ++ b) ≤ 439
  front = omega (arith, length-append (a ++ decimal m) b, length-append a (decimal m), p, q, digits m s)

  filled : length (a ++ decimal m ++ b ++ decimal n ++ c) ≤ 1000
  filled = omega (arith, length-append (a ++ decimal m ++ b ++ decimal n) c, length-append (a ++ decimal m ++ b) (decimal n), front, r, digits n t)

  -- with an end
  module _ (d : List ℕ) (u : length d ≤ 200) where
    ended : length (a ++ decimal m ++ b ++ decimal n ++ c ++ d) ≤ 2000
    ended = omega (arith, length-append (a ++ decimal m ++ b ++ decimal n ++ c) d, filled, u)

    -- and with a longer text between the numbers
    parted : (e : List ℕ) → length e ≤ 200 → length (a ++ decimal m ++ b ++ e ++ decimal n ++ c ++ d) ≤ 2000
    parted e v = omega (
      arith,
      length-append (a ++ decimal m ++ b ++ e ++ decimal n ++ c) d,
      length-append (a ++ decimal m ++ b ++ e ++ decimal n) c,
      length-append (a ++ decimal m ++ b ++ e) (decimal n),
      length-append (a ++ decimal m ++ b) e,
      front,
      r,
      u,
      v,
      digits n t,
    )

symbol_short : (i : ℕ) → i < 2000 → length (symbol_create i) ≤ 2000
symbol_short i small =
    let a = codes "create q" in
    let b = codes " WHERE <Quotes><Quote><Symbol>S" in
    let c = codes "</></> ELEMENT_AS $g</> IN \"quotes\" CONSTRUCT $g DO count\n" in
    ended a b c i (i % 100) (short a refl) (short b refl) (short c refl) (omega (arith, small)) (omega arith) block_end (short block_end refl)

price_short : (i : ℕ) → i < 2000 → length (price_create i) ≤ 2000
price_short i small =
    let a = codes "create q" in
    let b = codes " WHERE <Quotes><Quote><Price>$p</></> ELEMENT_AS $g</> IN \"quotes\", $p > " in
    let c = codes " CONSTRUCT $g DO count\n" in
    ended a b c i ((37 * i) % 1000) (short a refl) (short b refl) (short c refl) (omega (arith, small)) (omega arith) block_end (short block_end refl)

area_short : (i : ℕ) → i < 2000 → length (area_create i) ≤ 2000
area_short i small =
    let a = codes "create q" in
    let b = codes " WHERE <Quotes><Quote><Symbol>$s</></> ELEMENT_AS $g</> IN \"quotes\", " in
    let e = codes "<Companies><Company><Symbol>$s</><Area>A" in
    let c = codes "</></></> IN \"companies\" CONSTRUCT <hit>$g</> DO count\n" in
    parted a b c i (i % 10) (short a refl) (short b refl) (short c refl) (omega (arith, small)) (omega arith) block_end (short block_end refl) e (short e refl)

create_short : (i : ℕ) → i < 2000 → length (create_text i) ≤ 2000
create_short i small = by (i % 3 == 0) (i % 3 == 1)
  where
    by : (a b : Bool) → length (if a then symbol_create i else if b then price_create i else area_create i) ≤ 2000
    by true b = symbol_short i small
    by false true = price_short i small
    by false false = area_short i small

of_1000 : (xs : List ℕ) → length xs ≤ 1000 → length xs ≤ 2000
of_1000 xs l = omega (arith, l)

company_short : (j : ℕ) → j < 2000 → length (company j) ≤ 2000
company_short j small =
    let a = codes "(Company\n(Symbol\n-S" in
    let b = codes "\n)Symbol\n(Area\n-A" in
    let c = codes "\n)Area\n)Company\n" in
    of_1000 (company j) (filled a b c j (j % 10) (short a refl) (short b refl) (short c refl) (omega (arith, small)) (omega arith))

companies_short : (j : ℕ) → j ≤ 100 → length (companies j) ≤ j * 2000
companies_short zero few = omega arith
companies_short (suc j) few =
    let rest = companies_short j (omega (arith, few)) in
    let one = company_short j (omega (arith, few)) in
    omega (arith, length-append (companies j) (company j), rest, one)

companies_whole : length companies_text ≤ 300000
companies_whole =
    let a = codes "delta companies\n" in
    let rest = companies_short 100 (omega arith) in
    omega (arith, length-append (a ++ companies 100) block_end, length-append a (companies 100), short a refl, short block_end refl, rest)

quote_short : (j : ℕ) → length (quote_text j) ≤ 2000
quote_short j =
    let a = codes "delta quotes\n(Quote\n(Symbol\n-S" in
    let b = codes "\n)Symbol\n(Price\n-" in
    let c = codes "\n)Price\n)Quote\n" in
    ended a b c (j % 100) ((53 * j) % 1000) (short a refl) (short b refl) (short c refl) (omega arith) (omega arith) block_end (short block_end refl)

line_short : (xs : List ℕ) → nat_le (length xs) 200 ≡ true → length xs ≤ 300000
line_short xs e = let l = short xs e in omega (arith, l)

part_of_2000 : (xs : List ℕ) → length xs ≤ 2000 → length xs ≤ 300000
part_of_2000 xs l = omega (arith, l)

-- each command of a load is short
pub part_short : (n part : ℕ) → n ≤ 2000 → length (part_text n part) ≤ 300000
part_short n part few = by (part == 0) (part == 1) (nat_lt part (n + 2)) refl (part == n + 2) (nat_lt part (2 * n + 3))
  where
    by : (a b c : Bool) → nat_lt part (n + 2) ≡ c → (d e : Bool)
        → length (if a then codes "source quotes root Quotes key Symbol\n" else if b then codes "source companies root Companies key Symbol\n"
        else if c then create_text (part - 2) else if d then companies_text else if e then quote_text (part - (n + 3)) else codes "report\n") ≤ 300000
    by true b c is d e = line_short (codes "source quotes root Quotes key Symbol\n") refl
    by false true c is d e = line_short (codes "source companies root Companies key Symbol\n") refl
    by false false true is d e = part_of_2000 (create_text (part - 2)) (create_short (part - 2) (let l : part - 2 < 2000 = grind (arith, nat_tests, is, few) in l))
    by false false false is true e = companies_whole
    by false false false is false true = part_of_2000 (quote_text (part - (n + 3))) (quote_short (part - (n + 3)))
    by false false false is false false = line_short (codes "report\n") refl

pub parts_short : (n parts : ℕ) → n ≤ 2000 → length (parts_text n parts) ≤ parts * 300000
parts_short n zero few = omega arith
parts_short n (suc part) few =
    let rest = parts_short n part few in
    let one = part_short n part few in
    omega (arith, length-append (parts_text n part) (part_text n part), rest, one)
