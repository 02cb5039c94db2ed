-- The script of a load of n: 2 n + 4 commands, each with its block.
use Rattle.std.specs.Prelude.{ℕ, ◌+◌, ◌-◌, ◌*◌, ◌%◌, ◌==◌, ◌++◌, List, [], codes, decimal}
use Rattle.std.specs.Prelude.{if◌then◌else◌, nat_lt, zero, suc}

-- the line that ends a block
abbrev pub block_end : List ℕ
block_end = codes ".\n"

-- subscriber i asks for the quotes of one symbol
abbrev pub symbol_create : ℕ → List ℕ
symbol_create i =
    codes "create q" ++ decimal i ++ codes " WHERE <Quotes><Quote><Symbol>S" ++ decimal (i % 100)
    ++ codes "</></> ELEMENT_AS $g</> IN \"quotes\" CONSTRUCT $g DO count\n" ++ block_end

-- or for the quotes above one price
abbrev pub price_create : ℕ → List ℕ
price_create i =
    codes "create q" ++ decimal i
    ++ codes " WHERE <Quotes><Quote><Price>$p</></> ELEMENT_AS $g</> IN \"quotes\", $p > "
    ++ decimal ((37 * i) % 1000) ++ codes " CONSTRUCT $g DO count\n" ++ block_end

-- or for the quotes of the companies of one area
abbrev pub area_create : ℕ → List ℕ
area_create i =
    codes "create q" ++ decimal i
    ++ codes " WHERE <Quotes><Quote><Symbol>$s</></> ELEMENT_AS $g</> IN \"quotes\", "
    ++ codes "<Companies><Company><Symbol>$s</><Area>A" ++ decimal (i % 10)
    ++ codes "</></></> IN \"companies\" CONSTRUCT <hit>$g</> DO count\n" ++ block_end

-- the subscribers take turns
abbrev pub create_text : ℕ → List ℕ
create_text i = if i % 3 == 0 then symbol_create i
    else if i % 3 == 1 then price_create i else area_create i

-- a company with its symbol and its area
abbrev pub company : ℕ → List ℕ
company j =
    codes "(Company\n(Symbol\n-S" ++ decimal j ++ codes "\n)Symbol\n(Area\n-A" ++ decimal (j % 10)
    ++ codes "\n)Area\n)Company\n"

-- the first so many companies, in order
abbrev pub companies : ℕ → List ℕ
companies zero = []
companies (suc j) = companies j ++ company j

abbrev pub companies_text : List ℕ
companies_text = codes "delta companies\n" ++ companies 100 ++ block_end

-- one quote, with its symbol and its price
abbrev pub quote_text : ℕ → List ℕ
quote_text j =
    codes "delta quotes\n(Quote\n(Symbol\n-S" ++ decimal (j % 100)
    ++ codes "\n)Symbol\n(Price\n-" ++ decimal ((53 * j) % 1000)
    ++ codes "\n)Price\n)Quote\n" ++ block_end

-- the commands in order: the two sources, n creates, the companies, n quotes, and a report
abbrev pub part_text : ℕ → ℕ → List ℕ
part_text n part =
    if part == 0 then codes "source quotes root Quotes key Symbol\n"
    else if part == 1 then codes "source companies root Companies key Symbol\n"
    else if nat_lt part (n + 2) then create_text (part - 2)
    else if part == n + 2 then companies_text
    else if nat_lt part (2 * n + 3) then quote_text (part - (n + 3))
    else codes "report\n"

-- the first so many of them
abbrev pub parts_text : ℕ → ℕ → List ℕ
parts_text n zero = []
parts_text n (suc part) = parts_text n part ++ part_text n part

-- all of them
abbrev pub load_text : ℕ → List ℕ
load_text n = parts_text n (2 * n + 4)
