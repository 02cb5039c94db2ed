-- How many rows files lost above their bases. Only the crate's private clauses cite it, but for
-- what is said of worn files.
use Rattle.std.specs.Prelude.{◌≡◌, ℕ, ◌<◌, ◌≤◌, ◌⊎◌, ◌==◌, ◌&&◌, ◌||◌, Bool, true, false, not}
use Rattle.std.specs.Prelude.{List, Option, Some, None, nat_eq, nat_lt, refl}
use Rattle.std.specs.BTreeMap.{is_at}
use Rattle.std.specs.Coded.{Coded, code_by, coded×, coded_ℕ, coded_list}
use Rattle.std.specs.List.{list_any}
use Rattle.std.specs.Map.{lookup}
use Rattle.std.specs.Option.{unwrap_or}
use Rattle.std.specs.Ordering.{nat_cmp}
use Rattle.ncq_midfile.specs.Views.{losses_above}
use Rattle.ncq_midfile.specs.declared.signed.SignedRow.{SignedRow}
use Rattle.ncq_shelf.specs.KeptFiles.{AtFile, EachFile, Files, KeptFile}
use Rattle.ncq_group.specs.Tables.{TableState}
use Rattle.ncq_book.specs.declared.subscription.Subscription.{Subscription}
use Rattle.ncq_book.specs.Books.{subscription_of}
use Rattle.ncq_live.specs.LiveTables.{IsLiveTable}

-- numbers by file
abbrev pub Bounds : Type 0
Bounds = List (ℕ × ℕ)

-- how they are written as a value
abbrev pub bounds_code : Coded Bounds
bounds_code = coded_list (coded× coded_ℕ coded_ℕ)

-- the number of a file, 0 where there is none
abbrev pub bound_of : ℕ → Bounds → ℕ
bound_of file bounds = unwrap_or (lookup (nat_eq file) bounds) 0

-- numbers by file, the files that are known to be worn, and those that count as pinned
pub record WearState : Type 0 where
  pub bounds : Bounds
  pub worn : List ℕ
  pub pinned : List ℕ

-- how they are written as a value
abbrev pub wear_code : Coded WearState
wear_code =
    code_by (Bounds × (List ℕ × List ℕ))
    (coded× bounds_code (coded× (coded_list coded_ℕ) (coded_list coded_ℕ)))
    (λ w. (w.bounds, (w.worn, w.pinned)))
    (λ p. record { bounds = p.0; worn = p.1.0; pinned = p.1.1 }) (λ _. refl)

-- whether the file is one of these
abbrev pub is_among : ℕ → List ℕ → Bool
is_among file files = list_any (is_at (nat_cmp file)) files

-- each file whose number is that of a worn one is among the worn or among the pinned
abbrev pub KnowsTheWorn : Bounds → List ℕ → List ℕ → Type 0
KnowsTheWorn bounds worn pinned =
    (file : ℕ) → 64 ≤ bound_of file bounds → (is_among file worn || is_among file pinned) ≡ true

-- each file that counts as pinned did so before
abbrev pub PinsNoMore : WearState → WearState → Type 0
PinsNoMore old new =
    (file : ℕ) → is_among file new.pinned ≡ true → is_among file old.pinned ≡ true

-- how many rows went out above the base of a file
abbrev pub losses_of : KeptFile → ℕ
losses_of file = losses_above file.content.base file.content.rows

-- the number of each file is that of a worn one, or no row more went out above its base
abbrev pub AreBounds : Files → Bounds → Type 0
AreBounds files bounds = EachFile files (λ number file.
    (losses_of file ≤ bound_of number bounds) ⊎ (64 ≤ bound_of number bounds))

-- whether it is noted, and some of the rows has a later number
abbrev pub is_behind : List SignedRow → Option ℕ → Bool
is_behind rows None = false
is_behind rows (Some noted) = list_any (λ r. nat_lt noted r.number) rows

-- whether the subscription is a timer with this file, and has fired before some of the rows came
abbrev pub pins : ℕ → List SignedRow → Subscription → Bool
pins number rows m =
    not (m.timing.every == 0) && nat_eq number m.file.0 && is_behind rows m.noted

-- whether some timer pins the file: what it is told next begins before a row of the file
abbrev pub is_pinned : List Subscription → ℕ → List SignedRow → Bool
is_pinned subscriptions number rows = list_any (pins number rows) subscriptions

-- the list has each file of which 64 rows or more went out above its base and that no timer pins
abbrev pub HasTheWorn : Files → List Subscription → List ℕ → Type 0
HasTheWorn files subscriptions numbers = EachFile files (λ number file.
    64 ≤ losses_of file → is_pinned subscriptions number file.content.rows ≡ false
    → list_any (nat_eq number) numbers ≡ true)

-- whoever was told up to a number below this one is behind some of the rows
abbrev pub LeavesBehind : ℕ → List SignedRow → Type 0
LeavesBehind last rows = (noted : ℕ) → noted < last → is_behind rows (Some noted) ≡ true

-- the subscription of the install number was told up to a number below this one
pub record IsToldBefore (last install : ℕ) (subscriptions : List Subscription) : Type 0 where
  pub subscription : Subscription
  pub found : subscription_of install subscriptions ≡ Some subscription
  pub noted : ℕ
  pub told : subscription.noted ≡ Some noted
  pub before : noted < last

-- each of the numbers is below that of the next new file, and if there is a file of this number,
-- some timer pins it
abbrev pub ArePinned : TableState → List Subscription → List ℕ → Type 0
ArePinned table subscriptions pinned = (number : ℕ) → is_among number pinned ≡ true
    → (number < table.next_file)
    × AtFile table.files number (λ file.
    is_pinned subscriptions number file.content.rows ≡ true)

-- what holds inside of a live table: each subscription has the file of its plan, of each file it is
-- known how many rows went out above its base, at most, and files that count as pinned are so
pub record IsInOrder (table : TableState) (subscriptions : List Subscription) (wear : WearState)
    : Type 0 where
  pub live_table : IsLiveTable table subscriptions
  pub bounds : AreBounds table.files wear.bounds
  pub pinned : ArePinned table subscriptions wear.pinned
