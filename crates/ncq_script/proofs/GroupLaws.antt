-- Lines are grouped in one way alone.
use Rattle.std.proofs.Common.{◌≡◌, ℕ, Bool, true, false, List, [], ◌∷◌, ◌++◌, refl, ap, ◌∙◌, append-nil}
use Rattle.std.specs.Prelude.{if◌then◌else◌}
use Rattle.std.specs.List.{AllByRecursion}
use Rattle.ncq_script.specs.BatchReading.{IsParted, StartsSection}
use Rattle.ncq_script.specs.Batches.{Groups, groups}
use Rattle.ncq_script.specs.SpellsBatch.{is_header}

abbrev pub Plain : List ℕ → Type 0
Plain line = is_header line ≡ false

-- a line in front of grouped lines
abbrev headed_if : List ℕ → Groups → Bool → Groups
headed_if line g t =
    if t then record { front = []; sections = record { head = line; body = g.front } ∷ g.sections } else record { front = line ∷ g.front; sections = g.sections }

pub groups-header : (line : List ℕ) (lines : List (List ℕ)) → is_header line ≡ true → groups (line ∷ lines) ≡ record { front = []; sections = record { head = line; body = (groups lines).front } ∷ (groups lines).sections }
groups-header line lines header = ap (headed_if line (groups lines)) header

pub groups-plain : (own left : List (List ℕ)) → AllByRecursion Plain own → groups (own ++ left) ≡ record { front = own ++ (groups left).front; sections = (groups left).sections }
groups-plain [] left plain = refl
groups-plain (line ∷ own) left plain =
    ap (headed_if line (groups (own ++ left))) plain.0
    ∙ ap (λ (g : Groups). record { front = line ∷ g.front; sections = g.sections }) (groups-plain own left plain.1)

pub starts_front : (lines : List (List ℕ)) → StartsSection lines → (groups lines).front ≡ []
starts_front [] starts = refl
starts_front (line ∷ lines) starts = ap (λ (g : Groups). g.front) (groups-header line lines starts)

pub groups_parted : (lines own left : List (List ℕ)) → IsParted lines own left → groups lines ≡ record { front = own; sections = (groups left).sections }
groups_parted lines own left parted =
    ap groups parted.split ∙ groups-plain own left parted.plain
    ∙ ap (λ (front : List (List ℕ)). record { front = front; sections = (groups left).sections }) (ap (λ (front : List (List ℕ)). own ++ front) (starts_front left parted.starts) ∙ append-nil own)
