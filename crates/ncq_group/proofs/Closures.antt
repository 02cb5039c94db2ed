-- The files of a table are the parts of what is used.
use Rattle.std.proofs.Common.{◌≡◌, ℕ, zero, suc, ◌<◌, ◌≤◌, ◌+◌, Some, inl, inr, refl, sym, subst, arith}
use Rattle.std.proofs.lemmas.Bool.{cases_eq}
use Rattle.std.specs.FinMap.{get}
use Rattle.ncq_plan.specs.declared.expr.Expr.{Expr}
use Rattle.ncq_shelf.specs.Parts.{IsInput, IsPart}
use Rattle.ncq_shelf.specs.Parts.IsPart.{itself, within}
use Rattle.ncq_shelf.specs.KeptFiles.{KeptFile, Files}
use Rattle.ncq_shelf.specs.Stands.{Stands, IsGrounded}
use Rattle.ncq_group.specs.Tables.{TableState, Facts}
use Rattle.ncq_group.specs.Closure.{IsNeeded, IsLive, IsKept, KeepsTheLive}
use Rattle.ncq_group.specs.Closure.IsNeeded.{used, read}

-- a part of a part is a part
part_of_part : {x part whole : Expr} → IsPart x part → IsPart part whole → IsPart x whole
part_of_part p itself = p
part_of_part p (within i q) = within i (part_of_part p q)

-- an input of a part is a part
pub input_of_part : {x part whole : Expr} → IsInput x part → IsPart part whole → IsPart x whole
input_of_part i p = part_of_part (within i itself) p

module _ (files : Files) (grounded : IsGrounded files) where
  -- what reads a file has a greater number
  pub reader_above : (number : ℕ) (file : KeptFile) → get files number ≡ Some file → (reader : ℕ) (by : KeptFile) → get files reader ≡ Some by → IsInput file.expr by.expr → number < reader
  reader_above number file at reader by there reads =
      let below = grounded.inputs reader by file.expr there reads in
      subst (λ n. n < reader) (grounded.distinct below.0 number file.expr below.2 (record { file = file; at = at; of = refl })) below.1

  -- the parts of a file's expression have files
  pub parts_kept : {part whole : Expr} → IsPart part whole → (number : ℕ) → Stands files whole number → IsKept files part
  parts_kept itself number s = (number, s)
  parts_kept {part} (within {input = input} i p) number s =
      let below = grounded.inputs number s.file input s.at (subst (λ w. IsInput input w) (sym s.of) i) in
      parts_kept p below.0 below.2

module _ (table : TableState) (facts : Facts table) where
  positive : (n : ℕ) → (n ≡ 0 → ⊥) → 0 < n
  positive n h = omega arith

  -- going down from the greatest number
  needed_from : (fuel number : ℕ) (file : KeptFile) → table.next_file ≤ number + fuel → get table.files number ≡ Some file → IsNeeded table.files number × IsLive table.files file.expr
  needed_from zero number file enough at = let b = facts.below number file at in absurd (omega arith)
  needed_from (suc fuel) number file enough at =
      elim (cases_eq file.uses 0) [
        | inl unused ↦
            let r = facts.read number file at unused in
            let above = reader_above table.files facts.grounded number file at r.reader r.file r.at r.reads in
            let up : table.next_file ≤ r.reader + fuel = omega arith in
            let rest = needed_from fuel r.reader r.file up r.at in
            (read r.at rest.0 at r.reads, record { number = rest.1.number; file = rest.1.file; at = rest.1.at; used = rest.1.used; part = input_of_part r.reads rest.1.part })
        | inr not_zero ↦ (used at (positive file.uses not_zero), record { number = number; file = file; at = at; used = positive file.uses not_zero; part = itself })
      ]

  -- each file of a table is needed
  pub all_needed : (number : ℕ) (file : KeptFile) → get table.files number ≡ Some file → IsNeeded table.files number
  all_needed number file at = (needed_from table.next_file number file (omega arith) at).0

  all_live : (number : ℕ) (file : KeptFile) → get table.files number ≡ Some file → IsLive table.files file.expr
  all_live number file at = (needed_from table.next_file number file (omega arith) at).1

  live_if_kept : (expr : Expr) → IsKept table.files expr → IsLive table.files expr
  live_if_kept expr kept = subst (IsLive table.files) kept.1.of (all_live kept.0 kept.1.file kept.1.at)

  kept_if_live : (expr : Expr) → IsLive table.files expr → IsKept table.files expr
  kept_if_live expr live = parts_kept table.files facts.grounded live.part live.number (record { file = live.file; at = live.at; of = refl })

pub keeps_the_live : KeepsTheLive
keeps_the_live table facts = (λ expr. (live_if_kept table facts expr, kept_if_live table facts expr), λ expr first second s t. facts.grounded.distinct first second expr s t)
