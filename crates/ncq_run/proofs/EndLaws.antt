-- Laws of how a session ends.
use Rattle.std.proofs.Common.{◌≡◌, ◌+◌, ◌<◌, ◌≤◌, ◌++◌, ℕ, List, length, refl, subst, ap, ◌∙◌, arith, length-append, inl, inr}
use Rattle.std.specs.Prelude.{Option, None, Some, IfSome, ◌⊎◌}
use Rattle.std.specs.Io.KnownBytes.{Appends}
use Rattle.ncq_outside.specs.Causes.{IsFull, Rose}
use Rattle.ncq_run.specs.declared.session.Status.{Status}
use Rattle.ncq_run.specs.declared.session.Status.TheVariants.{Done, Usage, ReadFault, WriteFault, NoMemory, ScriptTooLong}
use Rattle.ncq_engine.specs.Notices.{Language}
use Rattle.ncq_words.specs.Forms.{Form}
use Rattle.ncq_words.specs.Forms.Form.{run, alone, load}
use Rattle.ncq_run.specs.Output.{load_output, output_of}
use Rattle.ncq_run.specs.Status.{Ended, EndedAs, HoldsAll, HoldsAllOf, Loaded, IsShort, IsTooLong, IsWriteFault, Outside, AppendsProperPrefix}

short : (language : Language) (whose : Option (List ℕ)) (limit most : ℕ) (old new : Outside) → IsTooLong language whose limit most old new → IsShort most old new → ⊥
short language whose limit most old new e (inl p) =
    let more : most < length p.0 = subst (λ o. IfSome o (λ script. most < length script)) p.1 e.long in
    let less : length p.0 ≤ most = p.2 in
    omega arith
short language whose limit most old new e (inr n) = n e.more

complete : (language : Language) (whose : Option (List ℕ)) (limit most : ℕ) (old new : Outside) (status : Status) → Ended language whose limit most old new status
    → (Rose old.read_faults new.read_faults → ⊥) → (Rose old.write_faults new.write_faults → ⊥) → IsShort most old new
    → (status ≡ Done) ⊎ (status ≡ NoMemory)
complete language whose limit most old new Done e read write s = inl refl
complete language whose limit most old new Usage e read write s = absurd e
complete language whose limit most old new ReadFault e read write s = absurd (read e.rose)
complete language whose limit most old new WriteFault e read write s = absurd (write e.rose)
complete language whose limit most old new NoMemory e read write s = inr refl
complete language whose limit most old new ScriptTooLong e read write s = absurd (short language whose limit most old new e s)

-- a full sink holds the whole output
full_holds : (sure : ℕ) (held front rest output : List ℕ) (now : Option (List ℕ)) → Appends (Some held) now front → IsFull sure now → output ≡ front ++ rest → 0 < length rest
    → length held + length output ≤ sure → ⊥
full_holds sure held front rest output None a full e some room = absurd a
full_holds sure held front rest output (Some bytes) a full e some room =
    let long : length bytes ≡ length held + length front = ap length a ∙ length-append held front in
    let all : length output ≡ length front + length rest = ap length e ∙ length-append front rest in
    omega arith

enough : (language : Language) (whose : Option (List ℕ)) (limit most sure : ℕ) (old new : Outside) → HoldsAll language whose limit sure old → IsFull sure new.held → IsWriteFault language whose limit old new → ⊥
enough language whose limit most sure old new h full e =
    let written : AppendsProperPrefix old.held new.held (output_of language whose limit h.0) = subst (λ o. IfSome o (λ s. AppendsProperPrefix old.held new.held (output_of language whose limit s))) h.2 e.written in
    let appended : Appends (Some h.1) new.held written.0 = subst (λ o. Appends o new.held written.0) h.3 written.4 in
    full_holds sure h.1 written.0 written.1 (output_of language whose limit h.0) new.held appended full written.2 written.3 h.4

-- the same for a load
load_complete : (language : Language) (limit n : ℕ) (old new : Outside) (status : Status) → Loaded language limit n old new status → (Rose old.write_faults new.write_faults → ⊥) → (status ≡ Done) ⊎ (status ≡ NoMemory)
load_complete language limit n old new Done e write = inl refl
load_complete language limit n old new Usage e write = absurd e
load_complete language limit n old new ReadFault e write = absurd e
load_complete language limit n old new WriteFault e write = absurd (write e.0)
load_complete language limit n old new NoMemory e write = inr refl
load_complete language limit n old new ScriptTooLong e write = absurd e

load_enough : (language : Language) (limit n sure : ℕ) (old new : Outside) → HoldsAllOf (load n) language limit sure old → IsFull sure new.held → Loaded language limit n old new WriteFault → ⊥
load_enough language limit n sure old new h full e =
    let written = e.1 in
    let appended : Appends (Some h.0) new.held written.0 = subst (λ o. Appends o new.held written.0) h.1 written.4 in
    full_holds sure h.0 written.0 written.1 (load_output language limit n) new.held appended full written.2 written.3 h.2

pub complete_as : (form : Form) (language : Language) (limit most : ℕ) (old new : Outside) (status : Status) → EndedAs form language limit most old new status
    → (Rose old.read_faults new.read_faults → ⊥) → (Rose old.write_faults new.write_faults → ⊥) → IsShort most old new
    → (status ≡ Done) ⊎ (status ≡ NoMemory)
complete_as run language limit most old new status e read write s = complete language None limit most old new status e read write s
complete_as (alone name) language limit most old new status e read write s = complete language (Some name) limit most old new status e read write s
complete_as (load n) language limit most old new status e read write s = load_complete language limit n old new status e write

pub enough_as : (form : Form) (language : Language) (limit most sure : ℕ) (old new : Outside) → HoldsAllOf form language limit sure old → IsFull sure new.held → EndedAs form language limit most old new WriteFault → ⊥
enough_as run language limit most sure old new h full e = enough language None limit most sure old new h full e
enough_as (alone name) language limit most sure old new h full e = enough language (Some name) limit most sure old new h full e
enough_as (load n) language limit most sure old new h full e = load_enough language limit n sure old new h full e
