-- What the form of the words says, and what holds where none was found.
use Rattle.std.proofs.Common.{◌≡◌, ◌≤◌, ℕ, Bool, true, false, ◌&&◌, List, [], ◌∷◌, refl, sym, subst, arith, ◌∙◌, true≢false}
use Rattle.std.specs.Prelude.{Option, Some, None, IfNone, IfSome, codes, if◌then◌else◌, nat_le, length, option_map}
use Rattle.std.specs.Str.{bytes_eq}
use Rattle.std.proofs.KnownBytes.{Appends-nil}
use Rattle.std.proofs.lemmas.Bool.Decides.{nat_tests}
use Rattle.ncq_base.specs.Numbers.{read_u64}
use Rattle.ncq_engine.specs.Notices.{Language}
use Rattle.ncq_engine.specs.Stands.{EngineState}
use Rattle.ncq_report.specs.Loads.{load_text}
use Rattle.ncq_script.specs.Script.{script}
use Rattle.ncq_words.specs.Forms.{Form, form_of, form_of_value, in_range, is_plain, load_form, load_number}
use Rattle.ncq_words.specs.Forms.Form.{run, alone, load}
use Rattle.ncq_run.specs.Output.{load_output}
use Rattle.ncq_run.specs.Status.{Ended, EndedAs, Loaded, StandsAs, StandsForThe, Outside, WorksAs, is_load, outside}
use Rattle.ncq_run.specs.declared.session.Status.{Status}
use Rattle.ncq_run.specs.declared.session.Status.TheVariants.{Done, NoMemory, ReadFault, ScriptTooLong, Usage, WriteFault}
use Rattle.ncq_run.proofs.Turns.{nothing_written}
use Rattle.ncq_run.proofs.WorkLaws.{no_step}

-- what holds of the form holds where that form was found
pub of_form : (o : Option Form) (form : Form) (P : Form → Type 0) → o ≡ Some form → P form → IfSome o P
of_form o form P e p = subst (λ (x : Option Form). IfSome x P) (sym e) p

pub of_any : (o : Option Form) (P : Form → Type 0) → ((form : Form) → P form) → IfSome o P
of_any None P p = tt
of_any (Some form) P p = p form

pub of_none : (o : Option Form) (P : Form → Type 0) → o ≡ None → IfSome o P
of_none o P e = subst (λ (x : Option Form). IfSome x P) (sym e) tt

pub not_none : (o : Option Form) (form : Form) (P : Type 0) → o ≡ Some form → IfNone o P
not_none o form P e = subst (λ (x : Option Form). IfNone x P) (sym e) tt

pub if_none : (o : Option Form) (P : Type 0) → P → IfNone o P
if_none None P p = p
if_none (Some form) P p = tt

-- the number of a load is from 1 to 2,000
in_range_is : (o : Option ℕ) (n : ℕ) → in_range o ≡ Some n → (1 ≤ n) × (n ≤ 2000)
in_range_is None n e = absurd cc
in_range_is (Some m) n e = by (nat_le 1 m) (nat_le m 2000) refl refl e
  where
    by : (a b : Bool) → nat_le 1 m ≡ a → nat_le m 2000 ≡ b → (if a && b then Some m else None) ≡ Some n → (1 ≤ n) × (n ≤ 2000)
    by true true p q same = let is : m ≡ n = cc in (grind (arith, nat_tests, p, is), grind (arith, nat_tests, q, is))
    by true false p q same = absurd cc
    by false b p q same = absurd cc

number_is : (word : List ℕ) (n : ℕ) → load_number word ≡ Some n → (1 ≤ n) × (n ≤ 2000)
number_is word n e = by (nat_le (length word) 6) e
  where
    by : (a : Bool) → (if a then in_range (read_u64 word) else None) ≡ Some n → (1 ≤ n) × (n ≤ 2000)
    by true same = in_range_is (read_u64 word) n same
    by false same = absurd cc

loaded_is : (o : Option ℕ) (n : ℕ) → option_map load o ≡ Some (load n) → o ≡ Some n
loaded_is None n e = absurd cc
loaded_is (Some m) n e = let is : m ≡ n = cc in λ i. Some (is i)

value_is : (mode value : List ℕ) (n : ℕ) → form_of_value mode value ≡ Some (load n) → (1 ≤ n) × (n ≤ 2000)
value_is mode value n e = by (bytes_eq mode (codes "alone")) (bytes_eq mode (codes "load")) (is_plain value) e
  where
    by : (a l p : Bool) → (if a then (if p then Some (alone value) else None) else (if l then load_form value else None)) ≡ Some (load n) → (1 ≤ n) × (n ≤ 2000)
    by true l true same = absurd cc
    by true l false same = absurd cc
    by false true p same = number_is value n (loaded_is (load_number value) n same)
    by false false p same = absurd cc

pub load_is : (words : List (List ℕ)) (n : ℕ) → form_of words ≡ Some (load n) → (1 ≤ n) × (n ≤ 2000)
load_is [] n e = absurd cc
load_is (mode ∷ []) n e = by (bytes_eq mode (codes "run")) e
  where
    by : (a : Bool) → (if a then Some run else None) ≡ Some (load n) → (1 ≤ n) × (n ≤ 2000)
    by true same = absurd cc
    by false same = absurd cc
load_is (mode ∷ value ∷ []) n e = value_is mode value n e
load_is (mode ∷ value ∷ word ∷ more) n e = absurd cc

-- where memory runs out before the form is found, nothing was written and no row made
pub nothing_yet : (form : Form) (language : Language) (limit most : ℕ) (left held : Option (List ℕ)) (given rf wf : ℕ) → EndedAs form language limit most (outside left held given rf wf) (outside left held given rf wf) NoMemory
nothing_yet run language limit most left held given rf wf = record { written = nothing_written language None left held limit }
nothing_yet (alone name) language limit most left held given rf wf = record { written = nothing_written language (Some name) left held limit }
nothing_yet (load n) language limit most left held given rf wf = ([], load_output language limit n, refl, Appends-nil held)

pub no_work : (form : Form) (language : Language) (limit : ℕ) (left : Option (List ℕ)) (steps : ℕ) → WorksAs form language limit left steps steps
no_work run language limit left steps = no_step language limit left steps
no_work (alone name) language limit left steps = no_step language limit left steps
no_work (load n) language limit left steps = λ bound works. omega arith

pub nothing_stands : (form : Form) (language : Language) (limit most : ℕ) (left left' : Option (List ℕ)) (engine : EngineState) → StandsAs form language limit most left left' engine NoMemory
nothing_stands run language limit most left left' engine = tt
nothing_stands (alone name) language limit most left left' engine = tt
nothing_stands (load n) language limit most left left' engine = tt

-- after a load the engine stands for its script where the load is done
pub load_stands : (language : Language) (limit most n : ℕ) (left left' : Option (List ℕ)) (engine : EngineState) (status : Status)
    → (status ≡ Done → StandsForThe language (script limit (load_text n)) engine) → StandsAs (load n) language limit most left left' engine status
load_stands language limit most n left left' engine Done stands = stands refl
load_stands language limit most n left left' engine Usage stands = tt
load_stands language limit most n left left' engine ReadFault stands = tt
load_stands language limit most n left left' engine WriteFault stands = tt
load_stands language limit most n left left' engine NoMemory stands = tt
load_stands language limit most n left left' engine ScriptTooLong stands = tt

-- no session ends with usage
pub not_usage : (language : Language) (whose : Option (List ℕ)) (limit most : ℕ) (old new : Outside) (status : Status) → Ended language whose limit most old new status → status ≡ Usage → ⊥
not_usage language whose limit most old new status ended is = subst (Ended language whose limit most old new) is ended

pub not_usage_load : (language : Language) (limit n : ℕ) (old new : Outside) (status : Status) → Loaded language limit n old new status → status ≡ Usage → ⊥
not_usage_load language limit n old new status ended is = subst (Loaded language limit n old new) is ended

not_read : (language : Language) (limit n : ℕ) (old new : Outside) (status : Status) → Loaded language limit n old new status → status ≡ ReadFault → ⊥
not_read language limit n old new status ended is = subst (Loaded language limit n old new) is ended

pub load_never_reads : (language : Language) (limit n : ℕ) (old new : Outside) (status : Status) (sure : Bool) → Loaded language limit n old new status → status ≡ ReadFault → sure ≡ true → ⊥
load_never_reads language limit n old new status sure ended is _ = not_read language limit n old new status ended is

-- the name of the one subscriber, as the words have it
pub ended_for : (language : Language) (name own : List ℕ) (limit most : ℕ) (old new : Outside) (status : Status) → own ≡ name → Ended language (Some own) limit most old new status → EndedAs (alone name) language limit most old new status
ended_for language name own limit most old new status e ended = subst (λ (w : List ℕ). Ended language (Some w) limit most old new status) e ended

pub reads : (form : Form) → is_load form ≡ false → (P : Type 0) → is_load form ≡ true → P
reads form e P is = absurd (true≢false (sym is ∙ e))

pub three_same : {A B C : Type 0} (x : A) (y : B) (z : C) → (x ≡ x) × (y ≡ y) × (z ≡ z)
three_same x y z = (refl, refl, refl)
