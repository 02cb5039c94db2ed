-- The inputs of a file and their files.
use Rattle.std.proofs.Common.{◌≡◌, ◌≢◌, ℕ, Some, ◌⊎◌, inl, inr, sym, ap, ◌∙◌, subst}
use Rattle.std.specs.FinMap.{get, remove}
use Rattle.ncq_plan.specs.declared.expr.Expr.{Expr}
use Rattle.ncq_shelf.specs.Parts.{IsInput}
use Rattle.ncq_shelf.specs.KeptFiles.{KeptFile, Files}
use Rattle.ncq_shelf.specs.Stands.{Stands, IsIdle}
use Rattle.ncq_shelf.specs.Inputs.{IsOnlyInput, AreSides, AreInputs}
use Rattle.ncq_shelf.specs.declared.inputs.Inputs.{Inputs}
use Rattle.ncq_shelf.specs.declared.inputs.Inputs.TheVariants.{Nothing, One, Two}
use Rattle.ncq_shelf.proofs.Layers.{input_of-join, left-input_of, right-input_of}
use Rattle.ncq_shelf.proofs.Maps.{gone_other, one_value}

module _ (files : Files) (whole : Expr) where
  -- the input of a file with one has the file of that number
  pub only_told : (number : ℕ) → IsOnlyInput files whole number → (input : Expr) → IsInput input whole → Stands files input number
  only_told number a input reads = subst (λ e. Stands files e number) (sym (a.only input reads)) a.stands

  pub side_reads-left : (left right : ℕ) (a : AreSides files whole left right) → IsInput a.first whole
  side_reads-left left right a = subst (λ w. IsInput a.first w) (sym a.is) (left-input_of a.first a.second a.pairs)

  pub side_reads-right : (left right : ℕ) (a : AreSides files whole left right) → IsInput a.second whole
  side_reads-right left right a = subst (λ w. IsInput a.second w) (sym a.is) (right-input_of a.first a.second a.pairs)

  -- each input of a join has the file of one of the two numbers
  pub sides_told : (left right : ℕ) → AreSides files whole left right → (input : Expr) → IsInput input whole → Stands files input left ⊎ Stands files input right
  sides_told left right a input reads = elim (input_of-join input a.first a.second a.pairs (subst (λ w. IsInput input w) a.is reads)) [
    | inl e ↦ inl (subst (λ x. Stands files x left) (sym e) a.on_left)
    | inr e ↦ inr (subst (λ x. Stands files x right) (sym e) a.on_right)
  ]

-- inputs that have files in less files have them in more
pub are_inputs_more : (less more : Files) → ((e : Expr) (n : ℕ) → Stands less e n → Stands more e n) → (whole : Expr) (inputs : Inputs) → AreInputs less whole inputs → AreInputs more whole inputs
are_inputs_more less more up whole inputs are = elim inputs as (λ i. AreInputs less whole i → AreInputs more whole i) [
  | Nothing ↦ λ a. a
  | One number ↦ λ a. record { input = a.input; reads = a.reads; only = a.only; stands = up a.input number a.stands }
  | Two left right ↦ λ a. record { first = a.first; second = a.second; pairs = a.pairs; is = a.is; on_left = up a.first left a.on_left; on_right = up a.second right a.on_right }
] are

-- inputs of a file that stays, where an idle file goes
pub are_inputs_rest : (old : Files) (number : ℕ) (idle : IsIdle old number) (other : ℕ) (state : KeptFile) → get old other ≡ Some state → (inputs : Inputs) → AreInputs old state.expr inputs → AreInputs (remove old number) state.expr inputs
are_inputs_rest old number idle other state at inputs are = elim inputs as (λ i. AreInputs old state.expr i → AreInputs (remove old number) state.expr i) [
  | Nothing ↦ λ a. a
  | One only ↦ λ a. record { input = a.input; reads = a.reads; only = a.only; stands = down a.input only a.reads a.stands }
  | Two left right ↦ λ a. record {
    first = a.first;
    second = a.second;
    pairs = a.pairs;
    is = a.is;
    on_left = down a.first left (side_reads-left old state.expr left right a) a.on_left;
    on_right = down a.second right (side_reads-right old state.expr left right a) a.on_right;
  }
] are
  where
    down : (input : Expr) (n : ℕ) → IsInput input state.expr → Stands old input n → Stands (remove old number) input n
    down input n reads s =
        let apart : n ≢ number = λ same.
        let e : s.file ≡ idle.file = one_value (subst (λ m. get old m ≡ Some s.file) same s.at) idle.at in
        idle.unread (record { reader = other; file = state; at = at; reads = subst (λ x. IsInput x state.expr) (sym s.of ∙ ap (λ f. f.expr) e) reads }) in
        record { file = s.file; at = gone_other old number n apart ∙ s.at; of = s.of }
