-- How the first slots of variables are kept.
use Rattle.std.proofs.Common.{◌≡◌, ℕ, suc, ◌+◌, Bool, true, false, cond, List, [], ◌∷◌, ◌++◌, length, Option, Some, None, is_some, refl, sym, ap, ◌∙◌, ◌||◌, not, arith}
use Rattle.std.specs.Prelude.{if◌then◌else◌}
use Rattle.std.specs.Option.{option_map, option_copied, unwrap_or}
use Rattle.std.specs.Borrow.{Bor}
use Rattle.std.specs.Map.{lookup}
use Rattle.std.specs.Cmp.Lexicographic.{bytes_decides}
use Rattle.std.proofs.lemmas.Cmp.{nat_list_eq_equiv}
use Rattle.std.specs.Str.{bytes_eq}
use Rattle.ncq_xmlql.specs.declared.model.Operand.{Operand}
use Rattle.ncq_xmlql.specs.declared.model.Operand.TheVariants.{Variable, Literal}
use Rattle.ncq_bind.specs.Constraints.{first_slot}
use Rattle.ncq_bind.specs.Bound.{is_bound}
use Rattle.ncq_bind.specs.Firsts.{found_first, FindsFirst}

-- ---- what is found, against the definitions

slot_by : (b : Bool) (o : Option ℕ) (n m : ℕ) → unwrap_or o n ≡ m → unwrap_or (if b then Some 0 else option_map suc o) (suc n) ≡ (if b then 0 else suc m)
slot_by true o n m e = refl
slot_by false None n m e = ap suc e
slot_by false (Some s) n m e = ap suc e

pub found_slot : (places : List Operand) (x : List ℕ) → unwrap_or (found_first places x) (length places) ≡ first_slot places x
found_slot [] x = refl
found_slot ((Variable y) ∷ places) x = slot_by (bytes_eq x y) (found_first places x) (length places) (first_slot places x) (found_slot places x)
found_slot ((Literal text) ∷ places) x = slot_by false (found_first places x) (length places) (first_slot places x) (found_slot places x)

bound_by : (b : Bool) (o : Option ℕ) (c : Bool) → is_some o ≡ c → is_some (if b then Some 0 else option_map suc o) ≡ (b || c)
bound_by true o c e = refl
bound_by false None c e = e
bound_by false (Some s) c e = e

pub found_is_bound : (places : List Operand) (x : List ℕ) → is_some (found_first places x) ≡ is_bound places x
found_is_bound [] x = refl
found_is_bound ((Variable y) ∷ places) x = bound_by (bytes_eq x y) (found_first places x) (is_bound places x) (found_is_bound places x)
found_is_bound ((Literal text) ∷ places) x = bound_by false (found_first places x) (is_bound places x) (found_is_bound places x)

-- ---- one place more

abbrev later : Option ℕ → ℕ → Option ℕ → Option ℕ
later (Some s) n o = Some s
later None n o = option_map (λ s. n + s) o

none_before : (o : Option ℕ) → o ≡ option_map (λ s. 0 + s) o
none_before None = refl
none_before (Some s) = let e : s ≡ 0 + s = omega arith in ap Some e

later_step : (b : Bool) (o r : Option ℕ) (n : ℕ) → (if b then Some 0 else option_map suc (later o n r)) ≡ later (if b then Some 0 else option_map suc o) (suc n) r
later_step true o r n = refl
later_step false (Some s) r n = refl
later_step false None None n = refl
later_step false None (Some s) n = let e : suc (n + s) ≡ suc n + s = omega arith in ap Some e

found-append : (ps rest : List Operand) (q : List ℕ) → found_first (ps ++ rest) q ≡ later (found_first ps q) (length ps) (found_first rest q)
found-append [] rest q = none_before (found_first rest q)
found-append ((Variable y) ∷ ps) rest q =
    ap (λ o. if bytes_eq q y then Some 0 else option_map suc o) (found-append ps rest q) ∙ later_step (bytes_eq q y) (found_first ps q) (found_first rest q) (length ps)
found-append ((Literal text) ∷ ps) rest q = ap (option_map suc) (found-append ps rest q) ∙ later_step false (found_first ps q) (found_first rest q) (length ps)

later_none : (o : Option ℕ) (n : ℕ) → later o n None ≡ o
later_none None n = refl
later_none (Some s) n = refl

pub note_literal : (before : List Operand) (text : List ℕ) (entries : List (List ℕ × ℕ)) → FindsFirst entries before → FindsFirst entries (before ++ Literal text ∷ [])
note_literal before text entries h q = h q ∙ sym (found-append before (Literal text ∷ []) q ∙ later_none (found_first before q) (length before))

known_by : (b : Bool) (o : Option ℕ) (n : ℕ) → (b ≡ true → is_some o ≡ true) → o ≡ later o n (if b then Some 0 else None)
known_by b (Some s) n h = refl
known_by true None n h = absurd (let c : false ≡ true = h refl in cc)
known_by false None n h = refl

pub note_known : (before : List Operand) (x : List ℕ) (entries : List (List ℕ × ℕ)) → FindsFirst entries before → is_some (lookup (bytes_eq x) entries) ≡ true
    → FindsFirst entries (before ++ Variable x ∷ [])
note_known before x entries h there q =
    h q ∙ known_by (bytes_eq q x) (found_first before q) (length before)
    (λ e. ap is_some (ap (found_first before) ((bytes_decides q x).0 e) ∙ sym (h x)) ∙ there)
    ∙ sym (found-append before (Variable x ∷ []) q)

new_by : (b : Bool) (o : Option ℕ) (n : ℕ) → (b ≡ true → o ≡ None) → cond b (Some n) o ≡ later o n (if b then Some 0 else None)
new_by true None n h = let e : n ≡ n + 0 = omega arith in ap Some e
new_by true (Some s) n h = absurd (let c : Some s ≡ None = h refl in cc)
new_by false None n h = refl
new_by false (Some s) n h = refl

pub note_new : (before : List Operand) (x : List ℕ) (slot : ℕ) (old new : List (List ℕ × ℕ)) → length before ≡ slot → FindsFirst old before → lookup (bytes_eq x) old ≡ None
    → ((q : List ℕ) → lookup (bytes_eq q) new ≡ cond (bytes_eq x q) (Some slot) (lookup (bytes_eq q) old)) → FindsFirst new (before ++ Variable x ∷ [])
note_new before x slot old new at h absent is q =
    is q
    ∙ (λ i. cond (nat_list_eq_equiv.symm x q i) (Some (sym at i)) (h q i))
    ∙ new_by (bytes_eq q x) (found_first before q) (length before) (λ e. ap (found_first before) ((bytes_decides q x).0 e) ∙ sym (h x) ∙ absent)
    ∙ sym (found-append before (Variable x ∷ []) q)

-- ---- what a look-up answered

pub known_entry : (got : Option (Bor ℕ)) (entry : Option ℕ) → option_copied got ≡ entry → is_some got ≡ true → is_some entry ≡ true
known_entry None entry e h = absurd cc
known_entry (Some r) entry e h = sym (ap is_some e)

pub no_entry : (got : Option (Bor ℕ)) (entry : Option ℕ) → option_copied got ≡ entry → (none : Bool) → is_some got ≡ not none → none ≡ true → entry ≡ None
no_entry None entry e none h t = sym e
no_entry (Some r) entry e none h t = absurd (let c : true ≡ false = h ∙ ap not t in cc)
