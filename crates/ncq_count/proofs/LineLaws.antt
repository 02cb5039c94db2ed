-- The lines of the groups that are counted.
use Rattle.std.proofs.Common.{◌≡◌, ℕ, ◌<◌, Bool, true, false, cond, ◌||◌, List, [], ◌∷◌, ◌++◌, map, Some, None, refl, sym, ap, ◌∙◌, subst, append_assoc, append-nil}
use Rattle.std.specs.List.{AllByRecursion, IsDistinct, list_any, filter_map}
use Rattle.std.specs.Map.{lookup, keys_of}
use Rattle.std.specs.Option.{option_map}
use Rattle.std.specs.FinMap.{get}
use Rattle.std.proofs.lemmas.Map.Keys.{IsDistinct-head, IsDistinct-tail}
use Rattle.ncq_base.specs.Exact.{exact_equiv}
use Rattle.ncq_signature.specs.declared.signature.Signature.{Signature}
use Rattle.ncq_signature.specs.contracts.signature.Signature.{the_row as signature_row}
use Rattle.ncq_signature.specs.declared.group.GroupLine.{GroupLine}
use Rattle.ncq_signature.specs.Signatures.{signature_of}
use Rattle.ncq_signature.specs.SignatureTexts.{signature_text}
use Rattle.ncq_signature.specs.Groups.{is_signature, count_of, line_of, AreSignaturesOf}
use Rattle.ncq_shelf.specs.KeptFiles.{KeptFile, Files}
use Rattle.ncq_shelf.specs.Stands.{IsGrounded}
use Rattle.ncq_shelf.proofs.CallerLemmas.{there}
use Rattle.ncq_count.specs.declared.key.GroupKey.{GroupKey}
use Rattle.ncq_count.specs.FileExprs.{exprs_of}
use Rattle.ncq_count.specs.Keys.{Tells, file_of, selects, told_by}
use Rattle.ncq_count.specs.Counted.{is_key, count_at, AreCounted}
use Rattle.ncq_count.proofs.KeyLaws.{key_is, key_itself, signature_itself}
use Rattle.ncq_count.proofs.Tallies.{signature_counted, any_has, each_expr}
use Rattle.ncq_count.proofs.TellLaws.{tells_one, has_key}
use Rattle.ncq_count.proofs.CountLaws.{Counts, count_there, there_if_counted, tests_agree}

-- the signatures that the keys tell
abbrev pub signatures_of : Files → Counts → List Signature
signatures_of files counts = filter_map (λ e. option_map (λ (file : KeptFile). told_by e.0 file.expr) (get files (file_of e.0))) counts

-- the key tells a signature, and its count is that of the files of the signature
pub record IsRight (files : Files) (key : GroupKey) (count : ℕ) : Type 0 where
  pub s : Signature
  pub tells : Tells files key s
  pub counts : count ≡ count_of (exprs_of files) s
  pub some : 0 < count

abbrev pub AreRight : Files → Counts → Type 0
AreRight files counts = AllByRecursion (λ e. IsRight files e.0 e.1) counts

module _ (files : Files) where
  -- a signature is that of its file
  pub told_is : (key : GroupKey) (s : Signature) (t : Tells files key s) → option_map (λ (file : KeptFile). told_by key file.expr) (get files (file_of key)) ≡ Some s
  told_is key s t = ap (option_map (λ (file : KeptFile). told_by key file.expr)) t.stands.at ∙ ap Some (ap (told_by key) t.stands.of ∙ sym t.told)

  unfoldable pub list_of : (es : Counts) → AreRight files es → List Signature
  list_of [] all = []
  list_of (e ∷ es) all = all.0.s ∷ list_of es all.1

  pub signatures-cons : (key : GroupKey) (count : ℕ) (es : Counts) (r : IsRight files key count) → signatures_of files ((key, count) ∷ es) ≡ r.s ∷ signatures_of files es
  signatures-cons key count es r = rw (told_is key r.s r.tells) refl

  pub is_list : (es : Counts) (all : AreRight files es) → list_of es all ≡ signatures_of files es
  unfolding list_of
  is_list [] all = refl
  is_list (e ∷ es) all = ap (λ ss. all.0.s ∷ ss) (is_list es all.1) ∙ sym (signatures-cons e.0 e.1 es all.0)

  -- the line of a key
  pub line_is : (key : GroupKey) (count : ℕ) (r : IsRight files key count) (line : GroupLine)
      → ((file : KeptFile) → get files (file_of key) ≡ Some file → line ≡ record { text = signature_text (told_by key file.expr); constants = cond (selects key) count 0 })
      → line ≡ line_of (exprs_of files) r.s
  line_is key count r line is =
      is r.tells.stands.file r.tells.stands.at
      ∙ (λ i. record { text = signature_text ((ap (told_by key) r.tells.stands.of ∙ sym r.tells.told) i); constants = cond (sym r.tells.kind i) (r.counts i) 0 })

  -- each entry is what its key finds
  entries_found : (P : GroupKey → ℕ → Type 0) (es : Counts) → IsDistinct is_key (keys_of es) → ((key : GroupKey) (count : ℕ) → lookup (is_key key) es ≡ Some count → P key count) → AllByRecursion (λ e. P e.0 e.1) es
  entries_found P [] apart is = tt
  entries_found P (e ∷ es) apart is =
      (is e.0 e.1 (ap (λ b. cond b (Some e.1) (lookup (is_key e.0) es)) (key_itself e.0)), entries_found P es (IsDistinct-tail is_key e.0 (keys_of es) apart) (λ key count at. is key count (later key count at)))
    where
      none : (list : Counts) → AllByRecursion (λ y. is_key e.0 y ≡ false) (keys_of list) → lookup (is_key e.0) list ≡ None
      none [] h = refl
      none (f ∷ list) h = (λ i. cond (h.0 i) (Some f.1) (lookup (is_key e.0) list)) ∙ none list h.1

      later : (key : GroupKey) (count : ℕ) → lookup (is_key key) es ≡ Some count → lookup (is_key key) (e ∷ es) ≡ Some count
      later key count at = elim (is_key key e.0) as (λ b. is_key key e.0 ≡ b → cond b (Some e.1) (lookup (is_key key) es) ≡ Some count) [
        | true ↦ λ same. absurd (there at (subst (λ k. lookup (is_key k) es ≡ None) (sym (key_is key e.0 same)) (none es (IsDistinct-head is_key e.0 (keys_of es) apart))))
        | false ↦ λ differs. at
      ] refl

  module _ (grounded : IsGrounded files) where
    -- distinct keys tell distinct signatures
    apart_from : (key : GroupKey) (s : Signature) → Tells files key s → (es : Counts) (all : AreRight files es) → AllByRecursion (λ k. is_key key k ≡ false) (keys_of es) → AllByRecursion (λ t. is_signature s t ≡ false) (list_of es all)
    unfolding list_of
    apart_from key s t [] all h = tt
    apart_from key s t (e ∷ es) all h = (
      (exact_equiv signature_row.coded).symm s all.0.s ∙ sym (tests_agree files grounded.distinct key e.0 s all.0.s t all.0.tells) ∙ h.0,
      apart_from key s t es all.1 h.1,
    )

    once : (es : Counts) (all : AreRight files es) → IsDistinct is_key (keys_of es) → IsDistinct is_signature (list_of es all)
    unfolding list_of IsDistinct
    once [] all apart = tt
    once (e ∷ es) all apart = (apart_from e.0 all.0.s all.0.tells es all.1 (IsDistinct-head is_key e.0 (keys_of es) apart), once es all.1 (IsDistinct-tail is_key e.0 (keys_of es) apart))

    only : (es : Counts) (all : AreRight files es) → AllByRecursion (λ s. list_any (λ e. is_signature s (signature_of e)) (exprs_of files) ≡ true) (list_of es all)
    unfolding list_of
    only [] all = tt
    only (e ∷ es) all = (any_has all.0.s (exprs_of files) (subst (λ n. 0 < n) all.0.counts all.0.some), only es all.1)

    -- what a key tells is in the list
    listed : (key : GroupKey) (s : Signature) → Tells files key s → (count : ℕ) (es : Counts) (all : AreRight files es) → lookup (is_key key) es ≡ Some count → list_any (is_signature s) (list_of es all) ≡ true
    unfolding list_of
    listed key s t count [] all at = absurd (there at refl)
    listed key s t count (e ∷ es) all at = elim (is_key key e.0) as (λ b. is_key key e.0 ≡ b → cond b (Some e.1) (lookup (is_key key) es) ≡ Some count → (is_signature s all.0.s || list_any (is_signature s) (list_of es all.1)) ≡ true) [
      | true ↦ λ same found.
          let one = tells_one files key s all.0.s t (subst (λ k. Tells files k all.0.s) (sym (key_is key e.0 same)) all.0.tells) in
          let is : is_signature s all.0.s ≡ true = subst (λ u. is_signature s u ≡ true) one (signature_itself s) in
          ap (λ b. b || list_any (is_signature s) (list_of es all.1)) is
      | false ↦ λ differs found. or_right (is_signature s all.0.s) (listed key s t count es all.1 found)
    ] refl at
      where
        or_right : (a : Bool) {b : Bool} → b ≡ true → (a || b) ≡ true
        or_right true h = refl
        or_right false h = h

    module _ (counts : Counts) (counted : AreCounted files counts) (apart : IsDistinct is_key (keys_of counts)) where
      pub all_right : AreRight files counts
      all_right = entries_found (IsRight files) counts apart (λ key count at.
          let t = counted.tells key count at in
          record { s = t.0; tells = t.1; counts = sym (count_there counts key count at) ∙ counted.right key t.0 t.1; some = counted.some key count at })

      each : AllByRecursion (λ e. list_any (is_signature (signature_of e)) (list_of counts all_right) ≡ true) (exprs_of files)
      each = each_expr files (λ e. list_any (is_signature (signature_of e)) (list_of counts all_right) ≡ true) (λ number expr stands.
          let k = has_key files grounded expr number stands in
          let some = signature_counted files (signature_of expr) (record { number = number; expr = expr; stands = stands; is = refl }) in
          let at = there_if_counted counts k.0 (subst (λ n. 0 < n) (sym (counted.right k.0 (signature_of expr) k.1)) some) in
          listed k.0 (signature_of expr) k.1 (count_at counts k.0) counts all_right at)

      pub are_signatures : AreSignaturesOf (exprs_of files) (signatures_of files counts)
      are_signatures = subst (AreSignaturesOf (exprs_of files)) (is_list counts all_right) (record {
        once = once counts all_right apart;
        each = each;
        only = only counts all_right;
      })

  abbrev lines : List Signature → List GroupLine
  lines list = map (line_of (exprs_of files)) list

  -- one line more, and one key less that is left
  pub line_more : (key : GroupKey) (count : ℕ) (it rest : Counts) (r : IsRight files key count) (so_far more all : List GroupLine) (line : GroupLine) → it ≡ (key, count) ∷ rest → more ≡ so_far ++ line ∷ [] → line ≡ line_of (exprs_of files) r.s
      → so_far ++ lines (signatures_of files it) ≡ all → more ++ lines (signatures_of files rest) ≡ all
  line_more key count it rest r so_far more all line it_is more_is line_is left =
      ap (λ ls. ls ++ lines (signatures_of files rest)) more_is
      ∙ append_assoc so_far (line ∷ []) (lines (signatures_of files rest))
      ∙ ap (λ l. so_far ++ l ∷ lines (signatures_of files rest)) line_is
      ∙ ap (λ ss. so_far ++ lines ss) (sym (signatures-cons key count rest r))
      ∙ ap (λ i. so_far ++ lines (signatures_of files i)) (sym it_is)
      ∙ left

  -- no key is left
  pub lines_all : (it : Counts) (so_far all : List GroupLine) → it ≡ [] → so_far ++ lines (signatures_of files it) ≡ all → so_far ≡ all
  lines_all it so_far all none left = sym (append-nil so_far) ∙ ap (λ i. so_far ++ lines (signatures_of files i)) (sym none) ∙ left
