-- Files of the same expressions, with other rows or uses.
use Rattle.std.proofs.Common.{◌≡◌, ◌≢◌, ℕ, cond, List, Some, nat_eq, inl, inr, refl, sym, ap, ◌∙◌, subst}
use Rattle.std.specs.Map.{lookup}
use Rattle.std.proofs.lemmas.Bool.{cases_eq, eq-eqb, ne_eqb}
use Rattle.std.specs.FinMap.{insert}
use Rattle.ncq_plan.specs.declared.expr.Expr.{Expr}
use Rattle.ncq_shelf.specs.Stands.{Stands}
use Rattle.ncq_shelf.specs.Inputs.{AreInputs}
use Rattle.ncq_readers.specs.Readings.{Reading}
use Rattle.ncq_readers.specs.ReaderTables.{ReaderTables, IsReader}
use Rattle.ncq_shelf.specs.Indexed.{IsIndexed}
use Rattle.ncq_shelf.specs.Readers.{IsScanOf}
use Rattle.ncq_shelf.specs.Wired.{ReadsSo, IsWired, IsShelved}
use Rattle.ncq_shelf.specs.Shown.{shown, state_of}
use Rattle.ncq_shelf.specs.declared.file.File.{File}
use Rattle.ncq_shelf.proofs.Maps.{one_value}
use Rattle.ncq_shelf.proofs.Indexes.{shown_at, kept_at, shown_put}
use Rattle.ncq_shelf.proofs.InputLaws.{are_inputs_more}
use Rattle.ncq_shelf.specs.Groups.{Groups, group_of, IsGrouped, IsRightFor, IsTaken}
use Rattle.ncq_shelf.specs.declared.group.Group.{Group}
use Rattle.ncq_midfile.specs.declared.signed.SignedRow.{SignedRow}
use Rattle.ncq_shelf.proofs.KeyLaws.{all_map}

module _ (gs : Groups) where
  -- at the number stands a file of the same expression and inputs
  pub record HasSame (es : List (ℕ × File)) (number : ℕ) (like : File) : Type 0 where
    pub file : File
    pub at : lookup (nat_eq number) es ≡ Some file
    pub expr : file.expr ≡ like.expr
    pub inputs : file.inputs ≡ like.inputs
    pub readers : file.readers ≡ like.readers
    pub group : group_of file.content ≡ group_of like.content

  abbrev pub HaveSame : List (ℕ × File) → List (ℕ × File) → Type 0
  HaveSame less more = (number : ℕ) (file : File) → lookup (nat_eq number) less ≡ Some file → HasSame more number file

  pub stands_same : (less more : List (ℕ × File)) → HaveSame less more → (e : Expr) (n : ℕ) → Stands (shown gs less) e n → Stands (shown gs more) e n
  stands_same less more has e n s =
      let k = kept_at gs less n s.file s.at in
      let h = has n k.0 k.1 in
      record { file = state_of gs h.file; at = shown_at gs more n h.file h.at; of = h.expr ∙ sym (ap (λ f. f.expr) k.2) ∙ s.of }

  pub indexed_same : (old new : List (ℕ × File)) (numbers : List (Expr × ℕ)) → HaveSame old new → HaveSame new old → IsIndexed gs old numbers → IsIndexed gs new numbers
  indexed_same old new numbers there back indexed = record {
    found = λ expr n. (λ e. stands_same old new there expr n ((indexed.found expr n).0 e), λ s. (indexed.found expr n).1 (stands_same new old back expr n s));
    inputs = λ n file at.
        let h = back n file at in
        are_inputs_more (shown gs old) (shown gs new) (stands_same old new there) file.expr file.inputs
        (subst (λ x. AreInputs (shown gs old) x file.inputs) h.expr (subst (λ i. AreInputs (shown gs old) h.file.expr i) h.inputs (indexed.inputs n h.file h.at)));
  }

  module _ (old new : List (ℕ × File)) (there : HaveSame old new) (back : HaveSame new old) where
    reads_there : (inner : Expr) (reading : Reading) (n : ℕ) → ReadsSo (shown gs old) inner reading n → ReadsSo (shown gs new) inner reading n
    reads_there inner reading n r = record { whole = r.whole; reads = r.reads; stands = stands_same old new there r.whole n r.stands }

    reads_back : (inner : Expr) (reading : Reading) (n : ℕ) → ReadsSo (shown gs new) inner reading n → ReadsSo (shown gs old) inner reading n
    reads_back inner reading n r = record { whole = r.whole; reads = r.reads; stands = stands_same new old back r.whole n r.stands }

    scan_there : (source : List ℕ) (n : ℕ) → IsScanOf (shown gs old) source n → IsScanOf (shown gs new) source n
    scan_there source n s = record { shape = s.shape; stands = stands_same old new there _ n s.stands }

    scan_back : (source : List ℕ) (n : ℕ) → IsScanOf (shown gs new) source n → IsScanOf (shown gs old) source n
    scan_back source n s = record { shape = s.shape; stands = stands_same new old back _ n s.stands }

    pub wired_same : (scans : List (List ℕ × ReaderTables)) → IsWired gs old scans → IsWired gs new scans
    wired_same scans wired = record {
      readers = λ number file at reading n.
          let h = back number file at in
          let k = wired.readers number h.file h.at reading n in (
            λ is. subst (λ e. ReadsSo (shown gs new) e reading n) h.expr (reads_there h.file.expr reading n (k.0 (subst (λ t. IsReader t reading n) (sym h.readers) is))),
            λ r. subst (λ t. IsReader t reading n) h.readers (k.1 (reads_back h.file.expr reading n (subst (λ e. ReadsSo (shown gs new) e reading n) (sym h.expr) r))),
          );
      scans = λ source. record {
        known = λ tables at n.
            let k = (wired.scans source).known tables at n in
            (λ is. scan_there source n (k.0 is), λ s. k.1 (scan_back source n s));
        unknown = λ none n s. (wired.scans source).unknown none n (scan_back source n s);
      };
    }

    pub shelved_same : (numbers : List (Expr × ℕ)) (scans : List (List ℕ × ReaderTables)) → IsShelved gs old numbers scans → IsShelved gs new numbers scans
    shelved_same numbers scans shelved = record { indexed = indexed_same old new numbers there back shelved.indexed; wired = wired_same scans shelved.wired }

  taken_same : (old new : List (ℕ × File)) → HaveSame old new → (group : Group) (r : SignedRow) → IsTaken old group r.row → IsTaken new group r.row
  taken_same old new there group r t =
      let h = there t.number t.file t.at in
      record { number = t.number; file = h.file; inner = t.inner; interval = t.interval; at = h.at; of = h.group ∙ t.of; is = h.expr ∙ t.is; within = t.within }

  pub grouped_same : (old new : List (ℕ × File)) → HaveSame old new → HaveSame new old → IsGrouped old gs → IsGrouped new gs
  grouped_same old new there back grouped = record {
    right = λ n file at. let h = back n file at in subst (IsRightFor gs file.expr) h.group (subst (λ e. IsRightFor gs e (group_of h.file.content)) h.expr (grouped.right n h.file h.at));
    over = λ n file group at of. let h = back n file at in sym h.inputs ∙ grouped.over n h.file group h.at (h.group ∙ of);
    slots = grouped.slots;
    taken = λ group held at. all_map (λ (r : SignedRow). IsTaken old group r.row) (λ (r : SignedRow). IsTaken new group r.row) (taken_same old new there group) held.rows (grouped.taken group held at);
  }

  -- a file that is written over by one of the same expression and inputs
  module _ (files : List (ℕ × File)) (number : ℕ) (file w : File) (at : lookup (nat_eq number) files ≡ Some file) (expr : w.expr ≡ file.expr) (inputs : w.inputs ≡ file.inputs) (readers : w.readers ≡ file.readers) (group : group_of w.content ≡ group_of file.content)
      (new : List (ℕ × File)) (is : (q : ℕ) → lookup (nat_eq q) new ≡ cond (nat_eq number q) (Some w) (lookup (nat_eq q) files)) where
    here : (q : ℕ) → q ≡ number → lookup (nat_eq q) new ≡ Some w
    here q same = is q ∙ ap (λ b. cond b (Some w) (lookup (nat_eq q) files)) (eq-eqb number q (sym same))

    others : (q : ℕ) → q ≢ number → lookup (nat_eq q) new ≡ lookup (nat_eq q) files
    others q differs = is q ∙ ap (λ b. cond b (Some w) (lookup (nat_eq q) files)) (ne_eqb number q (λ e. differs (sym e)))

    there_written : HaveSame files new
    there_written q f before = elim (cases_eq q number) [
      | inl same ↦
          let e : f ≡ file = one_value before (subst (λ n. lookup (nat_eq n) files ≡ Some file) (sym same) at) in
          record { file = w; at = here q same; expr = expr ∙ ap (λ x. x.expr) (sym e); inputs = inputs ∙ ap (λ x. x.inputs) (sym e); readers = readers ∙ ap (λ x. x.readers) (sym e); group = group ∙ ap (λ (x : File). group_of x.content) (sym e) }
      | inr differs ↦ record { file = f; at = others q differs ∙ before; expr = refl; inputs = refl; readers = refl; group = refl }
    ]

    back_written : HaveSame new files
    back_written q f after = elim (cases_eq q number) [
      | inl same ↦
          let e : f ≡ w = one_value after (here q same) in
          record { file = file; at = subst (λ n. lookup (nat_eq n) files ≡ Some file) (sym same) at; expr = sym expr ∙ ap (λ x. x.expr) (sym e); inputs = sym inputs ∙ ap (λ x. x.inputs) (sym e); readers = sym readers ∙ ap (λ x. x.readers) (sym e); group = sym group ∙ ap (λ (x : File). group_of x.content) (sym e) }
      | inr differs ↦ record { file = f; at = sym (others q differs) ∙ after; expr = refl; inputs = refl; readers = refl; group = refl }
    ]

    pub shown_written : shown gs new ≡ insert (shown gs files) number (state_of gs w)
    shown_written = shown_put gs files new number w is

    pub shelved_written : (numbers : List (Expr × ℕ)) (scans : List (List ℕ × ReaderTables)) → IsShelved gs files numbers scans → IsShelved gs new numbers scans
    shelved_written numbers scans shelved = shelved_same files new there_written back_written numbers scans shelved

    pub grouped_written : IsGrouped files gs → IsGrouped new gs
    grouped_written grouped = grouped_same files new there_written back_written grouped
