-- Which files there are, and how they read each other, says nothing of their rows.
use Rattle.std.proofs.Common.{ℕ, List, sym, ap, ◌∙◌}
use Rattle.ncq_plan.specs.declared.expr.Expr.{Expr}
use Rattle.ncq_readers.specs.Readings.{Reading}
use Rattle.ncq_readers.specs.ReaderTables.{ReaderTables}
use Rattle.ncq_shelf.specs.Stands.{Stands}
use Rattle.ncq_shelf.specs.Inputs.{AreInputs}
use Rattle.ncq_shelf.specs.Readers.{IsScanOf}
use Rattle.ncq_shelf.specs.Wired.{ReadsSo, IsShelved}
use Rattle.ncq_shelf.specs.Groups.{Groups}
use Rattle.ncq_shelf.specs.Shown.{shown, state_of}
use Rattle.ncq_shelf.specs.declared.file.File.{File}
use Rattle.ncq_shelf.specs.declared.inputs.Inputs.{Inputs}
use Rattle.ncq_shelf.proofs.Indexes.{shown_at, kept_at}
use Rattle.ncq_shelf.proofs.InputLaws.{are_inputs_more}

module _ (files : List (ℕ × File)) where
  pub stands_any : (gs hs : Groups) (e : Expr) (n : ℕ) → Stands (shown gs files) e n → Stands (shown hs files) e n
  stands_any gs hs e n s =
      let k = kept_at gs files n s.file s.at in
      record { file = state_of hs k.0; at = shown_at hs files n k.0 k.1; of = sym (ap (λ f. f.expr) k.2) ∙ s.of }

  pub inputs_any : (gs hs : Groups) (e : Expr) (inputs : Inputs) → AreInputs (shown gs files) e inputs → AreInputs (shown hs files) e inputs
  inputs_any gs hs e inputs are = are_inputs_more (shown gs files) (shown hs files) (stands_any gs hs) e inputs are

  reads_any : (gs hs : Groups) (inner : Expr) (reading : Reading) (n : ℕ) → ReadsSo (shown gs files) inner reading n → ReadsSo (shown hs files) inner reading n
  reads_any gs hs inner reading n r = record { whole = r.whole; reads = r.reads; stands = stands_any gs hs r.whole n r.stands }

  scan_any : (gs hs : Groups) (source : List ℕ) (n : ℕ) → IsScanOf (shown gs files) source n → IsScanOf (shown hs files) source n
  scan_any gs hs source n s = record { shape = s.shape; stands = stands_any gs hs _ n s.stands }

  pub shelved_any : (gs hs : Groups) (numbers : List (Expr × ℕ)) (scans : List (List ℕ × ReaderTables)) → IsShelved gs files numbers scans → IsShelved hs files numbers scans
  shelved_any gs hs numbers scans shelved = record {
    indexed = record {
      found = λ expr n. (λ e. stands_any gs hs expr n ((shelved.indexed.found expr n).0 e), λ s. (shelved.indexed.found expr n).1 (stands_any hs gs expr n s));
      inputs = λ n file at. inputs_any gs hs file.expr file.inputs (shelved.indexed.inputs n file at);
    };
    wired = record {
      readers = λ number file at reading n.
          let k = shelved.wired.readers number file at reading n in
          (λ is. reads_any gs hs file.expr reading n (k.0 is), λ r. k.1 (reads_any hs gs file.expr reading n r));
      scans = λ source. record {
        known = λ tables at n.
            let k = (shelved.wired.scans source).known tables at n in
            (λ is. scan_any gs hs source n (k.0 is), λ s. k.1 (scan_any hs gs source n s));
        unknown = λ none n s. (shelved.wired.scans source).unknown none n (scan_any hs gs source n s);
      };
    };
  }
