-- Joins that are found when they are met, through each change of the files.
use Rattle.std.proofs.Common.{◌≡◌, ◌≢◌, ◌⊎◌, ℕ, List, [], ◌∷◌, cond, Some, None, nat_eq, inl, inr, refl, sym, ap, ◌∙◌, subst, true≢false}
use Rattle.std.specs.List.{list_any}
use Rattle.std.specs.Map.{lookup}
use Rattle.std.specs.FinMap.{get, insert, remove}
use Rattle.std.specs.Option.{option_map}
use Rattle.std.proofs.lemmas.Bool.{cases_eq}
use Rattle.ncq_readers.specs.ReaderTables.{ReaderTables}
use Rattle.ncq_row.specs.declared.pair.Pair.{Pair}
use Rattle.ncq_plan.specs.declared.expr.Expr.{Expr}
use Rattle.ncq_plan.specs.declared.expr.Expr.TheVariants.{Join}
use Rattle.ncq_shelf.specs.KeptFiles.{KeptFile, Files}
use Rattle.ncq_shelf.specs.Readers.{IsAmong}
use Rattle.ncq_shelf.specs.Stands.{Stands, IsThere}
use Rattle.ncq_shelf.specs.Contents.{cut_to}
use Rattle.ncq_shelf.specs.Keyed.{IsHeld, AreHeld, IsKey, IsAlways, Grows, ForgetsFile, Renews, IsFound, IsKeyed, IsKept, AreNotedIn, slots_in}
use Rattle.ncq_shelf.specs.Shown.{shown, state_of}
use Rattle.ncq_shelf.specs.declared.file.File.{File}
use Rattle.ncq_shelf.specs.declared.keys.Keys.{Keys}
use Rattle.ncq_shelf.proofs.Maps.{put_again, put_same, put_other, gone_same, gone_other, one_value, rest_stays, there as is_there}
use Rattle.ncq_shelf.proofs.ShownFiles.{get_shown}
use Rattle.ncq_shelf.proofs.Indexes.{shown_at}
use Rattle.ncq_shelf.proofs.KeyLaws.{all_map, are_held_more, held_others, more_on, all_part}
use Rattle.ncq_shelf.proofs.SameFiles.{shown_written, shelved_written, grouped_written}
use Rattle.ncq_shelf.specs.Groups.{Groups, group_of}

module _ (gs : Groups) where
  -- more keys, and more again
  pub grows_on : (F G H : ℕ → ℕ → Type 0) (a b c : Keys) → Grows F a b → Grows G b c → ((n s : ℕ) → F n s → H n s) → ((n s : ℕ) → G n s → H n s) → Grows H a c
  grows_on F G H a b c f g up over = record {
    keys = λ n s k. g.keys n s (f.keys n s k);
    only = λ n s k. elim (g.only n s k) as (λ _. IsKey a n s ⊎ H n s) [
      | inl was ↦ elim (f.only n s was) as (λ _. IsKey a n s ⊎ H n s) [ inl k ↦ inl k | inr h ↦ inr (up n s h) ]
      | inr h ↦ inr (over n s h)
    ];
    held = more_on a.holders b.holders c.holders f.held g.held;
    always = λ n h. g.always n (f.always n h);
  }

  pub grows_more : (F G : ℕ → ℕ → Type 0) (a b : Keys) → Grows F a b → ((n s : ℕ) → F n s → G n s) → Grows G a b
  grows_more F G a b f up = record {
    keys = f.keys;
    only = λ n s k. elim (f.only n s k) as (λ _. IsKey a n s ⊎ G n s) [ inl was ↦ inl was | inr h ↦ inr (up n s h) ];
    held = f.held;
    always = f.always;
  }

  pub grows_itself : (F : ℕ → ℕ → Type 0) (a : Keys) → Grows F a a
  grows_itself F a = record { keys = λ n s k. k; only = λ n s k. inl k; held = λ x n h. h; always = λ n h. h }

  -- rows that were noted are noted still
  pub noted_more : (files : List (ℕ × File)) (a b : Keys) (F : ℕ → ℕ → Type 0) → Grows F a b → (n s : ℕ) → AreNotedIn gs files a.holders n s → AreNotedIn gs files b.holders n s
  noted_more files a b F g n s h = record { file = h.file; at = h.at; noted = are_held_more a.holders b.holders g.held n s (state_of gs h.file).content.rows h.noted }

  found_on : (a b : Keys) → ((n s : ℕ) → IsKey a n s → IsKey b n s) → ((n : ℕ) → IsAlways a n → IsAlways b n) → (n l r : ℕ) (pairs : List Pair) → IsFound a n l r pairs → IsFound b n l r pairs
  found_on a b keys always n l r [] f = elim f as (λ _. IsFound b n l r []) [ inl h ↦ inl (always n h) | inr k ↦ absurd k ]
  found_on a b keys always n l r (p ∷ ps) f = elim f as (λ _. IsFound b n l r (p ∷ ps)) [ inl h ↦ inl (always n h) | inr k ↦ inr (k.0, keys l p.left k.1, keys r p.right k.2) ]

  found_more : (F : ℕ → ℕ → Type 0) (a b : Keys) → Grows F a b → (n l r : ℕ) (pairs : List Pair) → IsFound a n l r pairs → IsFound b n l r pairs
  found_more F a b g = found_on a b g.keys g.always

  -- keys come in
  pub keyed_grown : (files : Files) (F : ℕ → ℕ → Type 0) (a b : Keys) → Grows F a b → ((n s : ℕ) → F n s → (file : KeptFile) × (get files n ≡ Some file) × AreHeld b.holders n s file.content.rows) → IsKeyed files a → IsKeyed files b
  keyed_grown files F a b g fresh keyed = record {
    there = λ n s k. elim (g.only n s k) as (λ _. IsThere files n) [ inl was ↦ keyed.there n s was | inr h ↦ let f = fresh n s h in record { file = f.0; at = f.1 } ];
    noted = λ n s file at k. elim (g.only n s k) as (λ _. AreHeld b.holders n s file.content.rows) [
      | inl was ↦ are_held_more a.holders b.holders g.held n s file.content.rows (keyed.noted n s file at was)
      | inr h ↦ let f = fresh n s h in subst (λ (x : KeptFile). AreHeld b.holders n s x.content.rows) (one_value f.1 at) f.2
    ];
    found = λ n l r j. found_more F a b g n l r j.pairs (keyed.found n l r j);
  }

  pub keyed_noted : (files : List (ℕ × File)) (a b : Keys) → Grows (AreNotedIn gs files b.holders) a b → IsKeyed (shown gs files) a → IsKeyed (shown gs files) b
  keyed_noted files a b g keyed = keyed_grown (shown gs files) (AreNotedIn gs files b.holders) a b g (λ n s h. (state_of gs h.file, shown_at gs files n h.file h.at, h.noted)) keyed

  -- the files have other rows
  module _ (old new : Files) (keys : Keys) (forth : (n : ℕ) → IsThere old n → IsThere new n)
      (back : (n : ℕ) (g : KeptFile) → get new n ≡ Some g → (f : KeptFile) × (get old n ≡ Some f) × (f.expr ≡ g.expr) × ((slot : ℕ) → IsKey keys n slot → AreHeld keys.holders n slot f.content.rows → AreHeld keys.holders n slot g.content.rows)) where
    stands_back : (e : Expr) (n : ℕ) → Stands new e n → Stands old e n
    stands_back e n s = let b = back n s.file s.at in record { file = b.0; at = b.1; of = b.2 ∙ s.of }

    pub keyed_back : IsKeyed old keys → IsKeyed new keys
    keyed_back keyed = record {
      there = λ n s k. forth n (keyed.there n s k);
      noted = λ n s g at k. let b = back n g at in b.3 s k (keyed.noted n s b.0 b.1 k);
      found = λ n l r j. keyed.found n l r (record { first = j.first; second = j.second; pairs = j.pairs; stands = stands_back (Join j.first j.second j.pairs) n j.stands; on_left = stands_back j.first l j.on_left; on_right = stands_back j.second r j.on_right });
    }

  -- one file has other rows
  pub keyed_put : (files : Files) (number : ℕ) (file w : KeptFile) (keys : Keys) → get files number ≡ Some file → w.expr ≡ file.expr → ((slot : ℕ) → IsKey keys number slot → AreHeld keys.holders number slot file.content.rows → AreHeld keys.holders number slot w.content.rows) → IsKeyed files keys → IsKeyed (insert files number w) keys
  keyed_put files number file w keys at expr rows keyed = keyed_back files (insert files number w) keys
      (λ n t. elim (cases_eq n number) as (λ _. IsThere (insert files number w) n) [
        | inl same ↦ subst (IsThere (insert files number w)) (sym same) (record { file = w; at = put_same files number w })
        | inr differs ↦ record { file = t.file; at = put_other files number w n differs ∙ t.at }
      ])
      (λ n g k. elim (cases_eq n number) as (λ _. (f : KeptFile) × (get files n ≡ Some f) × (f.expr ≡ g.expr) × ((slot : ℕ) → IsKey keys n slot → AreHeld keys.holders n slot f.content.rows → AreHeld keys.holders n slot g.content.rows)) [
        | inl same ↦
            let e : w ≡ g = one_value (put_same files number w) (subst (λ m. get (insert files number w) m ≡ Some g) same k) in (
              file,
              subst (λ m. get files m ≡ Some file) (sym same) at,
              sym expr ∙ ap (λ (x : KeptFile). x.expr) e,
              subst (λ m. (slot : ℕ) → IsKey keys m slot → AreHeld keys.holders m slot file.content.rows → AreHeld keys.holders m slot g.content.rows) (sym same) (subst (λ (x : KeptFile). (slot : ℕ) → IsKey keys number slot → AreHeld keys.holders number slot file.content.rows → AreHeld keys.holders number slot x.content.rows) e rows),
            )
        | inr differs ↦ (g, sym (put_other files number w n differs) ∙ k, refl, λ slot _ h. h)
      ])
      keyed

  -- all files lose later rows
  pub keyed_cut : (change : ℕ) (old new : Files) (keys : Keys) → ((n : ℕ) → get new n ≡ option_map (cut_to change) (get old n)) → IsKeyed old keys → IsKeyed new keys
  keyed_cut change old new keys is keyed = keyed_back old new keys
      (λ n t. record { file = cut_to change t.file; at = is n ∙ ap (option_map (cut_to change)) t.at })
      (λ n g k. elim (get old n) as (λ o. get old n ≡ o → (f : KeptFile) × (get old n ≡ Some f) × (f.expr ≡ g.expr) × ((slot : ℕ) → IsKey keys n slot → AreHeld keys.holders n slot f.content.rows → AreHeld keys.holders n slot g.content.rows)) [
        | Some f ↦ λ at.
            let e : cut_to change f ≡ g = one_value (is n ∙ ap (option_map (cut_to change)) at) k in
            (f, at, ap (λ (x : KeptFile). x.expr) e, λ slot _ h. subst (λ (x : KeptFile). AreHeld keys.holders n slot x.content.rows) e (all_part (λ r. IsHeld keys.holders n slot r.row) _ f.content.rows h))
        | None ↦ λ none. absurd (is_there k (is n ∙ ap (option_map (cut_to change)) none))
      ] refl)
      keyed

  -- a file goes
  pub keyed_less : (files : Files) (number : ℕ) (a b : Keys) → ForgetsFile a number b → IsKeyed files a → IsKeyed (remove files number) b
  keyed_less files number a b f keyed = record {
    there = λ n s k. let o = f.only n s k in let t = keyed.there n s o.1 in record { file = t.file; at = gone_other files number n o.0 ∙ t.at };
    noted = λ n s file at k.
        let o = f.only n s k in
        all_map (λ r. IsHeld a.holders n s r.row) (λ r. IsHeld b.holders n s r.row) (λ r. held_others number a.holders b.holders f.held n s r.row o.0) file.content.rows (keyed.noted n s file (rest_stays files number n file at) o.1);
    found = λ n l r j. still n l r j.pairs (apart n j.stands.file j.stands.at) (apart l j.on_left.file j.on_left.at) (apart r j.on_right.file j.on_right.at)
        (keyed.found n l r (record { first = j.first; second = j.second; pairs = j.pairs; stands = stay (Join j.first j.second j.pairs) n j.stands; on_left = stay j.first l j.on_left; on_right = stay j.second r j.on_right }));
  }
    where
      apart : (n : ℕ) (g : KeptFile) → get (remove files number) n ≡ Some g → n ≢ number
      apart n g at same = is_there (subst (λ m. get (remove files number) m ≡ Some g) same at) (gone_same files number)

      stay : (e : Expr) (n : ℕ) → Stands (remove files number) e n → Stands files e n
      stay e n s = record { file = s.file; at = rest_stays files number n s.file s.at; of = s.of }

      still : (n l r : ℕ) (pairs : List Pair) → n ≢ number → l ≢ number → r ≢ number → IsFound a n l r pairs → IsFound b n l r pairs
      still n l r [] x y z h = elim h as (λ _. IsFound b n l r []) [ inl w ↦ inl (f.always n x w) | inr k ↦ absurd k ]
      still n l r (p ∷ ps) x y z h = elim h as (λ _. IsFound b n l r (p ∷ ps)) [ inl w ↦ inl (f.always n x w) | inr k ↦ inr (k.0, f.keys l p.left y k.1, f.keys r p.right z k.2) ]

  -- a file is noted for fewer atoms
  pub keyed_renewed : (files : Files) (number : ℕ) (file : KeptFile) (a b : Keys) → get files number ≡ Some file → Renews a number file.content.rows b → IsKeyed files a → IsKeyed files b
  keyed_renewed files number file a b at r keyed = record {
    there = λ n s k. keyed.there n s (was n s k);
    noted = λ n s g here k. elim (cases_eq n number) as (λ _. AreHeld b.holders n s g.content.rows) [
      | inl same ↦
          let e : file ≡ g = one_value at (subst (λ m. get files m ≡ Some g) same here) in
          let key : IsKey a number s = subst (λ m. IsKey a m s) same (was n s k) in
          subst (λ m. AreHeld b.holders m s g.content.rows) (sym same) (subst (λ (x : KeptFile). AreHeld b.holders number s x.content.rows) e (r.held s key (keyed.noted number s file at key)))
      | inr differs ↦ all_map (λ x. IsHeld a.holders n s x.row) (λ x. IsHeld b.holders n s x.row) (λ x. held_others number a.holders b.holders r.others n s x.row differs) g.content.rows (keyed.noted n s g here (was n s k))
    ];
    found = λ n l rt j. found_on a b (λ m s k. subst (IsAmong s) (sym (r.slots m)) k) r.always n l rt j.pairs (keyed.found n l rt j);
  }
    where
      was : (n s : ℕ) → IsKey b n s → IsKey a n s
      was n s k = subst (IsAmong s) (r.slots n) k

  -- one file is written over by one of the same expression, inputs and readers
  pub kept_written : (files : List (ℕ × File)) (numbers : List (Expr × ℕ)) (scans : List (List ℕ × ReaderTables)) (keys : Keys) (number : ℕ) (file w : File) → lookup (nat_eq number) files ≡ Some file → w.expr ≡ file.expr → w.inputs ≡ file.inputs → w.readers ≡ file.readers → group_of w.content ≡ group_of file.content
      → (new : List (ℕ × File)) → ((q : ℕ) → lookup (nat_eq q) new ≡ cond (nat_eq number q) (Some w) (lookup (nat_eq q) files))
      → ((slot : ℕ) → AreHeld keys.holders number slot (state_of gs file).content.rows → AreHeld keys.holders number slot (state_of gs w).content.rows) → IsKept gs files numbers scans keys → IsKept gs new numbers scans keys
  kept_written files numbers scans keys number file w at expr inputs readers group new is rows kept = record {
    shelved = shelved_written gs files number file w at expr inputs readers group new is numbers scans kept.shelved;
    grouped = grouped_written gs files number file w at expr inputs readers group new is kept.grouped;
    keyed = subst (λ m. IsKeyed m keys) (sym (shown_written gs files number file w at expr inputs readers group new is))
        (keyed_put (shown gs files) number (state_of gs file) (state_of gs w) keys (shown_at gs files number file at) expr (λ slot _. rows slot) kept.keyed);
  }

  -- one file is written over by itself with another count of lost rows, which is not seen
  module _ (files : List (ℕ × File)) (number : ℕ) (file : File) (lost : ℕ) (at : lookup (nat_eq number) files ≡ Some file)
      (new : List (ℕ × File)) (is : (q : ℕ) → lookup (nat_eq q) new ≡ cond (nat_eq number q) (Some (record file { rows_lost = lost })) (lookup (nat_eq q) files)) where
    pub kept_counted : (numbers : List (Expr × ℕ)) (scans : List (List ℕ × ReaderTables)) (keys : Keys) → IsKept gs files numbers scans keys → IsKept gs new numbers scans keys
    kept_counted numbers scans keys kept = kept_written files numbers scans keys number file (record file { rows_lost = lost }) at refl refl refl refl new is (λ slot h. h) kept

    pub shown_counted : shown gs new ≡ shown gs files
    shown_counted =
        shown_written gs files number file (record file { rows_lost = lost }) at refl refl refl refl new is
        ∙ put_again (shown gs files) number (state_of gs file) (shown_at gs files number file at)

  -- no files
  pub keyed_none : (files : List (ℕ × File)) (keys : Keys) → keys.files.entries ≡ [] → files ≡ [] → IsKeyed (shown gs files) keys
  keyed_none files keys no_keys no_files = record {
    there = λ n s k. absurd (true≢false (sym k ∙ ap (λ fs. list_any (nat_eq s) (slots_in fs n)) no_keys));
    noted = λ n s file at k. absurd (nothing n file at);
    found = λ n l r j. absurd (nothing n j.stands.file j.stands.at);
  }
    where
      nothing : (n : ℕ) (g : KeptFile) → get (shown gs files) n ≡ Some g → ⊥
      nothing n g at = is_there at (get_shown gs files n ∙ ap (λ f. option_map (state_of gs) (lookup (nat_eq n) f)) no_files)
