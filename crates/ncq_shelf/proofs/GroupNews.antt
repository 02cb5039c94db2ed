-- A group's file with more rows behind its own, and the files that are views of it.
use Rattle.std.proofs.Common.{◌≡◌, ◌<◌, ◌++◌, ℕ, length, map, Bool, true, false, cond, List, [], ◌∷◌, Some, None, Option, nat_eq, inl, inr, refl, sym, ap, ◌∙◌, subst, true≢false, append-nil}
use Rattle.std.specs.FinMap.{get, same_map, nat_cmp-IsAntisymmetric}
use Rattle.std.proofs.lemmas.Cmp.{nat_cmp_total}
use Rattle.std.specs.List.{AllByRecursion}
use Rattle.std.specs.Map.{lookup}
use Rattle.std.specs.Option.{option_map, option_map_or}
use Rattle.ncq_base.specs.Intervals.{in_interval}
use Rattle.ncq_base.specs.declared.atom.Atom.{Atom}
use Rattle.ncq_base.specs.declared.atom.Atom.TheVariants.{Num, Text}
use Rattle.ncq_base.specs.declared.atom.FileId.{FileId}
use Rattle.ncq_base.specs.declared.interval.Interval.{Interval}
use Rattle.ncq_row.specs.Embeddings.{Row}
use Rattle.ncq_row.specs.Values.{atom_at}
use Rattle.ncq_plan.specs.declared.expr.Expr.{Expr}
use Rattle.ncq_plan.specs.declared.expr.Expr.TheVariants.{RangeSel}
use Rattle.ncq_plan.specs.Meets.{is_within}
use Rattle.ncq_midfile.specs.Views.{HasNumber, RangeState, is_number, of_rows}
use Rattle.ncq_midfile.specs.declared.signed.SignedRow.{SignedRow}
use Rattle.ncq_midfile.proofs.Withins.{filter_append}
use Rattle.ncq_readers.specs.ReaderTables.{ReaderTables}
use Rattle.ncq_shelf.specs.Contents.{with_more}
use Rattle.ncq_shelf.specs.Groups.{Groups, IsGrouped, IsTaken, content_of, group_of, is_group, rows_of_group}
use Rattle.ncq_shelf.specs.KeptFiles.{KeptFile, Files}
use Rattle.ncq_shelf.specs.Keyed.{AreHeld, IsHeld, IsKept, IsKey, IsKeyed}
use Rattle.ncq_shelf.specs.Ranges.{AppendsHeld, IsHeldBy, SelectsRange, Takes}
use Rattle.ncq_shelf.specs.Readers.{IsAmong}
use Rattle.ncq_shelf.specs.Shown.{shown, state_of}
use Rattle.ncq_shelf.specs.Stands.{IsThere}
use Rattle.ncq_shelf.specs.Wired.{IsShelved}
use Rattle.ncq_shelf.specs.declared.file.File.{File}
use Rattle.ncq_shelf.specs.declared.group.Group.{Group}
use Rattle.ncq_shelf.specs.declared.keys.Keys.{Keys}
use Rattle.ncq_shelf.specs.declared.rows.Rows.{Rows}
use Rattle.ncq_shelf.proofs.AnyGroups.{shelved_any}
use Rattle.ncq_shelf.proofs.GroupGains.{all_both}
use Rattle.ncq_shelf.proofs.GroupWrites.{IsViewOf, grouped_then, here, other_same, rows_in, same_base, view_or_other}
use Rattle.ncq_shelf.proofs.Indexes.{shown_at, kept_at}
use Rattle.ncq_shelf.proofs.KeyLaws.{all_among}
use Rattle.ncq_shelf.proofs.KeyedLaws.{keyed_back}
use Rattle.ncq_shelf.proofs.ShownFiles.{get_shown}
use Rattle.ncq_shelf.proofs.VirtualFiles.{held_taken, selects_view, view_of_taken, view_selects}
use Rattle.ncq_shelf.proofs.Widths.{each_at, from_each, of_test, virtual_rows}

-- what an interval has is a number
pub number_within : (interval : Interval) (a : Atom) → in_interval interval a ≡ true → is_number a ≡ true
number_within interval (Num n) h = refl
number_within interval (Text t) h = absurd (true≢false (sym h))

-- no more rows
pub with_none : (file : KeptFile) → with_more file [] ≡ file
with_none file = λ i. record file { content = record { base = file.content.base; rows = append-nil file.content.rows i } }

module _ (gs : Groups) (files : List (ℕ × File)) (numbers : List (Expr × ℕ)) (scans : List (List ℕ × ReaderTables)) (shelved : IsShelved gs files numbers scans) (grouped : IsGrouped files gs) (group : Group) where
  -- what holds of the rows of all views holds of those of the group
  pub of_views : (P : SignedRow → Type 0) (held : RangeState) → lookup (is_group group) gs ≡ Some held
      → ((interval : Interval) (number : ℕ) → SelectsRange (shown gs files) group.input group.slot interval number → (state : KeptFile) → get (shown gs files) number ≡ Some state → AllByRecursion P state.content.rows)
      → AllByRecursion P held.rows
  of_views P held at each = from_each P held.rows (λ i r here.
      let t = each_at (λ (r : SignedRow). IsTaken files group r.row) held.rows (grouped.taken group held at) i r here in
      let rows : (content_of gs t.file.expr t.file.content).rows ≡ of_rows (is_within group.slot t.interval) held.rows =
      virtual_rows gs t.file.expr t.inner t.file.content group t.interval t.of t.is ∙ ap (λ o. of_rows (is_within group.slot t.interval) (option_map_or (λ (h : RangeState). h.rows) o [])) at in
      let all = each t.interval t.number (view_selects gs files numbers scans shelved grouped.right grouped.over group t.interval t.number (view_of_taken files group r.row t)) (state_of gs t.file) (shown_at gs files t.number t.file t.at) in
      each_at (λ (r : SignedRow). is_within group.slot t.interval r.row ≡ true → P r) held.rows (of_test P (is_within group.slot t.interval) held.rows (subst (AllByRecursion P) rows all)) i r here t.within)

-- the group's file has more rows, and all other groups are as before
module _ (gs hs : Groups) (group : Group) (held w : RangeState) (at : lookup (is_group group) gs ≡ Some held)
    (now : (q : Group) → lookup (is_group q) hs ≡ cond (is_group group q) (Some w) (lookup (is_group q) gs)) (slot : w.slot ≡ held.slot) (news : List SignedRow) (rows : w.rows ≡ held.rows ++ news) where
  rows_here : rows_of_group hs group ≡ rows_of_group gs group ++ news
  rows_here = ap rows_in (here gs hs group held w at now) ∙ rows ∙ ap (λ o. rows_in o ++ news) (sym at)

  view_rows : (expr inner : Expr) (content : Rows) (interval : Interval) → group_of content ≡ Some group → expr ≡ RangeSel inner group.slot interval
      → (content_of hs expr content).rows ≡ (content_of gs expr content).rows ++ of_rows (is_within group.slot interval) news
  view_rows expr inner content interval of is =
      virtual_rows hs expr inner content group interval of is
      ∙ ap (of_rows (is_within group.slot interval)) rows_here
      ∙ filter_append (λ (r : SignedRow). is_within group.slot interval r.row) (rows_of_group gs group) news
      ∙ ap (λ rs. rs ++ of_rows (is_within group.slot interval) news) (sym (virtual_rows gs expr inner content group interval of is))

  -- a view has of the news what its interval has
  view_more : (file : File) (inner : Expr) (interval : Interval) → group_of file.content ≡ Some group → file.expr ≡ RangeSel inner group.slot interval
      → state_of hs file ≡ with_more (state_of gs file) (of_rows (is_within group.slot interval) news)
  view_more file inner interval of is = λ i. record {
    expr = file.expr;
    uses = file.uses;
    content = record { base = same_base gs hs group held w at now file.expr file.content i; rows = view_rows file.expr inner file.content interval of is i };
  }

  module _ (files : List (ℕ × File)) (grouped : IsGrouped files gs) where
    -- virtual files have their groups still, and each row is taken
    pub grouped_news : AllByRecursion (λ r. IsTaken files group r.row) news → IsGrouped files hs
    grouped_news taken = grouped_then gs hs group held w at now slot files grouped
        (subst (AllByRecursion (λ r. IsTaken files group r.row)) (sym rows) (all_both (λ r. IsTaken files group r.row) held.rows news (grouped.taken group held at) taken))

    -- the rows are noted still, where the news are noted of the views that have them
    pub keyed_news : (keys : Keys) → ((number : ℕ) (file : File) (inner : Expr) (interval : Interval) → lookup (nat_eq number) files ≡ Some file → group_of file.content ≡ Some group → file.expr ≡ RangeSel inner group.slot interval
        → (s : ℕ) → IsKey keys number s → AreHeld keys.holders number s (of_rows (is_within group.slot interval) news))
        → IsKeyed (shown gs files) keys → IsKeyed (shown hs files) keys
    keyed_news keys noted keyed = keyed_back gs (shown gs files) (shown hs files) keys forth back keyed
      where
        forth : (n : ℕ) → IsThere (shown gs files) n → IsThere (shown hs files) n
        forth n t = let k = kept_at gs files n t.file t.at in record { file = state_of hs k.0; at = shown_at hs files n k.0 k.1 }

        rows_held : (n : ℕ) (file : File) → lookup (nat_eq n) files ≡ Some file → (s : ℕ) → IsKey keys n s → AreHeld keys.holders n s (state_of gs file).content.rows → AreHeld keys.holders n s (state_of hs file).content.rows
        rows_held n file found s key was = elim (view_or_other gs files grouped group n file found) as (λ _. AreHeld keys.holders n s (state_of hs file).content.rows) [
          | inl v ↦ subst (λ (f : KeptFile). AreHeld keys.holders n s f.content.rows) (sym (view_more file v.inner v.interval v.of v.is))
              (all_both (λ r. IsHeld keys.holders n s r.row) (state_of gs file).content.rows (of_rows (is_within group.slot v.interval) news) was (noted n file v.inner v.interval found v.of v.is s key))
          | inr o ↦ subst (λ (f : KeptFile). AreHeld keys.holders n s f.content.rows) (sym (other_same gs hs group held w at now file o)) was
        ]

        back : (n : ℕ) (g : KeptFile) → get (shown hs files) n ≡ Some g → (f : KeptFile) × (get (shown gs files) n ≡ Some f) × (f.expr ≡ g.expr) × ((s : ℕ) → IsKey keys n s → AreHeld keys.holders n s f.content.rows → AreHeld keys.holders n s g.content.rows)
        back n g found =
            let k = kept_at hs files n g found in (
              state_of gs k.0,
              shown_at gs files n k.0 k.1,
              ap (λ (f : KeptFile). f.expr) (sym k.2),
              λ s key was. subst (λ (f : KeptFile). AreHeld keys.holders n s f.content.rows) (sym k.2) (rows_held n k.0 k.1 s key was),
            )

    -- no news, and all is as before
    pub shown_same : news ≡ [] → shown hs files ≡ shown gs files
    shown_same nothing = same_map nat_cmp_total nat_cmp-IsAntisymmetric (shown hs files) (shown gs files)
        (λ q. get_shown hs files q ∙ by q (lookup (nat_eq q) files) refl ∙ sym (get_shown gs files q))
      where
        state_same : (q : ℕ) (file : File) → lookup (nat_eq q) files ≡ Some file → state_of hs file ≡ state_of gs file
        state_same q file found = elim (view_or_other gs files grouped group q file found) as (λ _. state_of hs file ≡ state_of gs file) [
          | inl v ↦ view_more file v.inner v.interval v.of v.is ∙ ap (λ rs. with_more (state_of gs file) (of_rows (is_within group.slot v.interval) rs)) nothing ∙ with_none (state_of gs file)
          | inr o ↦ other_same gs hs group held w at now file o
        ]

        by : (q : ℕ) (o : Option File) → lookup (nat_eq q) files ≡ o → option_map (state_of hs) (lookup (nat_eq q) files) ≡ option_map (state_of gs) (lookup (nat_eq q) files)
        by q None e = ap (option_map (state_of hs)) e ∙ sym (ap (option_map (state_of gs)) e)
        by q (Some file) e = ap (option_map (state_of hs)) e ∙ ap Some (state_same q file e) ∙ sym (ap (option_map (state_of gs)) e)

    -- one row that comes in
    module _ (numbers : List (Expr × ℕ)) (scans : List (List ℕ × ReaderTables)) (shelved : IsShelved gs files numbers scans) (row : SignedRow) (one : news ≡ row ∷ []) where
      taken_more : (number : ℕ) → Takes (shown gs files) group.input group.slot row.row number → get (shown hs files) number ≡ option_map (λ file. with_more file (row ∷ [])) (get (shown gs files) number)
      taken_more number t =
          let v = selects_view gs files numbers scans shelved grouped.right grouped.over group.input group.slot t.interval number t.selects in
          let its : of_rows (is_within group.slot t.interval) news ≡ row ∷ [] = ap (of_rows (is_within group.slot t.interval)) one ∙ ap (λ b. cond b (row ∷ []) []) t.within in
          shown_at hs files number v.file v.at ∙ ap Some (view_more v.file v.inner t.interval v.of v.is ∙ ap (with_more (state_of gs v.file)) its)
          ∙ sym (ap (option_map (λ (f : KeptFile). with_more f (row ∷ []))) (shown_at gs files number v.file v.at))

      not_within : (number : ℕ) (file : File) → lookup (nat_eq number) files ≡ Some file → (v : IsViewOf group file) → (Takes (shown gs files) group.input group.slot row.row number → ⊥) → is_within group.slot v.interval row.row ≡ false
      not_within number file at v none = by (is_within group.slot v.interval row.row) refl
        where
          by : (b : Bool) → is_within group.slot v.interval row.row ≡ b → b ≡ false
          by true e = absurd (none (record { interval = v.interval; selects = view_selects gs files numbers scans shelved grouped.right grouped.over group v.interval number (record { file = file; inner = v.inner; at = at; of = v.of; is = v.is }); within = e }))
          by false e = refl

      other_state : (number : ℕ) → (Takes (shown gs files) group.input group.slot row.row number → ⊥) → (file : File) → lookup (nat_eq number) files ≡ Some file → state_of hs file ≡ state_of gs file
      other_state number none file found = elim (view_or_other gs files grouped group number file found) as (λ _. state_of hs file ≡ state_of gs file) [
        | inl v ↦
            let its : of_rows (is_within group.slot v.interval) news ≡ [] = ap (of_rows (is_within group.slot v.interval)) one ∙ ap (λ b. cond b (row ∷ []) []) (not_within number file found v none) in
            view_more file v.inner v.interval v.of v.is ∙ ap (with_more (state_of gs file)) its ∙ with_none (state_of gs file)
        | inr o ↦ other_same gs hs group held w at now file o
      ]

      -- each file that takes it has it behind its own, and all others are as before
      pub appends_held : AppendsHeld (shown gs files) group.input group.slot row (shown hs files)
      appends_held = record {
        taken = taken_more;
        others = λ number none. get_shown hs files number ∙ by number none (lookup (nat_eq number) files) refl ∙ sym (get_shown gs files number);
      }
        where
          by : (q : ℕ) → (Takes (shown gs files) group.input group.slot row.row q → ⊥) → (o : Option File) → lookup (nat_eq q) files ≡ o → option_map (state_of hs) (lookup (nat_eq q) files) ≡ option_map (state_of gs) (lookup (nat_eq q) files)
          by q none None e = ap (option_map (state_of hs)) e ∙ sym (ap (option_map (state_of gs)) e)
          by q none (Some file) e = ap (option_map (state_of hs)) e ∙ ap Some (other_state q none file e) ∙ sym (ap (option_map (state_of gs)) e)

-- what holds of each of the files holds of each number that is among theirs
pub among_all : (P : ℕ → Type 0) (files : List FileId) → AllByRecursion (λ (f : FileId). P f.0) files → (n : ℕ) → IsAmong n (map (λ (f : FileId). f.0) files) → P n
among_all P files all n among = all_among P (map (λ (f : FileId). f.0) files) (ids_all files all) n among
  where
    ids_all : (files : List FileId) → AllByRecursion (λ (f : FileId). P f.0) files → AllByRecursion P (map (λ (f : FileId). f.0) files)
    ids_all [] all = tt
    ids_all (f ∷ files) all = (all.0, ids_all files all.1)

-- a row that a file takes has a number in the slot
pub number_of_held : (files : Files) (input slot : ℕ) (row : Row) → IsHeldBy files input slot row → slot < length row → HasNumber slot row
number_of_held files input slot row h less = record { within = less; number = number_within h.takes.interval (atom_at row slot) h.takes.within }

-- the shelf, with no news of the group or one row that some file takes
module _ (gs : Groups) (files : List (ℕ × File)) (numbers : List (Expr × ℕ)) (scans : List (List ℕ × ReaderTables)) (keys : Keys) (kept : IsKept gs files numbers scans keys)
    (hs : Groups) (group : Group) (held w : RangeState) (at : lookup (is_group group) gs ≡ Some held)
    (now : (q : Group) → lookup (is_group q) hs ≡ cond (is_group group q) (Some w) (lookup (is_group q) gs)) (slot : w.slot ≡ held.slot) where
  pub kept_same : w.rows ≡ held.rows → IsKept hs files numbers scans keys
  kept_same rows =
      let more : w.rows ≡ held.rows ++ [] = rows ∙ sym (append-nil held.rows) in
      record {
        shelved = shelved_any files gs hs numbers scans kept.shelved;
        grouped = grouped_news gs hs group held w at now slot [] more files kept.grouped tt;
        keyed = keyed_news gs hs group held w at now slot [] more files kept.grouped keys (λ n file inner interval here of is s key. tt) kept.keyed;
      }

  pub same_shown : w.rows ≡ held.rows → shown hs files ≡ shown gs files
  same_shown rows = shown_same gs hs group held w at now slot [] (rows ∙ sym (append-nil held.rows)) files kept.grouped refl

  module _ (row : SignedRow) (rows : w.rows ≡ held.rows ++ row ∷ []) where
    pub kept_row : IsHeldBy (shown gs files) group.input group.slot row.row → ((n : ℕ) → Takes (shown gs files) group.input group.slot row.row n → (s : ℕ) → IsKey keys n s → IsHeld keys.holders n s row.row)
        → IsKept hs files numbers scans keys
    kept_row taken noted = record {
      shelved = shelved_any files gs hs numbers scans kept.shelved;
      grouped = grouped_news gs hs group held w at now slot (row ∷ []) rows files kept.grouped (held_taken gs files numbers scans kept.shelved kept.grouped.right kept.grouped.over group.input group.slot row.row taken, tt);
      keyed = keyed_news gs hs group held w at now slot (row ∷ []) rows files kept.grouped keys
          (λ n file inner interval here of is s key.
          by n s interval (view_selects gs files numbers scans kept.shelved kept.grouped.right kept.grouped.over group interval n (record { file = file; inner = inner; at = here; of = of; is = is })) key (is_within group.slot interval row.row) refl) kept.keyed;
    }
      where
        by : (n s : ℕ) (interval : Interval) → SelectsRange (shown gs files) group.input group.slot interval n → IsKey keys n s → (b : Bool) → is_within group.slot interval row.row ≡ b → AllByRecursion (λ (r : SignedRow). IsHeld keys.holders n s r.row) (cond b (row ∷ []) [])
        by n s interval selects key true e = (noted n (record { interval = interval; selects = selects; within = e }) s key, tt)
        by n s interval selects key false e = tt

    pub row_appended : AppendsHeld (shown gs files) group.input group.slot row (shown hs files)
    row_appended = appends_held gs hs group held w at now slot (row ∷ []) rows files kept.grouped numbers scans kept.shelved row refl
