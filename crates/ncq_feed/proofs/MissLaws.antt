-- Rows of a join's inputs that miss those of the other side make nothing of it.
use Rattle.std.proofs.Common.{◌≡◌, ℕ, ◌+◌, Bool, true, false, cond, nat_le, List, [], ◌∷◌, ◌++◌, map, length, refl, sym, ap, ◌∙◌, subst, arith}
use Rattle.std.specs.List.{AllByRecursion, filter, flat_map}
use Rattle.ncq_base.specs.Counts.{total_by}
use Rattle.ncq_base.proofs.CountLaws.{total_by-append}
use Rattle.ncq_row.specs.Embeddings.{Row}
use Rattle.ncq_row.specs.declared.pair.Pair.{Pair}
use Rattle.ncq_plan.specs.Exprs.{followed_by}
use Rattle.ncq_plan.specs.Meets.{agree}
use Rattle.ncq_plan.specs.Deltas.{signed, left_delta, followed_by_changed, right_delta, join_delta}
use Rattle.ncq_plan.specs.Totals.{SignedRow as PlainRow, SameChanges}
use Rattle.ncq_midfile.specs.declared.signed.SignedRow.{SignedRow}
use Rattle.ncq_midfile.specs.Content.{gains, losses, up_to, IsContent}
use Rattle.ncq_delta.specs.Leads.{unnumbered}
use Rattle.ncq_shelf.specs.KeptFiles.{Files}
use Rattle.ncq_shelf.specs.Contents.{with_more}
use Rattle.ncq_shelf.specs.Readers.{JoinsFrom, NoneAgree, MakesNothing}
use Rattle.ncq_feed.specs.Runs.{Run, IsUnderWay, LeftMissesFrom, RightMissesFrom, BothMissFrom, wiring_of, news_of, news_in}
use Rattle.ncq_feed.proofs.PassingLaws.{AreMisses}
use Rattle.ncq_feed.proofs.WiringLaws.{one_left, one_right}
use Rattle.ncq_feed.proofs.GrowthLaws.{up, stands_up, all_append}

all_filtered : {A : Type 0} (P : A → Type 0) (test : A → Bool) (xs : List A) → AllByRecursion P xs → AllByRecursion P (filter test xs)
all_filtered P test [] h = tt
all_filtered P test (x ∷ xs) h = elim (test x) as (λ b. AllByRecursion P (cond b (x ∷ filter test xs) (filter test xs))) [
  | true ↦ (h.0, all_filtered P test xs h.1)
  | false ↦ all_filtered P test xs h.1
]

first_part : {A : Type 0} (P : A → Type 0) (xs ys : List A) → AllByRecursion P (xs ++ ys) → AllByRecursion P xs
first_part P [] ys h = tt
first_part P (x ∷ xs) ys h = (h.0, first_part P xs ys h.1)

last_part : {A : Type 0} (P : A → Type 0) (xs ys : List A) → AllByRecursion P (xs ++ ys) → AllByRecursion P ys
last_part P [] ys h = h
last_part P (x ∷ xs) ys h = last_part P xs ys h.1

each_so : {A : Type 0} (P Q : A → Type 0) → ((x : A) → P x → Q x) → (xs : List A) → AllByRecursion P xs → AllByRecursion Q xs
each_so P Q f [] h = tt
each_so P Q f (x ∷ xs) h = (f x h.0, each_so P Q f xs h.1)

-- what weighs nothing in a file weighs nothing in its contents

module _ (f : Row → ℕ) where
  light : (rows : List SignedRow) → AllByRecursion (λ r. f r.row ≡ 0) rows → total_by f (map (λ (r : SignedRow). r.row) rows) ≡ 0
  light [] h = refl
  light (r ∷ rows) h = let e = h.0 in let rest = light rows h.1 in omega arith

  content_light : (n : ℕ) (rows : List SignedRow) (list : List Row) → IsContent n rows list → AllByRecursion (λ r. f r.row ≡ 0) rows → total_by f list ≡ 0
  content_light n rows list content none =
      let came : total_by f (gains (up_to n rows)) ≡ 0 =
      light (filter (λ (r : SignedRow). r.plus) (up_to n rows)) (all_filtered (λ (r : SignedRow). f r.row ≡ 0) (λ (r : SignedRow). r.plus) (up_to n rows) (all_filtered (λ (r : SignedRow). f r.row ≡ 0) (λ (r : SignedRow). nat_le r.number n) rows none)) in
      let same = content f in
      let parts = total_by-append f list (losses (up_to n rows)) in
      omega arith

-- a row that agrees with none of a file agrees with none of its content

no_test : {A : Type 0} (test : A → Bool) (xs : List A) → total_by (λ x. cond (test x) 1 0) xs ≡ 0 → filter test xs ≡ []
no_test test [] e = refl
no_test test (x ∷ xs) e = elim (test x) as (λ b. cond b 1 0 + total_by (λ x. cond (test x) 1 0) xs ≡ 0 → cond b (x ∷ filter test xs) (filter test xs) ≡ []) [
  | true ↦ λ e. absurd (omega arith)
  | false ↦ λ e. no_test test xs (omega arith)
] e

no_lengths : {A B : Type 0} (g : A → List B) (xs : List A) → total_by (λ x. length (g x)) xs ≡ 0 → flat_map g xs ≡ []
no_lengths g [] e = refl
no_lengths g (x ∷ xs) e =
    let first : g x ≡ [] = empty (g x) (omega arith) in
    ap (λ ys. ys ++ flat_map g xs) first ∙ no_lengths g xs (omega arith)
  where
    empty : {B : Type 0} (ys : List B) → length ys ≡ 0 → ys ≡ []
    empty [] e = refl
    empty (y ∷ ys) e = absurd (omega arith)

module _ (pairs : List Pair) where
  no_followers : (n : ℕ) (rows : List SignedRow) (before : List Row) (row : Row) → IsContent n rows before → AllByRecursion (λ (r : SignedRow). agree pairs row r.row ≡ false) rows → followed_by pairs before row ≡ []
  no_followers n rows before row content none =
      ap (map (λ other. row ++ other)) (no_test (agree pairs row) before
      (content_light (λ other. cond (agree pairs row other) 1 0) n rows before content
      (each_so (λ (r : SignedRow). agree pairs row r.row ≡ false) (λ (r : SignedRow). cond (agree pairs row r.row) 1 0 ≡ 0) (λ r e. ap (λ b. cond b 1 0) e) rows none)))

  -- the left's rows that miss what the right had
  no_lefts : (n : ℕ) (rows lefts : List SignedRow) (before : List Row) → IsContent n rows before → NoneAgree pairs lefts rows → left_delta pairs (unnumbered lefts) before ≡ []
  no_lefts n rows [] before content none = refl
  no_lefts n rows (l ∷ lefts) before content none =
      ap (λ ys. signed l.plus ys ++ left_delta pairs (unnumbered lefts) before) (no_followers n rows before l.row content none.0)
      ∙ no_lefts n rows lefts before content none.1

  none_changed : (row : Row) (rights : List SignedRow) → AllByRecursion (λ (r : SignedRow). agree pairs row r.row ≡ false) rights → followed_by_changed pairs (unnumbered rights) row ≡ []
  none_changed row [] none = refl
  none_changed row (r ∷ rights) none =
      (λ i. map (λ (change : PlainRow). record { plus = change.plus; row = row ++ change.row }) (cond (none.0 i) (record { plus = r.plus; row = r.row } ∷ filter (λ (change : PlainRow). agree pairs row change.row) (unnumbered rights)) (filter (λ (change : PlainRow). agree pairs row change.row) (unnumbered rights))))
      ∙ none_changed row rights none.1

  -- the right's rows that miss what the left has then
  no_rights : (n : ℕ) (rows rights : List SignedRow) (after : List Row) → IsContent n rows after → NoneAgree pairs rows rights → right_delta pairs after (unnumbered rights) ≡ []
  no_rights n rows rights after content none =
      no_lengths (followed_by_changed pairs (unnumbered rights)) after
      (content_light (λ row. length (followed_by_changed pairs (unnumbered rights) row)) n rows after content
      (each_so (λ (l : SignedRow). AllByRecursion (λ (r : SignedRow). agree pairs l.row r.row ≡ false) rights) (λ (l : SignedRow). length (followed_by_changed pairs (unnumbered rights) l.row) ≡ 0)
      (λ l h. ap length (none_changed l.row rights h)) rows none))

  none_agree : (lefts : List SignedRow) → NoneAgree pairs lefts []
  none_agree [] = tt
  none_agree (l ∷ lefts) = (tt, none_agree lefts)

  with_first : (lefts rights more : List SignedRow) → NoneAgree pairs lefts (rights ++ more) → NoneAgree pairs lefts rights
  with_first lefts rights more none =
      each_so (λ (l : SignedRow). AllByRecursion (λ (r : SignedRow). agree pairs l.row r.row ≡ false) (rights ++ more)) (λ (l : SignedRow). AllByRecursion (λ (r : SignedRow). agree pairs l.row r.row ≡ false) rights)
      (λ l h. first_part (λ (r : SignedRow). agree pairs l.row r.row ≡ false) rights more h) lefts none

  with_last : (lefts rights more : List SignedRow) → NoneAgree pairs lefts (rights ++ more) → NoneAgree pairs lefts more
  with_last lefts rights more none =
      each_so (λ (l : SignedRow). AllByRecursion (λ (r : SignedRow). agree pairs l.row r.row ≡ false) (rights ++ more)) (λ (l : SignedRow). AllByRecursion (λ (r : SignedRow). agree pairs l.row r.row ≡ false) more)
      (λ l h. last_part (λ (r : SignedRow). agree pairs l.row r.row ≡ false) rights more h) lefts none

-- an empty list misses all rows, and a join gets nothing of rows that miss each other
pub misses : (run : Run) → AreMisses (wiring_of run)
misses run = record {
  no_lefts = λ number left right j. tt;
  no_rights = λ number left right j. none_agree j.pairs j.on_left.file.content.rows;
  none_left = λ number rights left right j. tt;
  none_right = λ number lefts left right j. none_agree j.pairs lefts;
  nothing = λ number lefts rights on_left on_right both left right j before after held then.
      let l : left_delta j.pairs (unnumbered lefts) before ≡ [] = no_lefts j.pairs run.store.changes j.on_right.file.content.rows lefts before held (on_left left right j) in
      let r : right_delta j.pairs after (unnumbered rights) ≡ [] =
      no_rights j.pairs (run.store.changes + 1) (j.on_left.file.content.rows ++ lefts) rights after then
      (all_append (λ (l : SignedRow). AllByRecursion (λ (r : SignedRow). agree j.pairs l.row r.row ≡ false) rights) j.on_left.file.content.rows lefts (on_right left right j) (both left right j)) in
      let e : join_delta j.pairs (unnumbered lefts) before after (unnumbered rights) ≡ [] = λ i. l i ++ r i in
      subst (SameChanges []) (sym e) (record { plus = λ f. refl; minus = λ f. refl });
}

-- a join that makes nothing of a file's rows misses them
module _ (run : Run) (files : Files) (under : IsUnderWay run files) (at number : ℕ) (nothing : MakesNothing files at run.store.changes number) where
  abbrev news : ℕ → List SignedRow
  news n = news_in run.store.changes files n

  abbrev join_now : (left right : ℕ) → JoinsFrom run.files number left right → JoinsFrom files number left right
  join_now left right j = record {
    first = j.first;
    second = j.second;
    pairs = j.pairs;
    stands = stands_up run files under _ number j.stands;
    on_left = record { file = with_more j.on_left.file (news left); at = up run files under left j.on_left.file j.on_left.at; of = j.on_left.of };
    on_right = record { file = with_more j.on_right.file (news right); at = up run files under right j.on_right.file j.on_right.at; of = j.on_right.of };
  }

  left_missed : (right : ℕ) (j : JoinsFrom run.files number at right) → NoneAgree j.pairs (news at) (j.on_right.file.content.rows ++ news right)
  left_missed right j =
      subst (λ rows. NoneAgree j.pairs rows (j.on_right.file.content.rows ++ news right)) (sym (ap (news_of run.store.changes) (up run files under at j.on_left.file j.on_left.at)))
      (nothing.on_left right (join_now at right j))

  right_missed : (left : ℕ) (j : JoinsFrom run.files number left at) → NoneAgree j.pairs (j.on_left.file.content.rows ++ news left) (news at)
  right_missed left j =
      subst (NoneAgree j.pairs (j.on_left.file.content.rows ++ news left)) (sym (ap (news_of run.store.changes) (up run files under at j.on_right.file j.on_right.at)))
      (nothing.on_right left (join_now left at j))

  pub left_misses : (right : ℕ) → JoinsFrom run.files number at right → LeftMissesFrom run number (news at) × BothMissFrom run number (news at) (news right)
  left_misses right j = (λ left' right' k. (own left' right' k).0, λ left' right' k. (own left' right' k).1)
    where
      own : (left' right' : ℕ) (k : JoinsFrom run.files number left' right') → NoneAgree k.pairs (news at) k.on_right.file.content.rows × NoneAgree k.pairs (news at) (news right)
      own left' right' k =
          subst (λ l. (k : JoinsFrom run.files number l right') → NoneAgree k.pairs (news at) k.on_right.file.content.rows × NoneAgree k.pairs (news at) (news right))
          (sym (one_left run.files under.start.ready.grounded number at right left' right' j k))
          (λ k. let m = left_missed right' k in (
            with_first k.pairs (news at) k.on_right.file.content.rows (news right') m,
            subst (λ n. NoneAgree k.pairs (news at) (news n)) (one_right run.files under.start.ready.grounded number at right at right' j k) (with_last k.pairs (news at) k.on_right.file.content.rows (news right') m),
          )) k

  pub right_misses : (left : ℕ) → JoinsFrom run.files number left at → RightMissesFrom run number (news at) × BothMissFrom run number (news left) (news at)
  right_misses left j = (λ left' right' k. (own left' right' k).0, λ left' right' k. (own left' right' k).1)
    where
      own : (left' right' : ℕ) (k : JoinsFrom run.files number left' right') → NoneAgree k.pairs k.on_left.file.content.rows (news at) × NoneAgree k.pairs (news left) (news at)
      own left' right' k =
          subst (λ r. (k : JoinsFrom run.files number left' r) → NoneAgree k.pairs k.on_left.file.content.rows (news at) × NoneAgree k.pairs (news left) (news at))
          (sym (one_right run.files under.start.ready.grounded number left at left' right' j k))
          (λ k. let m = right_missed left' k in (
            first_part (λ (l : SignedRow). AllByRecursion (λ (r : SignedRow). agree k.pairs l.row r.row ≡ false) (news at)) k.on_left.file.content.rows (news left') m,
            subst (λ n. NoneAgree k.pairs (news n) (news at)) (one_left run.files under.start.ready.grounded number left at left' at j k)
                (last_part (λ (l : SignedRow). AllByRecursion (λ (r : SignedRow). agree k.pairs l.row r.row ≡ false) (news at)) k.on_left.file.content.rows (news left') m),
          )) k
