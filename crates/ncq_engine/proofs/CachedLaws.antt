-- What is kept of what was told serves whoever asks for it, and stays right while the history grows.
use Rattle.std.proofs.Common.{◌≡◌, ℕ, zero, suc, ◌+◌, ◌<◌, ◌≤◌, List, [], ◌∷◌, refl, sym, ◌∙◌, ap, subst, arith, inl, inr}
use Rattle.std.specs.Prelude.{◌⊎◌, Option, Some, None, IfSome, Contains}
use Rattle.std.specs.FinMap.{get}
use Rattle.std.specs.List.{AllByRecursion}
use Rattle.std.proofs.lemmas.Bool.{cases_eq}
use Rattle.ncq_bag.specs.Bags.{difference}
use Rattle.ncq_bag.specs.declared.bag.Difference.{Difference}
use Rattle.ncq_cache.specs.Cached.{Cached, found, left, with_pair}
use Rattle.ncq_cache.specs.declared.key.NoticeKey.{NoticeKey}
use Rattle.ncq_cache.proofs.CallerLemmas.{found_holds, left_holds, put_holds}
use Rattle.ncq_group.specs.Installs.{IsInstalled}
use Rattle.ncq_group.specs.Tables.{TableState}
use Rattle.ncq_midfile.specs.Content.{IsContent}
use Rattle.ncq_midfile.specs.Files.{FileState}
use Rattle.ncq_news.specs.News.{entries_of, since_mark}
use Rattle.ncq_news.proofs.CallerLemmas.{all_tell, since_tell}
use Rattle.ncq_plan.specs.declared.expr.Expr.{Expr}
use Rattle.ncq_plan.specs.Exprs.{rows_in}
use Rattle.ncq_script.specs.declared.command.Command.{Command}
use Rattle.ncq_shelf.specs.KeptFiles.{KeptFile}
use Rattle.ncq_shelf.specs.Contents.{AreUpTo}
use Rattle.ncq_engine.specs.Cached.{AllServe, AreToldRight, Grows, IsFresh, IsOfOld, IsToldRight, KeepsPairs, Serves, answers_by, answers_then, query_by, rows_then}
use Rattle.ncq_engine.specs.History.{History, changes, sources, up_to, world}
use Rattle.ncq_engine.specs.Stands.{AreContents}
use Rattle.ncq_engine.specs.Tellings.{AreOf}
use Rattle.ncq_engine.proofs.Lists.{each_more}
use Rattle.ncq_plan.specs.Relations.{Relations}
use Rattle.ncq_engine.proofs.Worlds.{world_at_mark}

-- what holds of each pair holds of one of them
pub holds_of : (P : Cached → Type 0) (pairs : List Cached) (pair : Cached) → AllByRecursion P pairs → Contains pairs pair → P pair
holds_of P [] pair all (k, below, is) = absurd (let bad : ⊥ = omega (arith, below) in bad)
holds_of P (first ∷ pairs) pair all (zero, below, is) = subst P is all.0
holds_of P (first ∷ pairs) pair all (suc k, below, is) = holds_of P pairs pair all.1 (k, omega (arith, below), is)

-- each is one of them
pub each_contained : (pairs : List Cached) → AllByRecursion (Contains pairs) pairs
each_contained [] = tt
each_contained (first ∷ pairs) = (
  (zero, omega arith, refl),
  each_more (Contains pairs) (Contains (first ∷ pairs)) (λ pair c. let below = c.1 in (suc c.0, omega (arith, below), c.2)) pairs (each_contained pairs),
)

pub grows_none : (relations : Relations) (table : TableState) (pairs : List Cached) → Grows relations table pairs pairs
grows_none relations table pairs = each_more (Contains pairs) (λ pair. Contains pairs pair ⊎ IsFresh relations table pair.0 pair.1) (λ pair c. inl c) pairs (each_contained pairs)

pub grows_more : (relations : Relations) (table : TableState) (old mid new : List Cached) → Grows relations table old mid → Grows relations table mid new → Grows relations table old new
grows_more relations table old mid new first second =
    each_more (λ pair. Contains mid pair ⊎ IsFresh relations table pair.0 pair.1) (λ pair. Contains old pair ⊎ IsFresh relations table pair.0 pair.1)
    (λ pair c. elim c [
      | inl there ↦ holds_of (λ p. Contains old p ⊎ IsFresh relations table p.0 p.1) mid pair first there
      | inr fresh ↦ inr fresh
    ]) new second

pub fresh_serves : (relations : Relations) (table : TableState) (key : NoticeKey) (entries : List Difference) → IsFresh relations table key entries → Serves relations table key entries
fresh_serves relations table key entries fresh = record {
  given = fresh.given;
  change = (let now = fresh.change in let few : key.change ≤ table.number = omega (arith, now) in few);
  fresh = λ _. fresh;
}

-- what grew of pairs that serve serves
pub grown_serve : (relations : Relations) (table : TableState) (old new : List Cached) → AllServe relations table old → Grows relations table old new → AllServe relations table new
grown_serve relations table old new serve grows =
    each_more (λ pair. Contains old pair ⊎ IsFresh relations table pair.0 pair.1) (λ pair. Serves relations table pair.0 pair.1)
    (λ pair c. elim c [
      | inl there ↦ holds_of (λ p. Serves relations table p.0 p.1) old pair serve there
      | inr fresh ↦ fresh_serves relations table pair.0 pair.1 fresh
    ]) new grows

-- a pair was taken
pub grows_left : (relations : Relations) (table : TableState) (key : NoticeKey) (pairs : List Cached) → Grows relations table pairs (left key pairs)
grows_left relations table key pairs = left_holds (λ k entries. Contains pairs (k, entries) ⊎ IsFresh relations table k entries) key pairs (grows_none relations table pairs)

-- a fresh pair was put
pub grows_put : (relations : Relations) (table : TableState) (key : NoticeKey) (entries : List Difference) (pairs : List Cached) → IsFresh relations table key entries → Grows relations table pairs (with_pair key entries pairs)
grows_put relations table key entries pairs fresh = put_holds (λ k es. Contains pairs (k, es) ⊎ IsFresh relations table k es) key entries pairs (grows_none relations table pairs) (inr fresh)

-- what is found by a key of now is fresh
pub found_fresh : (relations : Relations) (table : TableState) (key : NoticeKey) (pairs : List Cached) → AllServe relations table pairs → key.change ≡ table.number → IfSome (found key pairs) (IsFresh relations table key)
found_fresh relations table key pairs serve now = by (found key pairs) (found_holds (Serves relations table) key pairs serve)
  where
    by : (o : Option (List Difference)) → IfSome o (Serves relations table key) → IfSome o (IsFresh relations table key)
    by None s = tt
    by (Some entries) s = s.fresh now

-- behind a change nobody asks for what was told before it
pub serve_fed : (relations : Relations) (old new : TableState) (pairs : List Cached) → new.number ≡ old.number + 1 → new.next_file ≡ old.next_file → AllServe relations old pairs → AllServe relations new pairs
serve_fed relations old new pairs more next =
    each_more (λ pair. Serves relations old pair.0 pair.1) (λ pair. Serves relations new pair.0 pair.1)
    (λ pair s.
    let given = s.given in
    let few = s.change in
    record {
      given = (let w : pair.0.file.0 < new.next_file = omega (arith, given, next) in w);
      change = (let w : pair.0.change ≤ new.number = omega (arith, few, more) in w);
      fresh = λ same. absurd (let bad : ⊥ = omega (arith, few, more, same) in bad);
    }) pairs

-- a file of the number has the rows that it had among the old ones
abbrev pub HasOldRows : TableState → TableState → ℕ → Type 0
HasOldRows old new number =
    (file : KeptFile) → get new.files number ≡ Some file → (was : KeptFile) × (get old.files number ≡ Some was) × (file.content ≡ was.content)

-- files that were there have their rows
pub serve_kept : (relations : Relations) (old new : TableState) (pairs : List Cached) → new.number ≡ old.number → old.next_file ≤ new.next_file → ((number : ℕ) → number < old.next_file → HasOldRows old new number)
    → AllServe relations old pairs → AllServe relations new pairs
serve_kept relations old new pairs number order kept = each_more (λ pair. Serves relations old pair.0 pair.1) (λ pair. Serves relations new pair.0 pair.1) (λ pair. one pair.0 pair.1) pairs
  where
    one : (key : NoticeKey) (entries : List Difference) → Serves relations old key entries → Serves relations new key entries
    one key entries s =
        let given = s.given in
        let few = s.change in
        let below : key.file.0 < new.next_file = omega (arith, given, order) in
        record {
          given = below;
          change = (let w : key.change ≤ new.number = omega (arith, few, number) in w);
          fresh = λ same.
              let f = s.fresh (same ∙ number) in
              record {
                given = below;
                change = same;
                mark = subst (λ n. IfSome key.mark (λ mark. mark ≤ n)) (sym number) f.mark;
                base = λ file at.
                    let was = kept key.file.0 given file at in
                    subst (λ (c : FileState). IfSome key.mark (λ mark. c.base ≤ mark)) (sym was.2) (f.base was.0 was.1);
                told = λ file at.
                    let was = kept key.file.0 given file at in
                    f.told was.0 was.1 ∙ (λ i. entries_of relations (query_by key) (since_mark key.mark (sym was.2 i).rows));
              };
        }

-- fewer files
pub serve_left : (relations : Relations) (old new : TableState) (pairs : List Cached) → AreOf old.files new.files → new.number ≡ old.number → new.next_file ≡ old.next_file → AllServe relations old pairs → AllServe relations new pairs
serve_left relations old new pairs left number next =
    serve_kept relations old new pairs number (let w : old.next_file ≤ new.next_file = omega (arith, next) in w)
    (λ at below file here. let was = left at file here in (was.0, was.1, was.2.1))

-- the expression and the rows of the files that were there behind an install
kept_installed : (expr : Expr) (old new : TableState) (own : ℕ) → IsInstalled expr old new own → (number : ℕ) (file : KeptFile) → number < old.next_file → get new.files number ≡ Some file
    → (was : KeptFile) × (get old.files number ≡ Some was) × ((file.expr ≡ was.expr) × (file.content ≡ was.content))
kept_installed expr old new own done number file below at =
    let was = done.before number file at below in
    elim (cases_eq number own) [
      | inl here ↦
          let there = subst (λ n. get new.files n ≡ Some (record was.0 { uses = was.0.uses + 1 })) (sym here) (done.gains was.0 (subst (λ n. get old.files n ≡ Some was.0) here was.1)) in
          let one : Some file ≡ Some (record was.0 { uses = was.0.uses + 1 }) = sym at ∙ there in
          let is : file ≡ record was.0 { uses = was.0.uses + 1 } = cc in
          (was.0, was.1, (ap (λ (k : KeptFile). k.expr) is, ap (λ (k : KeptFile). k.content) is))
      | inr differs ↦
          let one : Some file ≡ Some was.0 = sym at ∙ done.others number was.0 was.1 differs in
          let is : file ≡ was.0 = cc in
          (was.0, was.1, (ap (λ (k : KeptFile). k.expr) is, ap (λ (k : KeptFile). k.content) is))
    ]

-- more files
module _ (relations : Relations) (expr : Expr) (old new : TableState) (own : ℕ) (done : IsInstalled expr old new own) (order : old.next_file ≤ new.next_file) where
  pub serve_installed : (pairs : List Cached) → AllServe relations old pairs → AllServe relations new pairs
  serve_installed pairs =
      serve_kept relations old new pairs done.same order (λ number below file at. let was = kept_installed expr old new own done number file below at in (was.0, was.1, was.2.1))

  pub of_old_installed : (number : ℕ) → number < old.next_file → IsOfOld old new number
  of_old_installed number below file at = let was = kept_installed expr old new own done number file below at in (was.0, was.1, was.2.0)

-- what grew keeps its pairs, where each file is one of the old ones
pub keeps_grown : (relations : Relations) (old_table table : TableState) (old new : List Cached) → AllServe relations old_table old → ((number : ℕ) → number < old_table.next_file → IsOfOld old_table table number)
    → Grows relations table old new → KeepsPairs relations old_table old table new
keeps_grown relations old_table table old new serve of_old =
    each_more (λ pair. Contains old pair ⊎ IsFresh relations table pair.0 pair.1) (λ pair. IsFresh relations table pair.0 pair.1 ⊎ (Contains old pair × IsOfOld old_table table pair.0.file.0))
    (λ pair c. elim c [
      | inl there ↦ inr (there, of_old pair.0.file.0 (holds_of (λ p. Serves relations old_table p.0 p.1) old pair serve there).given)
      | inr fresh ↦ inl fresh
    ]) new

-- a file is one of its own table
pub of_itself : (table : TableState) (number : ℕ) → IsOfOld table table number
of_itself table number file at = (file, at, refl)

-- what is fresh, where the files tell the sources, is right
module _ (relations : Relations) (history : History) (table : TableState) (contents : AreContents table.files history) (up : AreUpTo (changes history) table.files) (number : table.number ≡ changes history) where
  pub right_fresh : (key : NoticeKey) (entries : List Difference) → IsFresh relations table key entries → IsToldRight relations history table key entries
  right_fresh key entries fresh = record {
    given = fresh.given;
    change = (let now = fresh.change in let w : key.change ≤ changes history = omega (arith, now, number) in w);
    mark = marked;
    told = λ file at. fresh.told file at ∙ by file at key.mark refl marked (fresh.base file at);
  }
    where
      marked : IfSome key.mark (λ mark. mark ≤ changes history)
      marked = subst (λ n. IfSome key.mark (λ mark. mark ≤ n)) number fresh.mark

      last : (file : KeptFile) → get table.files key.file.0 ≡ Some file → IsContent (changes history) file.content.rows (rows_then file.expr history (changes history))
      last file at = contents key.file.0 file (changes history) at (up key.file.0 file at).base (let w : changes history ≤ changes history = omega arith in w)

      by : (file : KeptFile) → get table.files key.file.0 ≡ Some file → (o : Option ℕ) → key.mark ≡ o → IfSome o (λ mark. mark ≤ changes history) → IfSome o (λ mark. file.content.base ≤ mark)
          → entries_of relations (query_by key) (since_mark key.mark file.content.rows) ≡ difference (answers_by relations key (rows_then file.expr history key.change)) (answers_then relations key file.expr history key.mark)
      by file at None e few base =
          (λ i. entries_of relations (query_by key) (since_mark (e i) file.content.rows))
          ∙ all_tell relations (query_by key) (changes history) file.content.rows (rows_then file.expr history (changes history)) (up key.file.0 file at).last (last file at)
          ∙ (λ i. difference (answers_by relations key (rows_then file.expr history (sym (fresh.change ∙ number) i))) (answers_then relations key file.expr history (sym e i)))
      by file at (Some mark) e few base =
          (λ i. entries_of relations (query_by key) (since_mark (e i) file.content.rows))
          ∙ since_tell relations (query_by key) mark (changes history) file.content.rows (rows_then file.expr history mark) (rows_then file.expr history (changes history)) (up key.file.0 file at).last (contents key.file.0 file mark at base few) (last file at)
          ∙ (λ i. difference (answers_by relations key (rows_then file.expr history (sym (fresh.change ∙ number) i))) (answers_then relations key file.expr history (sym e i)))

-- the later history has the earlier one's sources at each of its changes
pub record Goes (earlier later : History) : Type 0 where
  pub more : changes earlier ≤ changes later
  pub same : (number : ℕ) → number ≤ changes earlier → world (sources (up_to number later)) ≡ world (sources (up_to number earlier))

pub goes_not : (history : History) → Goes history history
goes_not history = record { more = (let w : changes history ≤ changes history = omega arith in w); same = λ number few. refl }

pub goes_on : (command : Command) (history : History) → Goes history (command ∷ history)
goes_on command history = record {
  more = (let w : changes history ≤ changes (command ∷ history) = omega arith in w);
  same = λ number few. world_at_mark number command history few;
}

-- what is right stays right, where its file is the one that it was
module _ (relations : Relations) {earlier later : History} (goes : Goes earlier later) (old new : TableState) where
  pub right_later : (key : NoticeKey) (entries : List Difference) → key.file.0 < new.next_file → IsOfOld old new key.file.0 → IsToldRight relations earlier old key entries → IsToldRight relations later new key entries
  right_later key entries given of_old right =
      let few = right.change in
      let more = goes.more in
      record {
        given = given;
        change = (let w : key.change ≤ changes later = omega (arith, few, more) in w);
        mark = marked key.mark right.mark;
        told = λ file at.
            let was = of_old file at in
            right.told was.0 was.1
            ∙ (λ i. difference (answers_by relations key (then_same (sym was.2 i) key.change few i)) (before (sym was.2 i) key.mark right.mark i));
      }
    where
      marked : (o : Option ℕ) → IfSome o (λ mark. mark ≤ changes earlier) → IfSome o (λ mark. mark ≤ changes later)
      marked None few = tt
      marked (Some mark) few = let more = goes.more in let w : mark ≤ changes later = omega (arith, few, more) in w

      then_same : (expr : Expr) (change : ℕ) → change ≤ changes earlier → rows_then expr earlier change ≡ rows_then expr later change
      then_same expr change few = ap (rows_in expr) (sym (goes.same change few))

      before : (expr : Expr) (o : Option ℕ) → IfSome o (λ mark. mark ≤ changes earlier) → answers_then relations key expr earlier o ≡ answers_then relations key expr later o
      before expr None few = refl
      before expr (Some mark) few = ap (answers_by relations key) (then_same expr mark few)

  -- each pair is right
  pub cached_right : (old_pairs pairs : List Cached) → AreContents new.files later → AreUpTo (changes later) new.files → new.number ≡ changes later → AllServe relations new pairs → KeepsPairs relations old old_pairs new pairs
      → AreToldRight relations earlier old old_pairs → AreToldRight relations later new pairs
  cached_right old_pairs [] contents up number serve keeps right = tt
  cached_right old_pairs (pair ∷ pairs) contents up number serve keeps right = (
    elim keeps.0 [
      | inl fresh ↦ right_fresh relations later new contents up number pair.0 pair.1 fresh
      | inr there ↦ right_later pair.0 pair.1 serve.0.given there.1 (holds_of (λ p. IsToldRight relations earlier old p.0 p.1) old_pairs pair right there.0)
    ],
    cached_right old_pairs pairs contents up number serve.1 keeps.1 right,
  )
