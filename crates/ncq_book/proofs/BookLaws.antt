-- A book with one subscription more, one less and one noted: with what it keeps, its questions.
use Rattle.std.proofs.Common.{◌≡◌, ℕ, ◌<◌, ◌≤◌, false, not, List, [], ◌∷◌, ◌++◌, map, refl, sym, ◌∙◌, ap, cond, subst}
use Rattle.std.specs.Prelude.{Some, None}
use Rattle.std.specs.List.{filter, list_any, AllByRecursion}
use Rattle.std.specs.Map.{lookup, remove_entry, set_value}
use Rattle.std.specs.BTreeMap.{is_at, insert_entry}
use Rattle.std.specs.Ordering.{nat_cmp}
use Rattle.ncq_strategy.specs.Numbers.{live_with}
use Rattle.ncq_book.specs.declared.finders.Finders.{Finders}
use Rattle.ncq_book.specs.declared.listed.Listed.{Listed}
use Rattle.ncq_book.specs.declared.subscription.Subscription.{Subscription}
use Rattle.ncq_book.specs.Books.{is_named, is_of, subscriptions_of, with_note, AskByQuestion}
use Rattle.ncq_book.specs.Kept.{Placed, subscriptions_in, FindsAlike, IsEnrolled, IsStruck}
use Rattle.ncq_book.specs.Questions.{Asked, Questions, asked_by, placed_in, standing_at, Stands, AreQuestions, AsksLike, IsBook}
use Rattle.ncq_book.proofs.SubscriptionLaws.{get_is, keys_below}
use Rattle.ncq_book.proofs.KeptLaws.{kept_alike, put, put_back, put_shown, taken, taken_counted, taken_shown}
use Rattle.ncq_book.proofs.NoteLaws.{noted_kept}
use Rattle.ncq_book.proofs.NoteLaws as note
use Rattle.ncq_book.proofs.QuestionLaws.{StandsSomewhere, above_placed, ask_listed, each_asked, found_placed, insert_placed, listed_subscriptions, questions_less, questions_more, questions_noted, remove_placed, set_placed, standing_are, standing_there, subscription}

module _ (asked : Questions) (finders : Finders) (book : IsBook asked finders) where
  abbrev subscriptions : List Subscription
  subscriptions = subscriptions_in (placed_in asked)

  pub found_as_before : (new : Finders) → FindsAlike finders new → IsBook asked new
  found_as_before new same = record { kept = kept_alike (placed_in asked) subscriptions finders new book.kept same; questions = book.questions }

  -- one above all has a number above each
  pub above_each : (i : ℕ) → AllByRecursion (λ n. n.install < i) subscriptions → AllByRecursion (λ (e : ℕ × Asked). e.0 < i) asked
  above_each i above = above_placed i asked (subst (AllByRecursion (λ (p : Placed). p.0 < i)) (sym book.kept.numbered) (keys_below (λ m. m) i subscriptions above))

  -- what a list gives
  module _ (installs : List ℕ) (list : List Listed) (is : map asked_by list ≡ standing_at asked installs) where
    pub listed_are : map (λ l. l.subscription.now) list ≡ subscriptions_of installs (subscriptions_in (placed_in asked))
    listed_are = listed_subscriptions list ∙ ap (map subscription) is ∙ standing_are asked subscriptions (λ i. get_is (placed_in asked) subscriptions i book.kept.numbered) installs

    pub ask_by_question : AskByQuestion list
    ask_by_question =
        let there = each_asked (StandsSomewhere asked) list (subst (AllByRecursion (StandsSomewhere asked)) (sym is) (standing_there asked installs)) in
        ask_listed asked book.questions list list there there

  -- one less
  module _ (i : ℕ) where
    pub less_counted : (held : Asked) → Stands asked i held → 1 ≤ live_with finders.strategy held.subscription.bare
    less_counted held there =
        taken_counted (placed_in asked) (remove_entry (is_at (nat_cmp i)) (placed_in asked)) finders book.kept i refl held.subscription (sym (found_placed i asked (Some held) (sym there)))

    module _ (after : Questions) (less : after ≡ remove_entry (is_at (nat_cmp i)) asked) where
      less_placed : placed_in after ≡ remove_entry (is_at (nat_cmp i)) (placed_in asked)
      less_placed = ap placed_in less ∙ remove_placed i asked

      pub less_shown : subscriptions_in (placed_in after) ≡ filter (λ n. not (is_of i n)) (subscriptions_in (placed_in asked))
      less_shown = taken_shown (placed_in asked) (placed_in after) finders book.kept i less_placed

      pub less_book : ((q : ℕ) → lookup (is_at (nat_cmp q)) after ≡ cond (is_at (nat_cmp i) q) None (lookup (is_at (nat_cmp q)) asked)) → (new : Finders) (held : Asked) → Stands asked i held → IsStruck held.subscription finders new → IsBook after new
      less_book updates new held there struck = record {
        kept = taken (placed_in asked) (placed_in after) finders book.kept i less_placed new held.subscription (sym (found_placed i asked (Some held) (sym there))) struck;
        questions = questions_less asked after i updates book.questions;
      }

  -- one noted
  module _ (i number : ℕ) where
    pub noted_nobody : lookup (is_at (nat_cmp i)) asked ≡ None → subscriptions_in (placed_in asked) ≡ map (with_note i number) (subscriptions_in (placed_in asked))
    noted_nobody none = note.noted_nobody i number (placed_in asked) finders book.kept (sym (found_placed i asked None (sym none)))

    module _ (after : Questions) (held : Asked) (there : Stands asked i held) (written : after ≡ set_value (is_at (nat_cmp i)) asked (record held { subscription = record held.subscription { noted = Some number } })) where
      abbrev fired : Asked
      fired = record held { subscription = record held.subscription { noted = Some number } }

      noted_placed : placed_in after ≡ set_value (is_at (nat_cmp i)) (placed_in asked) (record held.subscription { noted = Some number })
      noted_placed = ap placed_in written ∙ set_placed i asked fired

      there_placed : lookup (is_at (nat_cmp i)) (placed_in asked) ≡ Some held.subscription
      there_placed = sym (found_placed i asked (Some held) (sym there))

      pub noted_shown : subscriptions_in (placed_in after) ≡ map (with_note i number) (subscriptions_in (placed_in asked))
      noted_shown = note.noted_shown i number (placed_in asked) finders book.kept (placed_in after) held.subscription there_placed noted_placed

      pub noted_book : IsBook after finders
      noted_book = record {
        kept = noted_kept i number (placed_in asked) finders book.kept (placed_in after) held.subscription there_placed noted_placed;
        questions = questions_noted i held fired refl (record { file = refl; template = refl; residual = refl }) asked after there written book.questions;
      }

  -- one more, and without it again
  module _ (mid : Finders) (m : Subscription) (above : AllByRecursion (λ n. n.install < m.install) subscriptions) (free : list_any (is_named m.name) subscriptions ≡ false) (enrolled : IsEnrolled m finders mid) where
    module _ (after : Questions) (question : ℕ) (more : after ≡ insert_entry nat_cmp asked m.install (record { subscription = m; question = question })) where
      more_placed : placed_in after ≡ insert_entry nat_cmp (placed_in asked) m.install m
      more_placed = ap placed_in more ∙ insert_placed m.install asked (record { subscription = m; question = question })

      pub more_shown : subscriptions_in (placed_in after) ≡ subscriptions_in (placed_in asked) ++ m ∷ []
      more_shown = put_shown (placed_in asked) finders mid book.kept m above free enrolled (placed_in after) more_placed

      pub more_book : ((q : ℕ) → lookup (is_at (nat_cmp q)) after ≡ cond (is_at (nat_cmp m.install) q) (Some (record { subscription = m; question = question })) (lookup (is_at (nat_cmp q)) asked))
          → AsksLike asked question m → question ≤ m.install → IsBook after mid
      more_book updates like up = record {
        kept = put (placed_in asked) finders mid book.kept m above free enrolled (placed_in after) more_placed;
        questions = questions_more asked after m.install (record { subscription = m; question = question }) updates book.questions like up;
      }

    pub back_book : (after : Questions) (new : Finders) → IsStruck m mid new → after ≡ asked → IsBook after new
    back_book after new struck same = record {
      kept = put_back (placed_in asked) finders mid book.kept m above free enrolled (placed_in after) new struck (ap placed_in same);
      questions = subst (λ (qs : Questions). AreQuestions qs) (sym same) book.questions;
    }
