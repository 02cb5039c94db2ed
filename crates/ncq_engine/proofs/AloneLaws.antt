-- One subscriber's notices do not depend on the others: what a command does to the subscriptions of a name, apart from their install numbers.
use Rattle.std.proofs.Common.{◌≡◌, ℕ, ◌+◌, ◌<◌, ◌≤◌, Bool, true, false, not, ◌&&◌, ◌||◌, ◌==◌, List, [], ◌∷◌, ◌++◌, map, refl, sym, ◌∙◌, ap, arith, cond, true≢false}
use Rattle.std.specs.Prelude.{Option, Some, None, nat_le, nat_lt, if◌then◌else◌}
use Rattle.std.specs.Option.{unwrap_or, is_some}
use Rattle.std.proofs.lemmas.Bool.Decides.{nat_tests}
use Rattle.std.specs.List.{filter, flat_map, list_any}
use Rattle.std.proofs.lemmas.List.{append-nil}
use Rattle.ncq_base.specs.Keys.{times}
use Rattle.std.specs.Str.{bytes_eq}
use Rattle.ncq_bag.specs.Bags.{difference}
use Rattle.ncq_xmlql.specs.declared.model.Query.{Query}
use Rattle.ncq_xmlql.specs.declared.model.Statement.{Statement}
use Rattle.ncq_script.specs.declared.refusal.Refusal.{Refusal}
use Rattle.ncq_script.specs.declared.refusal.Refusal.TheVariants as refusal
use Rattle.ncq_script.specs.declared.command.Command.{Command}
use Rattle.ncq_script.specs.declared.command.Command.TheVariants.{Declare, Delta, Batch, Create, Delete, Clock, Report, Malformed}
use Rattle.ncq_event.specs.declared.timing.Timing.{Timing}
use Rattle.ncq_event.specs.declared.firing.Firing.{Firing}
use Rattle.ncq_event.specs.Instants.{is_past, is_expired, due}
use Rattle.ncq_engine.specs.History.{History, moved, now, is_delta, is_delta_of, changes, creates, last_change, Source, sources_after, sources, source_in, up_to, Subscription, start_of, created, timing_of, is_named, live}
use Rattle.ncq_engine.specs.Firing.{are_named, sources_of, is_installed, is_new, has_news, is_told_of, marked, mark, fires}
use Rattle.ncq_engine.specs.Notices.{Language, kind_in, rendered, answer_over, answer_at, notice_at, with_new, fired_at, firings}
use Rattle.ncq_engine.specs.Output.{holdings_in, refused_if, sections_refusal, is_at_odds, ends_early, is_taken, first_refusal, with_accepted, after, unless_refused}
use Rattle.std.specs.Option.{option_or}
use Rattle.ncq_engine.specs.Alone.{is_of_another, only, notices_of, notes}
use Rattle.ncq_engine.proofs.Lists.{times_push, times_append, times_filter, none_any, flat_map_append, filter_append, ordered_part}
use Rattle.ncq_engine.proofs.HistoryLaws.{key_is, key_itself, Installed, installed, never, up_to_whole}

-- a subscription with its mark, apart from its install number
pub record Core : Type 0 where
  pub statement : Statement
  pub start : ℕ
  pub mark : Option ℕ

abbrev pub core : History → Subscription → Core
core history s = record { statement = s.statement; start = s.start; mark = mark s history }

-- those of a name
abbrev pub cores_of : List ℕ → History → List Subscription → List Core
cores_of name history [] = []
cores_of name history (s ∷ more) = if is_named name s then core history s ∷ cores_of name history more else cores_of name history more

abbrev pub cores : List ℕ → History → List Core
cores name history = cores_of name history (live history)

abbrev timing_in : Core → Timing
timing_in k = record { start = k.start; every = k.statement.every; expire = k.statement.expire }

abbrev has_news_in : (List ℕ → ℕ) → Option ℕ → Statement → Bool
has_news_in last None statement = true
has_news_in last (Some number) statement = list_any (λ source. nat_lt number (last source)) (sources_of statement)

-- when it fires, from the instant, the last changes and itself
abbrev goes : ℕ → (List ℕ → ℕ) → Command → Core → Option ℕ
goes at last (Delta changed) k = if k.statement.every == 0 && are_named changed (sources_of k.statement) && nat_le k.start at then Some at else None
goes at last (Batch changed) k = if k.statement.every == 0 && are_named changed (sources_of k.statement) && nat_le k.start at then Some at else None
goes at last (Clock instant) k = if has_news_in last k.mark k.statement then due (timing_in k) at instant else None
goes at last command k = None

-- what it is afterwards
abbrev advanced : ℕ → ℕ → (List ℕ → ℕ) → Command → Core → Core
advanced at count last command k = record k { mark = marked (goes at last command k) (cond (is_delta command) 1 0 + count) k.mark }

-- what a create makes
abbrev fresh : ℕ → ℕ → Statement → Core
fresh at count statement = record {
  statement = statement;
  start = start_of statement.start at;
  mark = marked (if start_of statement.start at == at then Some at else None) (0 + count) None;
}

has_news_is : (m : Option ℕ) (statement : Statement) (before : History) → has_news m statement before ≡ has_news_in (λ n. last_change n before) m statement
has_news_is None statement before = refl
has_news_is (Some number) statement before = refl

module _ (s : Subscription) (before : History) (few : s.install ≤ creates before) where
  there : is_installed s before ≡ true
  there = grind (arith, nat_tests)

  goes_is : (command : Command) → fires s before command ≡ goes (now before) (λ n. last_change n before) command (core before s)
  goes_is (Declare name root key) = refl
  goes_is (Delta changed) = λ i. if there i && is_told_of changed s before then Some (now before) else None
  goes_is (Batch changed) = λ i. if there i && is_told_of changed s before then Some (now before) else None
  goes_is (Create statement) =
      let old : is_new s before ≡ false = grind (arith, nat_tests) in
      λ i. if old i && s.start == now before then Some (now before) else None
  goes_is (Delete name) = refl
  goes_is (Clock instant) = λ i. if there i && has_news_is (mark s before) s.statement before i then due (timing_of s) (now before) instant else None
  goes_is Report = refl
  goes_is (Malformed why) = refl

  core_step : (command : Command) → core (command ∷ before) s ≡ advanced (now before) (changes before) (λ n. last_change n before) command (core before s)
  core_step command = λ i. record { statement = s.statement; start = s.start; mark = marked (goes_is command i) (changes (command ∷ before)) (mark s before) }

-- the one that a create makes
core_new : (statement : Statement) (before : History) → core (Create statement ∷ before) (created statement before) ≡ fresh (now before) (changes before) statement
core_new statement before =
    let s = created statement before in
    let none : mark s before ≡ None = never s before (let e : creates before < creates before + 1 = omega arith in e) in
    let new : is_new s before ≡ true = grind (arith, nat_tests) in
    λ i. record {
      statement = statement;
      start = start_of statement.start (now before);
      mark = marked (if new i && start_of statement.start (now before) == now before then Some (now before) else None) (0 + changes before) (none i);
    }

module _ (name : List ℕ) where
  cores_append : (history : History) (xs ys : List Subscription) → cores_of name history (xs ++ ys) ≡ cores_of name history xs ++ cores_of name history ys
  cores_append history [] ys = refl
  cores_append history (s ∷ xs) ys =
      elim (is_named name s) as (λ t. (if t then core history s ∷ cores_of name history (xs ++ ys) else cores_of name history (xs ++ ys)) ≡ (if t then core history s ∷ cores_of name history xs else cores_of name history xs) ++ cores_of name history ys) [
        | true ↦ ap (λ r. core history s ∷ r) (cores_append history xs ys)
        | false ↦ cores_append history xs ys
      ]

  module _ (before : History) (command : Command) where
    abbrev step_all : List Core → List Core
    step_all ks = map (advanced (now before) (changes before) (λ n. last_change n before) command) ks

    cores_step : (xs : List Subscription) → Installed before xs → cores_of name (command ∷ before) xs ≡ step_all (cores_of name before xs)
    cores_step [] h = refl
    cores_step (s ∷ xs) h =
        elim (is_named name s) as (λ t. (if t then core (command ∷ before) s ∷ cores_of name (command ∷ before) xs else cores_of name (command ∷ before) xs) ≡ step_all (if t then core before s ∷ cores_of name before xs else cores_of name before xs)) [
          | true ↦ λ i. core_step s before h.0 command i ∷ cores_step xs h.1 i
          | false ↦ cores_step xs h.1
        ]

  module _ (history : History) (keep : Subscription → Bool) (keep' : Core → Bool) where
    filter_both : (s : Subscription) (xs : List Subscription) (n t : Bool) → is_named name s ≡ n → keep' (core history s) ≡ t → cores_of name history (filter keep xs) ≡ filter keep' (cores_of name history xs)
        → cores_of name history (cond t (s ∷ filter keep xs) (filter keep xs)) ≡ filter keep' (if n then core history s ∷ cores_of name history xs else cores_of name history xs)
    filter_both s xs true true p q rest =
        (λ i. if p i then core history s ∷ cores_of name history (filter keep xs) else cores_of name history (filter keep xs))
        ∙ (λ i. core history s ∷ rest i)
        ∙ sym (λ i. cond (q i) (core history s ∷ filter keep' (cores_of name history xs)) (filter keep' (cores_of name history xs)))
    filter_both s xs true false p q rest = rest ∙ sym (λ i. cond (q i) (core history s ∷ filter keep' (cores_of name history xs)) (filter keep' (cores_of name history xs)))
    filter_both s xs false true p q rest = (λ i. if p i then core history s ∷ cores_of name history (filter keep xs) else cores_of name history (filter keep xs)) ∙ rest
    filter_both s xs false false p q rest = rest

    cores_filter : ((s : Subscription) → keep s ≡ keep' (core history s)) → (xs : List Subscription) → cores_of name history (filter keep xs) ≡ filter keep' (cores_of name history xs)
    cores_filter agree [] = refl
    cores_filter agree (s ∷ xs) =
        (λ i. cores_of name history (cond (agree s i) (s ∷ filter keep xs) (filter keep xs)))
        ∙ filter_both s xs (is_named name s) (keep' (core history s)) refl refl (cores_filter agree xs)

  -- the subscriptions of the name behind a command
  abbrev stepped : ℕ → ℕ → (List ℕ → ℕ) → Command → List Core → List Core
  stepped at count last (Create statement) ks = map (advanced at count last (Create statement)) ks ++ (if bytes_eq name statement.name then fresh at count statement ∷ [] else [])
  stepped at count last (Delete other) ks = filter (λ k. not (bytes_eq other k.statement.name)) (map (advanced at count last (Delete other)) ks)
  stepped at count last (Clock instant) ks = filter (λ k. not (is_past k.statement.expire instant)) (map (advanced at count last (Clock instant)) ks)
  stepped at count last command ks = map (advanced at count last command) ks

  cores_are_stepped : (command : Command) (before : History) → cores name (command ∷ before) ≡ stepped (now before) (changes before) (λ n. last_change n before) command (cores name before)
  cores_are_stepped (Declare other root key) before = cores_step before (Declare other root key) (live before) (installed before)
  cores_are_stepped (Delta changed) before = cores_step before (Delta changed) (live before) (installed before)
  cores_are_stepped (Batch changed) before = cores_step before (Batch changed) (live before) (installed before)
  cores_are_stepped (Create statement) before =
      cores_append (Create statement ∷ before) (live before) (created statement before ∷ [])
      ∙ (λ i. cores_step before (Create statement) (live before) (installed before) i
      ++ (if bytes_eq name statement.name then core_new statement before i ∷ [] else []))
  cores_are_stepped (Delete other) before =
      cores_filter (Delete other ∷ before) (λ s. not (is_named other s)) (λ k. not (bytes_eq other k.statement.name)) (λ s. refl) (live before)
      ∙ ap (filter (λ k. not (bytes_eq other k.statement.name))) (cores_step before (Delete other) (live before) (installed before))
  cores_are_stepped (Clock instant) before =
      cores_filter (Clock instant ∷ before) (λ s. not (is_expired (timing_of s) instant)) (λ k. not (is_past k.statement.expire instant)) (λ s. refl) (live before)
      ∙ ap (filter (λ k. not (is_past k.statement.expire instant))) (cores_step before (Clock instant) (live before) (installed before))
  cores_are_stepped Report before = cores_step before Report (live before) (installed before)
  cores_are_stepped (Malformed why) before = cores_step before (Malformed why) (live before) (installed before)

  -- commands of another name leave them as they were
  left_alone : (other : List ℕ) → bytes_eq name other ≡ false → (s : Subscription) → is_named name s ≡ true → not (is_named other s) ≡ true
  left_alone other apart s mine =
      elim (is_named other s) as (λ t. is_named other s ≡ t → not t ≡ true) [
        | true ↦ λ p. absurd (true≢false (sym (key_itself name) ∙ ap (bytes_eq name) (key_is name s.statement.name mine ∙ sym (key_is other s.statement.name p)) ∙ apart))
        | false ↦ λ p. refl
      ] refl

  keeps_ours : (history : History) (other : List ℕ) → bytes_eq name other ≡ false → (xs : List Subscription) → cores_of name history (filter (λ s. not (is_named other s)) xs) ≡ cores_of name history xs
  keeps_ours history other apart [] = refl
  keeps_ours history other apart (s ∷ xs) =
      let rest = keeps_ours history other apart xs in
      let F = filter (λ (s : Subscription). not (is_named other s)) xs in
      elim (is_named name s) as (λ t. is_named name s ≡ t → cores_of name history (cond (not (is_named other s)) (s ∷ F) F) ≡ (if t then core history s ∷ cores_of name history xs else cores_of name history xs)) [
        | true ↦ λ p.
            (λ i. cores_of name history (cond (left_alone other apart s p i) (s ∷ F) F))
            ∙ (λ i. if p i then core history s ∷ rest i else rest i)
        | false ↦ λ p.
            elim (not (is_named other s)) as (λ t. cores_of name history (cond t (s ∷ F) F) ≡ cores_of name history xs) [
              | true ↦ (λ i. if p i then core history s ∷ cores_of name history F else cores_of name history F) ∙ rest
              | false ↦ rest
            ]
      ] refl

  map_itself : (ks : List Core) (f : Core → Core) → ((k : Core) → f k ≡ k) → map f ks ≡ ks
  map_itself [] f e = refl
  map_itself (k ∷ ks) f e = λ i. e k i ∷ map_itself ks f e i

  ours_after_create : (statement : Statement) (before : History) → bytes_eq name statement.name ≡ false → cores name (Create statement ∷ before) ≡ cores name before
  ours_after_create statement before apart =
      cores_are_stepped (Create statement) before
      ∙ (λ i. map_itself (cores name before) (advanced (now before) (changes before) (λ n. last_change n before) (Create statement)) (λ k. refl) i
      ++ (if apart i then fresh (now before) (changes before) statement ∷ [] else []))
      ∙ append-nil (cores name before)

  ours_after_delete : (other : List ℕ) (before : History) → bytes_eq name other ≡ false → cores name (Delete other ∷ before) ≡ cores name before
  ours_after_delete other before apart =
      keeps_ours (Delete other ∷ before) other apart (live before)
      ∙ cores_step before (Delete other) (live before) (installed before)
      ∙ map_itself (cores name before) (advanced (now before) (changes before) (λ n. last_change n before) (Delete other)) (λ k. refl)

  -- two histories that a subscriber of this name cannot tell apart
  pub record Alike (h h' : History) : Type 0 where
    pub now_is : now h ≡ now h'
    pub changes_are : changes h ≡ changes h'
    pub lasts : (n : List ℕ) → last_change n h ≡ last_change n h'
    pub sources_are : sources h ≡ sources h'
    pub older : (n : ℕ) → sources (up_to n h) ≡ sources (up_to n h')
    pub cores_are : cores name h ≡ cores name h'
    pub once : times (is_named name) (live h) ≤ 1
    pub once' : times (is_named name) (live h') ≤ 1

  abbrev is_filled : List Core → Bool
  is_filled [] = false
  is_filled (k ∷ ks) = true

  taken_is : (history : History) (xs : List Subscription) → list_any (is_named name) xs ≡ is_filled (cores_of name history xs)
  taken_is history [] = refl
  taken_is history (s ∷ xs) =
      elim (is_named name s) as (λ t. (t || list_any (is_named name) xs) ≡ is_filled (if t then core history s ∷ cores_of name history xs else cores_of name history xs)) [
        | true ↦ refl
        | false ↦ taken_is history xs
      ]

  pick : (ha hb ha' hb' : History) (t : Bool) → sources ha ≡ sources ha' → sources hb ≡ sources hb' → sources (if t then ha else hb) ≡ sources (if t then ha' else hb')
  pick ha hb ha' hb' true e f = e
  pick ha hb ha' hb' false e f = f

  module _ (language : Language) where
    not_taken : (statement : Statement) (h : History) → first_refusal language h (Create statement) ≡ None → is_taken statement.name h ≡ false
    not_taken statement h ok =
        elim (is_taken statement.name h) as (λ t. option_or (refused_if t refusal.NameTaken) (option_or (language.binding statement.query (sources h)) (option_or (refused_if (is_at_odds (kind_in statement.action language.handlers) statement.argument) refusal.Action) (refused_if (ends_early statement (now h)) refusal.Times))) ≡ None → t ≡ false) [
          | true ↦ λ e. cc
          | false ↦ λ e. refl
        ] ok

    -- at most one live subscription has the name
    once_new : (statement : Statement) (h : History) → times (is_named name) (live h) ≤ 1 → first_refusal language h (Create statement) ≡ None → times (is_named name) (live h ++ created statement h ∷ []) ≤ 1
    once_new statement h once ok =
        let e = times_push (is_named name) (live h) (created statement h) in
        elim (bytes_eq name statement.name) as (λ t. bytes_eq name statement.name ≡ t → times (is_named name) (live h ++ created statement h ∷ []) ≤ 1) [
          | true ↦ λ p.
              let free : is_taken name h ≡ false = ap (λ n. is_taken n h) (key_is name statement.name p) ∙ not_taken statement h ok in
              let none : times (is_named name) (live h) ≡ 0 = none_any (is_named name) (live h) free in
              let one : cond {A = ℕ} (bytes_eq name statement.name) 1 0 ≡ 1 = ap (λ (t : Bool). cond {A = ℕ} t 1 0) p in
              omega (arith, e)
          | false ↦ λ p.
              let zero : cond {A = ℕ} (bytes_eq name statement.name) 1 0 ≡ 0 = ap (λ (t : Bool). cond {A = ℕ} t 1 0) p in
              omega (arith, e)
        ] refl

    once_after : (command : Command) (h : History) → times (is_named name) (live h) ≤ 1 → first_refusal language h command ≡ None → times (is_named name) (live (command ∷ h)) ≤ 1
    once_after (Declare other root key) h once ok = once
    once_after (Delta changed) h once ok = once
    once_after (Batch changed) h once ok = once
    once_after (Create statement) h once ok = once_new statement h once ok
    once_after (Delete other) h once ok = let e = times_filter (is_named name) (λ s. not (is_named other s)) (live h) in omega arith
    once_after (Clock instant) h once ok = let e = times_filter (is_named name) (λ s. not (is_expired (timing_of s) instant)) (live h) in omega arith
    once_after Report h once ok = once
    once_after (Malformed why) h once ok = once

    once_asked : (command : Command) (h : History) → times (is_named name) (live h) ≤ 1 → first_refusal language h command ≡ None → times (is_named name) (with_new command h (live h)) ≤ 1
    once_asked (Declare other root key) h once ok = once
    once_asked (Delta changed) h once ok = once
    once_asked (Batch changed) h once ok = once
    once_asked (Create statement) h once ok = once_new statement h once ok
    once_asked (Delete other) h once ok = once
    once_asked (Clock instant) h once ok = once
    once_asked Report h once ok = once
    once_asked (Malformed why) h once ok = once

    -- what a subscription is told, from itself, the sources now and those at each change
    abbrev answer_in : (ℕ → List Source) → Query → Option ℕ → List (List ℕ)
    answer_in older query None = []
    answer_in older query (Some number) = answer_over language query (older number)

    abbrev tells : (ℕ → List Source) → List Source → Core → Option ℕ → List ℕ
    tells older here k None = []
    tells older here k (Some instant) =
        rendered (kind_in k.statement.action language.handlers) (unwrap_or k.statement.argument []) k.statement.name instant
        (difference (answer_over language k.statement.query here) (answer_in older k.statement.query k.mark))

    answer_is : (query : Query) (h : History) (m : Option ℕ) → answer_at language query h m ≡ answer_in (λ n. sources (up_to n h)) query m
    answer_is query h None = refl
    answer_is query h (Some number) = refl

    module _ (h : History) (command : Command) where
      abbrev ours : Firing × Subscription → Bool
      ours fired = is_named name fired.1

      abbrev told_text : List (Firing × Subscription) → List ℕ
      told_text all = flat_map (notice_at language h command) (filter ours all)

      told_append : (xs ys : List (Firing × Subscription)) → told_text (xs ++ ys) ≡ told_text xs ++ told_text ys
      told_append xs ys = ap (flat_map (notice_at language h command)) (filter_append ours xs ys) ∙ flat_map_append (notice_at language h command) (filter ours xs) (filter ours ys)

      one_is : (s : Subscription) (o : Option ℕ) → told_text (fired_at s o) ≡ (if is_named name s then tells (λ n. sources (up_to n h)) (sources (command ∷ h)) (core h s) o else [])
      one_is s None = elim (is_named name s) as (λ t. ◌≡◌ {A = List ℕ} [] (if t then [] else [])) [ true ↦ refl | false ↦ refl ]
      one_is s (Some instant) =
          let fired : Firing × Subscription = (record { instant = instant; install = s.install }, s) in
          elim (is_named name s) as (λ t. flat_map (notice_at language h command) (cond t (fired ∷ []) []) ≡ (if t then tells (λ n. sources (up_to n h)) (sources (command ∷ h)) (core h s) (Some instant) else [])) [
            | true ↦
                append-nil (notice_at language h command fired)
                ∙ (λ i. rendered (kind_in s.statement.action language.handlers) (unwrap_or s.statement.argument []) s.statement.name instant
                (difference (answer_over language s.statement.query (sources (command ∷ h))) (answer_is s.statement.query h (mark s h) i)))
            | false ↦ refl
          ]

      abbrev fired_of : List Subscription → List (Firing × Subscription)
      fired_of xs = flat_map (λ s. fired_at s (fires s h command)) xs

      abbrev tells_of : Core → List ℕ
      tells_of k = tells (λ n. sources (up_to n h)) (sources (command ∷ h)) k (goes (now h) (λ n. last_change n h) command k)

      told_cores : (xs : List Subscription) → Installed h xs → told_text (fired_of xs) ≡ flat_map tells_of (cores_of name h xs)
      told_cores [] few = refl
      told_cores (s ∷ xs) few =
          let first : told_text (fired_at s (fires s h command)) ≡ (if is_named name s then tells_of (core h s) else []) =
          one_is s (fires s h command)
          ∙ (λ i. if is_named name s then tells (λ n. sources (up_to n h)) (sources (command ∷ h)) (core h s) (goes_is s h few.0 command i) else []) in
          told_append (fired_at s (fires s h command)) (fired_of xs)
          ∙ (λ i. first i ++ told_cores xs few.1 i)
          ∙ elim (is_named name s) as (λ t. (if t then tells_of (core h s) else []) ++ flat_map tells_of (cores_of name h xs) ≡ flat_map tells_of (if t then core h s ∷ cores_of name h xs else cores_of name h xs)) [ true ↦ refl | false ↦ refl ]

      few_one : (s : Subscription) (o : Option ℕ) → times ours (fired_at s o) ≤ cond (is_named name s) 1 0
      few_one s None = omega arith
      few_one s (Some instant) = omega arith

      few_fired : (xs : List Subscription) → times ours (fired_of xs) ≤ times (is_named name) xs
      few_fired [] = omega arith
      few_fired (s ∷ xs) =
          let e = few_one s (fires s h command) in
          let f = few_fired xs in
          let g = times_append ours (fired_at s (fires s h command)) (fired_of xs) in
          omega arith

      notes_are : times (is_named name) (with_new command h (live h)) ≤ 1 → notices_of language name h command ≡ told_text (fired_of (with_new command h (live h)))
      notes_are once =
          let few = few_fired (with_new command h (live h)) in
          ap (flat_map (notice_at language h command)) (ordered_part (λ (fired : Firing × Subscription). fired.0) ours (firings h command) (omega arith))

    -- what a create tells
    abbrev told_new : (ℕ → List Source) → List Source → ℕ → Statement → List ℕ
    told_new older here at statement = tells older here (record { statement = statement; start = start_of statement.start at; mark = None }) (if start_of statement.start at == at then Some at else None)

    new_is : (statement : Statement) (h : History) → told_text h (Create statement) (fired_of h (Create statement) (created statement h ∷ []))
        ≡ (if bytes_eq name statement.name then told_new (λ n. sources (up_to n h)) (sources h) (now h) statement else [])
    new_is statement h =
        let s = created statement h in
        let none : mark s h ≡ None = never s h (let e : creates h < creates h + 1 = omega arith in e) in
        let new : is_new s h ≡ true = grind (arith, nat_tests) in
        ap (told_text h (Create statement)) (append-nil (fired_at s (fires s h (Create statement))))
        ∙ one_is h (Create statement) s (fires s h (Create statement))
        ∙ (λ i. if bytes_eq name statement.name then tells (λ n. sources (up_to n h)) (sources h) (record { statement = statement; start = start_of statement.start (now h); mark = none i }) (if new i && start_of statement.start (now h) == now h then Some (now h) else None) else [])

    tells_of_create : (statement : Statement) (h : History) (ks : List Core) → flat_map (tells_of h (Create statement)) ks ≡ []
    tells_of_create statement h [] = refl
    tells_of_create statement h (k ∷ ks) = tells_of_create statement h ks

    -- the notices of the name, from what two histories have in common
    abbrev told_in : ℕ → (List ℕ → ℕ) → (ℕ → List Source) → List Source → Command → List Core → List ℕ
    told_in at last older here (Create statement) ks = if bytes_eq name statement.name then told_new older here at statement else []
    told_in at last older here command ks = flat_map (λ k. tells older (sources_after command here) k (goes at last command k)) ks

    told_is : (command : Command) (h : History) → told_text h command (fired_of h command (with_new command h (live h))) ≡ told_in (now h) (λ n. last_change n h) (λ n. sources (up_to n h)) (sources h) command (cores name h)
    told_is (Declare other root key) h = told_cores h (Declare other root key) (live h) (installed h)
    told_is (Delta changed) h = told_cores h (Delta changed) (live h) (installed h)
    told_is (Batch changed) h = told_cores h (Batch changed) (live h) (installed h)
    told_is (Create statement) h =
        ap (told_text h (Create statement)) (flat_map_append (λ s. fired_at s (fires s h (Create statement))) (live h) (created statement h ∷ []))
        ∙ told_append h (Create statement) (fired_of h (Create statement) (live h)) (fired_of h (Create statement) (created statement h ∷ []))
        ∙ (λ i. (told_cores h (Create statement) (live h) (installed h) ∙ tells_of_create statement h (cores name h)) i ++ new_is statement h i)
    told_is (Delete other) h = told_cores h (Delete other) (live h) (installed h)
    told_is (Clock instant) h = told_cores h (Clock instant) (live h) (installed h)
    told_is Report h = told_cores h Report (live h) (installed h)
    told_is (Malformed why) h = told_cores h (Malformed why) (live h) (installed h)

    module _ (h h' : History) (alike : Alike h h') where
      taken_agrees : is_taken name h ≡ is_taken name h'
      taken_agrees = taken_is h (live h) ∙ ap is_filled alike.cores_are ∙ sym (taken_is h' (live h'))

      taken_at : (other : List ℕ) → not (bytes_eq name other) ≡ false → is_taken other h ≡ is_taken other h'
      taken_at other mine =
          let same : name ≡ other = key_is name other (elim (bytes_eq name other) as (λ t. not t ≡ false → t ≡ true) [ true ↦ λ e. refl | false ↦ λ e. cc ] mine) in
          ap (λ n. is_taken n h) (sym same) ∙ taken_agrees ∙ ap (λ n. is_taken n h') same

      refusal_agrees : (command : Command) → is_of_another name command ≡ false → first_refusal language h command ≡ first_refusal language h' command
      refusal_agrees (Declare other root key) mine = ap (λ s. refused_if (is_some (source_in other s)) refusal.SourceExists) alike.sources_are
      refusal_agrees (Delta changed) mine = ap (λ ss. sections_refusal changed (holdings_in ss)) alike.sources_are
      refusal_agrees (Batch changed) mine = ap (λ ss. sections_refusal changed (holdings_in ss)) alike.sources_are
      refusal_agrees (Create statement) mine = λ i.
          option_or (refused_if (taken_at statement.name mine i) refusal.NameTaken)
          (option_or (language.binding statement.query (alike.sources_are i))
          (option_or (refused_if (is_at_odds (kind_in statement.action language.handlers) statement.argument) refusal.Action)
          (refused_if (ends_early statement (alike.now_is i)) refusal.Times)))
      refusal_agrees (Delete other) mine = ap (λ t. refused_if (not t) refusal.NoName) (taken_at other mine)
      refusal_agrees (Clock instant) mine = ap (λ n. refused_if (nat_lt instant n) refusal.Clock) alike.now_is
      refusal_agrees Report mine = refl
      refusal_agrees (Malformed why) mine = refl

      older_step : (command : Command) (n : ℕ) → sources (up_to n (command ∷ h)) ≡ sources (up_to n (command ∷ h'))
      older_step command n =
          (λ i. sources (if nat_le (cond (is_delta command) 1 0 + alike.changes_are i) n then command ∷ h else up_to n h))
          ∙ pick (command ∷ h) (up_to n h) (command ∷ h') (up_to n h') (nat_le (changes (command ∷ h')) n) (ap (sources_after command) alike.sources_are) (alike.older n)

      both : (command : Command) → first_refusal language h command ≡ None → first_refusal language h' command ≡ None → Alike (command ∷ h) (command ∷ h')
      both command ok ok' = record {
        now_is = ap (moved command) alike.now_is;
        changes_are = ap (λ n. cond (is_delta command) 1 0 + n) alike.changes_are;
        lasts = λ n i. if is_delta_of n command then cond (is_delta command) 1 0 + alike.changes_are i else alike.lasts n i;
        sources_are = ap (sources_after command) alike.sources_are;
        older = older_step command;
        cores_are = cores_are_stepped command h ∙ (λ i. stepped (alike.now_is i) (alike.changes_are i) (λ n. alike.lasts n i) command (alike.cores_are i)) ∙ sym (cores_are_stepped command h');
        once = once_after command h alike.once ok;
        once' = once_after command h' alike.once' ok';
      }

      notices_agree : (command : Command) → first_refusal language h command ≡ None → first_refusal language h' command ≡ None → notices_of language name h command ≡ notices_of language name h' command
      notices_agree command ok ok' =
          notes_are h command (once_asked command h alike.once ok)
          ∙ told_is command h
          ∙ (λ i. told_in (alike.now_is i) (λ n. alike.lasts n i) (λ n. alike.older n i) (alike.sources_are i) command (alike.cores_are i))
          ∙ sym (told_is command h')
          ∙ sym (notes_are h' command (once_asked command h' alike.once' ok'))

      -- a history that only others have
      older_dropped : (command : Command) → sources (command ∷ h) ≡ sources h → changes (command ∷ h) ≡ changes h → (n : ℕ) → sources (up_to n (command ∷ h)) ≡ sources (up_to n h')
      older_dropped command e f n =
          (λ i. sources (if nat_le (f i) n then command ∷ h else up_to n h))
          ∙ elim (nat_le (changes h) n) as (λ t. nat_le (changes h) n ≡ t → sources (if t then command ∷ h else up_to n h) ≡ sources (up_to n h)) [
            | true ↦ λ p. e ∙ sym (ap sources (up_to_whole n h p))
            | false ↦ λ p. refl
          ] refl
          ∙ alike.older n

      dropped_create : (statement : Statement) → bytes_eq name statement.name ≡ false → Alike (Create statement ∷ h) h'
      dropped_create statement apart =
          let none : cond {A = ℕ} (bytes_eq name statement.name) 1 0 ≡ 0 = ap (λ (t : Bool). cond {A = ℕ} t 1 0) apart in
          let e = times_push (is_named name) (live h) (created statement h) in
          let f : changes (Create statement ∷ h) ≡ changes h = omega arith in
          let once = alike.once in record {
            now_is = alike.now_is;
            changes_are = f ∙ alike.changes_are;
            lasts = alike.lasts;
            sources_are = alike.sources_are;
            older = older_dropped (Create statement) refl f;
            cores_are = ours_after_create statement h apart ∙ alike.cores_are;
            once = omega (arith, e);
            once' = alike.once';
          }

      dropped_delete : (other : List ℕ) → bytes_eq name other ≡ false → Alike (Delete other ∷ h) h'
      dropped_delete other apart =
          let e = times_filter (is_named name) (λ s. not (is_named other s)) (live h) in
          let f : changes (Delete other ∷ h) ≡ changes h = omega arith in
          let once = alike.once in record {
            now_is = alike.now_is;
            changes_are = f ∙ alike.changes_are;
            lasts = alike.lasts;
            sources_are = alike.sources_are;
            older = older_dropped (Delete other) refl f;
            cores_are = ours_after_delete other h apart ∙ alike.cores_are;
            once = omega (arith, e);
            once' = alike.once';
          }

      apart_of : (other : List ℕ) → not (bytes_eq name other) ≡ true → bytes_eq name other ≡ false
      apart_of other e = elim (bytes_eq name other) as (λ t. not t ≡ true → t ≡ false) [ true ↦ λ x. cc | false ↦ λ x. refl ] e

      dropped : (command : Command) → is_of_another name command ≡ true → Alike (command ∷ h) h'
      dropped (Declare other root key) e = cc
      dropped (Delta changed) e = cc
      dropped (Batch changed) e = cc
      dropped (Create statement) e = dropped_create statement (apart_of statement.name e)
      dropped (Delete other) e = dropped_delete other (apart_of other e)
      dropped (Clock instant) e = cc
      dropped Report e = cc
      dropped (Malformed why) e = cc

      tells_of_delete : (other : List ℕ) (ks : List Core) → flat_map (λ k. tells (λ n. sources (up_to n h)) (sources h) k (goes (now h) (λ n. last_change n h) (Delete other) k)) ks ≡ []
      tells_of_delete other [] = refl
      tells_of_delete other (k ∷ ks) = tells_of_delete other ks

      quiet : (command : Command) → is_of_another name command ≡ true → first_refusal language h command ≡ None → notices_of language name h command ≡ []
      quiet (Declare other root key) e ok = cc
      quiet (Delta changed) e ok = cc
      quiet (Batch changed) e ok = cc
      quiet (Create statement) e ok =
          notes_are h (Create statement) (once_asked (Create statement) h alike.once ok)
          ∙ told_is (Create statement) h
          ∙ (λ i. if apart_of statement.name e i then told_new (λ n. sources (up_to n h)) (sources h) (now h) statement else [])
      quiet (Delete other) e ok = notes_are h (Delete other) (once_asked (Delete other) h alike.once ok) ∙ told_is (Delete other) h ∙ tells_of_delete other (cores name h)
      quiet (Clock instant) e ok = cc
      quiet Report e ok = cc
      quiet (Malformed why) e ok = cc

    abbrev rest_of : History → Command → List Command → Option Refusal → List ℕ
    rest_of h command more r = unless_refused [] r (notices_of language name h command) ++ notes language name (with_accepted h command r) more

    pub alone : (commands : List Command) (h h' : History) → Alike h h' → notes language name h commands ≡ notes language name h' (only name commands)
    unfolding after
    alone [] h h' alike = refl
    alone (command ∷ more) h h' alike =
        elim (is_of_another name command) as (λ t. is_of_another name command ≡ t → rest_of h command more (first_refusal language h command) ≡ notes language name h' (cond (not t) (command ∷ only name more) (only name more))) [
          | true ↦ λ e.
              elim (first_refusal language h command) as (λ r. first_refusal language h command ≡ r → rest_of h command more r ≡ notes language name h' (only name more)) [
                | None ↦ λ ok. λ i. quiet h h' alike command e ok i ++ alone more (command ∷ h) h' (dropped h h' alike command e) i
                | Some why ↦ λ ok. alone more h h' alike
              ] refl
          | false ↦ λ e.
              let agree = refusal_agrees h h' alike command e in
              elim (first_refusal language h command) as (λ r. first_refusal language h command ≡ r → rest_of h command more r ≡ rest_of h' command (only name more) r) [
                | None ↦ λ ok. λ i. notices_agree h h' alike command ok (sym agree ∙ ok) i ++ alone more (command ∷ h) (command ∷ h') (both h h' alike command ok (sym agree ∙ ok)) i
                | Some why ↦ λ ok. alone more h h' alike
              ] refl
              ∙ ap (rest_of h' command (only name more)) agree
        ] refl

-- at the start nothing tells two histories apart
pub start : (name : List ℕ) → Alike name [] []
start name = record { now_is = refl; changes_are = refl; lasts = λ n. refl; sources_are = refl; older = λ n. refl; cores_are = refl; once = omega arith; once' = omega arith }

pub stands_alone : (language : Language) (name : List ℕ) (commands : List Command)
    → notes language name [] commands ≡ notes language name [] (only name commands)
stands_alone language name commands = alone name language commands [] [] (start name)
