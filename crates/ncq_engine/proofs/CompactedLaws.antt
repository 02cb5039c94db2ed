-- An engine one of whose files was compacted: it stands as it stood.
use Rattle.std.proofs.Common.{◌≡◌, ◌≢◌, ℕ, ◌*◌, ◌≤◌, [], sym, ◌∙◌, ap, subst, arith, inl, inr}
use Rattle.std.specs.Prelude.{Some, IfSome}
use Rattle.std.specs.FinMap.{get, insert}
use Rattle.std.proofs.lemmas.Bool.{cases_eq}
use Rattle.ncq_book.specs.declared.subscription.Subscription.{Subscription as Kept}
use Rattle.ncq_change.specs.Stores.{world_in}
use Rattle.ncq_group.specs.Tables.{TableState}
use Rattle.ncq_midfile.specs.Content.{IsContent, IsSoundAt}
use Rattle.ncq_plan.specs.declared.expr.Expr.{Expr}
use Rattle.ncq_plan.specs.Exprs.{World, rows_in}
use Rattle.ncq_shelf.specs.Contents.{Fits, IsCompacted}
use Rattle.ncq_shelf.specs.KeptFiles.{KeptFile}
use Rattle.ncq_shelf.proofs.CallerLemmas.{one_value, put_other, put_same}
use Rattle.ncq_engine.specs.Compactions.{HasBase, least_of}
use Rattle.ncq_engine.specs.Engines.{AreSound, CanTell, mark_in}
use Rattle.ncq_engine.specs.History.{History, sources, up_to, world}
use Rattle.ncq_engine.specs.Stands.{AreContents, EngineState, Follows}
use Rattle.ncq_engine.proofs.InvariantLaws.{Invariant, none_serve}
use Rattle.ncq_engine.proofs.LeastLaws.{IsUnder, least_few, least_under}
use Rattle.ncq_engine.proofs.Lists.{each_both}
use Rattle.ncq_engine.proofs.Sounds.{sound_stays}
use Rattle.ncq_engine.proofs.TableLaws.{fits_sound}

-- the file of a number was compacted to the least mark, and the others are as they were
module _ (e : EngineState) (number : ℕ) (file next : KeptFile) (table : TableState) (at : get e.table.files number ≡ Some file) (put : table.files ≡ insert e.table.files number next)
    (done : IsCompacted (least_of e number) file next) (base : file.content.base ≤ least_of e number) (same : table.number ≡ e.table.number) (next_file : table.next_file ≡ e.table.next_file) where
  abbrev least : ℕ
  least = least_of e number

  here : get table.files number ≡ Some next
  here = ap (λ files. get files number) put ∙ put_same e.table.files number next

  pub others : (other : ℕ) → other ≢ number → get table.files other ≡ get e.table.files other
  others other differs = ap (λ files. get files other) put ∙ put_other e.table.files number next other differs

  pub has_base : HasBase table.files number (least_of e number)
  has_base = record { file = next; at = here; base = done.base }

  fits : (w : World) → least ≤ e.table.number → Fits e.table.number w e.table.files → Fits table.number w table.files
  fits w early held other kept there = subst (λ n. IsContent n kept.content.rows (rows_in kept.expr w)) (sym same) (elim (cases_eq other number) [
    | inl is ↦
        let one : kept ≡ next = one_value (subst (λ n. get table.files n ≡ Some kept) is there) here in
        subst (λ (k : KeptFile). IsContent e.table.number k.content.rows (rows_in k.expr w)) (sym one)
        (subst (λ (x : Expr). IsContent e.table.number next.content.rows (rows_in x w)) (sym done.expr)
        (done.stays e.table.number (rows_in file.expr w) early (held number file at)))
    | inr differs ↦ held other kept (sym (others other differs) ∙ there)
  ])

  can_still : (w : World) → Fits table.number w table.files → (m : Kept) → CanTell e.handed e.store e.table m → IsUnder e.store number least m → CanTell e.handed e.store table m
  can_still w fits_now m can under = elim (cases_eq m.file.0 number) [
    | inl is ↦
        let one : can.file ≡ file = one_value (subst (λ n. get e.table.files n ≡ Some can.file) is can.at) at in
        let there : get table.files m.file.0 ≡ Some next = subst (λ n. get table.files n ≡ Some next) (sym is) here in
        record {
          formed = can.formed;
          action = can.action;
          file = next;
          at = there;
          own = done.expr ∙ ap (λ (k : KeptFile). k.expr) (sym one) ∙ can.own;
          sound = fits_sound table.number w table.files fits_now m.file.0 next there;
          base = subst (λ b. IfSome (mark_in e.store m) (λ mark. b ≤ mark)) (sym done.base) (under is);
          mark = subst (λ n. IfSome (mark_in e.store m) (λ mark. mark ≤ n)) (sym same) can.mark;
          asked = can.asked;
        }
    | inr differs ↦
        let there : get table.files m.file.0 ≡ Some can.file = others m.file.0 differs ∙ can.at in
        record {
          formed = can.formed;
          action = can.action;
          file = can.file;
          at = there;
          own = can.own;
          sound = fits_sound table.number w table.files fits_now m.file.0 can.file there;
          base = can.base;
          mark = subst (λ n. IfSome (mark_in e.store m) (λ mark. mark ≤ n)) (sym same) can.mark;
          asked = can.asked;
        }
  ]

  sounds : AreSound e.table.files → AreSound table.files
  sounds held other kept there n low = elim (cases_eq other number) [
    | inl is ↦
        let one : kept ≡ next = one_value (subst (λ m. get table.files m ≡ Some kept) is there) here in
        let from : least ≤ n = subst (λ b. b ≤ n) (ap (λ (k : KeptFile). k.content.base) one ∙ done.base) low in
        subst (λ (k : KeptFile). IsSoundAt n k.content.rows) (sym one)
        (sound_stays n file.content.rows next.content.rows (λ list. done.stays n list from) (held number file at n (let l : file.content.base ≤ n = omega (arith, base, from) in l)))
    | inr differs ↦ held other kept (sym (others other differs) ∙ there) n low
  ]

  pub invariant_compacted : e.cache ≡ [] → Invariant e → Invariant (record e { table = table })
  invariant_compacted nothing i =
      let few = least_few e.store number e.subscriptions in
      let now = i.number in
      let fits_now = fits (world_in e.store) (let l : least ≤ e.table.number = omega (arith, few, now) in l) i.fits in
      record {
        changes = i.changes;
        creates_too = i.creates_too;
        lasts = i.lasts;
        can = each_both (CanTell e.handed e.store e.table) (IsUnder e.store number least) (CanTell e.handed e.store table) (can_still (world_in e.store) fits_now) e.subscriptions i.can (least_under e.store number e.subscriptions);
        rise = i.rise;
        installed = i.installed;
        number = same ∙ i.number;
        fits = fits_now;
        sound = sounds i.sound;
        next = (let n = i.next in let l : table.next_file ≤ 256 * e.creates = omega (arith, n, next_file) in l);
        serve = none_serve e.handed.relations table e.cache nothing;
        counts = i.counts;
      }

  contents : (h : History) → AreContents e.table.files h → AreContents table.files h
  contents h held other kept change there low high = elim (cases_eq other number) [
    | inl is ↦
        let one : kept ≡ next = one_value (subst (λ n. get table.files n ≡ Some kept) is there) here in
        let from : least ≤ change = subst (λ b. b ≤ change) (ap (λ (k : KeptFile). k.content.base) one ∙ done.base) low in
        let w : World = world (sources (up_to change h)) in
        subst (λ (k : KeptFile). IsContent change k.content.rows (rows_in k.expr w)) (sym one)
        (subst (λ (x : Expr). IsContent change next.content.rows (rows_in x w)) (sym done.expr)
        (done.stays change (rows_in file.expr w) from (held number file change at (let l : file.content.base ≤ change = omega (arith, base, from) in l) high)))
    | inr differs ↦ held other kept change (sym (others other differs) ∙ there) low high
  ]

  pub follows_compacted : (h : History) → Follows e h → Follows (record e { table = table }) h
  follows_compacted h s = record {
    sources = s.sources;
    last = s.last;
    changes = s.changes;
    clock = s.clock;
    creates = s.creates;
    subscriptions = s.subscriptions;
    contents = contents h s.contents;
    counted = s.counted;
    rising = s.rising;
  }
