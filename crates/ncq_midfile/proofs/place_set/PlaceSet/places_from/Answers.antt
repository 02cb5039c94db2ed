use Rattle.std.proofs.Common.{◌++◌, ◌∷◌, [], List, ℕ, cond, nat_le, ap, ◌∙◌}
use Rattle.std.specs.List.{filter}
use Rattle.std.proofs.lemmas.Iterator.Consumers.{YieldsList-from_rest, YieldsList-from_copied}
use Rattle.std.proofs.lemmas.Iterator.Adapters.{items_from_extend}
use Rattle.ncq_midfile.proofs.SpotLaws.{AreFrom, is_later, from_one, from_two, from_few, from_many}
use Rattle.ncq_midfile.proofs.place_set.PlaceSet.places_from.Goals as goal
use Rattle.ncq_midfile.proofs.place_set.PlaceSet.places_from.Goals.{in-One+in_ok-push_from-in-One, in-Two+in_ok-push_two-in-Two, in-Few+in_ok-extend_from_slice-in-Few, in-Many+in_ok-extend-in-Many}

are : (c : goal.After-from_vec) → AreFrom c.args.self.now c.args.from c.from_vec.result
are c =
    elim c.match-self.branch [
      | in-One+in_ok-push_from-in-One w ↦
          let all = c.from_vec.ensures ∙ ap (λ v. v.items) w.places-is ∙ w.in_ok-push_from-in-One.ensures ∙ ap (λ (ks : List ℕ). ks ++ cond (nat_le c.args.from w.in-One.only) (w.in-One.only ∷ []) []) c.new-places.ensures.items in
          from_one c.args.self.now w.in-One.only c.args.from c.from_vec.result w.in-One.is all
      | in-Two+in_ok-push_two-in-Two w ↦
          let all = c.from_vec.ensures ∙ ap (λ v. v.items) w.places-is in
          from_two c.args.self.now w.in-Two.one w.in-Two.other c.args.from w.push_two.new.places.items c.from_vec.result w.in-Two.is all w.in_ok-push_two-in-Two.ensures.rising w.in_ok-push_two-in-Two.ensures.same
      | in-Few+in_ok-extend_from_slice-in-Few w ↦
          let all = c.from_vec.ensures ∙ ap (λ v. v.items) w.places-is ∙ w.in_ok-extend_from_slice-in-Few.ensures.items ∙ ap (λ (ks : List ℕ). ks ++ w.later.result.now) c.new-places.ensures.items in
          from_few c.args.self.now w.in-Few.few c.args.from w.later.result.now c.from_vec.result w.in-Few.is all w.later.ensures.rising w.later.ensures.same
      | in-Many+in_ok-extend-in-Many w ↦
          let those = filter (is_later c.args.from) w.in-Many.all.keys in
          let extended = items_from_extend w.extend.result w.extend.ensures.ran (YieldsList-from_copied (YieldsList-from_rest those (w.copied.ensures.source ∙ w.range.ensures.between tt))) in
          let got = rw w.in_ok-extend-in-Many.was at extended in
          let all = c.from_vec.ensures ∙ ap (λ v. v.items) w.places-is ∙ got.0 ∙ ap (λ (ks : List ℕ). ks ++ those) c.new-places.ensures.items in
          from_many c.args.self.now w.in-Many.all c.args.from c.from_vec.result w.in-Many.is all w.range.ensures.ordered
    ]

pub returns-clause-rising : goal.returns-clause-rising
returns-clause-rising c = (are c).rising

pub returns-clause-same : goal.returns-clause-same
returns-clause-same c = (are c).same
