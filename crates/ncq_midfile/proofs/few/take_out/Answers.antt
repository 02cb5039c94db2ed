use Rattle.std.proofs.Common.{rules, ◌≡◌, not, nat_eq, subst, sym, ap, ◌∙◌}
use Rattle.std.specs.List.{filter, list_any}
use Rattle.std.proofs.lemmas.Fn.{filter_same}
use Rattle.ncq_midfile.specs.Content.{AreRising}
use Rattle.ncq_midfile.proofs.FewLaws.{rising_filter, any_without}
use Rattle.ncq_midfile.proofs.few.take_out.Goals as goal

left : (c : goal.After-retain) → c.retain.new.self.items ≡ filter (λ x. not (nat_eq x c.args.place)) c.args.places.now.items
left c = filter_same _ (λ x. not (nat_eq x c.args.place)) _ (λ x b f' k. search rules) _ _ c.retain.ensures.filtered

pub returns-clause-rising : goal.returns-clause-rising
returns-clause-rising c = subst (AreRising 0) (sym (left c)) (rising_filter 0 _ _ c.requires)

pub returns-clause-others : goal.returns-clause-others
returns-clause-others c = λ q. ap (list_any (nat_eq q)) (left c) ∙ any_without q c.args.place c.args.places.now.items
