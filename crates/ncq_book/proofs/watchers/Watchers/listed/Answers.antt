use Rattle.std.proofs.Common.{◌≡◌, ◌++◌, ◌∙◌, ◌==◌, ℕ, List, ap, refl, rules, map, get_or, length, arith, ◌≤◌}
use Rattle.std.specs.List.{filter}
use Rattle.std.specs.declared.ops.Bound.TheVariants.{Included}
use Rattle.std.specs.BTreeMap.Range.{range_contains}
use Rattle.std.proofs.lemmas.List.{take_all}
use Rattle.std.proofs.lemmas.Iterator.{YieldsList-from_map}
use Rattle.std.proofs.lemmas.Iterator.Consumers.{YieldsList-from_rest, YieldsList-at}
use Rattle.std.proofs.lemmas.Iterator.Adapters.{items_from_extend}
use Rattle.ncq_book.specs.Watches.{Watch, is_watched}
use Rattle.ncq_book.proofs.WatchLaws.{file_more, file_range, is_within, watch_cmp}
use Rattle.ncq_book.proofs.watchers.Watchers.listed.Goals as goal

pub loop-file-preserved : goal.loop-file-preserved
loop-file-preserved c =
    let watches : List Watch = c.self.inside.watches.keys in
    let file : ℕ = get_or c.args.files.now c.loop-file.file-index 0 in
    let between : c.range-watches.result ≡ filter (is_within file) watches =
    c.range-watches.ensures.between c.new.ensures.exhausted ∙ (λ j. filter (range_contains watch_cmp (Included (c.new.ensures.start j)) (Included (c.new.ensures.end j))) watches) in
    let extended =
    items_from_extend c.extend.result c.extend.ensures.ran
    (YieldsList-from_map _ (λ (w : Watch). w.install) (YieldsList-at c.map.ensures.source (YieldsList-from_rest (filter (is_within file) watches) between)) c.map.ensures.closure (λ x r q k. search rules)) in
    let got = rw c.in_ok-extend.was at extended in
    let those : map (λ (w : Watch). w.install) (filter (is_within file) watches) ≡ map (λ (w : Watch). w.install) (filter (λ w. w.file == file) c.args.self.now) =
    ap (map (λ (w : Watch). w.install)) (file_range file watches c.self.invariant ∙ ap (filter (λ w. w.file == file)) c.self.view_is) in
    file_more c.args.self.now c.args.files.now c.loop-file.installs.items c.extend.new.self.items c.loop-file.file-index file c.loop-file-test.true refl c.loop-file.invariant
    (got.0 ∙ ap (λ (ks : List ℕ). c.loop-file.installs.items ++ ks) those)

pub returns : goal.returns
returns c =
    let past : length c.args.files.now ≤ c.loop-file.file-index = omega (arith, c.loop-file-test.false) in
    λ install.
    c.loop-file.invariant install
    ∙ ap (λ files. is_watched c.args.self.now files install) (take_all c.loop-file.file-index c.args.files.now past)
