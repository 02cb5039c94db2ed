use Rattle.std.proofs.Common.{rules, ◌≡◌, ◌∷◌, ◌++◌, ◌||◌, ◌∙◌, ap, subst, sym}
use Rattle.std.specs.List.{AllByRecursion}
use Rattle.std.specs.Vec.Iter.{into_iter_items}
use Rattle.ncq_readers.specs.Passed.{rows_to}
use Rattle.ncq_feed.specs.Runs.{is_among, news_in}
use Rattle.ncq_feed.specs.Turns.{IsParcelFor, files_of}
use Rattle.ncq_feed.proofs.PendingLaws.{noted_rest}
use Rattle.ncq_feed.proofs.ParcelLaws.{delivered_more}
use Rattle.ncq_feed.proofs.turn.deliver.Goals as goal

pub append-requires : goal.append-requires
append-requires g c =
    let e : into_iter_items c.loop-parcel.parcel-iterator ≡ c.in-Some.parcel ∷ into_iter_items c.next.new.self = search rules in
    let fits = (subst (AllByRecursion (IsParcelFor g.run)) e c.loop-parcel.invariant.left).0 in
    (c.loop-parcel.invariant.under, (fits.there, (fits.own, fits.fits)))

pub loop-parcel-preserved : goal.loop-parcel-preserved
loop-parcel-preserved g c =
    let e : into_iter_items c.loop-parcel.parcel-iterator ≡ c.in-Some.parcel ∷ into_iter_items c.next.new.self = search rules in
    let given = c.in_ok-append.ensures.given in
    record {
      under = c.append.ensures.under;
      left = (subst (AllByRecursion (IsParcelFor g.run)) e c.loop-parcel.invariant.left).1;
      rows = λ number. delivered_more g.run number c.in-Some.parcel (into_iter_items c.next.new.self) c.loop-parcel.shelf c.append.new.shelf _
          (ap (λ xs. news_in g.run.store.changes c.loop-parcel.shelf number ++ rows_to number xs) (sym e) ∙ c.loop-parcel.invariant.rows number) given;
      noted = λ number. noted_rest number c.in-Some.parcel.file.0 (files_of (into_iter_items c.next.new.self)) (files_of c.args.parcels) c.args.pending.now c.loop-parcel.pending c.note.new.self
          (ap (λ xs. is_among number (files_of xs) || is_among number c.loop-parcel.pending) (sym e) ∙ c.loop-parcel.invariant.noted number) (c.in_ok-note.ensures number);
    }
