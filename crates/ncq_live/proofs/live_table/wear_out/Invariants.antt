use Rattle.std.proofs.Common.{◌≡◌, take}
use Rattle.ncq_live.proofs.WearLaws.{AreNoted, NeverFall}
use Rattle.ncq_live.proofs.live_table.wear_out.Given as goal

-- no number fell, of the files so far it is noted how many rows went out, and as many are pinned
abbrev pub invariant-loop-file : goal.invariant-loop-file
invariant-loop-file l = record {
  more : NeverFall l.initial.wear.bounds l.wear.bounds;
  noted : AreNoted l.groups.files l.number l.initial.wear.bounds l.wear.bounds (take l.file-index l.fed);
  pinned : l.wear.pinned ≡ l.initial.wear.pinned;
}
