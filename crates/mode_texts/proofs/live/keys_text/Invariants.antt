-- The lines of the keys so far, few of each.
use Rattle.std.proofs.Common.{◌≤◌, ◌*◌, take}
use Rattle.std.specs.String.{string_bytes}
use Rattle.mode_texts.specs.LiveSteps.{IsLiveWritten}
use Rattle.mode_texts.proofs.live.keys_text.Given as goal

abbrev pub invariant-loop-key : goal.invariant-loop-key
invariant-loop-key l = record {
  written : IsLiveWritten (take l.key-index l.keys) (string_bytes l.text) l.count;
  few : l.count ≤ 1000001 * l.key-index;
}
