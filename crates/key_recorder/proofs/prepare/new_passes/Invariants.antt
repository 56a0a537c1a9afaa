-- The passes of the clients so far.
use Rattle.std.proofs.Common.{◌≡◌, ◌<◌, ℕ, [], false, slice_index_or, vec_len}
use Rattle.key_recorder.specs.Recorders.{PassView}
use Rattle.key_recorder.proofs.prepare.new_passes.Given as goal

abbrev pub invariant-loop-client : goal.invariant-loop-client
invariant-loop-client l = record {
  many : vec_len l.passes ≡ l.client;
  each : (c : ℕ) (p : PassView) → c < l.client → slice_index_or l.passes.items c p ≡ record { client = c; lanes = []; closed = false };
}
