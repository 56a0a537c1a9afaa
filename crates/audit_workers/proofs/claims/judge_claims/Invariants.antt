use Rattle.std.proofs.Common.{◌≡◌, ◌+◌, ◌≤◌, ◌<◌, ◌++◌, length}
use Rattle.stale_model.specs.PrintedVerdicts.{IsPrintedVerdict}
use Rattle.audit_workers.specs.Claims.{AreClaims, keys_of}
use Rattle.audit_workers.proofs.claims.judge_claims.Given as goal

abbrev pub invariant-loop-turn : goal.invariant-loop-turn
invariant-loop-turn g l = record {
  count : l.keys ≡ length l.history.keys;
  own : l.seat.clock ≡ l.fn.seat.clock;
  drawn : l.seat.drawn ≡ l.fn.seat.drawn ++ keys_of l.claims.items;
  left : l.seat.left + l._turn ≡ l.fn.seat.left;
  many : length l.claims.items ≡ l._turn;
  are : AreClaims IsPrintedVerdict l.history.keys l.claims.items;
  seen : l.fn.seat.seen ≤ l.seat.seen;
  rising : 0 < l._turn → l._turn + 1 ≤ l.seat.seen;
  within : 0 < l._turn → l.seat.seen ≤ l.keys + 1;
}
