use Rattle.std.proofs.Common.{◌≡◌, ◌≤◌, ◌*◌, drop, map}
use Rattle.std.specs.Fmt.{decimal}
use Rattle.std.specs.List.{join_with_byte}
use Rattle.stale_model.specs.Texts.{semicolon}
use Rattle.history_csv.proofs.recorded.tickets_text.Given as goal

abbrev pub invariant-loop-place : goal.invariant-loop-place
invariant-loop-place l = record {
  written : drop l.start l.text ≡ join_with_byte semicolon (map (λ t. decimal t.serve) (drop l.place l.taken));
  room : 21 * l.place ≤ l.start;
  within : l.start ≤ 147;
}
