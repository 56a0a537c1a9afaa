use Rattle.std.proofs.Common.{◌≡◌, map, take}
use Rattle.trace_check.specs.Reading.{with_replies}
use Rattle.trace_check.proofs.reading.replies.with_replies.Given as goal

abbrev pub invariant-loop-call : goal.invariant-loop-call
invariant-loop-call l = l.entries.items ≡ map (with_replies l.lines) (take l.call-index l.calls)
