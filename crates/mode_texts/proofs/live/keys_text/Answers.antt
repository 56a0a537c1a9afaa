use Rattle.std.proofs.Common.{arith}
use Rattle.std.specs.String.{string_bytes}
use Rattle.mode_texts.proofs.LiveLines.{next_written}
use Rattle.mode_texts.proofs.live.keys_text.Goals as goal

pub loop-key-preserved : goal.loop-key-preserved
loop-key-preserved c = record {
  written = next_written c.args.keys.now c.loop-key.key-index c.key-item.result (string_bytes c.loop-key.text) (string_bytes c.write_key.new.text) c.loop-key.count c.in_ok-more.more
      c.loop-key-test.true c.key-item.is c.loop-key.invariant.written c.in_ok-more.ensures.written;
  few = let more = c.in_ok-more.ensures.few in let so_far = c.loop-key.invariant.few in omega arith;
}
