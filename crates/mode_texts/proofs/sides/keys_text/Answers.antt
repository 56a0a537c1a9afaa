use Rattle.std.specs.String.{string_bytes}
use Rattle.mode_texts.specs.SidesTexts.{IsSidesVerdict, sides_key_text, g_of}
use Rattle.mode_texts.proofs.Written.{next_written}
use Rattle.mode_texts.proofs.sides.keys_text.Goals as goal

pub loop-key-preserved : goal.loop-key-preserved
loop-key-preserved c =
    next_written IsSidesVerdict sides_key_text g_of c.args.keys.now c.loop-key.key-index c.key-item.result (string_bytes c.loop-key.text) (string_bytes c.write_key.new.text)
    c.loop-key.totals c.write_key.new.totals c.loop-key-test.true c.key-item.is c.loop-key.invariant c.in_ok-write_key.ensures
