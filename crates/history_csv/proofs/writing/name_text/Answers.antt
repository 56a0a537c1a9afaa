use Rattle.std.proofs.Common.{◌≡◌, ◌+◌, ◌-◌, arith, rules, append-nil, drop, take, take_all, length-drop, refl, set}
use Rattle.std.proofs.lemmas.Fmt.{length-decimal-le}
use Rattle.std.proofs.lemmas.List.{drop-set, length-set, drop_all}
use Rattle.history_csv.proofs.writing.name_text.Goals as goal

pub write_digits-start-requires : goal.write_digits-start-requires
write_digits-start-requires c = (omega (arith, length-decimal-le 10 c.from.result (omega arith) (omega arith) (omega arith)), search rules)

pub overflow_sub-start : goal.overflow_sub-start
overflow_sub-start c = omega (arith, length-decimal-le 10 c.from.result (omega arith) (omega arith) (omega arith))

pub returns : goal.returns
returns c =
    let w = c.write_digits-start in
    let short = length-decimal-le 10 c.from.result (omega arith) (omega arith) (omega arith) in
    let behind : w.result - 1 + 1 ≡ w.result = omega arith in
    let written = set w.new.buf (w.result - 1) c.args.letter in
    let whole : take (11 - (w.result - 1)) (drop (w.result - 1) written) ≡ drop (w.result - 1) written
    = take_all (11 - (w.result - 1)) (drop (w.result - 1) written) (omega (arith, length-drop (w.result - 1) written, length-set w.new.buf (w.result - 1) c.args.letter)) in
    rw (whole, drop-set w.new.buf (w.result - 1) c.args.letter (omega arith), behind, w.ensures.written, drop_all 11 c.args.text.now (omega arith), append-nil, c.from.ensures) refl
