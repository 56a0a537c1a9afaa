use Rattle.std.proofs.Common.{◌≡◌, ◌≤◌, ◌<◌, ◌^◌, length, true, rules, arith}
use Rattle.std.specs.Result.{is_ok}
use Rattle.audit_commands.proofs.Taking.{byte_a_turn, taken_more}
use Rattle.audit_commands.proofs.input.take_file.Goals as goal

pub loop-turn-preserved : goal.loop-turn-preserved
loop-turn-preserved g c =
    let good : is_ok c.extend_from_slice.result ≡ true = search rules in
    let same = c.reserve.ensures.items in
    let items = rw (good, same) at c.extend_from_slice.ensures.items in
    let before = c.loop-turn.invariant in
    let count = c.in_ok-count.count in
    let some : 0 < count = omega arith in
    let within : count ≤ length c.read.new.into = search rules in
    let short : length c.extend_from_slice.new.self.items ≤ c.args.limit = search rules in
    let small : length c.loop-turn.bytes.items < 2 ^ 32 = omega (arith, before.short, c.requires.limit) in
    let ok = rw c.in_ok-count.was at c.read.ensures.ok in
    let counts = rw c.in_ok-count.was at c.read.ensures.counts in
    record {
      turns = rw items (byte_a_turn c.loop-turn.bytes.items c.read.new.into c.loop-turn.turn count before.turns within some);
      short = short;
      taken = rw items (taken_more c.args.name.now c.loop-turn.bytes.items c.read.new.into (g.S.Shelf.shown c.args.shelf.now) (g.S.Shelf.shown c.loop-turn.shelf) (g.S.Shelf.shown c.read.new.self) count small (search rules) before.taken c.read.ensures.keeps c.read.ensures.writing counts ok);
    }
