use Rattle.std.proofs.Common.{◌≡◌, true}
use Rattle.post_box.proofs.tests.take_rest.Given as goal

abbrev pub invariant-loop : goal.invariant-loop
invariant-loop g l = (l.whole.box ≡ l.fn.whole.box) × (l.whole.taken ≡ l.letters.items) × (l.whole.takes ≡ true) × (l.whole.gathered ≡ l.fn.whole.gathered) × (l.whole.numbers ≡ l.fn.whole.numbers) × (l.whole.sent ≡ l.fn.whole.sent)
