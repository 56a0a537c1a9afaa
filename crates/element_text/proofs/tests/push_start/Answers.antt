use Rattle.std.proofs.Common.{rules, append_assoc}
use Rattle.std.proofs.lemmas.List.{append-nil}
use Rattle.element_text.proofs.tests.push_start.Goals as goal

pub returns : goal.returns
returns c = search (rules, append_assoc, append-nil)
