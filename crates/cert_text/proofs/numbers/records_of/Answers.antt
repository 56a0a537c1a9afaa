use Rattle.std.proofs.Common.{rules}
use Rattle.cert_text.proofs.Places.{take-all}
use Rattle.cert_text.proofs.numbers.records_of.Goals as goal

pub returns : goal.returns
returns c = search (rules, take-all)
