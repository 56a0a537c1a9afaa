use Rattle.std.proofs.Common.{◌≡◌, ap}
use Rattle.stale_model.specs.declared.Op.{Op}
use Rattle.stale_model.specs.Operations.{operations}
use Rattle.cert_checker.proofs.Lookups.{of_record, one_of_record}
use Rattle.cert_checker.proofs.Written.{written}
use Rattle.cert_checker.proofs.refutations.written_value.Goals as goal

pub returns-in_err-found : goal.returns-in_err-found
returns-in_err-found c = rw c.from_residual.ensures (λ w is write. c.in_err-found.ensures w is)

pub returns-in-Write : goal.returns-in-Write
returns-in-Write c =
    let found = c.in_ok-found.found in
    written (operations c.args.key.now) c.args.rec found.op (of_record (operations c.args.key.now) c.args.rec found c.in_ok-found.ensures) c.in-Write.is

pub returns-in-Read : goal.returns-in-Read
returns-in-Read c = λ w is write.
    let found = c.in_ok-found.found in
    let same : w ≡ found.op = one_of_record c.args.key.now c.requires c.args.rec found w c.in_ok-found.ensures is in
    let read = c.in-Read.is in
    let kind = ap (λ (x : Op). x.kind) same in
    absurd (cc)
