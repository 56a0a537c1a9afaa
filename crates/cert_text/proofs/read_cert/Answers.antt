use Rattle.std.proofs.Common.{◌∙◌, ap, inr, arith}
use Rattle.std.proofs.lemmas.Result.{err_from_is_err_and}
use Rattle.cert_text.specs.Words.{lines_of}
use Rattle.cert_text.specs.Reading.{read_from, read_of}
use Rattle.cert_text.proofs.ReadSteps.{fault-whole, next-whole, end-whole}
use Rattle.cert_text.proofs.Definite.{read_definite}
use Rattle.cert_text.proofs.read_cert.Goals as goal

pub loop-words-init : goal.loop-words-init
unfolding read_of
loop-words-init c = record {
  reads = ap (λ r. read_from c.args.keys 1 r (lines_of c.args.text.now)) c.new-reading.ensures;
  counts = omega arith;
}

pub returns-in_err-reading-clause-read : goal.returns-in_err-reading-clause-read
returns-in_err-reading-clause-read c =
    let p = err_from_is_err_and c.from_residual.result c.from_residual.ensures.1 in
    rw (p.1, p.2) (fault-whole _ _ _ _ c.loop-words.rest.now _ c.in-Some.after.now _ c.loop-words.invariant.reads c.in-Some.ensures.some c.in_err-reading.ensures)

pub returns-in_err-reading-clause-definite : goal.returns-in_err-reading-clause-definite
returns-in_err-reading-clause-definite c = read_definite c.args.keys c.args.text.now

pub loop-words-preserved : goal.loop-words-preserved
loop-words-preserved c = record {
  reads = next-whole _ _ _ _ c.loop-words.rest.now _ c.in-Some.after.now _ c.loop-words.invariant.reads c.in-Some.ensures.some c.in_ok-reading.ensures;
  counts = omega (arith, c.loop-words.invariant.counts, c.in-Some.ensures.shorter);
}

pub returns-clause-read : goal.returns-clause-read
returns-clause-read c = inr (c.end.ensures ∙ end-whole _ _ _ c.loop-words.rest.now _ c.loop-words.invariant.reads c.in_default.ensures.none)

pub returns-clause-definite : goal.returns-clause-definite
returns-clause-definite c = read_definite c.args.keys c.args.text.now
