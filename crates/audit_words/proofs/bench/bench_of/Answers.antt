use Rattle.clap.specs.Words.{found_of, rows_of}
use Rattle.audit_words.proofs.Benches.{told}
use Rattle.audit_words.proofs.bench.bench_of.Goals as goal

pub returns-in-Some-clause-within : goal.returns-in-Some-clause-within
returns-in-Some-clause-within c = told c.bench_in.result (rows_of (found_of c.in-Some.matches)) c.bench_in.ensures
