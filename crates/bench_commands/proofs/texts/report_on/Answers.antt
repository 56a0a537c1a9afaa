use Rattle.std.proofs.Common.{◌≡◌, rules}
use Rattle.bench_commands.proofs.Performing.{report_made}
use Rattle.bench_commands.proofs.texts.report_on.Goals as goal

pub returns : goal.returns
returns g c =
    let verdicts = c.in_ok-verdicts.ensures in
    let same : c.as_slice.result.now ≡ c.in_ok-verdicts.verdicts = search rules in
    report_made c.args.text.now c.in_ok-history.history c.in_ok-verdicts.verdicts c.report-text.result c.in_ok-history.ensures.reads
    (record { truth = verdicts.truth; shown = verdicts.shown; printed = verdicts.printed }) (rw same at c.report-text.ensures)
