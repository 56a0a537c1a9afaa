use Rattle.std.proofs.Common.{◌≡◌, Err, rules}
use Rattle.staleness_report.specs.Report.{total_line}
use Rattle.audit_commands.specs.declared.refusal.Refusal.TheVariants as refusal
use Rattle.audit_commands.specs.Generated.{IsTrial}
use Rattle.audit_commands.proofs.Generating.{trial_done, trial_unwritten}
use Rattle.audit_commands.proofs.generated.trial.Goals as goal

pub returns-in_err-print : goal.returns-in_err-print
returns-in_err-print g c shelf quiet =
    let is : c.from_residual-in_err-print.result ≡ Err refusal.WriteFailed = search rules in
    let verdicts = c.in_ok-verdicts.ensures in
    let are : IsTrial c.args.workload c.in_ok-history.history c.in_ok-verdicts.verdicts =
    record { reads = c.in_ok-history.ensures.reads; are_verdicts = record { truth = verdicts.truth; shown = verdicts.shown; printed = verdicts.printed } } in
    let line : c.as_slice-2.result.now ≡ total_line c.in_ok-history.history c.in_ok-verdicts.verdicts = search rules in
    rw is (trial_unwritten shelf quiet (g.O.Sink.shown c.args.out.now) (g.O.Sink.shown c.print.new.out) c.args.workload c.args.workers c.in_ok-history.history c.in_ok-verdicts.verdicts are
    (rw line at c.in_err-print.ensures.refused))

pub returns : goal.returns
returns g c shelf quiet =
    let verdicts = c.in_ok-verdicts.ensures in
    let are : IsTrial c.args.workload c.in_ok-history.history c.in_ok-verdicts.verdicts =
    record { reads = c.in_ok-history.ensures.reads; are_verdicts = record { truth = verdicts.truth; shown = verdicts.shown; printed = verdicts.printed } } in
    let line : c.as_slice-2.result.now ≡ total_line c.in_ok-history.history c.in_ok-verdicts.verdicts = search rules in
    trial_done shelf quiet (g.O.Sink.shown c.args.out.now) (g.O.Sink.shown c.print.new.out) c.args.workload c.args.workers c.in_ok-history.history c.in_ok-verdicts.verdicts are
    (rw line at c.in_ok-print.ensures.ok)
