use Rattle.std.proofs.Common.{◌≡◌, rules}
use Rattle.bench_commands.proofs.Runs.{run_of}
use Rattle.bench_commands.proofs.recording.record.Goals as goal

pub returns-clause-run : goal.returns-clause-run
returns-clause-run g c =
    let out = c.in_ok-logs.ensures in
    let logs : c.into_vec.result.items ≡ c.in_ok-logs.field-0.logs = search rules in
    run_of c.args.settings.now c.in_ok-prepared.prepared c.in_ok-logs.field-0 c.in_ok-entries.entries c.args.crew.now c.drive.new.crew c.in_ok-prepared.ensures.settings
    c.in_ok-prepared.ensures.plan out.recorded (rw logs at c.in_ok-entries.ensures) out.begun
