use Rattle.std.proofs.Common.{◌≡◌, Err, rules}
use Rattle.bench_commands.specs.declared.refusal.BenchRefusal.TheVariants as refusal
use Rattle.bench_commands.proofs.Runs.{few_taken, is_history}
use Rattle.bench_commands.proofs.Performing.{bench_done, bench_unwritten}
use Rattle.bench_commands.proofs.bench.perform.Goals as goal

pub texts_of-requires-clause-few : goal.texts_of-requires-clause-few
texts_of-requires-clause-few g c κs within =
    let run = c.in_ok-recording.ensures.run in
    few_taken c.args.bench.now.settings c.in_ok-recording.recording.entries c.in_ok-recording.recording.journals c.requires.bench.settings run.recorded

pub texts_of-requires-clause-reads : goal.texts_of-requires-clause-reads
texts_of-requires-clause-reads g c κs within =
    let run = c.in_ok-recording.ensures.run in
    is_history c.args.bench.now.settings c.in_ok-recording.recording.entries c.in_ok-recording.recording.journals c.requires.bench.settings run.recorded run.once run.few

pub returns-in_err-written-clause-performs : goal.returns-in_err-written-clause-performs
returns-in_err-written-clause-performs g c =
    let is : c.from_residual-in_err-written.result ≡ Err refusal.WriteFailed = search rules in
    rw is (record {
      done = tt;
      refused = bench_unwritten c.args.bench.now c.requires.bench.settings c.args.crew.now c.record.new.crew c.in_ok-recording.recording c.in_ok-recording.ensures.run
          c.in_ok-texts.texts c.in_ok-texts.ensures (g.S.Shelf.shown c.args.shelf.now) (g.S.Shelf.shown c.write_texts-written.new.shelf) (g.O.Sink.shown c.args.out.now)
          (g.O.Sink.shown c.write_texts-written.new.out) c.in_err-written.ensures.refused;
    })

pub returns-clause-performs : goal.returns-clause-performs
returns-clause-performs g c = record {
  done = bench_done c.args.bench.now c.requires.bench.settings c.args.crew.now c.record.new.crew c.in_ok-recording.recording c.in_ok-recording.ensures.run c.in_ok-texts.texts
      c.in_ok-texts.ensures (g.S.Shelf.shown c.args.shelf.now) (g.S.Shelf.shown c.write_texts-written.new.shelf) (g.O.Sink.shown c.args.out.now)
      (g.O.Sink.shown c.write_texts-written.new.out) c.in_ok-written.ensures.ok;
  refused = tt;
}
