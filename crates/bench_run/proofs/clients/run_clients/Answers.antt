-- The clients, from the parts that they need to what they leave.
use Rattle.std.proofs.Common.{◌≡◌, List, length, drop, slice_index_or, sym, ◌∙◌, subst, arith}
use Rattle.key_recorder.specs.Recorders.{IsTold}
use Rattle.bench_run.specs.declared.runner.Runner.{Runner}
use Rattle.bench_run.specs.Closing.{end_of, IsDoneRunner}
use Rattle.bench_run.proofs.EndedClients.{AreFirst, written_over, all_ready, all_drained, all_done, are_called}
use Rattle.bench_run.proofs.clients.run_clients.Goals as goal

pub make_runners-runners-requires-clause-parts : goal.make_runners-runners-requires-clause-parts
make_runners-runners-requires-clause-parts g c = (c.requires.recorder.0, c.args.clock.now, c.requires.recorder.2)

pub run_beside-requires-after_bounds : goal.run_beside-requires-after_bounds
run_beside-requires-after_bounds g c κs within =
    let s = c.args.settings.now in
    let clients = c.args.clients.items in
    let passes = c.args.passes.items in
    let given = c.requires.recorder in
    let runners = c.deref_mut.result.now in
    let firsts = subst (AreFirst s clients passes) (sym c.deref_mut.ensures.value) c.make_runners-runners.ensures.each in
    all_ready s given.0 c.args.clock.now c.args.recorder.now clients passes c.args.logs.now c.requires.limits given.1 given.2 (sym c.args.clients.ok.0 ∙ c.requires.clients) runners
    (c.deref_mut.ensures.len ∙ c.make_runners-runners.ensures.as_many) firsts

pub close_all-requires-clause-logs : goal.close_all-requires-clause-logs
close_all-requires-clause-logs g c =
    let s = c.args.settings.now in
    let clients = c.args.clients.items in
    let passes = c.args.passes.items in
    let given = c.requires.recorder in
    let runners = c.deref_mut.result.now in
    let firsts = subst (AreFirst s clients passes) (sym c.deref_mut.ensures.value) c.make_runners-runners.ensures.each in
    let run = c.run_beside.ensures in
    all_drained s given.0 c.args.clock.now c.args.recorder.now clients passes c.args.logs.now c.requires.limits given.1 given.2 (sym c.args.clients.ok.0 ∙ c.requires.clients) runners
    (c.deref_mut.ensures.len ∙ c.make_runners-runners.ensures.as_many) firsts c.run_beside.new.runners run.as_many_runners run.runners c.run_beside.new.logs run.as_many_logs run.logs

pub close_all-requires-clause-runners : goal.close_all-requires-clause-runners
close_all-requires-clause-runners g c = λ j r less.
    let s = c.args.settings.now in
    let clients = c.args.clients.items in
    let passes = c.args.passes.items in
    let given = c.requires.recorder in
    let runners = c.deref_mut.result.now in
    let firsts = subst (AreFirst s clients passes) (sym c.deref_mut.ensures.value) c.make_runners-runners.ensures.each in
    let run = c.run_beside.ensures in
    let made = c.make_runners-runners.result in
    let ran = c.run_beside.new.runners in
    let same = written_over made.len ran (drop (length ran) made.items) (run.as_many_runners ∙ c.deref_mut.ensures.len) in
    let many = c.make_runners-runners.ensures.as_many in
    subst (λ (rs : List Runner). IsDoneRunner c.run_beside.new.logs (slice_index_or rs j r)) (sym same)
    (all_done s given.0 c.args.clock.now c.args.recorder.now clients passes c.args.logs.now c.requires.limits given.1 given.2 (sym c.args.clients.ok.0 ∙ c.requires.clients) runners
    (c.deref_mut.ensures.len ∙ many) firsts ran run.as_many_runners run.runners c.run_beside.new.logs run.as_many_logs run.logs j r (omega arith))

pub returns : goal.returns
returns g c = λ plan prepared can.
    let s = c.args.settings.now in
    let clients = c.args.clients.items in
    let passes = c.args.passes.items in
    let runners = c.deref_mut.result.now in
    let firsts = subst (AreFirst s clients passes) (sym c.deref_mut.ensures.value) c.make_runners-runners.ensures.each in
    let run = c.run_beside.ensures in
    let made = c.make_runners-runners.result in
    let ran = c.run_beside.new.runners in
    let long : length ran ≡ made.len = run.as_many_runners ∙ c.deref_mut.ensures.len in
    let same = written_over made.len ran (drop (length ran) made.items) long in
    let ends = c.close_all.ensures in
    are_called s plan c.args.clock.now c.args.recorder.now clients passes c.args.logs.now c.requires.limits prepared can (sym c.args.clients.ok.0 ∙ c.requires.clients) runners
    (c.deref_mut.ensures.len ∙ c.make_runners-runners.ensures.as_many) firsts ran run.as_many_runners run.runners c.run_beside.new.logs run.as_many_logs run.logs
    c.close_all.new.logs ends.logs c.close_all.result.items (sym c.close_all.result.ok.0 ∙ (ends.as_many ∙ sym long))
    (λ j r e less. subst (λ (rs : List Runner). slice_index_or c.close_all.result.items j e ≡ end_of (slice_index_or rs j r).client) same (ends.ends j r e (omega arith)))
    (λ j k r d less within. subst (λ (rs : List Runner). IsTold (slice_index_or c.run_beside.new.logs k d) (slice_index_or rs j r).pass) same (ends.told j k r d (omega arith) within))
