-- The run, by what each of its calls tells.
use Rattle.std.proofs.Common.{◌≡◌, ℕ, ◌+◌, ◌<◌, ◌≤◌, List, [], ◌++◌, length, drop, map, slice_index_or, sym, ◌∙◌, ap, subst, arith}
use Rattle.ticket_clock.specs.Seats.{SeatView}
use Rattle.stale_model.specs.declared.store.JournalEntry.{JournalEntry}
use Rattle.bench_run.specs.declared.boxes.NoteBox.{NoteBox}
use Rattle.bench_run.specs.declared.boxes.ReplyBox.{ReplyBox}
use Rattle.bench_run.specs.declared.job.BenchEnd.{BenchEnd}
use Rattle.bench_run.specs.Ends.{AreToldNotes}
use Rattle.bench_run.specs.Ready.{tickets, plan_in}
use Rattle.bench_run.specs.Prepared.{PreparedView}
use Rattle.bench_run.specs.Drive.{IsRecordedOut}
use Rattle.bench_run.proofs.EndedClients.{written_over}
use Rattle.bench_run.proofs.Driven.{can_serve, numbered, can_be_told, clients_can, own_boxes, own_inboxes, client_fits, replica_fits, ends_are, budget_is, recorded_out, no_items}
use Rattle.bench_run.proofs.run.drive.Goals as goal

pub start_all-requires-clause-ready : goal.start_all-requires-clause-ready
start_all-requires-clause-ready g c κs within = λ k r low.
    let p = c.prepared.inside in let ready = c.prepared.invariant in
    can_serve p ready k r (let many = ready.replicas.as_many in let same = p.replicas.ok.0 in omega arith)

pub start_all-requires-clause-numbers : goal.start_all-requires-clause-numbers
start_all-requires-clause-numbers g c κs within = λ k r low.
    let p = c.prepared.inside in let ready = c.prepared.invariant in
    numbered p ready k r (let many = ready.replicas.as_many in let same = p.replicas.ok.0 in omega arith)

pub stop-requires-clause-routes : goal.stop-requires-clause-routes
stop-requires-clause-routes g c κs within = λ k d low.
    let p = c.prepared.inside in let ready = c.prepared.invariant in
    can_be_told p ready k d (let many = ready.clients.as_many in let same = p.clients.ok.0 in omega arith)

pub run_clients-called-requires-clause-recorder : goal.run_clients-called-requires-clause-recorder
run_clients-called-requires-clause-recorder g c κs within =
    let p = c.prepared.inside in
    let can = clients_can p c.prepared.invariant c.deref.result.now c.deref_mut.result.now c.deref.ensures c.deref_mut.ensures.value in
    (plan_in p.clients.items, can.0, can.1)

pub take_in-requires-clause-many_clients : goal.take_in-requires-clause-many_clients
take_in-requires-clause-many_clients g c =
    let p = c.prepared.inside in
    let ready = c.prepared.invariant in
    let can = clients_can p ready c.deref.result.now c.deref_mut.result.now c.deref.ensures c.deref_mut.ensures.value in
    let called = c.run_clients-called.ensures (plan_in p.clients.items) can.0 can.1 in
    c.run_clients-called.result.ok.0 ∙ (called.as_many_ends ∙ (sym ready.boxes.as_many_inboxes ∙ ap (λ (bs : List ReplyBox). length bs) (sym c.deref_mut-2.ensures.value)))

pub take_in-requires-clause-inboxes : goal.take_in-requires-clause-inboxes
take_in-requires-clause-inboxes g c = rw c.deref_mut-2.ensures.value (own_inboxes c.prepared.inside c.prepared.invariant)

pub take_in-requires-clause-boxes : goal.take_in-requires-clause-boxes
take_in-requires-clause-boxes g c = rw c.deref_mut-3.ensures.value (own_boxes c.prepared.inside c.prepared.invariant)

pub take_in-requires-clause-clients : goal.take_in-requires-clause-clients
take_in-requires-clause-clients g c = λ k e b low.
    let p = c.prepared.inside in
    let ready = c.prepared.invariant in
    let can = clients_can p ready c.deref.result.now c.deref_mut.result.now c.deref.ensures c.deref_mut.ensures.value in
    let called = c.run_clients-called.ensures (plan_in p.clients.items) can.0 can.1 in
    let fits = client_fits p ready c.run_clients-called.result.items c.run_clients-called.new.logs called k e b (let same = c.run_clients-called.result.ok.0 in omega arith) in
    rw (c.deref_mut-2.ensures.value, c.deref_mut-3.ensures.value) fits

pub take_in-requires-clause-replicas : goal.take_in-requires-clause-replicas
take_in-requires-clause-replicas g c = λ k e b low.
    let p = c.prepared.inside in
    let ready = c.prepared.invariant in
    let can = clients_can p ready c.deref.result.now c.deref_mut.result.now c.deref.ensures c.deref_mut.ensures.value in
    let called = c.run_clients-called.ensures (plan_in p.clients.items) can.0 can.1 in
    let joined = c.join_all-served in
    let fits = replica_fits p ready c.run_clients-called.result.items c.run_clients-called.new.logs called c.start_all.new.crew.jobs joined.result.items c.in_default.ensures.ok.jobs_are
    (sym joined.result.ok.0 ∙ joined.ensures.as_many) joined.ensures.each k e b (let same = joined.result.ok.0 in omega arith) in
    rw (c.deref_mut-2.ensures.value, c.deref_mut-3.ensures.value) fits

pub returns-clause-recorded : goal.returns-clause-recorded
returns-clause-recorded g c =
    let p = c.prepared.inside in
    let ready = c.prepared.invariant in
    let can = clients_can p ready c.deref.result.now c.deref_mut.result.now c.deref.ensures c.deref_mut.ensures.value in
    let called = c.run_clients-called.ensures (plan_in p.clients.items) can.0 can.1 in
    let es = c.run_clients-called.result.items in
    let gs = c.run_clients-called.new.logs in
    let joined = c.join_all-served in
    let bs = joined.result.items in
    let jobs = c.start_all.new.crew.jobs in
    let jobs_are = c.in_default.ensures.ok.jobs_are in
    let as_many = sym joined.result.ok.0 ∙ joined.ensures.as_many in
    let seat = c.take_in.new.seat in
    let taken = c.take_in.ensures in
    let told : (k : ℕ) (b : NoteBox) (e : BenchEnd) → k < length p.boxes.items → AreToldNotes k es (slice_index_or p.boxes.items k b) (slice_index_or bs k e)
    = subst (λ (xs : List NoteBox). (k : ℕ) (b : NoteBox) (e : BenchEnd) → k < length xs → AreToldNotes k es (slice_index_or xs k b) (slice_index_or bs k e)) c.deref_mut-3.ensures.value taken.notes in
    let are = ends_are p ready es gs called jobs bs jobs_are as_many joined.ensures.each seat taken.seat c.look.ensures.once told
    (λ k i d e r low few. taken.replies k i d e r (let same = joined.result.ok.0 in omega arith) (let same = c.run_clients-called.result.ok.0 in omega arith)) in
    let budget = budget_is p ready es gs called jobs bs jobs_are as_many joined.ensures.each seat taken.seat in
    let few : length seat.drawn ≤ tickets p.settings = omega (arith, budget) in
    let all = (c.look.ensures.all (budget ∙ (sym ready.clock.budget ∙ ap (λ v. v.budget) (sym c.deref-3.ensures)))).0 in
    let drawn = ap (λ (v : SeatView). v.drawn) c.look.ensures.seat in
    let logs_are = c.from_vec.ensures ∙ written_over p.logs.len gs (drop (length gs) p.logs.items) (called.as_many_logs ∙ (sym ready.recorder.as_many_logs ∙ sym p.logs.ok.0)) in
    let none : p.journals.items ≡ [] = no_items p.journals.items (sym p.journals.ok.0 ∙ ready.none.3) in
    let journals_are = c.from_vec-2.ensures ∙ (taken.journals ∙ ap (λ (xs : List (List JournalEntry)). xs ++ map (λ e. e.replica.journal) bs) none) in
    let out = recorded_out p ready es gs called jobs bs jobs_are as_many joined.ensures.each c.look.new.seat c.from_vec-2.result journals_are (rw drawn are) (rw drawn all) (rw drawn few) in
    subst (λ (v : PreparedView). IsRecordedOut v (record { logs = c.from_vec.result; journals = c.from_vec-2.result; seat = c.look.new.seat })) c.prepared.view_is
    (rw logs_are out)
