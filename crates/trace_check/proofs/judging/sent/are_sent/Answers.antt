use Rattle.std.proofs.Common.{◌≡◌, ◌<◌, List, length, map, refl, sym, ◌∙◌, ap, arith}
use Rattle.std.specs.Prelude.{flat_map}
use Rattle.std.specs.List.{range_with_len}
use Rattle.std.proofs.lemmas.List.FromFn.{length-map-range_with_len}
use Rattle.stale_model.specs.declared.store.Entry.{Entry}
use Rattle.stale_model.specs.Calls.{sent_to}
use Rattle.stale_model.specs.RecordedRuns.{entries_of}
use Rattle.trace_check.proofs.Sending.{calls_are}
use Rattle.trace_check.proofs.judging.sent.are_sent.Goals as goal

pub returns : goal.returns
returns c =
    let entries = c.args.entries.now in
    let clients = c.args.settings.now.clients in
    let calls = c.as_slice.result.now in
    let is : calls ≡ map (λ k. entries_of k entries) (range_with_len 0 clients) = c.as_slice.ensures ∙ c.in_ok-calls.ensures in
    let many : length calls ≡ clients = ap (λ (l : List (List Entry)). length l) is ∙ length-map-range_with_len (λ k. entries_of k entries) 0 clients in (
      (λ yes. record {
        as_many = omega arith;
        clients = c.if-not-are_of_clients.ensures.0 refl;
        requests = λ replica client low less.
            c.in_ok-sent.ensures.0 yes replica (omega arith) client (omega arith)
            ∙ ap (λ (es : List Entry). flat_map (sent_to replica) es) (calls_are clients entries calls is client less);
      }),
      (λ sent.
          c.in_ok-sent.ensures.1 (λ replica low client less.
          let known : client < clients = omega arith in
          sent.requests replica client (let as_many = sent.as_many in omega arith) known
          ∙ sym (ap (λ (es : List Entry). flat_map (sent_to replica) es) (calls_are clients entries calls is client known)))),
    )

pub are_all_sent-requires-clause-clients : goal.are_all_sent-requires-clause-clients
are_all_sent-requires-clause-clients c =
    let entries = c.args.entries.now in
    let clients = c.args.settings.now.clients in
    let calls = c.as_slice.result.now in
    let is : calls ≡ map (λ k. entries_of k entries) (range_with_len 0 clients) = c.as_slice.ensures ∙ c.in_ok-calls.ensures in
    let many : length calls ≡ clients = ap (λ (l : List (List Entry)). length l) is ∙ length-map-range_with_len (λ k. entries_of k entries) 0 clients in
    λ replica k j inside. let known = c.if-not-are_of_clients.ensures.0 refl replica k j inside in omega (arith, known, many)
