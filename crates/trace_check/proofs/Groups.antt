-- The entries of each client, and what holds of a run where it holds of the entries of each.
use Rattle.std.proofs.Common.{◌≡◌, ℕ, ◌<◌, List, [], length, get_or, map, sym, ◌∙◌, subst, ap, arith, eqb-true}
use Rattle.std.specs.Prelude.{◌==◌, true, Some, All, slice_get}
use Rattle.std.specs.List.{range_with_len}
use Rattle.std.proofs.lemmas.List.Elements.{All-get_or, All-from_get_or, All-map, All-filter, filter_passes}
use Rattle.std.proofs.lemmas.List.FromFn.{get_or-map-range_with_len, length-map-range_with_len}
use Rattle.std.proofs.lemmas.Option.{slice_get_within, get_or_from_slice_get}
use Rattle.stale_model.specs.declared.store.Settings.{Settings}
use Rattle.stale_model.specs.declared.store.Plan.{Plan}
use Rattle.stale_model.specs.declared.store.JournalEntry.{JournalEntry}
use Rattle.stale_model.specs.declared.store.Entry.{Entry}
use Rattle.stale_model.specs.Orders.{IsWithoutRepeats}
use Rattle.stale_model.specs.Settings.{calls_of}
use Rattle.stale_model.specs.RecordedRuns.{entries_of, tickets_of, ArePlanned, AreTimed}
use Rattle.trace_check.specs.CallSteps.{AreCalls, AreOneByOne, AreInOrder}

-- the entries of each of so many clients
abbrev pub groups_of : ℕ → List Entry → List (List Entry)
groups_of clients entries = map (λ c. entries_of c entries) (range_with_len 0 clients)

module _ (clients : ℕ) (entries : List Entry) where
  pub group_at : (client : ℕ) → client < clients → get_or (groups_of clients entries) client [] ≡ entries_of client entries
  group_at client low = get_or-map-range_with_len (λ c. entries_of c entries) 0 clients client client [] low (omega arith)

  pub groups_length : length (groups_of clients entries) ≡ clients
  groups_length = length-map-range_with_len (λ c. entries_of c entries) 0 clients

  -- whose entry it is, that is one of the clients
  pub client_within : All (λ e. e.client < clients) entries → (client k : ℕ) (e : Entry) → slice_get (entries_of client entries) k ≡ Some e → client < clients
  client_within all client k e at =
      let low = slice_get_within (entries_of client entries) k e at in
      let is : get_or (entries_of client entries) k e ≡ e = get_or_from_slice_get (entries_of client entries) k e e at in
      let of_client = All-get_or (λ x. (x.client == client) ≡ true) (entries_of client entries) k e low (filter_passes (λ x. x.client == client) entries) in
      let within = All-get_or (λ x. x.client < clients) (entries_of client entries) k e low (All-filter (λ x. x.client == client) (λ x. x.client < clients) entries all) in
      let same : e.client ≡ client = eqb-true e.client client (rw is at of_client) in
      let less : e.client < clients = rw is at within in
      omega arith

  -- each client made one call after the other, where those with entries did
  pub each_one_by_one : All (λ e. e.client < clients) entries → All AreOneByOne (groups_of clients entries) → (client : ℕ) → AreOneByOne (entries_of client entries)
  each_one_by_one all groups client k a b ata atb =
      let low = client_within all client k a ata in
      let many = groups_length in
      let own : AreOneByOne (get_or (groups_of clients entries) client []) = All-get_or AreOneByOne (groups_of clients entries) client [] (omega arith) groups in
      let own2 : AreOneByOne (entries_of client entries) = subst (λ (es : List Entry). AreOneByOne es) (group_at client low) own in
      own2 k a b ata atb

  pub groups_one_by_one : ((client : ℕ) → AreOneByOne (entries_of client entries)) → All AreOneByOne (groups_of clients entries)
  groups_one_by_one each =
      All-map AreOneByOne (λ c. entries_of c entries) (range_with_len 0 clients)
      (All-from_get_or (λ c. AreOneByOne (entries_of c entries)) (range_with_len 0 clients) 0 (λ i low. each (get_or (range_with_len 0 clients) i 0)))

  -- so the order of a run is that of its groups, where no ticket stands twice
  pub timed_from_order : (journals : List (List JournalEntry)) (groups : List (List Entry)) → groups ≡ groups_of clients entries → All (λ e. e.client < clients) entries
      → AreInOrder entries groups → IsWithoutRepeats (tickets_of entries journals) → AreTimed entries journals
  timed_from_order journals groups is all order once =
      let own : All AreOneByOne (groups_of clients entries) = subst (λ (gs : List (List Entry)). All AreOneByOne gs) is order.one_by_one in
      record { rising = order.rising; ordered = order.ordered; one_by_one = each_one_by_one all own; once = once }

  pub order_from_timed : (journals : List (List JournalEntry)) (groups : List (List Entry)) → groups ≡ groups_of clients entries → AreTimed entries journals → AreInOrder entries groups
  order_from_timed journals groups is timed = record {
    rising = timed.rising;
    ordered = timed.ordered;
    one_by_one = subst (λ (gs : List (List Entry)). All AreOneByOne gs) (sym is) (groups_one_by_one timed.one_by_one);
  }

module _ (settings : Settings) (plan : Plan) (entries : List Entry) where
  own_calls : (groups : List (List Entry)) → groups ≡ groups_of settings.clients entries → (client : ℕ) → client < settings.clients
      → (client < length groups) × (get_or groups client [] ≡ entries_of client entries)
  own_calls groups is client low =
      let long : length groups ≡ settings.clients = ap length is ∙ groups_length settings.clients entries in
      (omega arith, ap (λ (gs : List (List Entry)). get_or gs client []) is ∙ group_at settings.clients entries client low)

  -- each client made its planned calls, where its group is as planned
  pub planned_from_groups : (groups : List (List Entry)) → groups ≡ groups_of settings.clients entries → All (λ e. e.client < settings.clients) entries
      → ((client : ℕ) → client < length groups → AreCalls (calls_of plan client) (get_or groups client [])) → ArePlanned settings plan entries
  planned_from_groups groups is all each =
      let own : (client : ℕ) → client < settings.clients → AreCalls (calls_of plan client) (entries_of client entries) = λ client low.
      let (within, same) = own_calls groups is client low in
      subst (λ (es : List Entry). AreCalls (calls_of plan client) es) same (each client within) in
      record {
        clients = all;
        as_many = λ client low. (own client low).as_many;
        each = λ client k e call ate atc. (own client (client_within settings.clients entries all client k e ate)).each k e call ate atc;
      }

  pub groups_from_planned : (groups : List (List Entry)) → groups ≡ groups_of settings.clients entries → ArePlanned settings plan entries
      → (client : ℕ) → client < length groups → AreCalls (calls_of plan client) (get_or groups client [])
  groups_from_planned groups is planned client within =
      let long : length groups ≡ settings.clients = ap length is ∙ groups_length settings.clients entries in
      let low : client < settings.clients = omega arith in
      let own : AreCalls (calls_of plan client) (entries_of client entries) = record { as_many = planned.as_many client low; each = planned.each client } in
      subst (λ (es : List Entry). AreCalls (calls_of plan client) es) (sym (own_calls groups is client low).1) own
