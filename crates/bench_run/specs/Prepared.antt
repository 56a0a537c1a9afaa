-- What is made before a run, with room for all that it will keep.
use Rattle.std.specs.Prelude.{◌≡◌, ◌≤◌, vec_len, vec_capacity}
use Rattle.std.specs.Arc.{arc_value}
use Rattle.stale_model.specs.declared.store.Settings.{Settings}
use Rattle.stale_model.specs.declared.store.Plan.{Plan}
use Rattle.stale_model.specs.Settings.{AreSettings}
use Rattle.quorum_client.specs.Plans.{IsWhole}
use Rattle.key_recorder.specs.Prepared.{IsPrepared}
use Rattle.bench_run.specs.declared.prepared.Prepared.TheInside.{Inside}
use Rattle.bench_run.specs.Ready.{plan_in, IsReadyClock, AreReadyBoxes, AreReadyReplicas, AreReadyClients}

-- what a caller sees of a run that is ready: what it was asked to do, and its plan
pub record PreparedView : Type 0 where
  pub settings : Settings
  pub plan : Plan

-- all that a run needs is there, with room for all that it will keep
pub record IsReadyRun (p : Inside) : Type 0 where
  pub limits : AreSettings p.settings
  pub whole : IsWhole p.settings (plan_in p.clients.items)
  pub clock : IsReadyClock p.settings (arc_value p.clock) p.seat
  pub boxes : AreReadyBoxes p.settings p.boxes.items p.inboxes.items
  pub replicas : AreReadyReplicas p.settings (arc_value p.clock) p.boxes.items p.inboxes.items p.replicas.items
  pub clients : AreReadyClients p.settings (arc_value p.clock) p.inboxes.items p.boxes.items p.clients.items
  pub recorder : IsPrepared p.settings (plan_in p.clients.items) p.recorder p.passes.items p.logs.items
  pub none : (vec_len p.runners ≡ 0) × (vec_len p.client_ends ≡ 0) × (vec_len p.ends ≡ 0) × (vec_len p.journals ≡ 0)
  pub room : (p.settings.clients ≤ vec_capacity p.runners) × (p.settings.clients ≤ vec_capacity p.client_ends) × (p.settings.replicas ≤ vec_capacity p.ends)
      × (p.settings.replicas ≤ vec_capacity p.journals)
