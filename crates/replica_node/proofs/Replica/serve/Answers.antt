use Rattle.std.proofs.Common.{◌≡◌, ◌<◌, List, length, get_or, refl, sym, ◌∙◌, ap, subst, arith}
use Rattle.std.specs.Prelude.{All}
use Rattle.std.proofs.lemmas.List.{with_items_is}
use Rattle.stale_model.specs.declared.store.JournalEntry.{JournalEntry}
use Rattle.stale_model.specs.Journals.{held, IsServed, IsJournal}
use Rattle.stale_model.proofs.Growing.{held_grows, journal_grows}
use Rattle.replica_node.specs.declared.HeldPair.{HeldPair}
use Rattle.replica_node.specs.Replicas.{ReplicaView}
use Rattle.replica_node.specs.Pairs.{as_pair}
use Rattle.replica_node.proofs.Replica.serve.Goals as goal

pub invariant_of-self : goal.invariant_of-self
invariant_of-self c =
    let request = c.args.request in
    let number = c.self.inside.number in
    let js = c.self.inside.journal.items in
    let answer = c.answer-pair.result in
    let entry : JournalEntry = record {
      request = request;
      reply = record { replica = number; client = request.client; seq = request.seq; serve = c.draw-serve.result; stamp = answer.stamp; value = answer.value };
    } in
    let grown = c.in-Ok.ensures.items in
    let long = c.in-Ok.ensures.len in
    let value = c.deref_mut.ensures.value in
    let len = c.deref_mut.ensures.len in
    let ticket = c.draw-serve.ensures.ticket in
    let started = c.requires.started in
    let key_within = subst (λ (r : ReplicaView). request.key < r.keys) (sym c.self.view_is) c.requires.key in
    let place = subst (λ (r : ReplicaView). length r.journal < r.places) (sym c.self.view_is) c.requires.place in
    let later = subst (λ (r : ReplicaView). All (λ (j : JournalEntry). j.reply.serve < c.args.seat.now.seen) r.journal) (sym c.self.view_is) c.requires.later in
    let here = c.index.result.now in
    let held_here : held request.key js ≡ as_pair here = sym (ap as_pair c.index.ensures ∙ c.self.invariant.holds request.key here key_within) in
    let served : IsServed number js entry = record {
      rises = λ k past within. let before = later k past within in omega arith;
      after_start = omega arith;
      replica_is = refl;
      client = refl;
      seq = refl;
      pair = c.answer-pair.ensures js held_here;
    } in
    record {
      holds = λ key past within.
          let same = with_items_is c.self.inside.held c.hold.new.held (c.hold.auto.held ∙ len) in
          let before = ap (λ (l : List HeldPair). as_pair (get_or l key past)) value ∙ c.self.invariant.holds key past within in
          ap (λ (l : List HeldPair). as_pair (get_or l key past)) same
          ∙ (held_grows key js entry (as_pair (get_or c.deref_mut.result.now key past)) (as_pair (get_or c.hold.new.held key past)) before (c.hold.ensures key past (omega arith)) ∙ ap (held key) (sym grown));
      journal = subst (λ (l : List JournalEntry). IsJournal number l) (sym grown) (journal_grows number js entry c.self.invariant.journal served);
      within = let ok = c.self.inside.journal.ok in omega arith;
      room = let room = c.self.invariant.room in let more = c.in-Ok.ensures.capacity in omega arith;
    }
