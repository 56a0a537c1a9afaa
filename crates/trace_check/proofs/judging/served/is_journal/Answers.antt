use Rattle.std.proofs.Common.{◌≡◌, ◌+◌, ◌<◌, ◌++◌, ◌∷◌, [], List, length, take, refl, sym, ◌∙◌, ap, subst, slice_index_or, arith}
use Rattle.std.proofs.lemmas.List.{take_more, take_all}
use Rattle.std.proofs.lemmas.Option.{slice_get-get_or}
use Rattle.stale_model.specs.declared.store.JournalEntry.{JournalEntry}
use Rattle.stale_model.specs.Journals.{held, answer_to, IsJournal}
use Rattle.stale_model.proofs.Growing.{journal_grows, held_grows}
use Rattle.replica_node.specs.Pairs.{as_pair}
use Rattle.trace_check.specs.JournalSteps.{held_in, IsLatest}
use Rattle.trace_check.proofs.Serving.{served_where_it_follows, follows_where_served, later_latest, no_entry}
use Rattle.trace_check.proofs.judging.served.is_journal.Goals as goal

pub returns-then-not-may_follow : goal.returns-then-not-may_follow
returns-then-not-may_follow c =
    let js = c.args.journal.now in
    let k = c.loop-entry.entry-index in
    let less : k < length js = omega arith in
    let j : JournalEntry = slice_index_or js k no_entry in
    let i = c.loop-entry.invariant in
    let answered : as_pair c.answer-pair.result ≡ answer_to (take k js) j.request j.request.ask = c.answer-pair.ensures (take k js) (sym (c.held_of.ensures ∙ i.holds j.request.key)) in (
      (λ no. absurd (cc no)),
      (λ whole.
          c.if-not-may_follow.ensures.1
          (follows_where_served c.args.replica c.loop-entry.last c.answer-pair.result (take k js) j i.last answered (whole k j (slice_get-get_or js k no_entry less)))),
    )

pub loop-entry-preserved : goal.loop-entry-preserved
loop-entry-preserved c =
    let js = c.args.journal.now in
    let k = c.loop-entry.entry-index in
    let less : k < length js = omega arith in
    let j : JournalEntry = slice_index_or js k no_entry in
    let i = c.loop-entry.invariant in
    let answered : as_pair c.answer-pair.result ≡ answer_to (take k js) j.request j.request.ask = c.answer-pair.ensures (take k js) (sym (c.held_of.ensures ∙ i.holds j.request.key)) in
    let follows = c.if-not-may_follow.ensures.0 refl in
    let more : take (k + 1) js ≡ take k js ++ j ∷ [] = take_more js k no_entry less in
    record {
      journal =
          subst (λ (l : List JournalEntry). IsJournal c.args.replica l) (sym more)
          (journal_grows c.args.replica (take k js) j i.journal
          (served_where_it_follows c.args.replica c.loop-entry.last c.answer-pair.result (take k js) j i.last answered follows));
      holds = λ key.
          held_grows key (take k js) j (held_in c.loop-entry.held key) (held_in c.hold.new.held key) (i.holds key) (c.in_ok-hold.ensures key)
          ∙ ap (λ (l : List JournalEntry). held key l) (sym more);
      last = subst (λ (l : List JournalEntry). IsLatest j.reply.serve l) (sym more) (later_latest c.loop-entry.last (take k js) j i.last follows.rises);
    }

pub returns : goal.returns
returns c =
    let js = c.args.journal.now in
    let all : take c.loop-entry.entry-index js ≡ js = take_all c.loop-entry.entry-index js (omega arith) in
    ((λ yes. subst (λ (l : List JournalEntry). IsJournal c.args.replica l) all c.loop-entry.invariant.journal), (λ whole. refl))
