-- A journal with one more entry, which may follow those before it.
use Rattle.std.proofs.Common.{◌≡◌, ℕ, ◌<◌, ◌≤◌, List, [], ◌∷◌, ◌++◌, sym, ◌∙◌, ap, arith}
use Rattle.std.proofs.lemmas.List.Elements.{All-push, All-contains, Contains-push}
use Rattle.stale_model.specs.declared.store.Ask.TheVariants.{Read}
use Rattle.stale_model.specs.declared.store.JournalEntry.{JournalEntry}
use Rattle.stale_model.specs.Journals.{Pair, pair_of, answer_to, IsServed}
use Rattle.replica_node.specs.declared.HeldPair.{HeldPair}
use Rattle.replica_node.specs.Pairs.{as_pair}
use Rattle.trace_check.specs.JournalSteps.{MayFollow, IsLatest}

module _ (replica last : ℕ) (pair : HeldPair) (js : List JournalEntry) (j : JournalEntry) (latest : IsLatest last js)
    (answered : as_pair pair ≡ answer_to js j.request j.request.ask) where
  -- what may follow the last entry is served after all of them
  pub served_where_it_follows : MayFollow replica last pair j → IsServed replica js j
  served_where_it_follows follows = record {
    rises = λ k i l. let before = latest.greatest k i l in let rises = follows.rises in omega (arith, before, rises);
    after_start = follows.after_start;
    replica_is = follows.replica_is;
    client = follows.client;
    seq = follows.seq;
    pair = (let stamp = follows.stamp in let value = follows.value in let same : pair_of j ≡ as_pair pair = cc (stamp, value) in same) ∙ answered;
  }

  -- and the other way round
  pub follows_where_served : IsServed replica js j → MayFollow replica last pair j
  follows_where_served served = record {
    rises = latest.reached j.reply.serve (let after = served.after_start in omega (arith, after)) served.rises;
    after_start = served.after_start;
    replica_is = served.replica_is;
    client = served.client;
    seq = served.seq;
    stamp = ap (λ (p : Pair). p.stamp) (served.pair ∙ sym answered);
    value = ap (λ (p : Pair). p.value) (served.pair ∙ sym answered);
  }

-- nothing was served yet
pub none_latest : IsLatest 0 []
none_latest = record { greatest = λ k j l. absurd (omega arith); reached = λ ticket positive all. positive }

-- an entry that was served later is the last
pub later_latest : (last : ℕ) (js : List JournalEntry) (j : JournalEntry) → IsLatest last js → last < j.reply.serve → IsLatest j.reply.serve (js ++ j ∷ [])
later_latest last js j latest rises = record {
  greatest = All-push (λ (i : JournalEntry). i.reply.serve ≤ j.reply.serve) js j (λ k i l. let before = latest.greatest k i l in omega (arith, before)) (omega arith);
  reached = λ ticket positive all. All-contains (λ (i : JournalEntry). i.reply.serve < ticket) (js ++ j ∷ []) j all (Contains-push js j);
}

-- an entry that is read past the end of a journal
abbrev pub no_entry : JournalEntry
no_entry = record {
  request = record { client = 0; seq = 0; start = 0; key = 0; ask = Read };
  reply = record { replica = 0; client = 0; seq = 0; serve = 0; stamp = 0; value = 0 };
}
