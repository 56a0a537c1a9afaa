-- What is kept of the operations that were fed: at first, and after one more.
use Rattle.std.proofs.Common.{◌≡◌, ◌≢◌, ℕ, ◌+◌, ◌<◌, ◌≤◌, List, [], ◌∷◌, ◌++◌, Option, Some, None, length, set, refl, sym, ◌∙◌, ap, inl, inr, subst, arith}
use Rattle.std.specs.Prelude.{Contains, All, unwrap_or}
use Rattle.std.proofs.lemmas.List.{length-set, length_push}
use Rattle.std.proofs.lemmas.List.Elements.{All-push, All-contains, Contains-push_cases}
use Rattle.std.proofs.lemmas.List.Quantifiers.{all_pairs_push}
use Rattle.std.proofs.lemmas.Option.{none-some, same_Some}
use Rattle.stale_model.specs.declared.Op.{Op}
use Rattle.stale_model.specs.Operations.{IsWrite, initial_write, latest_finish}
use Rattle.stale_model.specs.Valid.{IsValidOp}
use Rattle.stale_model.specs.Faults.{IsWriteOf}
use Rattle.stale_model.specs.NamedWrites.{WritesDiffer}
use Rattle.stale_model.specs.Orders.{StandsAt}
use Rattle.stale_model.specs.Counted.{IsScore}
use Rattle.stale_model.proofs.Sorted.{first_or_later}
use Rattle.live_score.specs.declared.places.Place.{Place}
use Rattle.live_score.specs.declared.rows.Row.{Row}
use Rattle.live_score.specs.Answers.{waiting_after}
use Rattle.live_score.specs.Places.{AreRising, unbounded}
use Rattle.live_score.specs.Rows.{IsWriteKept, row_after, taken_after, shown}
use Rattle.live_score.specs.Placing.{IsRaised, IsScoreOfPlaces, vacated}
use Rattle.live_score.specs.Invariant.{AreFed, IsKept}
use Rattle.live_score.proofs.Counting.{waiting_grows, counts_grow}
use Rattle.live_score.proofs.PlacesGrow.{IsPlaceFor, shown_at, row_at, placed_grow, rising_stays, raised_there, shown_f_after}
use Rattle.live_score.proofs.RowsGrow.{rows_grow}
use Rattle.live_score.proofs.Scoring.{score_is_of_places}

-- the place of a value: its own, or the first that is not taken
place_for : (kept : Option ℕ) (taken : ℕ) → IsPlaceFor kept taken (unwrap_or kept taken) (taken_after kept taken)
place_for None taken = record { own = λ k e. absurd (none-some k e); kept_or_next = inr (refl, refl, refl) }
place_for (Some at) taken = record { own = λ k e. sym (same_Some at k e); kept_or_next = inl (refl, refl) }

no_write : (ops : List Op) (value start : ℕ) (kept : Option ℕ) → kept ≡ None → IsWriteKept ops value start kept → (w : Op) → IsWriteOf ops value w → ⊥
no_write ops value start None e h = h
no_write ops value start (Some rec) e h = absurd (none-some rec (sym e))

-- after a write of a value that none wrote, still no value is written twice
writes_differ : (ops : List Op) (op : Op) → (IsWrite op → (w : Op) → IsWriteOf ops op.value w → ⊥) → WritesDiffer ops → WritesDiffer (ops ++ op ∷ [])
writes_differ ops op first once value v w hv hw = elim (Contains-push_cases ops op v hv.there) [
  | inl v_before ↦
      let v_writes : IsWriteOf ops value v = record { there = v_before; kind = hv.kind; value_is = hv.value_is } in
      elim (Contains-push_cases ops op w hw.there) [
        | inl w_before ↦ once value v w v_writes (record { there = w_before; kind = hw.kind; value_is = hw.value_is })
        | inr same ↦
            let kind : IsWrite op = ap (λ (x : Op). x.kind) same ∙ hw.kind in
            let value_is : value ≡ op.value = sym hw.value_is ∙ sym (ap (λ (x : Op). x.value) same) in
            absurd (first kind v (subst (λ (n : ℕ). IsWriteOf ops n v) value_is v_writes))
      ]
  | inr v_same ↦ elim (Contains-push_cases ops op w hw.there) [
    | inl w_before ↦
        let w_writes : IsWriteOf ops value w = record { there = w_before; kind = hw.kind; value_is = hw.value_is } in
        let kind : IsWrite op = ap (λ (x : Op). x.kind) v_same ∙ hv.kind in
        let value_is : value ≡ op.value = sym hv.value_is ∙ sym (ap (λ (x : Op). x.value) v_same) in
        absurd (first kind w (subst (λ (n : ℕ). IsWriteOf ops n w) value_is w_writes))
    | inr w_same ↦ sym v_same ∙ w_same
  ]
]

module _ (values : ℕ) (fed : List Op) (rows : List Row) (taken : ℕ) (places : List Place) (score_now : Option ℕ) (waits : ℕ) (kept : IsKept values fed rows taken places score_now waits)
    (op : Op) (row : Row) (here : StandsAt rows op.value row) (valid : IsValidOp values op) (first : IsWrite op → row.write ≡ None) where
  fits : latest_finish op ≤ unbounded
  fits = let ends = valid.ends in let slack = valid.slack in omega arith

  no_other_write : IsWrite op → (w : Op) → IsWriteOf (initial_write ∷ fed) op.value w → ⊥
  no_other_write kind = no_write (initial_write ∷ fed) op.value row.place.w row.write (first kind) (kept.says op.value row here).write

  fed_grow : All (λ a. a.rec ≢ op.rec) fed → AreFed values (fed ++ op ∷ [])
  fed_grow new_record = record {
    valid = All-push (IsValidOp values) fed op kept.operations.valid valid;
    records = all_pairs_push (λ a b. a.rec ≢ b.rec) fed op kept.operations.records new_record;
    once = writes_differ (initial_write ∷ fed) op no_other_write kept.operations.once;
  }

  last_of_all : All (λ a. latest_finish a ≤ latest_finish op) fed → (a : Op) → Contains (initial_write ∷ fed) a → latest_finish a ≤ latest_finish op
  last_of_all last a c = elim (first_or_later initial_write a fed c) [
    | inl same ↦ subst (λ (x : Op). latest_finish x ≤ latest_finish op) same (omega arith)
    | inr there ↦ All-contains (λ (x : Op). latest_finish x ≤ latest_finish op) fed a last there
  ]

  place_within_by : (at_kept : Option ℕ) → row.at ≡ at_kept → (limit : ℕ) → length fed < limit → length places ≡ limit + 1 → unwrap_or at_kept taken < length places
  place_within_by None e limit room enough = let few = kept.few in omega arith
  place_within_by (Some at) e limit room enough = let few = kept.few in let l = (shown_at rows taken places kept.placed op.value row at here e).0 in omega arith

  -- the place is one of those there are
  pub place_within : (limit : ℕ) → length fed < limit → length places ≡ limit + 1 → unwrap_or row.at taken < length places
  place_within limit room enough = place_within_by row.at refl limit room enough

  few_by : (at_kept : Option ℕ) → taken_after at_kept taken ≤ length (fed ++ op ∷ []) + 1
  few_by None = let few = kept.few in let n = length_push fed op in omega arith
  few_by (Some at) = let few = kept.few in let n = length_push fed op in omega arith

  -- what is kept after the operation
  kept_after : (limit : ℕ) → length fed < limit → length places ≡ limit + 1 → All (λ a. a.rec ≢ op.rec) fed → All (λ a. latest_finish a ≤ latest_finish op) fed
      → (at : ℕ) → at ≡ unwrap_or row.at taken → (score_then : Option ℕ)
      → ((old : Place) → StandsAt places at old → IsRaised old (shown (row_after row op at).write (row_after row op at).place) → AreRising (set places at (vacated (shown (row_after row op at).write (row_after row op at).place)))
      → IsScoreOfPlaces places score_now → IsScoreOfPlaces (set places at (shown (row_after row op at).write (row_after row op at).place)) score_then)
      → IsKept values (fed ++ op ∷ []) (set rows op.value (row_after row op at)) (taken_after row.at taken) (set places at (shown (row_after row op at).write (row_after row op at).place)) score_then (waiting_after op.kind row.write waits row.count)
  kept_after limit room enough new_record last at at_is score_then raises =
      let place_is : IsPlaceFor row.at taken at (taken_after row.at taken) = subst (λ (n : ℕ). IsPlaceFor row.at taken n (taken_after row.at taken)) (sym at_is) (place_for row.at taken) in
      let within : at < length places = subst (λ (n : ℕ). n < length places) (sym at_is) (place_within limit room enough) in
      let new : Row = row_after row op at in
      let last_is = last_of_all last in
      let f_is = shown_f_after row op at in
      let (old, stands, raised) = raised_there rows taken places kept.placed op.value at (taken_after row.at taken) row op here place_is within first in
      record {
        operations = fed_grow new_record;
        size = length-set rows op.value new ∙ kept.size;
        says = rows_grow (initial_write ∷ fed) op last_is rows row at here first kept.says;
        counts = counts_grow fed op rows row at here kept.counts;
        few = few_by row.at;
        placed = placed_grow rows taken places kept.placed op.value at (taken_after row.at taken) row new here place_is (row_at row op at) within;
        rising = rising_stays (initial_write ∷ fed) op last_is fits rows taken places kept.says kept.placed kept.rising op.value at (taken_after row.at taken) row (shown new.write new.place) here place_is within f_is;
        score_is = raises old stands raised
            (rising_stays (initial_write ∷ fed) op last_is fits rows taken places kept.says kept.placed kept.rising op.value at (taken_after row.at taken) row (vacated (shown new.write new.place)) here place_is within f_is)
            kept.score_is;
        waiting_is = waiting_grows fed op row.write row.place.w waits row.count first (kept.says op.value row here).write kept.waiting_is (kept.counts op.value row here);
      }

  -- the same of what the code comes to
  pub kept_grows : (limit : ℕ) → length fed < limit → length places ≡ limit + 1 → All (λ a. a.rec ≢ op.rec) fed → All (λ a. latest_finish a ≤ latest_finish op) fed
      → (at taken_then waits_then : ℕ) (next : Row) (shows : Place) (fed_then : List Op) (rows_then : List Row) (places_then : List Place) (score_then : Option ℕ)
      → at ≡ unwrap_or row.at taken → next ≡ row_after row op at → shows ≡ shown next.write next.place → fed_then ≡ fed ++ op ∷ [] → rows_then ≡ set rows op.value next → taken_then ≡ taken_after row.at taken
      → places_then ≡ set places at shows → waits_then ≡ waiting_after op.kind row.write waits row.count
      → ((old : Place) → StandsAt places at old → IsRaised old shows → AreRising (set places at (vacated shows)) → IsScoreOfPlaces places score_now → IsScoreOfPlaces places_then score_then)
      → IsKept values fed_then rows_then taken_then places_then score_then waits_then
  kept_grows limit room enough new_record last at taken_then waits_then next shows fed_then rows_then places_then score_then at_is next_is shows_is fed_is rows_is taken_is places_is waits_is raises =
      let new : Row = row_after row op at in
      let new_shows : Place = shown new.write new.place in
      let shows_new : shows ≡ new_shows = shows_is ∙ ap (λ (r : Row). shown r.write r.place) next_is in
      let places_new : places_then ≡ set places at new_shows = places_is ∙ ap (λ (p : Place). set places at p) shows_new in
      let rows_new : rows_then ≡ set rows op.value new = rows_is ∙ ap (λ (r : Row). set rows op.value r) next_is in
      let raises_new : (old : Place) → StandsAt places at old → IsRaised old new_shows → AreRising (set places at (vacated new_shows)) → IsScoreOfPlaces places score_now → IsScoreOfPlaces (set places at new_shows) score_then =
      λ old stands raised rising h.
      subst (λ (l : List Place). IsScoreOfPlaces l score_then) places_new
      (raises old stands (subst (λ (p : Place). IsRaised old p) (sym shows_new) raised) (subst (λ (p : Place). AreRising (set places at (vacated p))) (sym shows_new) rising) h) in
      let after = kept_after limit room enough new_record last at at_is score_then raises_new in
      let with_fed = subst (λ (l : List Op). IsKept values l (set rows op.value new) (taken_after row.at taken) (set places at new_shows) score_then (waiting_after op.kind row.write waits row.count)) (sym fed_is) after in
      let with_rows = subst (λ (l : List Row). IsKept values fed_then l (taken_after row.at taken) (set places at new_shows) score_then (waiting_after op.kind row.write waits row.count)) (sym rows_new) with_fed in
      let with_taken = subst (λ (n : ℕ). IsKept values fed_then rows_then n (set places at new_shows) score_then (waiting_after op.kind row.write waits row.count)) (sym taken_is) with_rows in
      let with_places = subst (λ (l : List Place). IsKept values fed_then rows_then taken_then l score_then (waiting_after op.kind row.write waits row.count)) (sym places_new) with_taken in
      subst (λ (n : ℕ). IsKept values fed_then rows_then taken_then places_then score_then n) (sym waits_is) with_places

-- the score that is kept is that of what was fed
pub kept_score : (values : ℕ) (fed : List Op) (rows : List Row) (taken : ℕ) (places : List Place) (score_now : Option ℕ) (waits : ℕ) → IsKept values fed rows taken places score_now waits → IsScore fed score_now
kept_score values fed rows taken places score_now waits kept = score_is_of_places values fed rows taken places score_now kept.operations kept.size kept.says kept.placed kept.score_is
