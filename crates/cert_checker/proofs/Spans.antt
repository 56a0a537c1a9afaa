-- When the operations of a value finish and its reads start, and what that forces.
use Rattle.std.proofs.Common.{◌≡◌, ◌≢◌, ◌⊎◌, inl, inr, ◌<◌, ◌≤◌, ◌+◌, ◌-◌, ◌^◌, ℕ, max, min, List, length, set, replicate, refl, Some, sym, ◌∙◌, ap, subst, arith}
use Rattle.std.specs.Prelude.{Contains}
use Rattle.std.proofs.lemmas.Bool.{cases_eq}
use Rattle.std.proofs.lemmas.List.{get_or-replicate, length-replicate}
use Rattle.std.proofs.lemmas.Option.{slice_get-get_or, slice_get_within}
use Rattle.stale_model.specs.declared.Op.{Op}
use Rattle.stale_model.specs.declared.Kind.{Kind}
use Rattle.stale_model.specs.declared.Kind.TheVariants.{Read, Write}
use Rattle.stale_model.specs.declared.KeyOps.{KeyOps}
use Rattle.stale_model.specs.Operations.{operations, initial_write, IsRead, earliest_start, latest_finish}
use Rattle.stale_model.specs.Valid.{IsValidKey}
use Rattle.stale_model.specs.NamedWrites.{NamesItsWrites}
use Rattle.stale_model.specs.Orders.{StandsAt}
use Rattle.stale_model.specs.Precedence.{moved}
use Rattle.stale_model.specs.Refutations.{Forces}
use Rattle.stale_model.proofs.Places.{contains_at, at_its_place, same_at}
use Rattle.cert_checker.specs.declared.refutations.Span.{Span}
use Rattle.cert_checker.specs.RefutationSteps.{IsOfValue, IsFinish, IsStart, IsSpan, AreSpans, IsWrittenBy, with_times, with_op}
use Rattle.cert_checker.proofs.Lookups.{starts_first, ends}
use Rattle.cert_checker.proofs.Starts.{below_or_at}
use Rattle.cert_checker.proofs.Marks.{set_at, set_back}
use Rattle.cert_checker.proofs.Written.{of_cluster, cluster_value}

lesser : (a b : ℕ) → ((a ≤ b) × (min a b ≡ a)) ⊎ ((b ≤ a) × (min a b ≡ b))
lesser a b = grind arith

greater : (a b : ℕ) → ((a ≤ b) × (max a b ≡ b)) ⊎ ((b ≤ a) × (max a b ≡ a))
greater a b = grind arith

-- before the first operation
pub no_span : (ops : List Op) (value : ℕ) → IsSpan ops 0 value (record { finish = 2 ^ 64 - 1; start = 0 })
no_span ops value = record {
  finish = record { least = λ a of. absurd (omega (arith, of.before)); reached = inl (λ i. 2 ^ 64 - 1) };
  start = record { greatest = λ r of read. absurd (omega (arith, of.before)); reached = inl (λ i. 0) };
}

-- one more operation
module _ (ops : List Op) (n : ℕ) (a : Op) (at : StandsAt ops n a) where
  here : IsOfValue ops (n + 1) a.value a
  here = record { place = n; before = omega arith; there = at; value_is = λ i. a.value }

  earlier : (value : ℕ) (b : Op) → IsOfValue ops n value b → IsOfValue ops (n + 1) value b
  earlier value b of = record { place = of.place; before = omega (arith, of.before); there = of.there; value_is = of.value_is }

  seen : (value : ℕ) (b : Op) → IsOfValue ops (n + 1) value b → IsOfValue ops n value b ⊎ (b ≡ a)
  seen value b of = elim (below_or_at of.place n of.before) [
    | inl low ↦ inl (record { place = of.place; before = low; there = of.there; value_is = of.value_is })
    | inr e ↦ inr (same_at ops n b a (subst (λ p. StandsAt ops p b) e of.there) at)
  ]

  apart_from : (value : ℕ) (b : Op) → value ≢ a.value → IsOfValue ops (n + 1) value b → b ≡ a → ⊥
  apart_from value b apart of e = apart (sym of.value_is ∙ ap (λ (x : Op). x.value) e)

  finish_more : (f : ℕ) → IsFinish ops n a.value f → IsFinish ops (n + 1) a.value (min f (latest_finish a))
  finish_more f is = record {
    least = λ b of. elim (seen a.value b of) [
      | inl old ↦ let h = is.least b old in omega arith
      | inr e ↦ let h = ap latest_finish e in omega arith
    ];
    reached = elim (lesser f (latest_finish a)) [
      | inl was ↦ kept was.1 is.reached
      | inr now ↦ inr (a, here, sym now.1)
    ];
  } where
    kept : min f (latest_finish a) ≡ f → (f ≡ 2 ^ 64 - 1) ⊎ ((b : Op) × IsOfValue ops n a.value b × (latest_finish b ≡ f))
        → (min f (latest_finish a) ≡ 2 ^ 64 - 1) ⊎ ((b : Op) × IsOfValue ops (n + 1) a.value b × (latest_finish b ≡ min f (latest_finish a)))
    kept e (inl most) = inl (e ∙ most)
    kept e (inr (b, of, is)) = inr (b, earlier a.value b of, is ∙ sym e)

  finish_still : (value f : ℕ) → value ≢ a.value → IsFinish ops n value f → IsFinish ops (n + 1) value f
  finish_still value f apart is = record {
    least = λ b of. elim (seen value b of) [ inl old ↦ is.least b old | inr e ↦ absurd (apart_from value b apart of e) ];
    reached = kept is.reached;
  } where
    kept : (f ≡ 2 ^ 64 - 1) ⊎ ((b : Op) × IsOfValue ops n value b × (latest_finish b ≡ f)) → (f ≡ 2 ^ 64 - 1) ⊎ ((b : Op) × IsOfValue ops (n + 1) value b × (latest_finish b ≡ f))
    kept (inl most) = inl most
    kept (inr (b, of, is)) = inr (b, earlier value b of, is)

  start_more : (s : ℕ) → IsRead a → IsStart ops n a.value s → IsStart ops (n + 1) a.value (max s (earliest_start a))
  start_more s reads is = record {
    greatest = λ b of read. elim (seen a.value b of) [
      | inl old ↦ let h = is.greatest b old read in omega arith
      | inr e ↦ let h = ap earliest_start e in omega arith
    ];
    reached = elim (greater s (earliest_start a)) [
      | inl now ↦ inr (a, here, reads, sym now.1)
      | inr was ↦ kept was.1 is.reached
    ];
  } where
    kept : max s (earliest_start a) ≡ s → (s ≡ 0) ⊎ ((b : Op) × IsOfValue ops n a.value b × IsRead b × (earliest_start b ≡ s))
        → (max s (earliest_start a) ≡ 0) ⊎ ((b : Op) × IsOfValue ops (n + 1) a.value b × IsRead b × (earliest_start b ≡ max s (earliest_start a)))
    kept e (inl none) = inl (e ∙ none)
    kept e (inr (b, of, read, is)) = inr (b, earlier a.value b of, read, is ∙ sym e)

  start_still : (value s : ℕ) → ((b : Op) → IsOfValue ops (n + 1) value b → IsRead b → b ≡ a → ⊥) → IsStart ops n value s → IsStart ops (n + 1) value s
  start_still value s free is = record {
    greatest = λ b of read. elim (seen value b of) [ inl old ↦ is.greatest b old read | inr e ↦ absurd (free b of read e) ];
    reached = kept is.reached;
  } where
    kept : (s ≡ 0) ⊎ ((b : Op) × IsOfValue ops n value b × IsRead b × (earliest_start b ≡ s)) → (s ≡ 0) ⊎ ((b : Op) × IsOfValue ops (n + 1) value b × IsRead b × (earliest_start b ≡ s))
    kept (inl none) = inl none
    kept (inr (b, of, read, is)) = inr (b, earlier value b of, read, is)

  span_of_kind : (span : Span) (kind : Kind) → a.kind ≡ kind → IsSpan ops n a.value span
      → IsSpan ops (n + 1) a.value (with_times span kind (earliest_start a) (latest_finish a))
  span_of_kind span Read e is = record { finish = finish_more span.finish is.finish; start = start_more span.start e is.start }
  span_of_kind span Write e is = record {
    finish = finish_more span.finish is.finish;
    start = start_still a.value span.start (λ b of read same. let kind = ap (λ (x : Op). x.kind) same in absurd (cc)) is.start;
  }

  -- the spans with one more operation
  pub spans_more : (spans : List Span) (span : Span) → a.value < length spans → StandsAt spans a.value span → AreSpans ops n spans
      → AreSpans ops (n + 1) (set spans a.value (with_op span a))
  spans_more spans span within was are value other stands = elim (cases_eq value a.value) [
    | inl e ↦
        let same : other ≡ with_op span a =
        same_at (set spans a.value (with_op span a)) a.value other (with_op span a) (subst (λ v. StandsAt (set spans a.value (with_op span a)) v other) e stands)
        (set_at spans a.value (with_op span a) span within) in
        subst (λ v. IsSpan ops (n + 1) v other) (sym e) (subst (IsSpan ops (n + 1) a.value) (sym same) (span_of_kind span a.kind (λ i. a.kind) (are a.value span was)))
    | inr apart ↦
        let is : IsSpan ops n value other = are value other (set_back spans a.value (with_op span a) span value other apart stands) in
        record {
          finish = finish_still value other.finish apart is.finish;
          start = start_still value other.start (λ b of read e. apart_from value b apart of e) is.start;
        }
  ]

abbrev pub no_times : Span
no_times = record { finish = 2 ^ 64 - 1; start = 0 }

-- the spans after the initial write
pub first_spans : (key : KeyOps) (slots : ℕ) (spans : List Span) → 0 < slots → spans ≡ replicate slots no_times
    → AreSpans (operations key) (0 + 1) (set spans 0 (with_op no_times initial_write))
first_spans key slots spans some e =
    spans_more (operations key) 0 initial_write refl spans no_times (let l = ap length e ∙ length-replicate slots no_times in omega arith)
    (none_at 0 (let l = ap length e ∙ length-replicate slots no_times in omega arith)) none
  where
    none_at : (v : ℕ) → v < slots → StandsAt spans v no_times
    none_at v low = subst (λ (xs : List Span). StandsAt xs v no_times) (sym e)
        (slice_get-get_or (replicate slots no_times) v no_times (rw (length-replicate slots no_times) low) ∙ ap (λ x. Some x) (get_or-replicate slots v no_times no_times low))

    none : AreSpans (operations key) 0 spans
    none v span at =
        let l = ap length e ∙ length-replicate slots no_times in
        let w = slice_get_within spans v span at in
        let same : span ≡ no_times = same_at spans v span no_times at (none_at v (omega arith)) in
        subst (IsSpan (operations key) 0 v) (sym same) (no_span (operations key) v)

-- what the spans of two values force
module _ (key : KeyOps) (valid : IsValidKey key) (d value other c next : ℕ) (span after : Span)
    (span_is : IsSpan (operations key) (length (operations key)) value span) (after_is : IsSpan (operations key) (length (operations key)) other after)
    (by : IsWrittenBy (operations key) value c) (next_by : IsWrittenBy (operations key) other next) where
  pub forces_from_spans : span.finish + d < after.start → Forces (operations key) d c next
  forces_from_spans less = go span_is.finish.reached after_is.start.reached
    where
      go : (span.finish ≡ 2 ^ 64 - 1) ⊎ ((a : Op) × IsOfValue (operations key) (length (operations key)) value a × (latest_finish a ≡ span.finish))
          → (after.start ≡ 0) ⊎ ((r : Op) × IsOfValue (operations key) (length (operations key)) other r × IsRead r × (earliest_start r ≡ after.start))
          → Forces (operations key) d c next
      go _ (inl none) = absurd (omega (arith, less, none))
      go (inl most) (inr (r, of, read, starts)) =
          let there : Contains (operations key) r = contains_at (operations key) of.place r of.there in
          absurd (omega (arith, less, most, starts, starts_first key valid r there, ends key valid r there))
      go (inr (a, a_of, finishes)) (inr (r, of, read, starts)) = record {
        a = a;
        r = r;
        a_is = of_cluster (operations key) value c a by (contains_at (operations key) a_of.place a a_of.there) a_of.value_is;
        r_is = of_cluster (operations key) other next r next_by (contains_at (operations key) of.place r of.there) of.value_is;
        read = read;
        precedes = subst (λ k. latest_finish a + moved d k < earliest_start r) (sym read) (omega (arith, less, finishes, starts));
      }

  of_value : (v : ℕ) (a : Op) → Contains (operations key) a → a.value ≡ v → IsOfValue (operations key) (length (operations key)) v a
  of_value v a there e = record { place = there.0; before = there.1; there = at_its_place (operations key) a there; value_is = e }

  pub spans_from_forces : NamesItsWrites (operations key) → Forces (operations key) d c next → span.finish + d < after.start
  spans_from_forces names f =
      let low = span_is.finish.least f.a (of_value value f.a f.a_is.there (cluster_value (operations key) names value c f.a by f.a_is)) in
      let high = after_is.start.greatest f.r (of_value other f.r f.r_is.there (cluster_value (operations key) names other next f.r next_by f.r_is)) f.read in
      let between : latest_finish f.a + d < earliest_start f.r = subst (λ k. latest_finish f.a + moved d k < earliest_start f.r) f.read f.precedes in
      omega arith
