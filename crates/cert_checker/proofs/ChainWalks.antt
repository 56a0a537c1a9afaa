-- A chain, walked to one of its places.
use Rattle.std.proofs.Common.{◌≡◌, inl, inr, ◌<◌, ◌≤◌, ◌+◌, ◌-◌, ℕ, List, length, Option, Some, None, sym, subst, arith}
use Rattle.std.specs.Prelude.{Contains}
use Rattle.std.proofs.lemmas.Option.{slice_get_within}
use Rattle.stale_model.specs.declared.Op.{Op}
use Rattle.stale_model.specs.Orders.{StandsAt}
use Rattle.stale_model.specs.Refutations.{Forces}
use Rattle.stale_model.proofs.Places.{at_its_place, same_at}
use Rattle.cert_checker.specs.OrderFaults.{StandsTo}
use Rattle.cert_checker.specs.declared.refutations.Case.{Case}
use Rattle.cert_checker.specs.RefutationSteps.{case_ops, case_stuck, IsCase, IsWrittenBy, HaveMark, IsChain, FindsEnd}
use Rattle.cert_checker.proofs.Cases.{case_names, span_in, span_at}
use Rattle.cert_checker.proofs.Marks.{IsGoodTo, entry}
use Rattle.cert_checker.proofs.Starts.{below_or_at}
use Rattle.cert_checker.proofs.Spans.{forces_from_spans, spans_from_forces}

-- each entry before place n is forced by the one before it
abbrev pub IsForcedTo : List Op → ℕ → List ℕ → ℕ → Type 0
IsForcedTo ops d chain n = (i c next : ℕ) → i + 1 < n → StandsAt chain i c → StandsAt chain (i + 1) next → Forces ops d c next

-- the entry before place n, the write of this value
pub record IsLast (ops : List Op) (chain : List ℕ) (n value : ℕ) : Type 0 where
  pub place : ℕ
  pub next : place + 1 ≡ n
  pub c : ℕ
  pub there : StandsAt chain place c
  pub by : IsWrittenBy ops value c

-- that entry, or that there is none
abbrev pub LastIs : List Op → List ℕ → ℕ → Option ℕ → Type 0
LastIs ops chain n None = n ≡ 0
LastIs ops chain n (Some value) = IsLast ops chain n value

-- one more entry, which the one before it forces
pub forced_more : (ops : List Op) (d : ℕ) (chain : List ℕ) (n rec : ℕ) → StandsAt chain n rec
    → ((i c : ℕ) → i + 1 ≡ n → StandsAt chain i c → Forces ops d c rec) → IsForcedTo ops d chain n → IsForcedTo ops d chain (n + 1)
forced_more ops d chain n rec at link to i c next low there after = elim (below_or_at (i + 1) n low) [
  | inl below ↦ to i c next below there after
  | inr e ↦ subst (Forces ops d c) (sym (entry chain n rec at (i + 1) next e after)) (link i c e there)
]

-- nothing stands before the first entry
pub no_link : (ops : List Op) (d : ℕ) (chain : List ℕ) (n rec : ℕ) → n ≡ 0 → (i c : ℕ) → i + 1 ≡ n → StandsAt chain i c → Forces ops d c rec
no_link ops d chain n rec none i c e there = absurd (omega (arith, none, e))

-- an entry that stood before is in no chain
pub stood_before : (case : Case) (chain : List ℕ) (n rec : ℕ) → StandsAt chain n rec → StandsTo chain n rec → IsChain case chain → ⊥
stood_before case chain n rec at s is = omega (arith, s.before, is.once s.earlier n rec s.there at)

-- the entry at place n, of this value, and the one before it, by their spans
module _ (case : Case) (is : IsCase case) (chain : List ℕ) (n rec value before : ℕ) (at : StandsAt chain n rec)
    (by : IsWrittenBy (case_ops case) value rec) (last : IsLast (case_ops case) chain n before) where
  pub link : (span_in case before).finish + case.d < (span_in case value).start → (i c : ℕ) → i + 1 ≡ n → StandsAt chain i c → Forces (case_ops case) case.d c rec
  link less i c e there =
      let place : i ≡ last.place = omega (arith, e, last.next) in
      let same : c ≡ last.c = same_at chain last.place c last.c (subst (λ p. StandsAt chain p c) place there) last.there in
      subst (λ x. Forces (case_ops case) case.d x rec) (sym same)
      (forces_from_spans case.key.now is.valid case.d before value last.c rec (span_in case before) (span_in case value) (span_at case is before last.c last.by) (span_at case is value rec by) last.by by less)

  pub not_forced : ((span_in case before).finish + case.d < (span_in case value).start → ⊥) → IsChain case chain → ⊥
  not_forced not chained =
      not
      (spans_from_forces case.key.now is.valid case.d before value last.c rec (span_in case before) (span_in case value) (span_at case is before last.c last.by) (span_at case is value rec by) last.by by
      (case_names case is) (chained.forced last.place last.c rec last.there (subst (λ p. StandsAt chain p rec) (sym last.next) at)))

-- past the end of the chain
pub finds_end : (case : Case) (chain marks : List ℕ) (mark n : ℕ) (last : Option ℕ) → length chain ≤ n → n ≤ length chain → IsGoodTo (Contains (case_stuck case)) chain n
    → IsForcedTo (case_ops case) case.d chain n → HaveMark (case_ops case) chain n marks mark → LastIs (case_ops case) chain n last → FindsEnd case chain marks mark last
finds_end case chain marks mark n None past within good forced marked none = λ is. let some = is.some in omega arith
finds_end case chain marks mark n (Some value) past within good forced marked last = (
  record {
    some = let next = last.next in omega arith;
    members = λ x c. good.known c.0 x (low c.0 x (at_its_place chain x c)) (at_its_place chain x c);
    once = λ i j x a b. good.once i j x (low i x a) (low j x b) a b;
    forced = λ i c next there after. forced i c next (low (i + 1) next after) there after;
  },
  (
    last.c,
    record {
      last_is = subst (λ p. StandsAt chain p last.c) (let next = last.next in let e : last.place ≡ length chain - 1 = omega arith in e) last.there;
      value_is = last.by;
      marked = subst (λ k. HaveMark (case_ops case) chain k marks mark) (let e : n ≡ length chain = omega arith in e) marked;
    },
  ),
) where
  low : (i x : ℕ) → StandsAt chain i x → i < n
  low i x at = let l = slice_get_within chain i x at in omega arith
