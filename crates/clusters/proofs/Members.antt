-- The members of a cluster: how its numbers change with one operation more.
use Rattle.std.proofs.Common.{◌≡◌, ◌≢◌, ◌⊎◌, ℕ, ◌<◌, ◌≤◌, List, [], ◌∷◌, ◌++◌, Option, Some, None, min, refl, sym, ◌∙◌, ap, inl, inr, subst, arith}
use Rattle.std.proofs.lemmas.Bool.{cases_lt}
use Rattle.std.proofs.lemmas.List.Elements.{Contains-push, Contains-push_cases, Contains-append_left}
use Rattle.stale_model.specs.declared.Op.{Op}
use Rattle.stale_model.specs.Operations.{IsRead, earliest_start, latest_finish}
use Rattle.stale_model.specs.Clusters.{IsOfValue, IsReadOf, IsLeastFinish, IsGreatestStart, AreReadsOf}

module _ (ops : List Op) (value : ℕ) (a : Op) where
  OfValue-more : (x : Op) → IsOfValue ops value x → IsOfValue (ops ++ a ∷ []) value x
  OfValue-more x h = record { there = Contains-append_left ops (a ∷ []) x h.there; value_is = h.value_is }

  OfValue-cases : (x : Op) → IsOfValue (ops ++ a ∷ []) value x → IsOfValue ops value x ⊎ (a ≡ x)
  OfValue-cases x h = elim (Contains-push_cases ops a x h.there) [
    | inl before ↦ inl (record { there = before; value_is = h.value_is })
    | inr same ↦ inr same
  ]

  ReadOf-more : (x : Op) → IsReadOf ops value x → IsReadOf (ops ++ a ∷ []) value x
  ReadOf-more x h = record { read = record { there = Contains-append_left ops (a ∷ []) x h.read.there; kind = h.read.kind }; value_is = h.value_is }

  ReadOf-cases : (x : Op) → IsReadOf (ops ++ a ∷ []) value x → IsReadOf ops value x ⊎ (a ≡ x)
  ReadOf-cases x h = elim (Contains-push_cases ops a x h.read.there) [
    | inl before ↦ inl (record { read = record { there = before; kind = h.read.kind }; value_is = h.value_is })
    | inr same ↦ inr same
  ]

  -- an operation that finishes later changes no least finish
  pub LeastFinish-kept : (f first : ℕ) → (a.value ≡ value → f < latest_finish a) → IsLeastFinish ops value f first → IsLeastFinish (ops ++ a ∷ []) value f first
  LeastFinish-kept f first later h = record {
    op = h.op;
    member = OfValue-more h.op h.member;
    finish_is = h.finish_is;
    first_is = h.first_is;
    least = λ x m. elim (OfValue-cases x m) [
      | inl before ↦ h.least x before
      | inr same ↦ let l = later (ap (λ (y : Op). y.value) same ∙ m.value_is) in subst (λ (y : Op). f ≤ latest_finish y) same (omega arith)
    ];
    least_record = λ x m e. elim (OfValue-cases x m) [
      | inl before ↦ h.least_record x before e
      | inr same ↦ let l = later (ap (λ (y : Op). y.value) same ∙ m.value_is) in let g = ap latest_finish same in absurd (omega arith)
    ];
  }

  -- one that finishes earlier is the new least finish
  pub LeastFinish-next : (f first : ℕ) → a.value ≡ value → latest_finish a < f → IsLeastFinish ops value f first → IsLeastFinish (ops ++ a ∷ []) value (latest_finish a) a.rec
  LeastFinish-next f first is less h = record {
    op = a;
    member = record { there = Contains-push ops a; value_is = is };
    finish_is = refl;
    first_is = refl;
    least = λ x m. elim (OfValue-cases x m) [
      | inl before ↦ let l = h.least x before in omega arith
      | inr same ↦ let g = ap latest_finish same in omega arith
    ];
    least_record = λ x m e. elim (OfValue-cases x m) [
      | inl before ↦ let l = h.least x before in absurd (omega arith)
      | inr same ↦ let r = ap (λ (y : Op). y.rec) same in omega arith
    ];
  }

  -- one that finishes with the least changes no more than its record
  pub LeastFinish-tie : (f first : ℕ) → a.value ≡ value → latest_finish a ≡ f → IsLeastFinish ops value f first → IsLeastFinish (ops ++ a ∷ []) value (latest_finish a) (min first a.rec)
  LeastFinish-tie f first is tie h =
      let (op, member, finish, rec) = elim (cases_lt a.rec first) as (λ _. (x : Op) × IsOfValue (ops ++ a ∷ []) value x × (latest_finish x ≡ latest_finish a) × (x.rec ≡ min first a.rec)) [
        | inl less ↦ (a, record { there = Contains-push ops a; value_is = is }, refl, omega arith)
        | inr le ↦ (h.op, OfValue-more h.op h.member, h.finish_is ∙ sym tie, let r = h.first_is in omega arith)
      ] in
      record {
        op = op;
        member = member;
        finish_is = finish;
        first_is = rec;
        least = λ x m. elim (OfValue-cases x m) [
          | inl before ↦ let l = h.least x before in omega arith
          | inr same ↦ let g = ap latest_finish same in omega arith
        ];
        least_record = λ x m e. elim (OfValue-cases x m) [
          | inl before ↦ let l = h.least_record x before (e ∙ tie) in omega arith
          | inr same ↦ let r = ap (λ (y : Op). y.rec) same in omega arith
        ];
      }

  this_read : {P : Type 0} → (IsRead a → a.value ≡ value → P) → (x : Op) → a ≡ x → IsReadOf (ops ++ a ∷ []) value x → P
  this_read f x same m = f (ap (λ (y : Op). y.kind) same ∙ m.read.kind) (ap (λ (y : Op). y.value) same ∙ m.value_is)

  -- an operation that is no read, or starts earlier, changes no greatest start
  pub GreatestStart-kept : (s last : ℕ) → (IsRead a → a.value ≡ value → earliest_start a < s) → IsGreatestStart ops value s last → IsGreatestStart (ops ++ a ∷ []) value s last
  GreatestStart-kept s last earlier h = record {
    op = h.op;
    member = ReadOf-more h.op h.member;
    start_is = h.start_is;
    last_is = h.last_is;
    greatest = λ x m. elim (ReadOf-cases x m) [
      | inl before ↦ h.greatest x before
      | inr same ↦ let l = this_read earlier x same m in let g = ap earliest_start same in omega arith
    ];
    least_record = λ x m e. elim (ReadOf-cases x m) [
      | inl before ↦ h.least_record x before e
      | inr same ↦ let l = this_read earlier x same m in let g = ap earliest_start same in absurd (omega arith)
    ];
  }

  -- a read that starts later is the new greatest start
  pub GreatestStart-next : (s last : ℕ) → IsRead a → a.value ≡ value → s < earliest_start a → IsGreatestStart ops value s last → IsGreatestStart (ops ++ a ∷ []) value (earliest_start a) a.rec
  GreatestStart-next s last read is more h = record {
    op = a;
    member = record { read = record { there = Contains-push ops a; kind = read }; value_is = is };
    start_is = refl;
    last_is = refl;
    greatest = λ x m. elim (ReadOf-cases x m) [
      | inl before ↦ let l = h.greatest x before in omega arith
      | inr same ↦ let g = ap earliest_start same in omega arith
    ];
    least_record = λ x m e. elim (ReadOf-cases x m) [
      | inl before ↦ let l = h.greatest x before in absurd (omega arith)
      | inr same ↦ let r = ap (λ (y : Op). y.rec) same in omega arith
    ];
  }

  -- a read that starts with the greatest changes no more than its record
  pub GreatestStart-tie : (s last : ℕ) → IsRead a → a.value ≡ value → earliest_start a ≡ s → IsGreatestStart ops value s last → IsGreatestStart (ops ++ a ∷ []) value (earliest_start a) (min last a.rec)
  GreatestStart-tie s last read is tie h =
      let (op, member, start, rec) = elim (cases_lt a.rec last) as (λ _. (x : Op) × IsReadOf (ops ++ a ∷ []) value x × (earliest_start x ≡ earliest_start a) × (x.rec ≡ min last a.rec)) [
        | inl less ↦ (a, record { read = record { there = Contains-push ops a; kind = read }; value_is = is }, refl, omega arith)
        | inr le ↦ (h.op, ReadOf-more h.op h.member, h.start_is ∙ sym tie, let r = h.last_is in omega arith)
      ] in
      record {
        op = op;
        member = member;
        start_is = start;
        last_is = rec;
        greatest = λ x m. elim (ReadOf-cases x m) [
          | inl before ↦ let l = h.greatest x before in omega arith
          | inr same ↦ let g = ap earliest_start same in omega arith
        ];
        least_record = λ x m e. elim (ReadOf-cases x m) [
          | inl before ↦ let l = h.least_record x before (e ∙ tie) in omega arith
          | inr same ↦ let r = ap (λ (y : Op). y.rec) same in omega arith
        ];
      }

  -- the first read has the greatest start
  pub GreatestStart-first : IsRead a → a.value ≡ value → ((x : Op) → IsReadOf ops value x → ⊥) → IsGreatestStart (ops ++ a ∷ []) value (earliest_start a) a.rec
  GreatestStart-first read is none = record {
    op = a;
    member = record { read = record { there = Contains-push ops a; kind = read }; value_is = is };
    start_is = refl;
    last_is = refl;
    greatest = λ x m. elim (ReadOf-cases x m) [
      | inl before ↦ absurd (none x before)
      | inr same ↦ let g = ap earliest_start same in omega arith
    ];
    least_record = λ x m e. elim (ReadOf-cases x m) [
      | inl before ↦ absurd (none x before)
      | inr same ↦ let r = ap (λ (y : Op). y.rec) same in omega arith
    ];
  }

-- an operation that is no read of the value changes nothing of its reads
pub ReadsOf-kept : (ops : List Op) (a w : Op) (s : Option ℕ) (last : ℕ) → (IsRead a → a.value ≢ w.value) → AreReadsOf ops w s last → AreReadsOf (ops ++ a ∷ []) w s last
ReadsOf-kept ops a w None last other h = record {
  none = λ r m. elim (ReadOf-cases ops w.value a r m) [
    | inl before ↦ h.none r before
    | inr same ↦ subst (λ (y : Op). IsRead y → y.value ≢ w.value) same other m.read.kind m.value_is
  ];
  last_is = h.last_is;
}
ReadsOf-kept ops a w (Some s) last other h = GreatestStart-kept ops w.value a s last (λ k e. absurd (other k e)) h
