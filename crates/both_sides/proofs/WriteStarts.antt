-- The starts of writes by value, and early reads by them.
use Rattle.std.proofs.Common.{◌≡◌, ◌≢◌, ◌⊎◌, ℕ, ◌+◌, ◌<◌, ◌≤◌, List, [], ◌∷◌, length, get_or, set, take, refl, sym, ◌∙◌, inl, inr, subst, ap, arith}
use Rattle.std.specs.Prelude.{Contains, slice_index, replicate}
use Rattle.std.proofs.lemmas.Bool.{cases_lt, cases_order}
use Rattle.std.proofs.lemmas.List.{get_or-set_same, get_or-set_other, get_or-replicate, take_all}
use Rattle.std.proofs.lemmas.List.Elements.{Contains-push_cases}
use Rattle.stale_model.specs.declared.Op.{Op}
use Rattle.stale_model.specs.declared.KeyOps.{KeyOps}
use Rattle.stale_model.specs.Operations.{initial_write, operations, IsWrite, earliest_start}
use Rattle.stale_model.specs.Valid.{IsValidKey}
use Rattle.stale_model.specs.Faults.{IsReadIn, IsMatchedKey}
use Rattle.model_laws.proofs.Named.{matched_keys_name_their_writes}
use Rattle.clusters.proofs.Growing.{take_next}
use Rattle.clusters.proofs.Records.{IsAt, there_is}
use Rattle.both_sides.specs.LeastSides.{IsEarlyOnBothSides}
use Rattle.both_sides.specs.WriteStarts.{AreWriteStarts, IsEarlyBy}
use Rattle.both_sides.proofs.Ticks.{op_ticks}

-- of the writes among these operations, each has its start at its value's place
abbrev pub AreStartsOf : List Op → List ℕ → Type 0
AreStartsOf ops starts = (w : Op) → Contains ops w → IsWrite w → slice_index starts w.value ≡ earliest_start w

-- at first only that of the initial write
pub starts_first : (starts : List ℕ) (slots : ℕ) → starts ≡ replicate slots 0 → 0 < slots → AreStartsOf (initial_write ∷ []) starts
starts_first starts slots are some w (k, within, is) write =
    let first : k ≡ 0 = omega arith in
    let same : initial_write ≡ w = subst (λ (i : ℕ). get_or (initial_write ∷ []) i w ≡ w) first is in
    subst (λ (v : Op). slice_index starts v.value ≡ earliest_start v) same
    (subst (λ (xs : List ℕ). slice_index xs 0 ≡ 0) (sym are) (get_or-replicate slots 0 0 0 some))

module _ (key : KeyOps) (valid : IsValidKey key) (matched : IsMatchedKey (operations key)) (i : ℕ) (a : Op) (at : IsAt key i a) (starts : List ℕ)
    (are : AreStartsOf (initial_write ∷ take i key.ops) starts) where
  among : (b : Op) → Contains (initial_write ∷ take (i + 1) key.ops) b → Contains (initial_write ∷ take i key.ops) b ⊎ (a ≡ b)
  among b there = Contains-push_cases (initial_write ∷ take i key.ops) a b (subst (λ (xs : List Op). Contains (initial_write ∷ xs) b) (take_next key.ops i a at.at) there)

  -- a read changes nothing
  pub starts_read : (IsWrite a → ⊥) → AreStartsOf (initial_write ∷ take (i + 1) key.ops) starts
  starts_read reads w there write = elim (among w there) [
    | inl before ↦ are w before write
    | inr same ↦ absurd (reads (subst IsWrite (sym same) write))
  ]

  -- a write puts its own, and no other write has its value
  pub starts_write : IsWrite a → (start : ℕ) → start ≡ earliest_start a → a.value < length starts → ((w : Op) → Contains (initial_write ∷ take i key.ops) w → Contains (operations key) w)
      → AreStartsOf (initial_write ∷ take (i + 1) key.ops) (set starts a.value start)
  starts_write write start start_is within member w there is_write = elim (among w there) [
    | inr same ↦ subst (λ (v : Op). slice_index (set starts a.value start) v.value ≡ earliest_start v) same (get_or-set_same starts a.value start 0 within ∙ start_is)
    | inl before ↦
        let once = (matched_keys_name_their_writes key valid matched).once in
        elim (same_value_or_not w) [
          | inl e ↦
              let one : a ≡ w = once w.value a w (record { there = there_is key i a at; kind = write; value_is = sym e }) (record { there = member w before; kind = is_write; value_is = refl }) in
              subst (λ (v : Op). slice_index (set starts a.value start) v.value ≡ earliest_start v) one (get_or-set_same starts a.value start 0 within ∙ start_is)
          | inr apart ↦ get_or-set_other starts a.value w.value start 0 apart ∙ are w before is_write
        ]
  ] where
    same_value_or_not : (w : Op) → (w.value ≡ a.value) ⊎ (w.value ≢ a.value)
    same_value_or_not w = elim (cases_order w.value a.value) [
      | inl e ↦ inl e
      | inr less ↦ inr (λ e. elim less [ inl l ↦ omega arith | inr l ↦ omega arith ])
    ]

-- at the end those of all
pub starts_all : (key : KeyOps) (i : ℕ) (starts : List ℕ) → length key.ops ≤ i → AreStartsOf (initial_write ∷ take i key.ops) starts → AreStartsOf (operations key) starts
starts_all key i starts le are = subst (λ (xs : List Op). AreStartsOf (initial_write ∷ xs) starts) (take_all i key.ops le) are

pub early_is_read : (ops : List Op) (g : ℕ) (b : Op) → IsEarlyOnBothSides ops g b → IsReadIn ops b
early_is_read ops g b f = f.read

module _ (key : KeyOps) (g : ℕ) (valid : IsValidKey key) (matched : IsMatchedKey (operations key)) (starts : List ℕ) (are : AreWriteStarts key starts) (a : Op) (there : Contains (operations key) a) where
  -- a read that ends before the start at its value's place is early on both sides
  pub early_here : IsEarlyBy g starts a → IsEarlyOnBothSides (operations key) g a
  early_here (read, less) =
      let (w, is) = (matched_keys_name_their_writes key valid matched).written a there in
      let start : slice_index starts w.value ≡ earliest_start w = are.each w is.there is.kind in
      let own : slice_index starts a.value ≡ earliest_start w = subst (λ (v : ℕ). slice_index starts v ≡ earliest_start w) is.value_is start in
      let ticks = op_ticks key w valid is.there in
      record {
        read = record { there = there; kind = read };
        before = (
          w,
          is,
          record {
            recorded = elim (cases_lt 0 w.rec) [
              | inl above ↦ above
              | inr low ↦
                  let none : earliest_start w ≡ 0 = ap earliest_start (ticks.initial (omega arith)) in
                  absurd (omega arith)
            ];
            apart = λ above. omega arith;
          },
        );
      }

  -- and no other operation is
  pub not_early_here : (IsEarlyBy g starts a → ⊥) → IsEarlyOnBothSides (operations key) g a → ⊥
  not_early_here none early =
      let (w, is, before) = early.before in
      let start : slice_index starts w.value ≡ earliest_start w = are.each w is.there is.kind in
      let own : slice_index starts a.value ≡ earliest_start w = subst (λ (v : ℕ). slice_index starts v ≡ earliest_start w) is.value_is start in
      let read = early.read.kind in
      let ticks = op_ticks key a valid there in
      elim (cases_lt 0 a.rec) [
        | inl above ↦ let h = before.apart above in none (read, omega arith)
        | inr low ↦ let write = ap (λ (x : Op). x.kind) (ticks.initial (omega arith)) in cc
      ]
