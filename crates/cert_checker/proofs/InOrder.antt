-- The operations of a list of records, in its order.
use Rattle.std.proofs.Common.{◌≡◌, ℕ, ◌+◌, ◌<◌, ◌≤◌, List, length, get_or, subst, below_more, inl, inr, arith}
use Rattle.std.specs.Prelude.{Contains}
use Rattle.std.proofs.lemmas.Bool.{cases_lt}
use Rattle.std.proofs.lemmas.List.{length-map}
use Rattle.std.proofs.lemmas.Option.{slice_get-get_or, slice_get_within}
use Rattle.stale_model.specs.declared.Op.{Op}
use Rattle.stale_model.specs.declared.Kind.TheVariants.{Read}
use Rattle.stale_model.specs.declared.KeyOps.{KeyOps}
use Rattle.stale_model.specs.Operations.{operations, records_of, latest_finish}
use Rattle.stale_model.specs.Orders.{StandsAt}
use Rattle.stale_model.specs.Valid.{IsValidKey}
use Rattle.stale_model.proofs.Places.{contains_at, something_at, same_at, record_stands}
use Rattle.model_laws.proofs.Named.{key_differs}
use Rattle.cert_checker.specs.declared.orders.Latest.{Latest}
use Rattle.cert_checker.specs.OrderFaults.{IsFirstWrong, IsNowhere, IsBackwards}
use Rattle.cert_checker.specs.Steps.{AreListed, IsAfter, with_op}
use Rattle.cert_checker.proofs.Starts.{AreLatest, one_more, backwards_at, not_backwards_at, IsBackwards as IsListBackwards}

-- what a loop reads past the end, which it never does
abbrev pub no_op : Op
no_op = record { rec = 0; client = 0; kind = Read; value = 0; start = 0; finish = 0; slack = 0 }

-- a place at which something is wrong, where nothing is before n, is no lesser
pub not_below : (IsWrong : ℕ → Type 0) (n : ℕ) → ((p : ℕ) → p < n → IsWrong p → ⊥) → (p : ℕ) → IsWrong p → n ≤ p
not_below IsWrong n none p wrong = elim (cases_lt p n) [
  | inl low ↦ absurd (none p low wrong)
  | inr le ↦ le
]

module _ (key : KeyOps) (valid : IsValidKey key) (listed : List Op) (are : AreListed (operations key) (records_of listed) listed) where
  -- where the record of an operation stands, so does the operation
  pub op_stands : (i : ℕ) (a : Op) → Contains (operations key) a → StandsAt (records_of listed) i a.rec → StandsAt listed i a
  op_stands i a c at =
      let within : i < length listed = simp length-map at (slice_get_within (records_of listed) i a.rec at) in
      let (x, there) = something_at listed i within in
      let same : x.rec ≡ a.rec = same_at (records_of listed) i x.rec a.rec (record_stands listed i x there) at in
      subst (StandsAt listed i) (key_differs key valid x a (are.known x (contains_at listed i x there)) c same) there

  pub known_at : (i : ℕ) (a : Op) → StandsAt listed i a → Contains (operations key) a
  known_at i a at = are.known a (contains_at listed i a at)

  module _ (d : ℕ) where
    pub in_list : (p : ℕ) → IsBackwards (operations key) d (records_of listed) p → IsListBackwards listed d p
    in_list p w = record {
      earlier = w.earlier;
      rises = w.rises;
      a = w.a;
      b = w.b;
      a_is = op_stands p w.a w.a_in w.a_is;
      b_is = op_stands w.earlier w.b w.b_in w.b_is;
      precedes = w.precedes;
    }

    pub in_records : (p : ℕ) → IsListBackwards listed d p → IsBackwards (operations key) d (records_of listed) p
    in_records p w = record {
      earlier = w.earlier;
      rises = w.rises;
      a = w.a;
      b = w.b;
      a_in = known_at p w.a w.a_is;
      b_in = known_at w.earlier w.b w.b_is;
      a_is = record_stands listed p w.a w.a_is;
      b_is = record_stands listed w.earlier w.b w.b_is;
      precedes = w.precedes;
    }

    module _ (i : ℕ) (latest : Latest) (within : i < length listed) (latest_is : AreLatest listed i latest)
        (none : (p : ℕ) → p < i → IsBackwards (operations key) d (records_of listed) p → ⊥) where
      at : StandsAt listed i (get_or listed i no_op)
      at = slice_get-get_or listed i no_op within

      pub found_here : IsAfter latest d (latest_finish (get_or listed i no_op)) → IsFirstWrong (IsBackwards (operations key) d (records_of listed)) (records_of listed) (get_or listed i no_op).rec
      found_here after = record {
        place = i;
        there = record_stands listed i (get_or listed i no_op) at;
        wrong = in_records i (backwards_at listed d i latest (get_or listed i no_op) latest_is at after);
        first = not_below (IsBackwards (operations key) d (records_of listed)) i none;
      }

      pub latest_next : AreLatest listed (i + 1) (with_op latest (get_or listed i no_op))
      latest_next = one_more listed i latest (get_or listed i no_op) latest_is at

      pub none_here : (IsAfter latest d (latest_finish (get_or listed i no_op)) → ⊥) → (p : ℕ) → p < i + 1 → IsBackwards (operations key) d (records_of listed) p → ⊥
      none_here not = below_more _ _ none (λ w. not_backwards_at listed d i latest (get_or listed i no_op) latest_is at not (in_list i w))

    -- past the end of the list nothing stands
    pub none_at_all : (i : ℕ) → length listed ≤ i → ((p : ℕ) → p < i → IsBackwards (operations key) d (records_of listed) p → ⊥) → IsNowhere (IsBackwards (operations key) d (records_of listed))
    none_at_all i past none p w =
        let low : p < length listed = slice_get_within listed p w.a (op_stands p w.a w.a_in w.a_is) in
        none p (omega arith) w
