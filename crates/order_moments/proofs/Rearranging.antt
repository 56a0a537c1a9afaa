-- Operations that are picked by their records, in an order of these.
use Rattle.std.proofs.Common.{◌≡◌, ℕ, ◌<◌, List, length, get_or, sym, ◌∙◌, ap, inl, inr, subst, arith}
use Rattle.std.specs.Prelude.{◌≢◌, Contains, All}
use Rattle.std.specs.List.{HoldsAt}
use Rattle.std.specs.List.Sorted.{IsPermutation, IsNonDecreasingBy, IsPartitionPoint}
use Rattle.std.specs.declared.cmp.Ordering.{Ordering}
use Rattle.std.specs.declared.cmp.Ordering.TheVariants.{Less, Equal, Greater}
use Rattle.std.specs.Ordering.{nat_cmp, on, ordering_index}
use Rattle.std.proofs.lemmas.Bool.{cases_lt}
use Rattle.std.proofs.lemmas.Cmp.{nat_cmp_total, on_total, ranked}
use Rattle.std.proofs.lemmas.List.Elements.{All-cons, Contains-get_or}
use Rattle.std.proofs.lemmas.List.Sorted.{searchable_from_sorted, Contains-permutation, IsPermutation-sym, IsPermutation-trans}
use Rattle.stale_model.specs.declared.Op.{Op}
use Rattle.stale_model.specs.declared.KeyOps.{KeyOps}
use Rattle.stale_model.specs.Operations.{initial_write, operations, records_of}
use Rattle.stale_model.specs.Valid.{IsValidKey}
use Rattle.stale_model.specs.Orders.{IsWithoutRepeats, ListsEachOnce}
use Rattle.stale_model.specs.Refutations.{IsOfRecord}
use Rattle.stale_model.proofs.Comparisons.{same_nat, nat_same}
use Rattle.stale_model.proofs.Members.{mapped_from, before_mapped}
use Rattle.stale_model.proofs.Sorted.{sorted_one, no_repeats_from_map, permuted_no_repeats, one_by_number, first_or_later, contains_later, rising_sorted}
use Rattle.stale_model.proofs.Sorting.{sorted_there}
use Rattle.order_moments.specs.InOrder.{AreInOrder, FinishFits}

-- what a search by record finds is the operation
pub found : (key : KeyOps) (rec place : ℕ) (past : Op) → place < length key.ops → HoldsAt (λ (a : Op). nat_cmp a.rec rec ≡ Equal) key.ops place
    → IsOfRecord (operations key) rec (get_or key.ops place past)
found key rec place past within at = record {
  there = contains_later initial_write (get_or key.ops place past) key.ops (Contains-get_or key.ops place past within);
  record_is = same_nat (get_or key.ops place past).rec rec (at past);
}

module _ (key : KeyOps) (rec : ℕ) (valid : IsValidKey key) where
  searchable : IsNonDecreasingBy (λ (a : Op). ordering_index (nat_cmp a.rec rec)) key.ops
  searchable = searchable_from_sorted nat_cmp_total (λ (a : Op). a.rec) key.ops rec (rising_sorted (λ (a : Op). a.rec) key.ops valid.rising)

  -- and it finds one, where the record is one of the key and not the initial write's
  pub not_missing : (place : ℕ)
      → (IsNonDecreasingBy (λ (a : Op). ordering_index (nat_cmp a.rec rec)) key.ops → IsPartitionPoint (λ (a : Op). nat_cmp a.rec rec ≡ Less) (λ (a : Op). nat_cmp a.rec rec ≡ Greater) key.ops place)
      → rec ≢ 0 → Contains (records_of (operations key)) rec → ⊥
  not_missing place parted some known =
      let (a, there, is) = before_mapped (λ (x : Op). x.rec) (operations key) rec known in
      elim (first_or_later initial_write a key.ops there) [
        | inl e ↦ some (sym is ∙ ap (λ (x : Op). x.rec) (sym e))
        | inr c ↦ none a c is
      ] where
        none : (a : Op) → Contains key.ops a → a.rec ≡ rec → ⊥
        none a (k, within, e) is =
            let (below, above) = parted searchable in
            let same : nat_cmp (get_or key.ops k a).rec rec ≡ Equal = nat_same (get_or key.ops k a).rec rec (ap (λ (x : Op). x.rec) e ∙ is) in
            elim (cases_lt k place) [
              | inl before ↦ let less = below k a (omega arith) before in cc
              | inr after ↦ let greater = above k a after (omega arith) in cc
            ]

-- the finishes of the operations of a valid key fit
pub finishes_fit : (key : KeyOps) → IsValidKey key → All FinishFits (operations key)
finishes_fit key valid =
    All-cons FinishFits initial_write key.ops (omega arith)
    (λ k d within. let a = valid.ops k d within in let ends = a.ends in let slack = a.slack in omega arith)

-- two lists of the same operations, whose records differ, are permutations of each other
by_record : Op → Op → Ordering
by_record = on (λ (a : Op). a.rec) nat_cmp

permuted : (xs ys : List Op) → IsWithoutRepeats (records_of xs) → IsWithoutRepeats (records_of ys) → ((a : Op) → Contains xs a → Contains ys a) → ((a : Op) → Contains ys a → Contains xs a) → IsPermutation xs ys
unfolding by_record
permuted xs ys oncex oncey there back =
    let rec = λ (a : Op). a.rec in
    let total = on_total rec nat_cmp_total in
    let (us, pu, upu) = sorted_there by_record total xs in
    let (vs, pv, upv) = sorted_there by_record total ys in
    let onceu = permuted_no_repeats rec xs us pu oncex in
    let oncev = permuted_no_repeats rec ys vs pv oncey in
    let same : us ≡ vs = sorted_one by_record total us vs (no_repeats_from_map rec us onceu) (no_repeats_from_map rec vs oncev)
    (λ a c. Contains-permutation ys vs a pv (there a (Contains-permutation us xs a (IsPermutation-sym xs us pu) c)))
    (λ a c. Contains-permutation xs us a pu (back a (Contains-permutation vs ys a (IsPermutation-sym ys vs pv) c)))
    (λ a b ca cb e. one_by_number rec us a b onceu ca cb (ranked a.rec b.rec Equal (sym e))) upu upv in
    IsPermutation-trans xs us ys pu (rw same (IsPermutation-sym ys vs pv))

-- operations of a list whose records are an order of its records, are the list in that order
pub listed_in_order : (ops : List Op) (order : List ℕ) (ordered : List Op) → IsWithoutRepeats (records_of ops) → ListsEachOnce (records_of ops) order → records_of ordered ≡ order
    → ((a : Op) → Contains ordered a → Contains ops a) → AreInOrder ops order ordered
listed_in_order ops order ordered once listed records known = record {
  each_once = permuted ops ordered once (subst (λ (l : List ℕ). IsWithoutRepeats l) (sym records) listed.once) there known;
  records = sym records;
} where
  there : (a : Op) → Contains ops a → Contains ordered a
  there a c =
      let rec = λ (x : Op). x.rec in
      let in_order = listed.whole a.rec (mapped_from rec ops a c) in
      let (b, stands, is) = before_mapped rec ordered a.rec (subst (λ (l : List ℕ). Contains l a.rec) (sym records) in_order) in
      subst (λ (x : Op). Contains ordered x) (one_by_number rec ops b a once (known b stands) c is) stands
