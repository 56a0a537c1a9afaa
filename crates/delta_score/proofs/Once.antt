-- Numbers that are each once stay so in any other order.
use Rattle.std.proofs.Common.{ℕ, List, map}
use Rattle.std.specs.List.Sorted.{IsPermutation}
use Rattle.std.proofs.lemmas.List.Sorted.{Contains-permutation, IsPermutation-sym, IsPermutation-map}
use Rattle.stale_model.specs.Orders.{IsWithoutRepeats, ListsEachOnce}
use Rattle.stale_model.proofs.Sorted.{permuted_no_repeats}

pub each_once_in_order : {X : Type 0} (f : X → ℕ) (xs ys : List X) → IsWithoutRepeats (map f xs) → IsPermutation xs ys → ListsEachOnce (map f xs) (map f ys)
each_once_in_order f xs ys once each =
    let p = IsPermutation-map f xs ys each in
    record {
      known = λ a c. Contains-permutation (map f ys) (map f xs) a (IsPermutation-sym (map f xs) (map f ys) p) c;
      whole = λ a c. Contains-permutation (map f xs) (map f ys) a p c;
      once = permuted_no_repeats f xs ys each once;
    }
