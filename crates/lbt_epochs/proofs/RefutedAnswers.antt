-- A refutation that is answered for the clusters of a key holds.
use Rattle.std.proofs.Common.{◌≡◌, ℕ, List, [], length, sym, ◌∙◌, subst, arith}
use Rattle.std.specs.Prelude.{Contains}
use Rattle.std.proofs.lemmas.List.{length-map}
use Rattle.std.proofs.lemmas.List.Sorted.{Contains-permutation, IsPermutation-sym}
use Rattle.stale_model.specs.declared.Op.{Op}
use Rattle.stale_model.specs.declared.Cluster.{Cluster}
use Rattle.stale_model.specs.declared.Refutation.{Refutation}
use Rattle.stale_model.specs.Operations.{IsWrite}
use Rattle.stale_model.specs.Clusters.{writes_of}
use Rattle.stale_model.specs.Refutations.{IsOfRecord, RefutationHolds, TryHolds}
use Rattle.stale_model.proofs.Places.{contains_at}
use Rattle.stale_model.proofs.ClustersOne.{cluster_writes_differ}
use Rattle.stale_model.proofs.Sorted.{permuted_no_repeats}
use Rattle.lbt_epochs.specs.TwoLaws.{RefutationsAreAnswered}
use Rattle.lbt_epochs.proofs.RefutedRounds.{IsRefuted, epochs_are_refuted}
use Rattle.lbt_epochs.proofs.Parts.{writes_differ}
use Rattle.lbt_epochs.proofs.RefutedClusters.{AreOfWrites, cluster_at_write, member_of_write, writes_once, try_holds}

-- a write of such clusters is the record of a write
stuck_are_writes : (ops : List Op) (left : List Cluster) → AreOfWrites ops left → (c : ℕ) → Contains (writes_of left) c
    → (w : Op) × IsOfRecord ops c w × IsWrite w
stuck_are_writes ops left of_writes c there =
    let (x, among, same) = member_of_write left c there in
    let (w, is) = of_writes x among in
    (w, record { there = is.there; record_is = is.record_is ∙ same }, is.kind)

-- what is refuted of the clusters of writes is a refutation that holds
refuted_holds : (ops : List Op) (d : ℕ) (candidates : List Cluster) (refutation : Refutation) → AreOfWrites ops candidates
    → IsRefuted d candidates refutation → RefutationHolds ops d refutation
refuted_holds ops d candidates refutation of_writes r =
    let left = r.left in
    let these : AreOfWrites ops left = λ c there. of_writes c (r.part c there) in
    let long : length (writes_of left) ≡ length left = length-map left (λ (x : Cluster). x.write) in
    let some = r.some in
    let many = r.tries.as_many in
    let holds : RefutationHolds ops d (record { stuck = writes_of left; tries = refutation.tries }) = record {
      some = omega arith;
      writes = stuck_are_writes ops left these;
      once = writes_once left r.differ;
      as_many = omega arith;
      each = λ t member attempt atm att.
          let (c, atc, same) = cluster_at_write left t member atm in
          subst (λ (n : ℕ). TryHolds ops d (writes_of left) n attempt) same
          (try_holds ops d left these c attempt (contains_at left t c atc) (r.tries.each t c attempt atc att));
    } in
    subst (λ (l : List ℕ). RefutationHolds ops d (record { stuck = l; tries = refutation.tries })) (sym r.stuck_is) holds

pub refutations_are_answered : RefutationsAreAnswered
refutations_are_answered ops d clusters refutation names clustered answer =
    let candidates = answer.candidates in
    let permuted = answer.order.each_once in
    let once = permuted_no_repeats (λ (c : Cluster). c.write) clusters candidates permuted (cluster_writes_differ ops clusters clustered) in
    let back = IsPermutation-sym clusters candidates permuted in
    let of_writes : AreOfWrites ops candidates = λ c there. clustered.each c (Contains-permutation candidates clusters c back there) in
    refuted_holds ops d candidates refutation of_writes
    (epochs_are_refuted d (length candidates) candidates [] refutation (writes_differ candidates once) answer.answer)
