-- The write records of a key, and of its clusters.
use Rattle.std.proofs.Common.{◌≡◌, ℕ, List, map, length, sym, ◌∙◌, ap, arith}
use Rattle.std.specs.Prelude.{Contains}
use Rattle.std.specs.List.{filter}
use Rattle.std.proofs.lemmas.Option.{slice_get_within, get_or_from_slice_get}
use Rattle.std.proofs.lemmas.List.{length-map}
use Rattle.std.proofs.lemmas.List.Sorted.{Contains-permutation, IsPermutation-refl, IsPermutation-sym}
use Rattle.stale_model.specs.declared.Op.{Op}
use Rattle.stale_model.specs.declared.Cluster.{Cluster}
use Rattle.stale_model.specs.Operations.{IsWrite, is_write, is_write_kind}
use Rattle.stale_model.specs.Orders.{StandsAt, ListsEachOnce}
use Rattle.stale_model.specs.Clusters.{AreClusters, writes_of}
use Rattle.stale_model.proofs.Places.{contains_at, at_its_place, something_at, same_at, stands_mapped, write_there}
use Rattle.stale_model.proofs.Sorted.{permuted_no_repeats, one_by_number}
use Rattle.stale_model.proofs.ClustersOne.{cluster_writes_differ}
use Rattle.stale_model.proofs.ReadsAndWrites.{kind_is_write}
use Rattle.model_laws.proofs.Listings.{origin, origin_stands, passes_at, keeps}
use Rattle.delta_score.specs.WriteLists.{write_records}
use Rattle.delta_score.specs.ZoneLaws.{ClustersListWrites}
use Rattle.delta_score.proofs.Segments.{IsWriteWithRecord}

-- x stands in xs, and y is its image
record HasOrigin {X : Type 0} (f : X → ℕ) (xs : List X) (y : ℕ) : Type 0 where
  place : ℕ
  x : X
  at : StandsAt xs place x
  image : f x ≡ y

module _ {X : Type 0} (f : X → ℕ) (xs : List X) where
  -- the image of what stands in xs stands among the images
  has_image : (x : X) → Contains xs x → Contains (map f xs) (f x)
  has_image x c = contains_at (map f xs) c.0 (f x) (stands_mapped f xs c.0 x (at_its_place xs x c))

  -- what stands among the images is an image
  has_origin : (y : ℕ) → Contains (map f xs) y → HasOrigin f xs y
  has_origin y (i, within, is) =
      let (x, at) = something_at xs i (simp length-map at within) in
      record { place = i; x = x; at = at; image = sym (get_or_from_slice_get (map f xs) i (f x) y (stands_mapped f xs i x at)) ∙ is }

  -- where an image stands, what it is of stands
  stands_of_image : (i y : ℕ) → StandsAt (map f xs) i y → (x : X) × StandsAt xs i x × (f x ≡ y)
  stands_of_image i y at =
      let within = slice_get_within (map f xs) i y at in
      let long : length (map f xs) ≡ length xs = length-map xs f in
      let (x, stands) = something_at xs i (omega arith) in
      (x, stands, same_at (map f xs) i (f x) y (stands_mapped f xs i x stands) at)

-- the record of a write is among the write records
pub write_is_listed : (ops : List Op) (w : Op) → Contains ops w → IsWrite w → Contains (write_records ops) w.rec
write_is_listed ops w there write = has_image (λ (a : Op). a.rec) (filter is_write ops) w (keeps is_write ops w (ap is_write_kind write) there.0 (at_its_place ops w there))

-- a write record is the record of a write
pub listed_is_write : (ops : List Op) (rec : ℕ) → Contains (write_records ops) rec → IsWriteWithRecord ops rec
listed_is_write ops rec c =
    let o = has_origin (λ (a : Op). a.rec) (filter is_write ops) rec c in
    record {
      w = o.x;
      there = contains_at ops (origin is_write ops o.place) o.x (origin_stands is_write ops o.place o.x o.at);
      kind = kind_is_write o.x.kind (passes_at is_write ops o.place o.x o.at);
      record_is = o.image;
    }

pub clusters_list_writes : ClustersListWrites
clusters_list_writes ops clusters zones are each = record {
  known = λ rec c.
      let o = has_origin (λ (c : Cluster). c.write) zones rec c in
      let (w, is) = are.each o.x (Contains-permutation zones clusters o.x (IsPermutation-sym clusters zones each) (contains_at zones o.place o.x o.at)) in
      rw (sym o.image ∙ sym is.record_is) (write_is_listed ops w is.there is.kind);
  whole = λ rec c.
      let w = listed_is_write ops rec c in
      let (zone, member, is) = are.whole w.w w.there w.kind in
      rw (sym w.record_is ∙ is.record_is) (has_image (λ (c : Cluster). c.write) zones zone (Contains-permutation clusters zones zone each member));
  once = permuted_no_repeats (λ (c : Cluster). c.write) clusters zones each (cluster_writes_differ ops clusters are);
}

-- a listing of the clusters lists each write once
pub listing_lists_writes : (ops : List Op) (clusters listing : List Cluster) → AreClusters ops clusters → ListsEachOnce clusters listing
    → ListsEachOnce (write_records ops) (writes_of listing)
listing_lists_writes ops clusters listing are each =
    let writes = clusters_list_writes ops clusters clusters are (IsPermutation-refl clusters) in
    let differ = cluster_writes_differ ops clusters are in
    let write : Cluster → ℕ = λ c. c.write in
    record {
      known = λ x there.
          let o = has_origin write listing x there in
          writes.known x (rw o.image at (write_there clusters o.x (each.known o.x (contains_at listing o.place o.x o.at))));
      whole = λ x there.
          let o = has_origin write clusters x (writes.whole x there) in
          rw o.image at (write_there listing o.x (each.whole o.x (contains_at clusters o.place o.x o.at)));
      once = λ i j x at_i at_j.
          let (c, stands_i, same) = stands_of_image write listing i x at_i in
          let (e, stands_j, other) = stands_of_image write listing j x at_j in
          let one : c ≡ e = one_by_number write clusters c e differ (each.known c (contains_at listing i c stands_i)) (each.known e (contains_at listing j e stands_j)) (same ∙ sym other) in
          each.once i j c stands_i (rw one stands_j);
    }
