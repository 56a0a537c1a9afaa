-- What three orders of places keep when a place is placed and when it is put back.
use Rattle.std.proofs.Common.{◌≡◌, ℕ, ◌+◌, ◌-◌, ◌<◌, ◌≤◌, true, List, [], ◌∷◌, ◌++◌, length, None, refl, ap, sym, subst, ◌∙◌, arith}
use Rattle.std.specs.Prelude.{slice_get}
use Rattle.std.proofs.lemmas.Option.{none-some, slice_get_past}
use Rattle.stale_model.specs.Orders.{StandsAt}
use Rattle.lbt_epochs.specs.Lists.{Lists, with_placed, left}
use Rattle.lbt_epochs.specs.Links.{Links, unlinked, relinked, place_after, has, AreTakenFrom, AreLeft, AreKept}
use Rattle.lbt_epochs.proofs.WritesOfPlaces.{nothing_next}
use Rattle.lbt_epochs.proofs.LinksRing.{has_from_StandsAt, left_ring, unlinked_all_ring, first_read, next_read, placed_short, AreTakenFrom-push, AreTakenFrom-front, AreLeft-push, AreLeft-front}

-- a place that is left has a node
pub node_within : (places order placed : List ℕ) (links : Links) (at : ℕ) → AreTakenFrom places placed → AreLeft places order placed links
    → has (left placed places) at ≡ true
    → at < length links.next
node_within places order placed links at t l h =
    let r = left_ring places order placed links t l in
    let b = r.places_below at h in
    let n = r.next_nodes in
    omega arith

-- the place that was placed last has a node
pub placed_within : (places order all placed : List ℕ) (links : Links) (x : ℕ) → all ≡ placed ++ x ∷ [] → AreTakenFrom places all
    → AreLeft places order all links → x < length links.next
placed_within places order all placed links x e t l =
    let T : List ℕ → Type 0 = λ these. AreTakenFrom places these in
    let f = AreTakenFrom-front places placed x (subst T e t) in
    let n = (left_ring places order all links t l).next_nodes in
    let earlier = unlinked_all_ring (length places) places order l.whole placed l.ring f.0 in
    let b = earlier.places_below x f.1 in
    omega arith

-- there is room for one more
pub room_for : (lists : Lists) (room : ℕ) (a b c : Links) (at : ℕ) → AreKept lists room a b c → has (left lists.placed lists.candidates) at ≡ true
    → length lists.placed < room
room_for lists room a b c at k h =
    let s = placed_short lists.candidates lists.placed at k.candidates.ring.apart k.taken h in
    let e = k.enough in
    omega arith

pub AreKept-push : (lists : Lists) (room : ℕ) (a b c : Links) (x : ℕ) → AreKept lists room a b c → has (left lists.placed lists.candidates) x ≡ true
    → AreKept (with_placed lists (lists.placed ++ x ∷ [])) room (unlinked a x) (unlinked b x) (unlinked c x)
AreKept-push lists room a b c x k h = record {
  taken = AreTakenFrom-push lists.candidates lists.placed x k.taken h;
  enough = k.enough;
  candidates = AreLeft-push lists.candidates lists.candidates lists.placed a x k.candidates;
  writes = AreLeft-push lists.candidates lists.writes lists.placed b x k.writes;
  reads = AreLeft-push lists.candidates lists.reads lists.placed c x k.reads;
}

pub AreKept-front : (lists : Lists) (placed : List ℕ) (room : ℕ) (a b c : Links) (x : ℕ) → lists.placed ≡ placed ++ x ∷ [] → AreKept lists room a b c
    → AreKept (with_placed lists placed) room (relinked a x) (relinked b x) (relinked c x)
AreKept-front lists placed room a b c x e k =
    let T : List ℕ → Type 0 = λ l. AreTakenFrom lists.candidates l in
    let L : List ℕ → Links → List ℕ → Type 0 = λ o links l. AreLeft lists.candidates o l links in
    let t = subst T e k.taken in
    record {
      taken = (AreTakenFrom-front lists.candidates placed x t).0;
      enough = k.enough;
      candidates = AreLeft-front lists.candidates lists.candidates placed a x t (subst (L lists.candidates a) e k.candidates);
      writes = AreLeft-front lists.candidates lists.writes placed b x t (subst (L lists.writes b) e k.writes);
      reads = AreLeft-front lists.candidates lists.reads placed c x t (subst (L lists.reads c) e k.reads);
    }

-- the first of those that are left of an order
pub first_left : (places order placed : List ℕ) (links : Links) → AreTakenFrom places placed → AreLeft places order placed links
    → place_after links (length links.next - 1) ≡ slice_get (left placed order) 0
first_left places order placed links t l =
    let r = left_ring places order placed links t l in
    let n = r.next_nodes in
    ap (place_after links) (omega arith) ∙ first_read (length places) (left placed places) (left placed order) links r

-- the next of those that are left of an order
pub next_left : (places order placed : List ℕ) (links : Links) (i at : ℕ) → AreTakenFrom places placed → AreLeft places order placed links
    → StandsAt (left placed order) i at
    → place_after links at ≡ slice_get (left placed order) (i + 1)
next_left places order placed links i at t l h = next_read (length places) (left placed places) (left placed order) links i at
    (left_ring places order placed links t l) h

-- one that stands among those that are left has a node
pub standing_within : (places order placed : List ℕ) (links : Links) (i at : ℕ) → AreTakenFrom places placed → AreLeft places order placed links
    → StandsAt (left placed order) i at
    → at < length links.next
standing_within places order placed links i at t l h =
    let r = left_ring places order placed links t l in
    let b = r.order_below at (has_from_StandsAt (left placed order) i at h) in
    let n = r.next_nodes in
    omega arith

-- a list with no first has no second
pub no_second : (xs : List ℕ) → slice_get xs 0 ≡ None → slice_get xs 1 ≡ None
no_second [] h = refl
no_second (x ∷ xs) h = absurd (none-some x (sym h))

-- where none stands, none stands later
pub none_later : (xs : List ℕ) (i j : ℕ) → i ≤ j → slice_get xs i ≡ None → None ≡ slice_get xs j
none_later xs i j l e = let n = nothing_next xs i e in sym (slice_get_past xs j (omega arith))
