-- A ring of links from which places are left out one after another.
use Rattle.std.proofs.Common.{◌≡◌, ℕ, zero, suc, ◌+◌, ◌<◌, true, false, not, cond, List, [], ◌∷◌, ◌++◌, length, get_or, Some, refl, ap, sym, subst, ◌∙◌, inl, inr, arith}
use Rattle.std.specs.Prelude.{slice_get, slice_set, nat_lt}
use Rattle.std.proofs.lemmas.Bool.{cases_eq, cases_Bool, eq-eqb, ne_eqb, lt-ltb, le-ltb}
use Rattle.std.proofs.lemmas.List.{set-get_or, length-set, get_or_past}
use Rattle.std.proofs.lemmas.Option.{slice_get_cases, same_Some, none-some, get_or_from_slice_get, slice_get_within}
use Rattle.stale_model.specs.Orders.{StandsAt}
use Rattle.lbt_epochs.specs.Lists.{left}
use Rattle.lbt_epochs.specs.Links.{Links, after, before, IsTied, unlinked, relinked, place_after, has, without, AreApart, IsChain, IsRing, unlinked_all, AreTakenFrom, AreLeft}
use Rattle.model_laws.proofs.Tests.{contains_has}
use Rattle.lbt_epochs.proofs.Filters.{filter_all}
use Rattle.lbt_epochs.proofs.LinksHas.{without_lacked, has_without, without_differs, has_from_without, AreApart-without, length-without}
use Rattle.lbt_epochs.proofs.LinksChain.{tied_other, before_apart, after_apart, unlinked_chain, tied_both, relinked-unlinked, same_links}

pub has_from_StandsAt : (xs : List ℕ) (k x : ℕ) → StandsAt xs k x → has xs x ≡ true
has_from_StandsAt xs k x here = contains_has xs x (k, slice_get_within xs k x here, get_or_from_slice_get xs k x x here)

-- where none is placed all are left
pub left-nil : (xs : List ℕ) → left [] xs ≡ xs
left-nil xs = filter_all xs

-- the first of the placed is left out before the others
pub left-cons : (x : ℕ) (placed xs : List ℕ) → left (x ∷ placed) xs ≡ left placed (without x xs)
left-cons x placed [] = refl
left-cons x placed (y ∷ ys) = elim (cases_eq x y) [
  | inl e ↦
      let P : ℕ → Type 0 = λ k. left (x ∷ placed) (k ∷ ys) ≡ left placed (without x (k ∷ ys)) in
      subst P e (rw (eq-eqb x x refl) (left-cons x placed ys))
  | inr n ↦ rw (ne_eqb x y n) (ap (λ l. cond (not (has placed y)) (y ∷ l) l) (left-cons x placed ys))
]

-- one more is placed
pub left-push : (placed xs : List ℕ) (x : ℕ) → left (placed ++ x ∷ []) xs ≡ without x (left placed xs)
left-push [] xs x = left-cons x [] xs ∙ (left-nil (without x xs) ∙ ap (without x) (sym (left-nil xs)))
left-push (p ∷ ps) xs x = left-cons p (ps ++ x ∷ []) xs ∙ (left-push ps (without p xs) x ∙ ap (without x) (sym (left-cons p ps xs)))

pub unlinked_all-push : (links : Links) (placed : List ℕ) (x : ℕ) → unlinked_all links (placed ++ x ∷ []) ≡ unlinked (unlinked_all links placed) x
unlinked_all-push links [] x = refl
unlinked_all-push links (p ∷ ps) x = unlinked_all-push (unlinked links p) ps x

pub AreTakenFrom-push : (places placed : List ℕ) (x : ℕ) → AreTakenFrom places placed → has (left placed places) x ≡ true
    → AreTakenFrom places (placed ++ x ∷ [])
AreTakenFrom-push places [] x t h = (sym (ap (λ l. has l x) (left-nil places)) ∙ h, tt)
AreTakenFrom-push places (p ∷ ps) x t h = (t.0, AreTakenFrom-push (without p places) ps x t.1 (sym (ap (λ l. has l x) (left-cons p ps places)) ∙ h))

-- what was placed last was left before
pub AreTakenFrom-front : (places placed : List ℕ) (x : ℕ) → AreTakenFrom places (placed ++ x ∷ [])
    → AreTakenFrom places placed × (has (left placed places) x ≡ true)
AreTakenFrom-front places [] x t = (tt, ap (λ l. has l x) (left-nil places) ∙ t.0)
AreTakenFrom-front places (p ∷ ps) x t =
    let r = AreTakenFrom-front (without p places) ps x t.1 in
    ((t.0, r.0), ap (λ l. has l x) (left-cons p ps places) ∙ r.1)

-- so many are placed, and the others are left
pub length-left : (places placed : List ℕ) → AreApart places → AreTakenFrom places placed
    → length placed + length (left placed places) ≡ length places
length-left places [] a t = rw (left-nil places) (omega arith)
length-left places (x ∷ xs) a t =
    let r = length-left (without x places) xs (AreApart-without x places a) t.1 in
    let s = length-without x places a t.0 in
    rw (left-cons x xs places) (omega arith)

has_nonempty : (xs : List ℕ) (x : ℕ) → has xs x ≡ true → 0 < length xs
has_nonempty [] x h = absurd (cc)
has_nonempty (y ∷ ys) x h = omega arith

-- fewer are placed than there are places where one is left
pub placed_short : (places placed : List ℕ) (x : ℕ) → AreApart places → AreTakenFrom places placed → has (left placed places) x ≡ true
    → length placed < length places
placed_short places placed x a t h = omega (arith, length-left places placed a t, has_nonempty (left placed places) x h)

-- a node that stands alone leaves nothing behind
unlinked_alone : (links : Links) (x : ℕ) → IsTied links x x → unlinked links x ≡ links
unlinked_alone links x t =
    let n : slice_set links.next (before links x) (after links x) ≡ links.next = ap
    (λ i. slice_set links.next i (after links x)) t.1 ∙ set-get_or links.next x 0 in
    let p : slice_set links.previous (after links x) (before links x) ≡ links.previous = ap
    (λ i. slice_set links.previous i (before links x)) t.0 ∙ set-get_or links.previous x 0 in
    same_links _ _ links n p

below_nodes : (end n : ℕ) → n ≡ end + 1 → end < n
below_nodes end n e = omega arith

-- the end is none of the places
pub end_lacked : (end : ℕ) (order : List ℕ) → ((at : ℕ) → has order at ≡ true → at < end) → has order end ≡ false
end_lacked end order below = elim (cases_Bool (has order end)) [
  | inl h ↦ let b = below end h in absurd (omega arith)
  | inr h ↦ h
]

-- a place of the order is left out of the ring
unlinked_ring_in : (end : ℕ) (places order : List ℕ) (links : Links) (x : ℕ) → IsRing end places order links → has places x ≡ true
    → has order x ≡ true
    → IsRing end (without x places) (without x order) (unlinked links x)
unlinked_ring_in end places order links x r hp ho =
    let end_out : has order end ≡ false = end_lacked end order r.order_below in
    record {
      next_nodes = length-set links.next (before links x) (after links x) ∙ r.next_nodes;
      previous_nodes = length-set links.previous (after links x) (before links x) ∙ r.previous_nodes;
      apart = AreApart-without x order r.apart;
      order_below = λ at h. r.order_below at (has_from_without x order at h);
      places_below = λ at h. r.places_below at (has_from_without x places at h);
      chain = unlinked_chain links end end order x (r.next_nodes ∙ sym r.previous_nodes) (below_nodes end (length links.next) r.next_nodes)
          (below_nodes end (length links.next) r.next_nodes)
          (λ y hy. let b = r.order_below y hy in let n = r.next_nodes in omega arith) end_out end_out r.apart ho r.chain;
      alone = λ at h l.
          let n = without_differs x places at h in
          let there = has_from_without x places at h in
          let lo : has order at ≡ false = sym (has_without x order at n) ∙ l in
          let b = r.places_below at there in
          let e : end ≡ at → ⊥ = λ s. absurd (omega arith) in
          tied_other links (before links x) (after links x) at at (before_apart links end end order x at r.chain ho e lo)
          (after_apart links end end order x at r.chain ho e lo) (r.alone at there lo);
    }

-- a place that the order lacks is left out
unlinked_ring_out : (end : ℕ) (places order : List ℕ) (links : Links) (x : ℕ) → IsRing end places order links → has places x ≡ true
    → has order x ≡ false
    → IsRing end (without x places) (without x order) (unlinked links x)
unlinked_ring_out end places order links x r hp ho =
    let P : Links → Type 0 = λ l. IsRing end (without x places) (without x order) l in
    let Q : List ℕ → Type 0 = λ o. IsRing end (without x places) o links in
    subst P (sym (unlinked_alone links x (r.alone x hp ho))) (subst Q (sym (without_lacked x order ho)) record {
      next_nodes = r.next_nodes;
      previous_nodes = r.previous_nodes;
      apart = r.apart;
      order_below = r.order_below;
      places_below = λ at h. r.places_below at (has_from_without x places at h);
      chain = r.chain;
      alone = λ at h l. r.alone at (has_from_without x places at h) l;
    })

-- a place is left out
pub unlinked_ring : (end : ℕ) (places order : List ℕ) (links : Links) (x : ℕ) → IsRing end places order links → has places x ≡ true
    → IsRing end (without x places) (without x order) (unlinked links x)
unlinked_ring end places order links x r hp = elim (cases_Bool (has order x)) [
  | inl h ↦ unlinked_ring_in end places order links x r hp h
  | inr h ↦ unlinked_ring_out end places order links x r hp h
]

-- after any number of places were left out the links are a ring of those that are left
pub unlinked_all_ring : (end : ℕ) (places order : List ℕ) (links : Links) (placed : List ℕ) → IsRing end places order links
    → AreTakenFrom places placed
    → IsRing end (left placed places) (left placed order) (unlinked_all links placed)
unlinked_all_ring end places order links [] r t =
    let P : List ℕ → Type 0 = λ l. IsRing end l (left [] order) links in
    let Q : List ℕ → Type 0 = λ l. IsRing end places l links in
    subst P (sym (left-nil places)) (subst Q (sym (left-nil order)) r)
unlinked_all_ring end places order links (x ∷ xs) r t =
    let all = unlinked_all (unlinked links x) xs in
    let P : List ℕ → Type 0 = λ l. IsRing end l (left (x ∷ xs) order) all in
    let Q : List ℕ → Type 0 = λ l. IsRing end (left xs (without x places)) l all in
    subst P (sym (left-cons x xs places)) (subst Q (sym (left-cons x xs order))
    (unlinked_all_ring end (without x places) (without x order) (unlinked links x) xs (unlinked_ring end places order links x r t.0) t.1))

-- what follows a chain's start
start_reads : (links : Links) (end a : ℕ) (xs : List ℕ) → IsChain links end a xs → after links a ≡ get_or xs zero end
start_reads links end a [] c = c.0
start_reads links end a (x ∷ xs) c = c.0.0

-- what follows a place of a chain is the next place, or the end
chain_reads : (links : Links) (end a : ℕ) (xs : List ℕ) (i x : ℕ) → IsChain links end a xs → StandsAt xs i x → after links x ≡ get_or xs (suc i) end
chain_reads links end a [] i x c h = absurd (none-some x h)
chain_reads links end a (y ∷ ys) zero x c h = ap (after links) (sym (same_Some y x h)) ∙ start_reads links end y ys c.1
chain_reads links end a (y ∷ ys) (suc i) x c h = chain_reads links end y ys i x c.1 h

-- the place at j, which is read as the end where there is none
place_read : (end : ℕ) (order : List ℕ) (links : Links) (at j : ℕ) → length links.next ≡ end + 1 → ((x : ℕ) → has order x ≡ true → x < end)
    → after links at ≡ get_or order j end
    → place_after links at ≡ slice_get order j
place_read end order links at j nodes below e = elim (slice_get_cases order j).1 [
  | inl (x, within, here, is) ↦
      let v : after links at ≡ x = e ∙ get_or_from_slice_get order j x end here in
      let b = below x (has_from_StandsAt order j x here) in
      let t : nat_lt (after links at + 1) (length links.next) ≡ true = lt-ltb _ _ (omega arith) in
      rw (here, t) (ap Some v)
  | inr (past, none) ↦
      let v : after links at ≡ end = e ∙ get_or_past order j end past in
      let t : nat_lt (after links at + 1) (length links.next) ≡ false = le-ltb _ _ (omega arith) in
      rw (none, t) refl
]

-- the first place of a ring
pub first_read : (end : ℕ) (places order : List ℕ) (links : Links) → IsRing end places order links → place_after links end ≡ slice_get order 0
first_read end places order links r = place_read end order links end 0 r.next_nodes r.order_below (start_reads links end end order r.chain)

-- the place of a ring after that at i
pub next_read : (end : ℕ) (places order : List ℕ) (links : Links) (i at : ℕ) → IsRing end places order links → StandsAt order i at
    → place_after links at ≡ slice_get order (i + 1)
next_read end places order links i at r h =
    place_read end order links at (i + 1) r.next_nodes r.order_below
    (chain_reads links end end order i at r.chain h ∙ ap (λ j. get_or order j end) (omega arith))

-- the links of what is left
pub left_ring : (places order placed : List ℕ) (links : Links) → AreTakenFrom places placed → AreLeft places order placed links
    → IsRing (length places) (left placed places) (left placed order) links
left_ring places order placed links t l =
    let P : Links → Type 0 = λ k. IsRing (length places) (left placed places) (left placed order) k in
    subst P (sym l.taken) (unlinked_all_ring (length places) places order l.whole placed l.ring t)

-- one more is placed
pub AreLeft-push : (places order placed : List ℕ) (links : Links) (x : ℕ) → AreLeft places order placed links
    → AreLeft places order (placed ++ x ∷ []) (unlinked links x)
AreLeft-push places order placed links x l = record {
  whole = l.whole;
  ring = l.ring;
  taken = ap (λ k. unlinked k x) l.taken ∙ sym (unlinked_all-push l.whole placed x);
}

ring_both : (end : ℕ) (places order : List ℕ) (links : Links) (x : ℕ) → IsRing end places order links → has places x ≡ true
    → (after links (before links x) ≡ x) × (before links (after links x) ≡ x)
ring_both end places order links x r h = elim (cases_Bool (has order x)) [
  | inl o ↦ tied_both links end end order x r.chain o
  | inr o ↦
      let t = r.alone x h o in
      (ap (after links) t.1 ∙ t.0, ap (before links) t.0 ∙ t.1)
]

-- the one placed last is put back
pub AreLeft-front : (places order placed : List ℕ) (links : Links) (x : ℕ) → AreTakenFrom places (placed ++ x ∷ [])
    → AreLeft places order (placed ++ x ∷ []) links
    → AreLeft places order placed (relinked links x)
AreLeft-front places order placed links x t l =
    let f = AreTakenFrom-front places placed x t in
    let earlier = unlinked_all l.whole placed in
    let r = unlinked_all_ring (length places) places order l.whole placed l.ring f.0 in
    let b = ring_both (length places) (left placed places) (left placed order) earlier x r f.1 in
    let e : links ≡ unlinked earlier x = l.taken ∙ unlinked_all-push l.whole placed x in
    record { whole = l.whole; ring = l.ring; taken = ap (λ k. relinked k x) e ∙ relinked-unlinked earlier x b.0 b.1 }
