-- The ring of a whole order, which is made by putting one place after another in front of the end.
use Rattle.std.proofs.Common.{◌≡◌, ℕ, zero, suc, ◌+◌, ◌<◌, ◌^◌, true, false, List, [], ◌∷◌, ◌++◌, length, get_or, take, refl, sym, subst, ◌∙◌, inl, inr, arith}
use Rattle.std.specs.Prelude.{◌⊎◌, ◌==◌}
use Rattle.std.specs.List.{range_with_len}
use Rattle.std.proofs.lemmas.Bool.{cases_lt, or_cases, or_parts, or_from, eq-eqb}
use Rattle.std.proofs.lemmas.List.{length-set, get_or_past, take_more}
use Rattle.std.proofs.lemmas.List.FromFn.{length-range_with_len, get_or-range_with_len}
use Rattle.std.proofs.lemmas.List.Folds.{list_any-append, list_any_at}
use Rattle.lbt_epochs.specs.Links.{Links, before, tie, all_alone, with_last, has, AreApart, IsChain, IsRing, AreNodes}
use Rattle.lbt_epochs.proofs.LinksHas.{has_at, had_not_lacked, has_cases, has_front, has_behind, lacks_front, lacks_behind, lacks_cons}
use Rattle.lbt_epochs.proofs.LinksChain.{tied_here, tied_other}
use Rattle.lbt_epochs.proofs.LinksRing.{end_lacked}

number_reads : (end at : ℕ) → at < end + 1 → get_or (range_with_len 0 (end + 1)) at 0 ≡ at
number_reads end at l = get_or-range_with_len 0 (end + 1) at 0 l ∙ omega arith

number_below : (end at : ℕ) → get_or (range_with_len 0 (end + 1)) at 0 < length (range_with_len 0 (end + 1))
number_below end at = elim (cases_lt at (end + 1)) [
  | inl l ↦ rw (number_reads end at l, length-range_with_len 0 (end + 1)) l
  | inr p ↦
      let e : get_or (range_with_len 0 (end + 1)) at 0 ≡ 0 = get_or_past (range_with_len 0 (end + 1)) at 0
      (rw (length-range_with_len 0 (end + 1)) p) in
      rw (e, length-range_with_len 0 (end + 1)) (omega arith)
]

-- nodes that stand alone are nodes
pub alone_nodes : (end : ℕ) → end < 2 ^ 32 → AreNodes (all_alone end)
alone_nodes end l = record {
  same = refl;
  some = rw (length-range_with_len 0 (end + 1)) (omega arith);
  few = rw (length-range_with_len 0 (end + 1)) (omega arith);
  after_within = number_below end;
  before_within = number_below end;
}

pub range_below : (a n at : ℕ) → has (range_with_len a n) at ≡ true → at < a + n
range_below a zero at h = absurd (cc)
range_below a (suc n) at h = elim (has_cases a (range_with_len (a + 1) n) at h) [
  | inl e ↦ omega arith
  | inr r ↦ let l = range_below (a + 1) n at r in omega arith
]

-- the ring of no place
pub ring_none : (end : ℕ) → IsRing end (range_with_len 0 end) [] (all_alone end)
ring_none end = record {
  next_nodes = length-range_with_len 0 (end + 1);
  previous_nodes = length-range_with_len 0 (end + 1);
  apart = tt;
  order_below = λ at h. absurd (cc);
  places_below = λ at h. let l = range_below 0 end at h in omega arith;
  chain = (number_reads end end (omega arith), number_reads end end (omega arith));
  alone = λ at h n. let l = range_below 0 end at h in (number_reads end at (omega arith), number_reads end at (omega arith));
}

-- what stands before the end is the chain's start, or one of its nodes
before_end : (links : Links) (end a : ℕ) (xs : List ℕ) → IsChain links end a xs → (before links end ≡ a) ⊎ (has xs (before links end) ≡ true)
before_end links end a [] c = inl c.1
before_end links end a (y ∷ ys) c = elim (before_end links end y ys c.1) [
  | inl e ↦ inr (has_at (y ∷ ys) (before links end) y e (has_front y ys))
  | inr h ↦ inr (has_behind y ys (before links end) h)
]

end_apart : (links : Links) (end a : ℕ) (xs : List ℕ) (z : ℕ) → IsChain links end a xs → (a ≡ z → ⊥) → has xs z ≡ false → z ≡ before links end → ⊥
end_apart links end a xs z c az hz e = elim (before_end links end a xs c) [
  | inl s ↦ az (sym (e ∙ s))
  | inr b ↦ had_not_lacked xs (before links end) z b hz e
]

-- a chain of no node is given one
pushed_none : (links : Links) (end a x : ℕ) → length links.next ≡ length links.previous → a < length links.next → end < length links.next
    → x < length links.next
    → (a ≡ x → ⊥) → (x ≡ end → ⊥) → before links end ≡ a → IsChain (with_last links end x) end a (x ∷ [])
pushed_none links end a x same inside last there ax xe c =
    let P : ℕ → Type 0 = λ b. IsChain (tie (tie links b x) x end) end a (x ∷ []) in
    subst P (sym c) (
      tied_other (tie links a x) x end a x ax xe (tied_here links a x inside (rw (← same) there)),
      tied_here (tie links a x) x end (rw (length-set links.next a x) there) (rw (length-set links.previous x a, ← same) last),
    )

-- a node comes to the end of a chain
pushed_chain : (links : Links) (end a : ℕ) (xs : List ℕ) (x : ℕ) → length links.next ≡ length links.previous → a < length links.next
    → end < length links.next → x < length links.next
    → ((y : ℕ) → has xs y ≡ true → y < length links.next) → (a ≡ x → ⊥) → (x ≡ end → ⊥) → has xs x ≡ false → has xs a ≡ false → has xs end ≡ false
    → AreApart xs → IsChain links end a xs
    → IsChain (with_last links end x) end a (xs ++ x ∷ [])
pushed_chain links end a [] x same inside last there below ax xe hx ha he apart c = pushed_none links end a x same inside last there ax xe c.1
pushed_chain links end a (y ∷ ys) x same inside last there below ax xe hx ha he apart c = (
  tied_other (tie links (before links end) x) x end a y ax (lacks_front y ys end he)
      (tied_other links (before links end) x a y (end_apart links end y ys a c.1 (lacks_front y ys a ha) (lacks_behind y ys a ha))
      (lacks_front y ys x hx) c.0),
  pushed_chain links end y ys x same (below y (has_front y ys)) last there (λ z hz. below z (has_behind y ys z hz)) (lacks_front y ys x hx) xe
      (lacks_behind y ys x hx) apart.0
      (lacks_behind y ys end he) apart.1 c.1,
)

has_pushed : (xs : List ℕ) (x z : ℕ) → has (xs ++ x ∷ []) z ≡ true → (has xs z ≡ true) ⊎ (x ≡ z)
has_pushed xs x z h = elim (or_cases _ _ (sym (list_any-append (λ other. other == z) xs (x ∷ [])) ∙ h)) [
  | inl l ↦ inl l
  | inr r ↦ elim (has_cases x [] z r) [ inl e ↦ inr e | inr n ↦ absurd (cc) ]
]

lacks_pushed : (xs : List ℕ) (x z : ℕ) → has (xs ++ x ∷ []) z ≡ false → (has xs z ≡ false) × (x ≡ z → ⊥)
lacks_pushed xs x z h =
    let p = or_parts _ _ (sym (list_any-append (λ other. other == z) xs (x ∷ [])) ∙ h) in
    (p.0, lacks_front x [] z p.1)

pushed_lacks : (xs : List ℕ) (x z : ℕ) → has xs z ≡ false → (x ≡ z → ⊥) → has (xs ++ x ∷ []) z ≡ false
pushed_lacks xs x z h n = list_any-append (λ other. other == z) xs (x ∷ []) ∙ or_from _ _ h (lacks_cons x [] z n refl)

AreApart-push : (xs : List ℕ) (x : ℕ) → AreApart xs → has xs x ≡ false → AreApart (xs ++ x ∷ [])
AreApart-push [] x a h = (refl, tt)
AreApart-push (y ∷ ys) x a h = (pushed_lacks ys x y a.0 (λ e. lacks_front y ys x h (sym e)), AreApart-push ys x a.1 (lacks_behind y ys x h))

-- a place that stands alone comes to the end of a ring
pub ring_push : (end : ℕ) (places order : List ℕ) (links : Links) (x : ℕ) → IsRing end places order links → x < end → has order x ≡ false
    → IsRing end places (order ++ x ∷ []) (with_last links end x)
ring_push end places order links x r l h =
    let out : has order end ≡ false = end_lacked end order r.order_below in
    let same : length links.next ≡ length links.previous = r.next_nodes ∙ sym r.previous_nodes in
    let nodes = r.next_nodes in
    let inside : end < length links.next = omega arith in
    let there : x < length links.next = omega arith in
    let ex : end ≡ x → ⊥ = λ e. absurd (omega arith) in
    record {
      next_nodes = length-set _ x end ∙ (length-set links.next _ x ∙ r.next_nodes);
      previous_nodes = length-set _ end x ∙ (length-set links.previous x _ ∙ r.previous_nodes);
      apart = AreApart-push order x r.apart h;
      order_below = λ at k. elim (has_pushed order x at k) [ inl b ↦ r.order_below at b | inr e ↦ omega arith ];
      places_below = r.places_below;
      chain = pushed_chain links end end order x same inside inside there (λ y k. let b = r.order_below y k in omega arith) ex
          (λ e. ex (sym e)) h out out r.apart r.chain;
      alone = λ at p n.
          let q = lacks_pushed order x at n in
          let b = r.places_below at p in
          let ea : end ≡ at → ⊥ = λ e. absurd (omega arith) in
          tied_other (tie links (before links end) x) x end at at (λ e. q.1 (sym e)) (λ e. ea (sym e))
          (tied_other links (before links end) x at at (end_apart links end end order at r.chain ea q.0) (λ e. q.1 (sym e)) (r.alone at p q.0));
    }

-- a place of an order doesn't stand before itself
apart_at : (xs : List ℕ) (i : ℕ) → AreApart xs → i < length xs → has (take i xs) (get_or xs i 0) ≡ false
apart_at [] i a l = absurd (omega arith)
apart_at (y ∷ ys) zero a l = refl
apart_at (y ∷ ys) (suc i) a l =
    let within : i < length ys = omega arith in
    let there : has ys (get_or ys i 0) ≡ true = list_any_at (λ other. other == get_or ys i 0) ys i 0 within (eq-eqb _ _ refl) in
    lacks_cons y (take i ys) (get_or ys i 0) (had_not_lacked ys (get_or ys i 0) y there a.0) (apart_at ys i a.1 within)

-- the ring of one more place of an order
pub ring_more : (end : ℕ) (places order : List ℕ) (links : Links) (i : ℕ) → ((at : ℕ) → has order at ≡ true → at < end) → AreApart order
    → i < length order
    → IsRing end places (take i order) links → IsRing end places (take (i + 1) order) (with_last links end (get_or order i 0))
ring_more end places order links i below apart l r =
    let there : has order (get_or order i 0) ≡ true = list_any_at (λ other. other == get_or order i 0) order i 0 l (eq-eqb _ _ refl) in
    let P : List ℕ → Type 0 = λ o. IsRing end places o (with_last links end (get_or order i 0)) in
    subst P (sym (take_more order i 0 l))
    (ring_push end places (take i order) links (get_or order i 0) r (below (get_or order i 0) there) (apart_at order i apart l))

-- a place of an order is no end
pub place_within : (end : ℕ) (order nodes : List ℕ) (i : ℕ) → ((at : ℕ) → has order at ≡ true → at < end) → i < length order → length nodes ≡ end + 1
    → get_or order i 0 + 1 < length nodes
place_within end order nodes i below l n =
    let there : has order (get_or order i 0) ≡ true = list_any_at (λ other. other == get_or order i 0) order i 0 l (eq-eqb _ _ refl) in
    let b = below (get_or order i 0) there in
    omega arith
