-- The greatest score of a place with others in two parts.
use Rattle.std.proofs.Common.{◌≡◌, ℕ, ◌+◌, ◌<◌, ◌≤◌, List, [], ◌∷◌, ◌++◌, length, get_or, take, max, min, sym, ◌∙◌, ap, arith}
use Rattle.std.specs.Prelude.{◌↔◌, All}
use Rattle.std.proofs.lemmas.List.{take_more, length-append, get_or_append_left, get_or-append-add}
use Rattle.std.proofs.lemmas.List.Elements.{All-nil, All-cons, All-head, All-tail, All-weaker, All-from_get_or}
use Rattle.live_score.specs.declared.places.Place.{Place}
use Rattle.live_score.specs.Places.{side, score, AreRising}
use Rattle.live_score.specs.Trees.{join, nothing, top_of, greatest}

max_is_one_way : (m n k : ℕ) → max (max m n) k ≡ max m (max n k)
max_is_one_way m n k = omega arith

max_nothing : (n : ℕ) → max n 0 ≡ n
max_nothing n = omega arith

nothing_max : (n : ℕ) → max 0 n ≡ n
nothing_max n = omega arith

-- the greatest side of c towards one of the places
abbrev reached : Place → List Place → ℕ
reached c [] = 0
reached c (x ∷ xs) = max (side c x) (reached c xs)

side_of_join : (c a b : Place) → side c (join a b) ≡ max (side c a) (side c b)
side_of_join c a b = grind arith

side_of_nothing : (c : Place) → side c nothing ≡ 0
side_of_nothing c = grind arith

-- it is the side towards their top
side_of_top : (c : Place) (xs : List Place) → side c (top_of xs) ≡ reached c xs
side_of_top c [] = side_of_nothing c
side_of_top c (x ∷ xs) =
    let e = side_of_join c x (top_of xs) in
    let r = side_of_top c xs in
    omega arith

join_is_one_way : (a x t : Place) → join (join a x) t ≡ join a (join x t)
join_is_one_way a x t = λ i. record { f = max_is_one_way a.f x.f t.f i; w = max_is_one_way a.w x.w t.w i; s = max_is_one_way a.s x.s t.s i }

join_nothing : (a : Place) → join a nothing ≡ a
join_nothing a = λ i. record { f = max_nothing a.f i; w = max_nothing a.w i; s = max_nothing a.s i }

nothing_join : (a : Place) → join nothing a ≡ a
nothing_join a = λ i. record { f = nothing_max a.f i; w = nothing_max a.w i; s = nothing_max a.s i }

-- the top of two parts is that of their tops
pub top_of_parts : (xs ys : List Place) → top_of (xs ++ ys) ≡ join (top_of xs) (top_of ys)
top_of_parts [] ys = sym (nothing_join (top_of ys))
top_of_parts (x ∷ xs) ys = ap (join x) (top_of_parts xs ys) ∙ sym (join_is_one_way x (top_of xs) (top_of ys))

-- the top with one more place
pub top_of_more : (xs : List Place) (i : ℕ) (x : Place) → i < length xs → top_of (take (i + 1) xs) ≡ join (top_of (take i xs)) (get_or xs i x)
top_of_more xs i x low =
    ap top_of (take_more xs i x low) ∙ top_of_parts (take i xs) (get_or xs i x ∷ []) ∙ ap (join (top_of (take i xs))) (join_nothing (get_or xs i x))

-- the side of a place with a later f is no greater
side_falls : (c x y : Place) → x.f ≤ y.f → side y c ≤ side x c
side_falls c x y low = grind arith

-- no f is above that of the top
below_top : (xs : List Place) → All (λ x. x.f ≤ (top_of xs).f) xs
below_top [] = All-nil (λ x. x.f ≤ (top_of []).f)
below_top (x ∷ xs) =
    All-cons (λ y. y.f ≤ (top_of (x ∷ xs)).f) x xs (omega arith)
    (All-weaker (λ y. y.f ≤ (top_of xs).f) (λ y. y.f ≤ (top_of (x ∷ xs)).f) (λ y low. omega arith) xs (below_top xs))

top_within : (n : ℕ) (xs : List Place) → All (λ x. x.f ≤ n) xs → (top_of xs).f ≤ n
top_within n [] each = omega arith
top_within n (x ∷ xs) each =
    let here = All-head (λ y. y.f ≤ n) x xs each in
    let r = top_within n xs (All-tail (λ y. y.f ≤ n) x xs each) in
    omega arith

greatest_of_parts : (c : Place) (xs ys : List Place) → greatest c (xs ++ ys) ≡ max (greatest c xs) (greatest c ys)
greatest_of_parts c [] ys = omega arith
greatest_of_parts c (x ∷ xs) ys = let r = greatest_of_parts c xs ys in omega arith

-- the greatest score with one more place
pub greatest_more : (c : Place) (xs : List Place) (i : ℕ) (x : Place) → i < length xs → greatest c (take (i + 1) xs) ≡ max (score c (get_or xs i x)) (greatest c (take i xs))
greatest_more c xs i x low =
    let more = ap (greatest c) (take_more xs i x low) in
    let parts = greatest_of_parts c (take i xs) (get_or xs i x ∷ []) in
    omega arith

-- no score is greater than what is reached
within_reached : (c : Place) (xs : List Place) → greatest c xs ≤ reached c xs
within_reached c [] = omega arith
within_reached c (x ∷ xs) = let r = within_reached c xs in omega arith

-- some score is at least the lesser of what is reached and of the side of a place with no lesser f
at_least_both : (c t : Place) (xs : List Place) → All (λ x. x.f ≤ t.f) xs → min (reached c xs) (side t c) ≤ greatest c xs
at_least_both c t [] each = omega arith
at_least_both c t (x ∷ xs) each =
    let falls = side_falls c x t (All-head (λ y. y.f ≤ t.f) x xs each) in
    let r = at_least_both c t xs (All-tail (λ y. y.f ≤ t.f) x xs each) in
    omega arith

-- no score is greater than the side of a place with no greater f
within_side : (c t : Place) (ys : List Place) → All (λ y. t.f ≤ y.f) ys → greatest c ys ≤ side t c
within_side c t [] each = omega arith
within_side c t (y ∷ ys) each =
    let falls = side_falls c t y (All-head (λ z. t.f ≤ z.f) y ys each) in
    let r = within_side c t ys (All-tail (λ z. t.f ≤ z.f) y ys each) in
    omega arith

module _ (xs ys : List Place) (rising : AreRising (xs ++ ys)) where
  pub first_rises : AreRising xs
  first_rises i j d low high =
      let long = length-append xs ys in
      let at_i = get_or_append_left xs ys d i (omega arith) in
      let at_j = get_or_append_left xs ys d j high in
      let r = rising i j d low (omega arith) in
      rw (at_i, at_j) at r

  pub second_rises : AreRising ys
  second_rises i j d low high =
      let long = length-append xs ys in
      let at_i = get_or-append-add xs ys i d in
      let at_j = get_or-append-add xs ys j d in
      let r = rising (length xs + i) (length xs + j) d (omega arith) (omega arith) in
      rw (at_i, at_j) at r

  from_top : All (λ y. (top_of xs).f ≤ y.f) ys
  from_top k d high =
      top_within (get_or ys k d).f xs
      (All-from_get_or (λ x. x.f ≤ (get_or ys k d).f) xs d (λ i low.
      let long = length-append xs ys in
      let at_i = get_or_append_left xs ys d i low in
      let at_k = get_or-append-add xs ys k d in
      let r = rising i (length xs + k) d (omega arith) (omega arith) in
      rw (at_i, at_k) at r))

  -- where the side of the first part's top is reached, the second part has no greater score
  pub goes_left : (c : Place) → side (top_of xs) c ≤ side c (top_of xs) → greatest c (xs ++ ys) ≡ greatest c xs
  goes_left c high =
      let parts = greatest_of_parts c xs ys in
      let up = side_of_top c xs in
      let least = at_least_both c (top_of xs) xs (below_top xs) in
      let most = within_side c (top_of xs) ys from_top in
      omega arith

-- else what is reached is the greatest score of the first part
pub goes_right : (c : Place) (xs ys : List Place) → side c (top_of xs) < side (top_of xs) c → greatest c (xs ++ ys) ≡ max (side c (top_of xs)) (greatest c ys)
goes_right c xs ys less =
    let parts = greatest_of_parts c xs ys in
    let up = side_of_top c xs in
    let least = at_least_both c (top_of xs) xs (below_top xs) in
    let most = within_reached c xs in
    omega arith

-- the greatest score is at most a bound exactly where each is
pub greatest_is_bound : (c : Place) (bound : ℕ) (xs : List Place) → (greatest c xs ≤ bound) ↔ All (λ x. score c x ≤ bound) xs
greatest_is_bound c bound [] = (λ low. All-nil (λ x. score c x ≤ bound), λ each. omega arith)
greatest_is_bound c bound (x ∷ xs) =
    let (to, from) = greatest_is_bound c bound xs in (
      λ low. All-cons (λ y. score c y ≤ bound) x xs (omega arith) (to (omega arith)),
      λ each.
          let here = All-head (λ y. score c y ≤ bound) x xs each in
          let r = from (All-tail (λ y. score c y ≤ bound) x xs each) in
          omega arith,
    )
