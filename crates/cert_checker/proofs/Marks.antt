-- A list that is walked to one of its places, with the marks it has left on the records.
use Rattle.std.proofs.Common.{◌≡◌, ◌≢◌, ◌⊎◌, inl, inr, ◌<◌, ◌≤◌, ◌+◌, ℕ, Bool, true, false, List, [], ◌∷◌, ◌++◌, zero, suc, take, refl, add-one, below_more, length, Option, Some, None, get_or, sym, ◌∙◌, ap, subst, arith, true≢false}
use Rattle.std.specs.Prelude.{Contains}
use Rattle.std.proofs.Math.ListN.{set}
use Rattle.std.proofs.lemmas.List.{get_or-set_same, get_or-set_other, length-set, length-map, map-append, take_more, take_all}
use Rattle.std.proofs.lemmas.List.Elements.{All-contains, Contains-push_cases}
use Rattle.std.proofs.lemmas.Option.{slice_get-get_or, slice_get_within, get_or_from_slice_get}
use Rattle.stale_model.specs.Orders.{StandsAt, ListsEachOnce}
use Rattle.stale_model.specs.declared.Op.{Op}
use Rattle.stale_model.specs.declared.KeyOps.{KeyOps}
use Rattle.stale_model.specs.Operations.{operations, records_of}
use Rattle.stale_model.specs.Valid.{IsValidOp, IsValidKey}
use Rattle.stale_model.proofs.Sorted.{rises_from}
use Rattle.stale_model.proofs.Places.{contains_at, at_its_place, same_at, something_at, record_stands}
use Rattle.cert_checker.specs.OrderFaults.{IsFirstWrong, StandsTo, IsStray, IsLeastMissing, IsWrongListing}
use Rattle.cert_checker.specs.Steps.{AreMarks, AreListed, IsFirstUnmarked, FindsUnmarked, IsListed, IsKnown}
use Rattle.cert_checker.proofs.InOrder.{not_below}
use Rattle.cert_checker.proofs.Starts.{below_or_at}

-- each number is less than all later ones
abbrev pub Rises : List ℕ → Type 0
Rises xs = (i j a b : ℕ) → i < j → StandsAt xs i a → StandsAt xs j b → a < b

-- the entries before place n are known, each once
pub record IsGoodTo (IsKnown : ℕ → Type 0) (order : List ℕ) (n : ℕ) : Type 0 where
  pub known : (i x : ℕ) → i < n → StandsAt order i x → IsKnown x
  pub once : (i j x : ℕ) → i < n → j < n → StandsAt order i x → StandsAt order j x → i ≡ j

pub parts : (a b : ℕ) → (a ≡ b) ⊎ ((a < b) ⊎ (b < a))
parts a b = grind arith

same_or_not : (a b : ℕ) → (a ≡ b) ⊎ (a ≢ b)
same_or_not a b = go (parts a b)
  where
    go : (a ≡ b) ⊎ ((a < b) ⊎ (b < a)) → (a ≡ b) ⊎ (a ≢ b)
    go (inl e) = inl e
    go (inr (inl lt)) = inr (λ e. omega (arith, lt, e))
    go (inr (inr lt)) = inr (λ e. omega (arith, lt, e))

-- an element that is set, and the others
module _ {X : Type 0} (xs : List X) (i : ℕ) (y d : X) where
  pub set_at : i < length xs → StandsAt (set xs i y) i y
  set_at within = slice_get-get_or (set xs i y) i d (subst (λ l. i < l) (sym (length-set xs i y)) within)
      ∙ ap (λ x. Some x) (get_or-set_same xs i y d within)

  pub set_other : (j : ℕ) (x : X) → j ≢ i → StandsAt xs j x → StandsAt (set xs i y) j x
  set_other j x apart there =
      slice_get-get_or (set xs i y) j d (subst (λ l. j < l) (sym (length-set xs i y)) (slice_get_within xs j x there))
      ∙ ap (λ z. Some z) (get_or-set_other xs i j y d apart ∙ get_or_from_slice_get xs j x d there)

  pub set_back : (j : ℕ) (x : X) → j ≢ i → StandsAt (set xs i y) j x → StandsAt xs j x
  set_back j x apart there =
      let low : j < length xs = subst (λ l. j < l) (length-set xs i y) (slice_get_within (set xs i y) j x there) in
      slice_get-get_or xs j d low ∙ ap (λ z. Some z) (sym (get_or-set_other xs i j y d apart) ∙ get_or_from_slice_get (set xs i y) j x d there)

-- rising records stand at one place
pub place_is : (records : List ℕ) (i j x : ℕ) → Rises records → StandsAt records i x → StandsAt records j x → i ≡ j
place_is records i j x rises a b = go (parts i j)
  where
    go : (i ≡ j) ⊎ ((i < j) ⊎ (j < i)) → i ≡ j
    go (inl e) = e
    go (inr (inl lt)) = absurd (omega (arith, rises i j x x lt a b))
    go (inr (inr lt)) = absurd (omega (arith, rises j i x x lt b a))

-- one more entry
module _ (order : List ℕ) (n rec : ℕ) (at : StandsAt order n rec) where
  pub entry : (p x : ℕ) → p ≡ n → StandsAt order p x → x ≡ rec
  entry p x e there = same_at order n x rec (subst (λ q. StandsAt order q x) e there) at

  -- which is known, and stood nowhere before
  pub good_more : (IsKnown : ℕ → Type 0) → IsKnown rec → IsGoodTo IsKnown order n → (StandsTo order n rec → ⊥) → IsGoodTo IsKnown order (n + 1)
  good_more IsKnown is to fresh = record {
    known = λ i x lt there. known_at i x there (below_or_at i n lt);
    once = λ i j x li lj a b. once_at i j x a b (below_or_at i n li) (below_or_at j n lj);
  }
    where
      known_at : (i x : ℕ) → StandsAt order i x → (i < n) ⊎ (i ≡ n) → IsKnown x
      known_at i x there (inl lt) = to.known i x lt there
      known_at i x there (inr e) = subst IsKnown (sym (entry i x e there)) is

      never : (i x : ℕ) → i < n → StandsAt order i x → x ≡ rec → ⊥
      never i x lt there e = fresh (record { earlier = i; before = lt; there = subst (StandsAt order i) e there })

      once_at : (i j x : ℕ) → StandsAt order i x → StandsAt order j x → (i < n) ⊎ (i ≡ n) → (j < n) ⊎ (j ≡ n) → i ≡ j
      once_at i j x a b (inl li) (inl lj) = to.once i j x li lj a b
      once_at i j x a b (inl li) (inr ej) = absurd (never i x li a (entry j x ej b))
      once_at i j x a b (inr ei) (inl lj) = absurd (never j x lj b (entry i x ei a))
      once_at i j x a b (inr ei) (inr ej) = ei ∙ sym ej

-- one more entry, which is a record that has no mark
module _ (records order : List ℕ) (n rec place : ℕ) (rises : Rises records) (at : StandsAt order n rec) (is : StandsAt records place rec) where
  module _ (marks : List Bool) (within : place < length marks) (are : AreMarks records order n marks) where
    pub marks_more : AreMarks records order (n + 1) (set marks place true)
    marks_more = record { marked = λ p x there s. marked_at p x there s (below_or_at s.earlier n s.before); only = λ p x there m. only_at p x there m (same_or_not p place) }
      where
        marked_at : (p x : ℕ) → StandsAt records p x → (s : StandsTo order (n + 1) x) → (s.earlier < n) ⊎ (s.earlier ≡ n) → StandsAt (set marks place true) p true
        marked_at p x there s before = go (same_or_not p place) before
          where
            go : (p ≡ place) ⊎ (p ≢ place) → (s.earlier < n) ⊎ (s.earlier ≡ n) → StandsAt (set marks place true) p true
            go (inl e) b = subst (λ q. StandsAt (set marks place true) q true) (sym e) (set_at marks place true false within)
            go (inr apart) (inl lt) = set_other marks place true false p true apart (are.marked p x there (record { earlier = s.earlier; before = lt; there = s.there }))
            go (inr apart) (inr e) =
                absurd (apart (place_is records p place rec rises (subst (StandsAt records p) (entry order n rec at s.earlier x e s.there) there) is))

        only_at : (p x : ℕ) → StandsAt records p x → StandsAt (set marks place true) p true → (p ≡ place) ⊎ (p ≢ place) → StandsTo order (n + 1) x
        only_at p x there m (inl e) =
            let same : x ≡ rec = same_at records place x rec (subst (λ q. StandsAt records q x) e there) is in
            record { earlier = n; before = omega arith; there = subst (StandsAt order n) (sym same) at }
        only_at p x there m (inr apart) =
            let s : StandsTo order n x = are.only p x there (set_back marks place true false p true apart m) in
            record { earlier = s.earlier; before = omega (arith, s.before); there = s.there }

-- no entry before place n is a stray
pub no_stray : (ops : List Op) (order : List ℕ) (n : ℕ) → IsGoodTo (Contains (records_of ops)) order n → (p : ℕ) → p < n → IsStray ops order p → ⊥
no_stray ops order n to p lt s = go s.why
  where
    go : (Contains (records_of ops) s.rec → ⊥) ⊎ StandsTo order p s.rec → ⊥
    go (inl h) = h (to.known p s.rec lt s.there)
    go (inr t) = omega (arith, t.before, to.once t.earlier p s.rec (omega (arith, t.before)) lt t.there s.there)

-- the entry at place n is the first stray
pub first_stray : (ops : List Op) (order : List ℕ) (n rec : ℕ) → IsGoodTo (Contains (records_of ops)) order n → StandsAt order n rec
    → (Contains (records_of ops) rec → ⊥) ⊎ StandsTo order n rec → IsFirstWrong (IsStray ops order) order rec
first_stray ops order n rec to at why = record {
  place = n;
  there = at;
  wrong = record { rec = rec; there = at; why = why };
  first = not_below (IsStray ops order) n (no_stray ops order n to);
}

-- past the end of the list
module _ (marks : List Bool) (ops : List Op) (order : List ℕ) (n : ℕ) (past : length order ≤ n) (to : IsGoodTo (Contains (records_of ops)) order n) (are : AreMarks (records_of ops) order n marks) where
  low : (i x : ℕ) → StandsAt order i x → i < n
  low i x there = omega (arith, past, slice_get_within order i x there)

  stands : (x : ℕ) → Contains order x → StandsTo order n x
  stands x c = record { earlier = c.0; before = low c.0 x (at_its_place order x c); there = at_its_place order x c }

  pub each_once : ((p : ℕ) → p < length (records_of ops) → StandsAt marks p true) → ListsEachOnce (records_of ops) order
  each_once all = record {
    known = λ x c. to.known c.0 x (low c.0 x (at_its_place order x c)) (at_its_place order x c);
    whole = λ x c. whole x c (are.only c.0 x (at_its_place (records_of ops) x c) (all c.0 (slice_get_within (records_of ops) c.0 x (at_its_place (records_of ops) x c))));
    once = λ i j x a b. to.once i j x (low i x a) (low j x b) a b;
  }
    where
      whole : (x : ℕ) → Contains (records_of ops) x → StandsTo order n x → Contains order x
      whole x c s = contains_at order s.earlier x s.there

  pub least_missing : (place rec : ℕ) → Rises (records_of ops) → StandsAt (records_of ops) place rec → StandsAt marks place false
      → ((p : ℕ) → p < place → p < length (records_of ops) → StandsAt marks p true) → IsLeastMissing ops order rec
  least_missing place rec rises at unmarked seen = record {
    no_stray = λ p s. no_stray ops order n to p (low p s.rec s.there) s;
    member = contains_at (records_of ops) place rec at;
    missing = λ c. true≢false (same_at marks place true false (are.marked place rec at (stands rec c)) unmarked);
    least = λ x c out. least x c out (parts c.0 place);
  }
    where
      least : (x : ℕ) (c : Contains (records_of ops) x) → (Contains order x → ⊥) → (c.0 ≡ place) ⊎ ((c.0 < place) ⊎ (place < c.0)) → rec ≤ x
      least x c out (inl e) = let same : rec ≡ x = same_at (records_of ops) place rec x at (subst (λ q. StandsAt (records_of ops) q x) e (at_its_place (records_of ops) x c)) in omega (arith, same)
      least x c out (inr (inl lt)) =
          let there : StandsAt (records_of ops) c.0 x = at_its_place (records_of ops) x c in
          let s : StandsTo order n x = are.only c.0 x there (seen c.0 lt (slice_get_within (records_of ops) c.0 x there)) in
          absurd (out (contains_at order s.earlier x s.there))
      least x c out (inr (inr lt)) = omega (arith, rises place c.0 rec x lt at (at_its_place (records_of ops) x c))

-- before the first entry
pub good_none : (records order : List ℕ) → IsGoodTo (Contains records) order 0
good_none records order = record { known = λ i x lt there. absurd (omega (arith, lt)); once = λ i j x li lj a b. absurd (omega (arith, li)) }

-- a record without its mark stands nowhere before
pub fresh_at : (marks : List Bool) (records order : List ℕ) (n place rec : ℕ) → AreMarks records order n marks → StandsAt records place rec
    → get_or marks place false ≡ false → StandsTo order n rec → ⊥
fresh_at marks records order n place rec are is unmarked s =
    true≢false (sym (get_or_from_slice_get marks place true false (are.marked place rec is s)) ∙ unmarked)

pub seen_more : (marks : List Bool) (n count : ℕ) → length marks ≡ count → get_or marks n false ≡ true → n < count
    → ((p : ℕ) → p < n → p < count → StandsAt marks p true) → (p : ℕ) → p < n + 1 → p < count → StandsAt marks p true
seen_more marks n count same marked low seen p lt within = go (below_or_at p n lt)
  where
    go : (p < n) ⊎ (p ≡ n) → StandsAt marks p true
    go (inl below) = seen p below within
    go (inr e) =
        let here : StandsAt marks n true = slice_get-get_or marks n false (omega (arith, same, low)) ∙ ap (λ x. Some x) marked in
        subst (λ q. StandsAt marks q true) (sym e) here

-- what an index reads, where it is known
pub read_is : (marks : List Bool) (place : ℕ) (r b : Bool) → r ≡ get_or marks place r → r ≡ b → get_or marks place b ≡ b
read_is marks place r b e f = sym (subst (λ x. x ≡ get_or marks place x) f e)

-- the record of the first operation without its mark
pub unmarked_here : (key : KeyOps) (items : List Op) (marks : List Bool) (place : ℕ) (past : Op) → items ≡ key.ops → place < length items → length marks ≡ length (operations key)
    → get_or marks (place + 1) false ≡ false → ((p : ℕ) → p < place + 1 → StandsAt marks p true) → IsFirstUnmarked (operations key) marks (get_or items place past).rec
unmarked_here key items marks place past same within long unmarked first =
    let e = ap length same in
    let op : StandsAt (operations key) (place + 1) (get_or items place past) = rw (add-one) (subst (λ (xs : List Op). StandsAt xs place (get_or items place past)) same (slice_get-get_or items place past within)) in
    record {
      place = place + 1;
      there = record_stands (operations key) (place + 1) (get_or items place past) op;
      unmarked = slice_get-get_or marks (place + 1) false (omega arith) ∙ ap (λ x. Some x) unmarked;
      first = first;
    }

-- one mark more
pub marked_more : (marks : List Bool) (place : ℕ) → place + 1 < length marks → get_or marks (place + 1) false ≡ true
    → ((p : ℕ) → p < place + 1 → StandsAt marks p true) → (p : ℕ) → p < place + 1 + 1 → StandsAt marks p true
marked_more marks place within marked first =
    below_more _ _ first (slice_get-get_or marks (place + 1) false within ∙ ap (λ x. Some x) marked)

-- the records of a valid key rise
pub key_rises : (key : KeyOps) → IsValidKey key → Rises (records_of (operations key))
key_rises key valid zero zero a b lt at bt = absurd (omega arith)
key_rises key valid (suc i) zero a b lt at bt = absurd (omega arith)
key_rises key valid zero (suc j) a b lt at bt =
    let zeroth : 0 ≡ a = same_at (records_of (operations key)) zero 0 a refl at in
    let wide : j < length key.ops = simp length-map at (slice_get_within (records_of key.ops) j b bt) in
    let (x, there) = something_at key.ops j wide in
    let same : x.rec ≡ b = same_at (records_of key.ops) j x.rec b (record_stands key.ops j x there) bt in
    let v = All-contains (IsValidOp (length key.values)) key.ops x valid.ops (contains_at key.ops j x there) in
    let one = v.numbered in
    omega arith
key_rises key valid (suc i) (suc j) a b lt at bt =
    let low : get_or (records_of key.ops) i 0 ≡ a = get_or_from_slice_get (records_of key.ops) i a 0 at in
    let high : get_or (records_of key.ops) j 0 ≡ b = get_or_from_slice_get (records_of key.ops) j b 0 bt in
    let up = rises_from (records_of key.ops) valid.rising i j (omega arith) (slice_get_within (records_of key.ops) j b bt) in
    omega arith

-- the operations of one entry more
pub listed_more : (ops : List Op) (order : List ℕ) (n : ℕ) (listed : List Op) (a : Op) → Contains ops a → StandsAt order n a.rec → AreListed ops (take n order) listed
    → AreListed ops (take (n + 1) order) (listed ++ a ∷ [])
listed_more ops order n listed a c at are = record {
  records =
      map-append (λ (x : Op). x.rec) listed (a ∷ [])
      ∙ ap (λ (xs : List ℕ). xs ++ a.rec ∷ []) are.records
      ∙ sym (take_more order n 0 (slice_get_within order n a.rec at) ∙ ap (λ (x : ℕ). take n order ++ x ∷ []) (get_or_from_slice_get order n a.rec 0 at));
  known = λ x there. elim (Contains-push_cases listed a x there) [
    | inl before ↦ are.known x before
    | inr same ↦ subst (Contains ops) same c
  ];
}

-- all entries are known once the last one is
pub known_to_end : (ops : List Op) (order : List ℕ) (n : ℕ) (listed : List Op) (marks : List Bool) → length order ≤ n → n ≤ length order → length marks ≡ length ops
    → IsGoodTo (Contains (records_of ops)) order n → AreMarks (records_of ops) order n marks → AreListed ops (take n order) listed → IsKnown ops order listed marks
known_to_end ops order n listed marks past within one_each good marked are = record {
  known = λ x c. good.known c.0 x (low c.0 x (at_its_place order x c)) (at_its_place order x c);
  once = λ i j x a b. good.once i j x (low i x a) (low j x b) a b;
  in_order = subst (λ (xs : List ℕ). AreListed ops xs listed) (take_all n order past) are;
  one_each = one_each;
  marked = subst (λ (k : ℕ). AreMarks (records_of ops) order k marks) (let e : n ≡ length order = omega arith in e) marked;
} where
  low : (i x : ℕ) → StandsAt order i x → i < n
  low i x at = let l = slice_get_within order i x at in omega arith

pub good_from_known : (ops : List Op) (order : List ℕ) (listed : List Op) (marks : List Bool) → IsKnown ops order listed marks → IsGoodTo (Contains (records_of ops)) order (length order)
good_from_known ops order listed marks known = record {
  known = λ i x lt at. known.known x (contains_at order i x at);
  once = λ i j x li lj a b. known.once i j x a b;
}

-- what the marks tell of a list whose entries are known
wrong_by_mark : (key : KeyOps) (order : List ℕ) (listed : List Op) (marks : List Bool) (rec : ℕ) → IsValidKey key → IsKnown (operations key) order listed marks
    → IsFirstUnmarked (operations key) marks rec → IsWrongListing (operations key) order rec
wrong_by_mark key order listed marks rec valid known first =
    inr (least_missing marks (operations key) order (length order) (omega arith) (good_from_known (operations key) order listed marks known) known.marked
    first.place rec (key_rises key valid) first.there first.unmarked (λ p lt _. first.first p lt))

listed_by_marks : (ops : List Op) (order : List ℕ) (listed : List Op) (marks : List Bool) → IsKnown ops order listed marks
    → ((p : ℕ) → p < length ops → StandsAt marks p true) → ListsEachOnce (records_of ops) order
listed_by_marks ops order listed marks known all =
    each_once marks ops order (length order) (omega arith) (good_from_known ops order listed marks known) known.marked
    (λ p within. all p (simp length-map at within))

-- what is named by the marks of a list of known entries
pub listed_from_marks : (key : KeyOps) (order : List ℕ) (listed : List Op) (marks : List Bool) (unmarked : Option ℕ) → IsValidKey key → IsKnown (operations key) order listed marks
    → FindsUnmarked (operations key) marks unmarked → IsListed (operations key) order listed unmarked
listed_from_marks key order listed marks None valid known all = (listed_by_marks (operations key) order listed marks known all, known.in_order)
listed_from_marks key order listed marks (Some rec) valid known first = wrong_by_mark key order listed marks rec valid known first
