-- Chains of links: what a tie changes, and a chain from which one node is left out.
use Rattle.std.proofs.Common.{◌≡◌, ℕ, ◌<◌, true, false, List, [], ◌∷◌, length, get_or, ap, sym, subst, ◌∙◌, inl, inr}
use Rattle.std.specs.Prelude.{◌⊎◌, slice_set}
use Rattle.std.proofs.lemmas.Bool.{cases_eq}
use Rattle.std.proofs.lemmas.List.{get_or-set_same, get_or-set_other, set-set, set-get_or}
use Rattle.lbt_epochs.specs.Links.{Links, after, before, tie, IsTied, unlinked, relinked, has, without, AreApart, IsChain}
use Rattle.lbt_epochs.proofs.LinksHas.{has_at, had_not_lacked, has_cases, has_front, has_behind, lacks_front, lacks_behind, without_front, without_other, without_lacked}

-- a tie that is made is there
pub tied_here : (links : Links) (u v : ℕ) → u < length links.next → v < length links.previous → IsTied (tie links u v) u v
tied_here links u v p q = (get_or-set_same links.next u v 0 p, get_or-set_same links.previous v u 0 q)

-- a tie leaves those of other nodes
pub tied_other : (links : Links) (u v a b : ℕ) → (a ≡ u → ⊥) → (b ≡ v → ⊥) → IsTied links a b → IsTied (tie links u v) a b
tied_other links u v a b p q t = (get_or-set_other links.next u a v 0 p ∙ t.0, get_or-set_other links.previous v b u 0 q ∙ t.1)

-- a tie leaves a chain that has neither of its nodes
pub chain_other : (links : Links) (end a : ℕ) (xs : List ℕ) (u v : ℕ) → (a ≡ u → ⊥) → has xs u ≡ false → has xs v ≡ false → (end ≡ v → ⊥)
    → IsChain links end a xs
    → IsChain (tie links u v) end a xs
chain_other links end a [] u v au hu hv ev t = tied_other links u v a end au ev t
chain_other links end a (x ∷ xs) u v au hu hv ev c = (
  tied_other links u v a x au (lacks_front x xs v hv) c.0,
  chain_other links end x xs u v (lacks_front x xs u hu) (lacks_behind x xs u hu)
      (lacks_behind x xs v hv) ev c.1,
)

-- what stands before a node of a chain is the chain's start, or one of its nodes
pub before_in : (links : Links) (end a : ℕ) (xs : List ℕ) (x : ℕ) → IsChain links end a xs → has xs x ≡ true
    → (before links x ≡ a) ⊎ (has xs (before links x) ≡ true)
before_in links end a [] x c h = absurd (cc)
before_in links end a (y ∷ ys) x c h = elim (has_cases y ys x h) [
  | inl e ↦ inl (ap (before links) (sym e) ∙ c.0.1)
  | inr r ↦ elim (before_in links end y ys x c.1 r) [
    | inl e ↦ inr (has_at (y ∷ ys) (before links x) y e (has_front y ys))
    | inr b ↦ inr (has_behind y ys (before links x) b)
  ]
]

-- what stands after a chain's start is its first node, or the end
pub after_start : (links : Links) (end a : ℕ) (xs : List ℕ) → IsChain links end a xs → (after links a ≡ end) ⊎ (has xs (after links a) ≡ true)
after_start links end a [] c = inl c.0
after_start links end a (y ∷ ys) c = inr (has_at (y ∷ ys) (after links a) y c.0.0 (has_front y ys))

-- what stands after a node of a chain is the end, or one of its nodes
pub after_in : (links : Links) (end a : ℕ) (xs : List ℕ) (x : ℕ) → IsChain links end a xs → has xs x ≡ true
    → (after links x ≡ end) ⊎ (has xs (after links x) ≡ true)
after_in links end a [] x c h = absurd (cc)
after_in links end a (y ∷ ys) x c h = elim (has_cases y ys x h) [
  | inl e ↦ elim (after_start links end y ys c.1) [
    | inl n ↦ inl (ap (after links) (sym e) ∙ n)
    | inr n ↦ inr (has_behind y ys (after links x) (has_at ys (after links x) (after links y) (ap (after links) (sym e)) n))
  ]
  | inr r ↦ elim (after_in links end y ys x c.1 r) [
    | inl n ↦ inl n
    | inr n ↦ inr (has_behind y ys (after links x) n)
  ]
]

-- the chain from the node after the one that is left out on
unlinked_rest : (links : Links) (end a x : ℕ) (ys : List ℕ) → a < length links.next → end < length links.previous
    → ((y : ℕ) → has ys y ≡ true → y < length links.previous)
    → has ys a ≡ false → has ys end ≡ false → AreApart ys → IsChain links end x ys → IsChain (tie links a (after links x)) end a ys
unlinked_rest links end a x [] inside last below ha he apart c = rw c.0 (tied_here links a end inside last)
unlinked_rest links end a x (z ∷ zs) inside last below ha he apart c =
    let P : ℕ → Type 0 = λ b. IsChain (tie links a b) end a (z ∷ zs) in
    subst P (sym c.0.0) (
      tied_here links a z inside (below z (has_front z zs)),
      chain_other links end z zs a z (lacks_front z zs a ha) (lacks_behind z zs a ha) apart.0 (λ e. lacks_front z zs end he (sym e)) c.1,
    )

-- a chain's first node is left out
unlinked_front : (links : Links) (end a x : ℕ) (ys : List ℕ) → a < length links.next → end < length links.previous
    → ((y : ℕ) → has ys y ≡ true → y < length links.previous)
    → has ys a ≡ false → has ys end ≡ false → AreApart (x ∷ ys) → IsChain links end a (x ∷ ys) → IsChain (unlinked links x) end a (without x (x ∷ ys))
unlinked_front links end a x ys inside last below ha he apart c =
    let e : without x (x ∷ ys) ≡ ys = without_front x ys ∙ without_lacked x ys apart.0 in
    let k : unlinked links x ≡ tie links a (after links x) = ap (λ b. tie links b (after links x)) c.0.1 in
    let P : List ℕ → Type 0 = λ l. IsChain (unlinked links x) end a l in
    let Q : Links → Type 0 = λ l. IsChain l end a ys in
    subst P (sym e) (subst Q (sym k) (unlinked_rest links end a x ys inside last below ha he apart.1 c.1))

-- what stands before a node of a chain isn't what the chain lacks
pub before_apart : (links : Links) (end a : ℕ) (xs : List ℕ) (x z : ℕ) → IsChain links end a xs → has xs x ≡ true → (a ≡ z → ⊥) → has xs z ≡ false
    → z ≡ before links x → ⊥
before_apart links end a xs x z c h az hz e = elim (before_in links end a xs x c h) [
  | inl s ↦ az (sym (e ∙ s))
  | inr b ↦ had_not_lacked xs (before links x) z b hz e
]

-- what stands after a node of a chain isn't what the chain lacks
pub after_apart : (links : Links) (end a : ℕ) (xs : List ℕ) (x z : ℕ) → IsChain links end a xs → has xs x ≡ true → (end ≡ z → ⊥) → has xs z ≡ false
    → z ≡ after links x → ⊥
after_apart links end a xs x z c h az hz e = elim (after_in links end a xs x c h) [
  | inl s ↦ az (sym (e ∙ s))
  | inr b ↦ had_not_lacked xs (after links x) z b hz e
]

-- a node is left out of a chain
pub unlinked_chain : (links : Links) (end a : ℕ) (xs : List ℕ) (x : ℕ) → length links.next ≡ length links.previous → a < length links.next
    → end < length links.next
    → ((y : ℕ) → has xs y ≡ true → y < length links.next) → has xs a ≡ false → has xs end ≡ false → AreApart xs → has xs x ≡ true
    → IsChain links end a xs
    → IsChain (unlinked links x) end a (without x xs)
unlinked_chain links end a [] x same inside last below ha he apart h c = absurd (cc)
unlinked_chain links end a (y ∷ ys) x same inside last below ha he apart h c = elim (cases_eq x y) [
  | inl e ↦
      let P : ℕ → Type 0 = λ z. IsChain (unlinked links z) end a (without z (y ∷ ys)) in
      subst P (sym e) (unlinked_front links end a y ys inside (rw (← same) last) (λ z hz. rw (← same) (below z (has_behind y ys z hz)))
      (lacks_behind y ys a ha) (lacks_behind y ys end he) apart c)
  | inr other ↦
      let hx : has ys x ≡ true = elim (has_cases y ys x h) [ inl e ↦ absurd (other (sym e)) | inr r ↦ r ] in
      let P : List ℕ → Type 0 = λ l. IsChain (unlinked links x) end a l in
      subst P (sym (without_other x y ys other)) (
        tied_other links (before links x) (after links x) a y
            (before_apart links end y ys x a c.1 hx (lacks_front y ys a ha) (lacks_behind y ys a ha))
            (after_apart links end y ys x y c.1 hx (λ e. lacks_front y ys end he (sym e)) apart.0)
            c.0,
        unlinked_chain links end y ys x same (below y (has_front y ys)) last (λ z hz. below z (has_behind y ys z hz)) apart.0
            (lacks_behind y ys end he) apart.1 hx c.1,
      )
]

back_from : (links : Links) (end a : ℕ) (xs : List ℕ) → IsChain links end a xs → before links (after links a) ≡ a
back_from links end a [] c = ap (before links) c.0 ∙ c.1
back_from links end a (y ∷ ys) c = ap (before links) c.0.0 ∙ c.0.1

-- both ways through a node of a chain lead back to it
pub tied_both : (links : Links) (end a : ℕ) (xs : List ℕ) (x : ℕ) → IsChain links end a xs → has xs x ≡ true
    → (after links (before links x) ≡ x) × (before links (after links x) ≡ x)
tied_both links end a [] x c h = absurd (cc)
tied_both links end a (y ∷ ys) x c h = elim (has_cases y ys x h) [
  | inl e ↦
      let P : ℕ → Type 0 = λ z. (after links (before links z) ≡ z) × (before links (after links z) ≡ z) in
      subst P e (ap (after links) c.0.1 ∙ c.0.0, back_from links end y ys c.1)
  | inr r ↦ tied_both links end y ys x c.1 r
]

-- links are the same where both lists are
pub same_links : (a b : List ℕ) (links : Links) → a ≡ links.next → b ≡ links.previous → record { next = a; previous = b } ≡ links
same_links a b links e f = ap (λ l. record { next = l; previous = b }) e ∙ ap (λ l. record { next = links.next; previous = l }) f

-- a write of what stands at j leaves what stands at j
read_kept : (xs : List ℕ) (i j : ℕ) → get_or (slice_set xs i (get_or xs j 0)) j 0 ≡ get_or xs j 0
read_kept xs i j = elim (cases_eq j i) [
  | inl e ↦ let P : ℕ → Type 0 = λ k. get_or (slice_set xs k (get_or xs j 0)) j 0 ≡ get_or xs j 0 in subst P e (ap (λ l. get_or l j 0) (set-get_or xs j 0))
  | inr n ↦ get_or-set_other xs i j (get_or xs j 0) 0 n
]

-- a write that is written over by what stood there
written_back : (xs : List ℕ) (i v x : ℕ) → get_or xs i 0 ≡ x → slice_set (slice_set xs i v) i x ≡ xs
written_back xs i v x e = set-set xs i v x ∙ (ap (λ y. slice_set xs i y) (sym e) ∙ set-get_or xs i 0)

-- a node that is left out and put back leaves the links as they were
pub relinked-unlinked : (links : Links) (x : ℕ) → after links (before links x) ≡ x → before links (after links x) ≡ x
    → relinked (unlinked links x) x ≡ links
relinked-unlinked links x there back =
    let b : before (unlinked links x) x ≡ before links x = read_kept links.previous (after links x) x in
    let a : after (unlinked links x) x ≡ after links x = read_kept links.next (before links x) x in
    let n : slice_set (unlinked links x).next (before (unlinked links x) x) x ≡ links.next =
    ap (λ i. slice_set (unlinked links x).next i x) b ∙ written_back links.next (before links x) (after links x) x there in
    let p : slice_set (unlinked links x).previous (after (unlinked links x) x) x ≡ links.previous =
    ap (λ i. slice_set (unlinked links x).previous i x) a ∙ written_back links.previous (after links x) (before links x) x back in
    same_links _ _ links n p
