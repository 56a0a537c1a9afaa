-- What a replica took of its clients, by what they sent.
use Rattle.std.proofs.Common.{◌≡◌, ℕ, ◌<◌, Bool, true, false, cond, List, [], ◌∷◌, ◌++◌, length, map, refl, sym, ◌∙◌, ap, inl, inr, subst, arith, eq-eqb}
use Rattle.std.specs.Prelude.{◌==◌, All, Contains, filter}
use Rattle.std.proofs.lemmas.Bool.{ne_eqb}
use Rattle.std.proofs.lemmas.List.Elements.{All-head, All-tail, All-nil, All-cons}
use mathlib.Core.List.{IsPrefix}
use Rattle.stale_model.specs.declared.store.Request.{Request}
use Rattle.stale_model.proofs.Sorted.{first_or_later, contains_later}
use Rattle.stale_model.proofs.Members.{empty_has_none, contains_first, kept_from}
use Rattle.post_box.specs.Boxes.{letters_of}
use Rattle.quorum_client.specs.declared.letters.Note.{Note}
use Rattle.quorum_client.specs.declared.letters.Note.TheVariants.{Ask, Done}
use Rattle.quorum_client.specs.Letters.{sender_of}
use Rattle.bench_run.specs.Jobs.{asked_in}

-- the requests among the notes of a client are those of the client among the requests of all
asked_one : (b : Bool) (c : ℕ) (q : Request) (notes : List Note) → filter (λ r. r.client == c) (asked_in notes) ≡ asked_in (letters_of sender_of c notes)
    → cond b (q ∷ filter (λ r. r.client == c) (asked_in notes)) (filter (λ r. r.client == c) (asked_in notes)) ≡ asked_in (cond b (Ask q ∷ letters_of sender_of c notes) (letters_of sender_of c notes))
asked_one true c q notes e = ap (λ (qs : List Request). q ∷ qs) e
asked_one false c q notes e = e

done_one : (b : Bool) (c client : ℕ) (notes : List Note) → asked_in (cond b (Done client ∷ letters_of sender_of c notes) (letters_of sender_of c notes)) ≡ asked_in (letters_of sender_of c notes)
done_one true c client notes = refl
done_one false c client notes = refl

pub asked_of : (c : ℕ) (notes : List Note) → filter (λ q. q.client == c) (asked_in notes) ≡ asked_in (letters_of sender_of c notes)
asked_of c [] = refl
asked_of c (Ask q ∷ notes) = asked_one (q.client == c) c q notes (asked_of c notes)
asked_of c (Done client ∷ notes) = asked_of c notes ∙ sym (done_one (client == c) c client notes)

-- the requests among what a client sent that ends with its being done
pub asked_sent : (qs : List Request) (client : ℕ) → asked_in (map Ask qs ++ Done client ∷ []) ≡ qs
asked_sent [] client = refl
asked_sent (q ∷ qs) client = ap (λ (rs : List Request). q ∷ rs) (asked_sent qs client)

-- no request says that a client is done
pub none_done : (qs : List Request) (client : ℕ) → Contains (map Ask qs) (Done client) → ⊥
none_done [] client c = empty_has_none (Done client) c
none_done (q ∷ qs) client c = elim (first_or_later (Ask q) (Done client) (map Ask qs) c) [
  | inl e ↦ absurd (cc)
  | inr later ↦ none_done qs client later
]

module _ {X : Type 0} where
  nothing_before : (xs ys : List X) → xs ++ ys ≡ [] → xs ≡ []
  nothing_before [] ys e = refl
  nothing_before (x ∷ xs) ys e = absurd (let n = ap (λ (l : List X). length l) e in omega arith)

  same_first : (x y : X) (xs ys : List X) → x ∷ xs ≡ y ∷ ys → x ≡ y
  same_first x y xs ys e = cc

  same_rest : (x y : X) (xs ys : List X) → x ∷ xs ≡ y ∷ ys → xs ≡ ys
  same_rest x y xs ys e = cc

  -- a beginning of a list that has its last element, which stands nowhere before, is all of the list
  pub last_is_all : (before taken : List X) (last : X) → IsPrefix taken (before ++ last ∷ []) → Contains taken last → (Contains before last → ⊥) → taken ≡ before ++ last ∷ []
  last_is_all before [] last begins c fresh = absurd (empty_has_none last c)
  last_is_all [] (y ∷ ys) last begins c fresh =
      let first = same_first y last (ys ++ begins.0) [] begins.1 in
      let rest = nothing_before ys begins.0 (same_rest y last (ys ++ begins.0) [] begins.1) in
      ap (λ (z : X). z ∷ ys) first ∙ ap (λ (l : List X). last ∷ l) rest
  last_is_all (x ∷ before) (y ∷ ys) last begins c fresh =
      let first = same_first y x (ys ++ begins.0) (before ++ last ∷ []) begins.1 in
      let rest = same_rest y x (ys ++ begins.0) (before ++ last ∷ []) begins.1 in
      elim (first_or_later y last ys c) [
        | inl e ↦ absurd (fresh (subst (λ (z : X). Contains (x ∷ before) z) (sym first ∙ e) (contains_first x before)))
        | inr later ↦
            ap (λ (z : X). z ∷ ys) first
            ∙ ap (λ (l : List X). x ∷ l) (last_is_all before ys last (begins.0, rest) later (λ there. fresh (contains_later x last before there)))
      ]

-- where a replica took that the client is done, and of the client a beginning of what it sent, all the client's requests have come
pub all_came : (c : ℕ) (qs : List Request) (notes : List Note) → IsPrefix (letters_of sender_of c notes) (map Ask qs ++ Done c ∷ []) → Contains notes (Done c)
    → filter (λ q. q.client == c) (asked_in notes) ≡ qs
all_came c qs notes begins done =
    let mine = kept_from (λ (note : Note). sender_of note == c) notes (Done c) done (eq-eqb c c refl) in
    let all = last_is_all (map Ask qs) (letters_of sender_of c notes) (Done c) begins mine (none_done qs c) in
    asked_of c notes ∙ (ap (λ (xs : List Note). asked_in xs) all ∙ asked_sent qs c)

more_letters : (b : Bool) (x : Note) (xs : List Note) → 0 < length xs → 0 < length (cond b (x ∷ xs) xs)
more_letters true x xs some = omega arith
more_letters false x xs some = some

-- each request that came is of a client of which a note was taken
pub asked_clients : (clients : ℕ) (notes : List Note) → ((c : ℕ) → 0 < length (letters_of sender_of c notes) → c < clients) → All (λ q. q.client < clients) (asked_in notes)
asked_clients clients [] known = All-nil (λ (q : Request). q.client < clients)
asked_clients clients (Ask q ∷ notes) known =
    All-cons (λ (r : Request). r.client < clients) q (asked_in notes)
    (known q.client (subst (λ (b : Bool). 0 < length (cond b (Ask q ∷ letters_of sender_of q.client notes) (letters_of sender_of q.client notes))) (sym (eq-eqb q.client q.client refl)) (omega arith)))
    (asked_clients clients notes (λ c some. known c (more_letters (q.client == c) (Ask q) (letters_of sender_of c notes) some)))
asked_clients clients (Done client ∷ notes) known = asked_clients clients notes (λ c some. known c (more_letters (client == c) (Done client) (letters_of sender_of c notes) some))

module _ {X E : Type 0} (from : X → ℕ) (part : E → List X) where
  none_of : (k : ℕ) (xs : List X) → All (λ x. from x ≡ k → ⊥) xs → filter (λ x. from x == k) xs ≡ []
  none_of k [] none = refl
  none_of k (x ∷ xs) none =
      subst (λ (b : Bool). cond b (x ∷ filter (λ y. from y == k) xs) (filter (λ y. from y == k) xs) ≡ []) (sym (ne_eqb (from x) k (All-head (λ (y : X). from y ≡ k → ⊥) x xs none)))
      (none_of k xs (All-tail (λ (y : X). from y ≡ k → ⊥) x xs none))
