-- The first replies of some letters: each is one of the letters, and no two are of one replica.
use Rattle.std.proofs.Common.{◌≡◌, ◌⊎◌, ℕ, zero, suc, ◌<◌, Bool, true, false, not, if◌then◌else◌, nat_lt, List, [], ◌∷◌, ◌++◌, length, map, refl, sym, ◌∙◌, ap, inl, inr, subst, eq-eqb, get_or}
use Rattle.std.specs.Prelude.{◌==◌, ◌&&◌, Contains, fold}
use Rattle.std.proofs.lemmas.Bool.{both_ways, not-true, and_parts, eqb-true, ltb-true}
use Rattle.std.proofs.lemmas.List.{map_push}
use Rattle.std.proofs.lemmas.List.Folds.{list_any_at}
use Rattle.std.proofs.lemmas.List.Elements.{Contains-push_cases}
use Rattle.std.proofs.lemmas.Option.{same_Some, none-some}
use Rattle.stale_model.specs.declared.store.Reply.{Reply}
use Rattle.stale_model.specs.declared.store.Took.{Took}
use Rattle.stale_model.specs.Orders.{StandsAt, IsWithoutRepeats}
use Rattle.stale_model.specs.Calls.{took_of}
use Rattle.stale_model.proofs.Places.{contains_at}
use Rattle.stale_model.proofs.Sorted.{contains_later}
use Rattle.stale_model.proofs.Members.{empty_has_none, contains_first, before_mapped}
use Rattle.quorum_client.specs.FirstReplies.{has_reply_of, is_wanted, with_reply, first_replies}

-- what stands in a list with one more at its end: it stood there before, or it is the last
stands_pushed : {X : Type 0} (xs : List X) (x : X) (i : ℕ) (a : X) → StandsAt (xs ++ x ∷ []) i a → StandsAt xs i a ⊎ ((i ≡ length xs) × (x ≡ a))
stands_pushed [] x zero a at = inr (refl, same_Some x a at)
stands_pushed [] x (suc i) a at = absurd (none-some a at)
stands_pushed (y ∷ xs) x zero a at = inl at
stands_pushed (y ∷ xs) x (suc i) a at = elim (stands_pushed xs x i a at) [ inl before ↦ inl before | inr last ↦ inr (ap suc last.0, last.1) ]

-- a list without repeats stays so with something new at its end
pub no_repeats_push : (xs : List ℕ) (x : ℕ) → IsWithoutRepeats xs → (Contains xs x → ⊥) → IsWithoutRepeats (xs ++ x ∷ [])
no_repeats_push xs x once new i j a p q =
    let not_before : (k : ℕ) → StandsAt xs k a → x ≡ a → ⊥ = λ k at is. new (subst (λ (y : ℕ). Contains xs y) (sym is) (contains_at xs k a at)) in elim (stands_pushed xs x i a p) [
      | inl l ↦ elim (stands_pushed xs x j a q) [ inl m ↦ once i j a l m | inr m ↦ absurd (not_before i l m.1) ]
      | inr l ↦ elim (stands_pushed xs x j a q) [ inl m ↦ absurd (not_before j m l.1) | inr m ↦ l.0 ∙ sym m.0 ]
    ]

-- the replicas of some replies
abbrev pub replicas_of : List Took → List ℕ
replicas_of ts = map (λ (t : Took). t.replica) ts

-- a replica of which no reply was taken is not among those of the replies
replica_is_new : (replica : ℕ) (ts : List Took) → has_reply_of replica ts ≡ false → Contains (replicas_of ts) replica → ⊥
replica_is_new replica ts new c =
    let (t, there, of) = before_mapped (λ (t : Took). t.replica) ts replica c in
    let (k, inside, at) = there in
    both_ways (has_reply_of replica ts) new
    (list_any_at (λ (x : Took). x.replica == replica) ts k t inside (eq-eqb (get_or ts k t).replica replica (ap (λ (x : Took). x.replica) at ∙ of)))

-- a reply that is one of these letters, to the call of this number, of a known replica
pub record IsLetter (seq replicas : ℕ) (letters : List Reply) (t : Took) : Type 0 where
  pub reply : Reply
  pub there : Contains letters reply
  pub same : t ≡ took_of reply
  pub known : reply.replica < replicas
  pub number : reply.seq ≡ seq

-- replies of these letters, no two of one replica
pub record AreOfLetters (seq replicas : ℕ) (letters : List Reply) (ts : List Took) : Type 0 where
  pub each : (t : Took) → Contains ts t → IsLetter seq replicas letters t
  pub apart : IsWithoutRepeats (replicas_of ts)

module _ (seq replicas : ℕ) (letters : List Reply) where
  -- one more reply of a letter
  one_more : (ts : List Took) (reply : Reply) → Contains letters reply → AreOfLetters seq replicas letters ts → reply.seq ≡ seq → reply.replica < replicas
      → has_reply_of reply.replica ts ≡ false → AreOfLetters seq replicas letters (ts ++ took_of reply ∷ [])
  one_more ts reply there are number known new = record {
    each = λ t c. elim (Contains-push_cases ts (took_of reply) t c) [
      | inl before ↦ are.each t before
      | inr is ↦ record { reply = reply; there = there; same = sym is; known = known; number = number }
    ];
    apart = subst (λ (rs : List ℕ). IsWithoutRepeats rs) (sym (map_push (λ (t : Took). t.replica) ts (took_of reply)))
        (no_repeats_push (replicas_of ts) reply.replica are.apart (replica_is_new reply.replica ts new));
  }

  -- with a letter, where it is wanted
  by_choice : (b : Bool) (ts : List Took) (reply : Reply) → is_wanted seq replicas ts reply ≡ b → Contains letters reply → AreOfLetters seq replicas letters ts
      → AreOfLetters seq replicas letters (if b then ts ++ took_of reply ∷ [] else ts)
  by_choice true ts reply wanted there are =
      let (fits, new) = and_parts ((reply.seq == seq) && nat_lt reply.replica replicas) (not (has_reply_of reply.replica ts)) wanted in
      let (number, known) = and_parts (reply.seq == seq) (nat_lt reply.replica replicas) fits in
      one_more ts reply there are (eqb-true reply.seq seq number) (ltb-true reply.replica replicas known) (not-true (has_reply_of reply.replica ts) new)
  by_choice false ts reply wanted there are = are

  -- with some of the letters, one after the other
  each_more : (ts : List Took) (some : List Reply) → ((reply : Reply) → Contains some reply → Contains letters reply) → AreOfLetters seq replicas letters ts
      → AreOfLetters seq replicas letters (fold (with_reply seq replicas) ts some)
  each_more ts [] there are = are
  each_more ts (reply ∷ some) there are =
      each_more (with_reply seq replicas ts reply) some (λ x c. there x (contains_later reply x some c))
      (by_choice (is_wanted seq replicas ts reply) ts reply refl (there reply (contains_first reply some)) are)

  -- the first replies of some letters are of these letters, no two of one replica
  pub firsts_are_letters : AreOfLetters seq replicas letters (first_replies seq replicas letters)
  firsts_are_letters = each_more [] letters (λ reply c. c) (record {
    each = λ t c. absurd (empty_has_none t c);
    apart = λ i j a p q. absurd (none-some a p);
  })
