-- The entries of all logs are the calls of all clients.
use mathlib.Core.Logic.{dite}
use native.Mathlib.Decide.{ℕ_discrete}
use Rattle.std.proofs.Common.{◌≡◌, ℕ, zero, suc, ◌+◌, ◌<◌, ◌≤◌, Bool, cond, List, [], ◌∷◌, ◌++◌, length, get_or, map, refl, sym, ◌∙◌, ap, subst, arith, append_assoc, eq-eqb}
use Rattle.std.specs.Prelude.{◌==◌, All, Some, filter, flat_map, slice_get}
use Rattle.std.specs.List.{range_with_len}
use Rattle.std.specs.List.Sorted.{IsPermutation}
use Rattle.std.proofs.lemmas.Bool.{ne_eqb}
use Rattle.std.proofs.lemmas.Nat.{mod_below}
use Rattle.std.proofs.lemmas.List.{get_or-map}
use Rattle.std.proofs.lemmas.Option.{slice_get_within, get_or_from_slice_get}
use Rattle.std.proofs.lemmas.List.Elements.{All-head, All-tail}
use Rattle.std.proofs.lemmas.List.Sorted.{IsPermutation-refl, IsPermutation-sym, IsPermutation-trans, IsPermutation-cons, IsPermutation-append, IsPermutation-append_left, IsPermutation-append_right, IsPermutation-append_comm, IsPermutation-middle}
use Rattle.stale_model.specs.declared.store.Settings.{Settings}
use Rattle.stale_model.specs.declared.store.Entry.{Entry}
use Rattle.run_laws.specs.Parts.{all_calls}
use Rattle.key_recorder.specs.Recorders.{shard_of}
use Rattle.bench_run.specs.Logs.{entries_on, AreLogged}
use Rattle.bench_run.proofs.Gathered.{by_places, stands}

module _ {X : Type 0} where
  -- to go on from an equal list
  from_same : (xs ys zs : List X) → xs ≡ ys → IsPermutation ys zs → IsPermutation xs zs
  from_same xs ys zs same p = subst (λ (l : List X). IsPermutation l zs) (sym same) p

  to_same : (xs ys zs : List X) → IsPermutation xs ys → ys ≡ zs → IsPermutation xs zs
  to_same xs ys zs p same = subst (λ (l : List X). IsPermutation xs l) same p

  -- where the same is made of each number, the same is made of all
  pub same_in_range : (f g : ℕ → List X) (a n : ℕ) → ((k : ℕ) → a ≤ k → k < a + n → f k ≡ g k) → flat_map f (range_with_len a n) ≡ flat_map g (range_with_len a n)
  same_in_range f g a zero same = refl
  same_in_range f g a (suc n) same =
      let rest = same_in_range f g (a + 1) n (λ k low high. same k (omega arith) (omega arith)) in
      ap (λ (xs : List X). xs ++ flat_map f (range_with_len (a + 1) n)) (same a (omega arith) (omega arith)) ∙ ap (λ (xs : List X). g a ++ xs) rest

  -- where what is made of each number is in another order, so is what is made of all
  pub permuted_in_range : (f g : ℕ → List X) (a n : ℕ) → ((k : ℕ) → a ≤ k → k < a + n → IsPermutation (f k) (g k))
      → IsPermutation (flat_map f (range_with_len a n)) (flat_map g (range_with_len a n))
  permuted_in_range f g a zero same = IsPermutation-refl []
  permuted_in_range f g a (suc n) same =
      IsPermutation-append (f a) (g a) (flat_map f (range_with_len (a + 1) n)) (flat_map g (range_with_len (a + 1) n)) (same a (omega arith) (omega arith))
      (permuted_in_range f g (a + 1) n (λ k low high. same k (omega arith) (omega arith)))

  -- one more element, in the list of its number
  abbrev with_one : (x : X) (m : ℕ) (g : ℕ → List X) → ℕ → List X
  with_one x m g k = cond (m == k) (x ∷ g k) (g k)

  one_here : (x : X) (m : ℕ) (g : ℕ → List X) → with_one x m g m ≡ x ∷ g m
  one_here x m g = ap (λ (b : Bool). cond b (x ∷ g m) (g m)) (eq-eqb m m refl)

  one_elsewhere : (x : X) (m k : ℕ) (g : ℕ → List X) → (m ≡ k → ⊥) → with_one x m g k ≡ g k
  one_elsewhere x m k g other = ap (λ (b : Bool). cond b (x ∷ g k) (g k)) (ne_eqb m k other)

  put_first : (x : X) (m : ℕ) (g : ℕ → List X) (a n : ℕ) → m ≡ a → IsPermutation (x ∷ flat_map g (range_with_len a (suc n))) (flat_map (with_one x m g) (range_with_len a (suc n)))
  put_first x m g a n here =
      let first : with_one x m g a ≡ x ∷ g a = subst (λ (k : ℕ). with_one x m g k ≡ x ∷ g k) here (one_here x m g) in
      let rest = same_in_range (with_one x m g) g (a + 1) n (λ k low high. one_elsewhere x m k g (λ is. omega arith)) in
      let all : flat_map (with_one x m g) (range_with_len a (suc n)) ≡ x ∷ flat_map g (range_with_len a (suc n))
      = ap (λ (xs : List X). xs ++ flat_map (with_one x m g) (range_with_len (a + 1) n)) first ∙ ap (λ (xs : List X). (x ∷ g a) ++ xs) rest in
      to_same (x ∷ flat_map g (range_with_len a (suc n))) (x ∷ flat_map g (range_with_len a (suc n))) (flat_map (with_one x m g) (range_with_len a (suc n)))
      (IsPermutation-refl (x ∷ flat_map g (range_with_len a (suc n)))) (sym all)

  put_later : (x : X) (m : ℕ) (g : ℕ → List X) (a n : ℕ) → (m ≡ a → ⊥)
      → IsPermutation (x ∷ flat_map g (range_with_len (a + 1) n)) (flat_map (with_one x m g) (range_with_len (a + 1) n))
      → IsPermutation (x ∷ flat_map g (range_with_len a (suc n))) (flat_map (with_one x m g) (range_with_len a (suc n)))
  put_later x m g a n other later =
      let rest = flat_map g (range_with_len (a + 1) n) in
      let goal = flat_map (with_one x m g) (range_with_len (a + 1) n) in
      let first = one_elsewhere x m a g other in
      let moved = IsPermutation-sym (g a ++ x ∷ rest) (x ∷ (g a ++ rest)) (IsPermutation-middle (g a) x rest) in
      to_same (x ∷ (g a ++ rest)) (g a ++ goal) (with_one x m g a ++ goal)
      (IsPermutation-trans (x ∷ (g a ++ rest)) (g a ++ x ∷ rest) (g a ++ goal) moved (IsPermutation-append_right (g a) (x ∷ rest) goal later))
      (ap (λ (xs : List X). xs ++ goal) (sym first))

  put_in : (x : X) (m : ℕ) (g : ℕ → List X) (a n : ℕ) → a ≤ m → m < a + n → IsPermutation (x ∷ flat_map g (range_with_len a n)) (flat_map (with_one x m g) (range_with_len a n))
  put_in x m g a zero low high = absurd (omega arith)
  put_in x m g a (suc n) low high =
      dite (ℕ_discrete m a) (λ (here : m ≡ a). put_first x m g a n here)
      (λ other. put_later x m g a n other (put_in x m g (a + 1) n (let past : a + 1 ≤ m = omega arith in past) (omega arith)))

  abbrev none : List X
  none = []

  nothing_made : {B : Type 0} (bs : List B) → none ≡ flat_map (λ (b : B). none) bs
  nothing_made [] = refl
  nothing_made (b ∷ bs) = nothing_made bs

  -- a list is in another order what it has of each number
  pub parted : (f : X → ℕ) (n : ℕ) (xs : List X) → All (λ x. f x < n) xs → IsPermutation xs (flat_map (λ k. filter (λ x. f x == k) xs) (range_with_len 0 n))
  parted f n [] low = to_same [] [] (flat_map (λ k. []) (range_with_len 0 n)) (IsPermutation-refl []) (nothing_made (range_with_len 0 n))
  parted f n (x ∷ xs) low =
      let rest = parted f n xs (All-tail (λ (y : X). f y < n) x xs low) in
      let first = All-head (λ (y : X). f y < n) x xs low in
      IsPermutation-trans (x ∷ xs) (x ∷ flat_map (λ k. filter (λ y. f y == k) xs) (range_with_len 0 n)) (flat_map (λ k. filter (λ y. f y == k) (x ∷ xs)) (range_with_len 0 n))
      (IsPermutation-cons x xs (flat_map (λ k. filter (λ y. f y == k) xs) (range_with_len 0 n)) rest)
      (put_in x (f x) (λ k. filter (λ y. f y == k) xs) 0 n (omega arith) (omega arith))

  -- what is made side by side is what is made of both, in another order
  side_by_side : {B : Type 0} (g h : B → List X) (bs : List B) → IsPermutation (flat_map g bs ++ flat_map h bs) (flat_map (λ b. g b ++ h b) bs)
  side_by_side g h [] = IsPermutation-refl []
  side_by_side g h (b ∷ bs) =
      let gs = flat_map g bs in let hs = flat_map h bs in let both = flat_map (λ c. g c ++ h c) bs in
      let turned : IsPermutation (gs ++ (h b ++ hs)) (h b ++ (gs ++ hs))
      = from_same (gs ++ (h b ++ hs)) ((gs ++ h b) ++ hs) (h b ++ (gs ++ hs)) (sym (append_assoc gs (h b) hs))
      (to_same ((gs ++ h b) ++ hs) ((h b ++ gs) ++ hs) (h b ++ (gs ++ hs)) (IsPermutation-append_left hs (gs ++ h b) (h b ++ gs) (IsPermutation-append_comm gs (h b))) (append_assoc (h b) gs hs)) in
      let rest = IsPermutation-append_right (h b) (gs ++ hs) both (side_by_side g h bs) in
      let inner = IsPermutation-trans (gs ++ (h b ++ hs)) (h b ++ (gs ++ hs)) (h b ++ both) turned rest in
      from_same ((g b ++ gs) ++ (h b ++ hs)) (g b ++ (gs ++ (h b ++ hs))) ((g b ++ h b) ++ both) (append_assoc (g b) gs (h b ++ hs))
      (to_same (g b ++ (gs ++ (h b ++ hs))) (g b ++ (h b ++ both)) ((g b ++ h b) ++ both) (IsPermutation-append_right (g b) (gs ++ (h b ++ hs)) (h b ++ both) inner) (sym (append_assoc (g b) (h b) both)))

  -- row by row is column by column, in another order
  pub exchanged : {A B : Type 0} (made : A → B → List X) (rows : List A) (columns : List B)
      → IsPermutation (flat_map (λ a. flat_map (made a) columns) rows) (flat_map (λ b. flat_map (λ a. made a b) rows) columns)
  exchanged made [] columns = to_same [] [] (flat_map (λ b. []) columns) (IsPermutation-refl []) (nothing_made columns)
  exchanged made (a ∷ rows) columns =
      let here = flat_map (made a) columns in
      let rest = flat_map (λ c. flat_map (made c) columns) rows in
      let turned = flat_map (λ b. flat_map (λ c. made c b) rows) columns in
      IsPermutation-trans (here ++ rest) (here ++ turned) (flat_map (λ b. made a b ++ flat_map (λ c. made c b) rows) columns)
      (IsPermutation-append_right here rest turned (exchanged made rows columns)) (side_by_side (made a) (λ b. flat_map (λ c. made c b) rows) columns)

module _ {G : Type 0} (s : Settings) (calls : ℕ → List Entry) (logged : G → List Entry) (logs : List G) where
  -- the entries of the log of a shard
  abbrev of_shard : ℕ → List Entry
  of_shard k = get_or (map logged logs) k []

  -- of a client, what it has on the keys of a shard
  abbrev on_shard : ℕ → ℕ → List Entry
  on_shard c k = entries_on s.shards k (calls c)

  log_is : (k : ℕ) (g : G) → slice_get logs k ≡ Some g → logged g ≡ of_shard k
  log_is k g at = sym (get_or-map logged logs k g [] (slice_get_within logs k g at) ∙ ap logged (get_or_from_slice_get logs k g g at))

  of_clients : (k : ℕ) (es : List Entry) → AreLogged s calls k es → IsPermutation (flat_map (λ c. on_shard c k) (range_with_len 0 s.clients)) es
  of_clients k es are =
      from_same (flat_map (λ c. on_shard c k) (range_with_len 0 s.clients)) (flat_map (λ c. filter (λ e. e.client == c) es) (range_with_len 0 s.clients)) es
      (same_in_range (λ c. on_shard c k) (λ c. filter (λ e. e.client == c) es) 0 s.clients (λ c low high. sym (are.each c (omega arith))))
      (IsPermutation-sym es (flat_map (λ c. filter (λ e. e.client == c) es) (range_with_len 0 s.clients)) (parted (λ (e : Entry). e.client) s.clients es are.clients))

  -- the entries of all logs are the calls of all clients, in another order
  pub logged_are_calls : 1 ≤ s.shards → length logs ≡ s.shards → ((k : ℕ) (g : G) → slice_get logs k ≡ Some g → AreLogged s calls k (logged g))
      → IsPermutation (all_calls s calls) (flat_map logged logs)
  logged_are_calls some many are =
      let clients = range_with_len 0 s.clients in let shards = range_with_len 0 s.shards in
      let rows = flat_map (λ c. flat_map (on_shard c) shards) clients in
      let columns = flat_map (λ k. flat_map (λ c. on_shard c k) clients) shards in
      let apart = permuted_in_range calls (λ c. flat_map (on_shard c) shards) 0 s.clients
      (λ c low high. parted (λ (e : Entry). shard_of s.shards e.key) s.shards (calls c) (λ k d within. mod_below (get_or (calls c) k d).key s.shards (omega arith))) in
      let each = permuted_in_range (λ k. flat_map (λ c. on_shard c k) clients) of_shard 0 s.shards
      (λ k low high. let (g, at) = stands logs k (omega arith) in
      to_same (flat_map (λ c. on_shard c k) clients) (logged g) (of_shard k) (of_clients k (logged g) (are k g at)) (log_is k g at)) in
      let places = by_places logged of_shard 0 logs (λ k g at. log_is k g at ∙ ap of_shard (let z : k ≡ 0 + k = omega arith in z)) in
      let counted = ap (λ (n : ℕ). flat_map of_shard (range_with_len 0 n)) many in
      IsPermutation-trans (all_calls s calls) rows (flat_map logged logs) apart
      (IsPermutation-trans rows columns (flat_map logged logs) (exchanged on_shard clients shards)
      (to_same columns (flat_map of_shard shards) (flat_map logged logs) each (sym (places ∙ counted))))
