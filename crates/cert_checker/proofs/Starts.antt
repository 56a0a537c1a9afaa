-- The greatest earliest starts so far, and what they tell.
use Rattle.std.proofs.Common.{◌≡◌, ◌⊎◌, inl, inr, ◌<◌, ◌≤◌, ◌+◌, ℕ, List, max, refl, sym, ap, subst, arith}
use Rattle.stale_model.specs.declared.Op.{Op}
use Rattle.stale_model.specs.declared.Kind.{Kind}
use Rattle.stale_model.specs.declared.Kind.TheVariants.{Read, Write}
use Rattle.stale_model.specs.Operations.{earliest_start, latest_finish}
use Rattle.stale_model.specs.Precedence.{Precedes, moved}
use Rattle.stale_model.specs.Orders.{StandsAt}
use Rattle.stale_model.proofs.Places.{same_at}
use Rattle.cert_checker.specs.declared.orders.Latest.{Latest}
use Rattle.cert_checker.specs.Steps.{IsAfter, with_kind, with_op}

-- the operation at this place precedes one that stands before it
pub record IsBackwards (ops : List Op) (d place : ℕ) : Type 0 where
  pub earlier : ℕ
  pub rises : earlier < place
  pub a : Op
  pub b : Op
  pub a_is : StandsAt ops place a
  pub b_is : StandsAt ops earlier b
  pub precedes : Precedes d a b

-- the number of this kind
pub of_kind : Latest → Kind → ℕ
of_kind latest Read = latest.read
of_kind latest Write = latest.write

-- an operation of this kind before place i starts then
pub record Starts (ops : List Op) (i : ℕ) (kind : Kind) (start : ℕ) : Type 0 where
  pub place : ℕ
  pub before : place < i
  pub op : Op
  pub op_is : StandsAt ops place op
  pub kind_is : op.kind ≡ kind
  pub start_is : earliest_start op ≡ start

-- these are the greatest earliest starts of the operations before place i
pub record AreLatest (ops : List Op) (i : ℕ) (latest : Latest) : Type 0 where
  pub bound : (p : ℕ) (b : Op) → p < i → StandsAt ops p b → earliest_start b ≤ of_kind latest b.kind
  pub reached : (kind : Kind) → (of_kind latest kind ≡ 0) ⊎ Starts ops i kind (of_kind latest kind)

pub none_yet : (ops : List Op) → AreLatest ops 0 (record { read = 0; write = 0 })
unfolding of_kind
none_yet ops = record {
  bound = λ p b before at. absurd (omega arith);
  reached = λ kind. elim kind as (λ k. (of_kind (record { read = 0; write = 0 }) k ≡ 0) ⊎ Starts ops 0 k (of_kind (record { read = 0; write = 0 }) k)) [ Read ↦ inl refl | Write ↦ inl refl ];
}

still : (ops : List Op) (i : ℕ) (kind : Kind) (start : ℕ) → Starts ops i kind start → Starts ops (i + 1) kind start
still ops i kind start s = record { place = s.place; before = omega (arith, s.before); op = s.op; op_is = s.op_is; kind_is = s.kind_is; start_is = s.start_is }

-- the greater of a number that was reached and of one more start
greater : (ops : List Op) (i old start : ℕ) (kind : Kind) → (old ≡ 0) ⊎ Starts ops i kind old → Starts ops (i + 1) kind start → (max old start ≡ 0) ⊎ Starts ops (i + 1) kind (max old start)
greater ops i old start kind was now = go (total old start)
  where
    total : (a b : ℕ) → ((a ≤ b) × (max a b ≡ b)) ⊎ ((b ≤ a) × (max a b ≡ a))
    total a b = grind arith

    kept : (old ≡ 0) ⊎ Starts ops i kind old → start ≤ old → max old start ≡ old → (max old start ≡ 0) ⊎ Starts ops (i + 1) kind (max old start)
    kept (inl zero) le e = inl (omega arith)
    kept (inr s) le e = inr (subst (Starts ops (i + 1) kind) (sym e) (still ops i kind old s))

    go : ((old ≤ start) × (max old start ≡ start)) ⊎ ((start ≤ old) × (max old start ≡ old)) → (max old start ≡ 0) ⊎ Starts ops (i + 1) kind (max old start)
    go (inl h) = inr (subst (Starts ops (i + 1) kind) (sym h.1) now)
    go (inr h) = kept was h.0 h.1

grows : (latest : Latest) (kind k : Kind) (s : ℕ) → of_kind latest k ≤ of_kind (with_kind latest kind s) k
unfolding of_kind
grows latest Read Read s = omega arith
grows latest Read Write s = omega arith
grows latest Write Read s = omega arith
grows latest Write Write s = omega arith

takes : (latest : Latest) (kind : Kind) (s : ℕ) → s ≤ of_kind (with_kind latest kind s) kind
unfolding of_kind
takes latest Read s = omega arith
takes latest Write s = omega arith

pub below_or_at : (p i : ℕ) → p < i + 1 → (p < i) ⊎ (p ≡ i)
below_or_at p i h = grind arith

more_bound : (ops : List Op) (i : ℕ) (latest : Latest) (a : Op) → AreLatest ops i latest → StandsAt ops i a
    → (p : ℕ) (b : Op) → p < i + 1 → StandsAt ops p b → earliest_start b ≤ of_kind (with_kind latest a.kind (earliest_start a)) b.kind
more_bound ops i latest a l at p b before b_is = go (below_or_at p i before)
  where
    go : (p < i) ⊎ (p ≡ i) → earliest_start b ≤ of_kind (with_kind latest a.kind (earliest_start a)) b.kind
    go (inl lt) = omega (arith, l.bound p b lt b_is, grows latest a.kind b.kind (earliest_start a))
    go (inr e) =
        let same : a ≡ b = same_at ops i a b at (subst (λ q. StandsAt ops q b) e b_is) in
        subst (λ (x : Op). earliest_start x ≤ of_kind (with_kind latest a.kind (earliest_start a)) x.kind) same (takes latest a.kind (earliest_start a))

more_reached : (ops : List Op) (i : ℕ) (latest : Latest) (a : Op) (kind : Kind) → a.kind ≡ kind → AreLatest ops i latest → StandsAt ops i a
    → (k : Kind) → (of_kind (with_kind latest kind (earliest_start a)) k ≡ 0) ⊎ Starts ops (i + 1) k (of_kind (with_kind latest kind (earliest_start a)) k)
unfolding of_kind
more_reached ops i latest a kind is l at k = go kind k is
  where
    now : (j : Kind) → a.kind ≡ j → Starts ops (i + 1) j (earliest_start a)
    now j e = record { place = i; before = omega arith; op = a; op_is = at; kind_is = e; start_is = refl }

    kept : (j : Kind) (n : ℕ) → (n ≡ 0) ⊎ Starts ops i j n → (n ≡ 0) ⊎ Starts ops (i + 1) j n
    kept j n (inl z) = inl z
    kept j n (inr s) = inr (still ops i j n s)

    go : (j k : Kind) → a.kind ≡ j → (of_kind (with_kind latest j (earliest_start a)) k ≡ 0) ⊎ Starts ops (i + 1) k (of_kind (with_kind latest j (earliest_start a)) k)
    go Read Read e = greater ops i latest.read (earliest_start a) Read (l.reached Read) (now Read e)
    go Read Write e = kept Write latest.write (l.reached Write)
    go Write Read e = kept Read latest.read (l.reached Read)
    go Write Write e = greater ops i latest.write (earliest_start a) Write (l.reached Write) (now Write e)

-- one more operation
pub one_more : (ops : List Op) (i : ℕ) (latest : Latest) (a : Op) → AreLatest ops i latest → StandsAt ops i a → AreLatest ops (i + 1) (with_op latest a)
one_more ops i latest a l at = record { bound = more_bound ops i latest a l at; reached = more_reached ops i latest a a.kind refl l at }

backwards_by : (ops : List Op) (d i start : ℕ) (kind : Kind) (a : Op) → StandsAt ops i a → (start ≡ 0) ⊎ Starts ops i kind start → latest_finish a + moved d kind < start → IsBackwards ops d i
backwards_by ops d i start kind a at (inl z) h = absurd (omega arith)
backwards_by ops d i start kind a at (inr s) h = record {
  earlier = s.place;
  rises = s.before;
  a = a;
  b = s.op;
  a_is = at;
  b_is = s.op_is;
  precedes = subst (λ k. latest_finish a + moved d k < earliest_start s.op) (sym s.kind_is) (omega (arith, h, s.start_is));
}

-- an operation that finishes before the greatest start of a kind precedes the one that starts then
pub backwards_at : (ops : List Op) (d i : ℕ) (latest : Latest) (a : Op) → AreLatest ops i latest → StandsAt ops i a → IsAfter latest d (latest_finish a) → IsBackwards ops d i
unfolding of_kind
backwards_at ops d i latest a l at (inl h) = backwards_by ops d i latest.read Read a at (l.reached Read) h
backwards_at ops d i latest a l at (inr h) = backwards_by ops d i latest.write Write a at (l.reached Write) (omega (arith, h))

pub not_backwards_at : (ops : List Op) (d i : ℕ) (latest : Latest) (a : Op) → AreLatest ops i latest → StandsAt ops i a → (IsAfter latest d (latest_finish a) → ⊥) → IsBackwards ops d i → ⊥
unfolding of_kind
not_backwards_at ops d i latest a l at not w = go w.b.kind refl
  where
    same : w.a ≡ a
    same = same_at ops i w.a a w.a_is at

    finish : latest_finish w.a ≡ latest_finish a
    finish = ap latest_finish same

    starts : earliest_start w.b ≤ of_kind latest w.b.kind
    starts = l.bound w.earlier w.b w.rises w.b_is

    go : (k : Kind) → w.b.kind ≡ k → ⊥
    go Read e = not (inl (omega (arith, subst (λ j. latest_finish w.a + moved d j < earliest_start w.b) e w.precedes, finish, subst (λ j. earliest_start w.b ≤ of_kind latest j) e starts)))
    go Write e = not (inr (omega (arith, subst (λ j. latest_finish w.a + moved d j < earliest_start w.b) e w.precedes, finish, subst (λ j. earliest_start w.b ≤ of_kind latest j) e starts)))
