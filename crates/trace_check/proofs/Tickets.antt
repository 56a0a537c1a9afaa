-- The tickets of a field, one after the other, and the places that their replies stand in.
use Rattle.std.proofs.Common.{◌≡◌, ◌<◌, ◌≤◌, ◌+◌, ℕ, suc, Bool, true, false, cond, nat_le, List, [], ◌∷◌, ◌++◌, map, length, get_or, drop, set, replicate, Option, Some, None, option_map, refl, sym, ◌∙◌, ap, arith, append_assoc, append-nil, length-append, drop-cons}
use Rattle.std.proofs.lemmas.Bool.{le-leb, leb-true}
use Rattle.std.proofs.lemmas.List.{length-replicate, length-map}
use Rattle.std.proofs.Math.Seq.{set-append_seam}
use Rattle.stale_model.specs.declared.store.Took.{Took}
use Rattle.stale_model.specs.Calls.{no_took}
use Rattle.stale_model.specs.Texts.{semicolon}
use Rattle.trace_check.specs.Lines.{most_taken, split_at, then_read, tick_of, ticks_of, tickets_of, alone, took_at}

-- tickets that were read, and those that the parts after them are
abbrev pub tickets_with : List ℕ → List (List ℕ) → Option (List ℕ)
tickets_with tickets parts = cond (nat_le (length tickets + length parts) most_taken) (option_map (λ more. tickets ++ more) (ticks_of parts)) None

map-append : {X Y : Type 0} (f : X → Y) (xs ys : List X) → map f (xs ++ ys) ≡ map f xs ++ map f ys
map-append f [] ys = refl
map-append f (x ∷ xs) ys = ap (λ zs. f x ∷ zs) (map-append f xs ys)

map-id : (o : Option (List ℕ)) → option_map (λ more. [] ++ more) o ≡ o
map-id None = refl
map-id (Some xs) = refl

-- before the first
pub tickets_first : (field : List ℕ) → tickets_with [] (split_at semicolon field) ≡ tickets_of field
tickets_first field =
    let parts = split_at semicolon field in
    let count : 0 + length parts ≡ length parts = omega arith in
    ap (λ n. cond (nat_le n most_taken) (option_map (λ more. [] ++ more) (ticks_of parts)) None) count
    ∙ ap (λ o. cond (nat_le (length parts) most_taken) o None) (map-id (ticks_of parts))

one_more : (tickets : List ℕ) (t : ℕ) (o : Option (List ℕ)) → option_map (λ more. (tickets ++ t ∷ []) ++ more) o ≡ option_map (λ more. tickets ++ more) (option_map (λ ticks. t ∷ ticks) o)
one_more tickets t None = refl
one_more tickets t (Some more) = ap Some (append_assoc tickets (t ∷ []) more)

-- one more
pub tickets_more : (tickets : List ℕ) (t : ℕ) (part : List ℕ) (parts : List (List ℕ)) → tick_of part ≡ Some t
    → tickets_with (tickets ++ t ∷ []) parts ≡ tickets_with tickets (part ∷ parts)
tickets_more tickets t part parts is =
    let count : length (tickets ++ t ∷ []) + length parts ≡ length tickets + length (part ∷ parts) = simp length-append (omega arith) in
    ap (λ n. cond (nat_le n most_taken) (option_map (λ more. (tickets ++ t ∷ []) ++ more) (ticks_of parts)) None) count
    ∙ ap (λ o. cond (nat_le (length tickets + length (part ∷ parts)) most_taken) o None)
    (one_more tickets t (ticks_of parts) ∙ ap (λ o. option_map (λ more. tickets ++ more) (then_read o (λ tick. option_map (λ ticks. tick ∷ ticks) (ticks_of parts)))) (sym is))

none_either : {X : Type 0} (b : Bool) (o : Option X) → o ≡ None → cond b o None ≡ None
none_either true o e = e
none_either false o e = refl

-- a part that is no ticket
pub tickets_none : (tickets part : List ℕ) (parts : List (List ℕ)) → tick_of part ≡ None → tickets_with tickets (part ∷ parts) ≡ None
tickets_none tickets part parts is =
    none_either (nat_le (length tickets + length (part ∷ parts)) most_taken) _
    (ap (λ o. option_map (λ more. tickets ++ more) (then_read o (λ tick. option_map (λ ticks. tick ∷ ticks) (ticks_of parts)))) is)

greater : (n : ℕ) → most_taken < n → nat_le n most_taken ≡ false
greater n more = go (nat_le n most_taken) refl
  where
    go : (b : Bool) → nat_le n most_taken ≡ b → b ≡ false
    go true t = absurd (omega (arith, leb-true n most_taken t))
    go false t = refl

-- a part after the seventh
pub tickets_many : (tickets part : List ℕ) (parts : List (List ℕ)) → length tickets ≡ most_taken → tickets_with tickets (part ∷ parts) ≡ None
tickets_many tickets part parts full = rw (greater (length tickets + length (part ∷ parts)) (omega arith)) refl

-- after the last
pub tickets_last : (tickets : List ℕ) → length tickets ≤ most_taken → tickets_with tickets [] ≡ Some tickets
tickets_last tickets few =
    let fits : nat_le (length tickets + 0) most_taken ≡ true = le-leb (length tickets + 0) most_taken (omega arith) in
    rw fits (ap Some (append-nil tickets))

-- the reply at one more ticket stands in the next place
pub took_more : (tickets : List ℕ) (t : ℕ) → length tickets < most_taken → set (took_at tickets) (length tickets) (alone t) ≡ took_at (tickets ++ t ∷ [])
took_more tickets t few =
    let n = length tickets in
    let zeros = replicate most_taken no_took in
    let size : length zeros ≡ most_taken = length-replicate most_taken no_took in
    let long : length (map alone tickets) ≡ n = length-map tickets alone in
    let next : length (tickets ++ t ∷ []) ≡ suc n = simp length-append (omega arith) in
    let cut : drop n zeros ≡ get_or zeros n no_took ∷ drop (suc n) zeros = drop-cons zeros n no_took (omega arith) in
    ap (λ ys. set (map alone tickets ++ ys) n (alone t)) cut
    ∙ ap (λ k. set (map alone tickets ++ get_or zeros n no_took ∷ drop (suc n) zeros) k (alone t)) (sym long)
    ∙ set-append_seam (map alone tickets) (get_or zeros n no_took) (drop (suc n) zeros) (alone t)
    ∙ sym (append_assoc (map alone tickets) (alone t ∷ []) (drop (suc n) zeros))
    ∙ ap (λ xs. xs ++ drop (suc n) zeros) (sym (map-append alone tickets (t ∷ [])))
    ∙ ap (λ k. map alone (tickets ++ t ∷ []) ++ drop k zeros) (sym next)

-- so many tickets were read of a field, and stand in their places; these parts are left
pub record AreRead (field : List ℕ) (took : List Took) (count : ℕ) (parts : List (List ℕ)) : Type 0 where
  pub tickets : List ℕ
  pub placed : took ≡ took_at tickets
  pub as_many : length tickets ≡ count
  pub few : count ≤ most_taken
  pub left : tickets_with tickets parts ≡ tickets_of field

pub none_read : (field : List ℕ) (parts : List (List ℕ)) → split_at semicolon field ≡ parts → AreRead field (replicate most_taken (alone 0)) 0 parts
none_read field parts is = record {
  tickets = [];
  placed = refl;
  as_many = refl;
  few = omega arith;
  left = ap (tickets_with []) (sym is) ∙ tickets_first field;
}

pub more_read : (field : List ℕ) (took : List Took) (count t : ℕ) (part : List ℕ) (parts all : List (List ℕ)) → AreRead field took count all → all ≡ part ∷ parts → tick_of part ≡ Some t
    → count < most_taken → AreRead field (set took count (alone t)) (count + 1) parts
more_read field took count t part parts all so_far is reads few =
    let many = so_far.as_many in
    record {
      tickets = so_far.tickets ++ t ∷ [];
      placed =
          ap (λ xs. set xs count (alone t)) so_far.placed ∙ ap (λ k. set (took_at so_far.tickets) k (alone t)) (sym many) ∙ took_more so_far.tickets t (omega arith);
      as_many = simp length-append (omega arith);
      few = omega arith;
      left = tickets_more so_far.tickets t part parts reads ∙ ap (tickets_with so_far.tickets) (sym is) ∙ so_far.left;
    }

pub no_tick : (field : List ℕ) (took : List Took) (count : ℕ) (part : List ℕ) (parts all : List (List ℕ)) → AreRead field took count all → all ≡ part ∷ parts → tick_of part ≡ None
    → tickets_of field ≡ None
no_tick field took count part parts all so_far is reads =
    sym so_far.left ∙ ap (tickets_with so_far.tickets) is ∙ tickets_none so_far.tickets part parts reads

pub too_many : (field : List ℕ) (took : List Took) (count : ℕ) (part : List ℕ) (parts all : List (List ℕ)) → AreRead field took count all → all ≡ part ∷ parts → count ≡ most_taken
    → tickets_of field ≡ None
too_many field took count part parts all so_far is full =
    sym so_far.left ∙ ap (tickets_with so_far.tickets) is ∙ tickets_many so_far.tickets part parts (so_far.as_many ∙ full)

pub all_read : (field : List ℕ) (took : List Took) (count : ℕ) (all : List (List ℕ)) → AreRead field took count all → all ≡ []
    → ◌≡◌ {A = Option (List Took × ℕ)} (Some (took, count)) (option_map (λ tickets. (took_at tickets, length tickets)) (tickets_of field))
all_read field took count all so_far is =
    let many = so_far.as_many in
    let few = so_far.few in
    let whole : tickets_of field ≡ Some so_far.tickets = sym so_far.left ∙ ap (tickets_with so_far.tickets) is ∙ tickets_last so_far.tickets (omega arith) in
    cc
