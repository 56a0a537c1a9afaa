-- Letters: their ends, and the entries of a client among them.
use Rattle.std.proofs.Common.{◌≡◌, ℕ, ◌<◌, ◌≤◌, Bool, true, false, cond, eqb, ◌||◌, List, [], ◌∷◌, ◌++◌, length, refl, ap, sym, ◌∙◌, arith, eq-eqb}
use Rattle.std.specs.Prelude.{All}
use Rattle.std.proofs.lemmas.List.Elements.{All-nil, All-cons}
use Rattle.std.proofs.lemmas.List.Folds.{list_any-append}
use mathlib.Core.List.{IsPrefix}
use Rattle.post_box.specs.Boxes.{letters_of}
use Rattle.stale_model.specs.declared.store.Entry.{Entry}
use Rattle.stale_model.specs.RecordedRuns.{entries_of}
use Rattle.key_recorder.specs.declared.letters.RecordLetter.{RecordLetter}
use Rattle.key_recorder.specs.declared.letters.RecordLetter.TheVariants.{Entry as OfEntry, End}
use Rattle.key_recorder.specs.Letters.{sender_of, entries_in, is_end_of, has_ended}

or_false : (b : Bool) → (b || false) ≡ b
or_false true = refl
or_false false = refl

or_left : (a b : Bool) → (a || b) ≡ false → a ≡ false
or_left true b e = e
or_left false b e = refl

or_right : (a b : Bool) → (a || b) ≡ false → b ≡ false
or_right true b e = let not : true ≡ false = e in cc
or_right false b e = e

or_rest : (a b : Bool) → a ≡ false → (a || b) ≡ true → b ≡ true
or_rest true b e f = let not : true ≡ false = e in cc
or_rest false b e f = f

-- whether a client ended, after one more letter
pub has_ended-more : (client : ℕ) (xs : List RecordLetter) (x : RecordLetter) → has_ended client (xs ++ x ∷ []) ≡ (has_ended client xs || is_end_of client x)
has_ended-more client xs x = list_any-append (is_end_of client) xs (x ∷ []) ∙ ap (λ (b : Bool). has_ended client xs || b) (or_false (is_end_of client x))

-- a client that ended stays so
pub still_ended : (client : ℕ) (xs : List RecordLetter) (x : RecordLetter) → has_ended client xs ≡ true → has_ended client (xs ++ x ∷ []) ≡ true
still_ended client xs x ended = has_ended-more client xs x ∙ ap (λ (b : Bool). b || is_end_of client x) ended

pub entries_in-append : (xs ys : List RecordLetter) → entries_in (xs ++ ys) ≡ entries_in xs ++ entries_in ys
entries_in-append [] ys = refl
entries_in-append (OfEntry e ∷ xs) ys = ap (λ (es : List Entry). e ∷ es) (entries_in-append xs ys)
entries_in-append (End c ∷ xs) ys = entries_in-append xs ys

pub length-entries_in : (xs : List RecordLetter) → length (entries_in xs) ≤ length xs
length-entries_in [] = omega arith
length-entries_in (OfEntry e ∷ xs) = let h = length-entries_in xs in omega arith
length-entries_in (End c ∷ xs) = let h = length-entries_in xs in omega arith

entry_chosen : (b : Bool) (e : Entry) (es : List Entry) (xs : List RecordLetter) → es ≡ entries_in xs → cond b (e ∷ es) es ≡ entries_in (cond b (OfEntry e ∷ xs) xs)
entry_chosen true e es xs is = ap (λ (l : List Entry). e ∷ l) is
entry_chosen false e es xs is = is

end_chosen : (b : Bool) (c : ℕ) (xs : List RecordLetter) → entries_in (cond b (End c ∷ xs) xs) ≡ entries_in xs
end_chosen true c xs = refl
end_chosen false c xs = refl

-- the entries of a client are those among its letters
pub entries_of-letters : (client : ℕ) (xs : List RecordLetter) → entries_of client (entries_in xs) ≡ entries_in (letters_of sender_of client xs)
entries_of-letters client [] = refl
entries_of-letters client (OfEntry e ∷ xs) = entry_chosen (eqb e.client client) e (entries_of client (entries_in xs)) (letters_of sender_of client xs) (entries_of-letters client xs)
entries_of-letters client (End c ∷ xs) = entries_of-letters client xs ∙ sym (end_chosen (eqb c client) c (letters_of sender_of client xs))

ended_by_entry : (b : Bool) (client : ℕ) (e : Entry) (xs : List RecordLetter) → has_ended client (cond b (OfEntry e ∷ xs) xs) ≡ has_ended client xs
ended_by_entry true client e xs = refl
ended_by_entry false client e xs = refl

ended_by_end : (b : Bool) (client c : ℕ) (xs : List RecordLetter) → eqb c client ≡ b → has_ended client (cond b (End c ∷ xs) xs) ≡ (b || has_ended client xs)
ended_by_end true client c xs is = ap (λ (b : Bool). b || has_ended client xs) is
ended_by_end false client c xs is = refl

-- a client ended where its end is among its own letters
pub has_ended-letters : (client : ℕ) (xs : List RecordLetter) → has_ended client (letters_of sender_of client xs) ≡ has_ended client xs
has_ended-letters client [] = refl
has_ended-letters client (OfEntry e ∷ xs) = ended_by_entry (eqb e.client client) client e (letters_of sender_of client xs) ∙ has_ended-letters client xs
has_ended-letters client (End c ∷ xs) =
    ended_by_end (eqb c client) client c (letters_of sender_of client xs) refl
    ∙ ap (λ (b : Bool). eqb c client || b) (has_ended-letters client xs)

same_head : (x y : RecordLetter) (xs ys : List RecordLetter) → x ∷ xs ≡ y ∷ ys → x ≡ y
same_head x y xs ys e = cc

same_tail : (x y : RecordLetter) (xs ys : List RecordLetter) → x ∷ xs ≡ y ∷ ys → xs ≡ ys
same_tail x y xs ys e = cc

nil_of : (xs ys : List RecordLetter) → xs ++ ys ≡ [] → xs ≡ []
nil_of [] ys e = refl
nil_of (x ∷ xs) ys e = absurd (let n = ap (λ (l : List RecordLetter). length l) e in omega arith)

-- where the end that a client sent last was taken, all that it sent was
pub last_taken : (client : ℕ) (before xs : List RecordLetter) → IsPrefix xs (before ++ End client ∷ []) → has_ended client xs ≡ true → has_ended client before ≡ false
    → xs ≡ before ++ End client ∷ []
last_taken client before [] pre ended alone = let not : false ≡ true = ended in cc
last_taken client [] (y ∷ ys) pre ended alone =
    let head = same_head y (End client) (ys ++ pre.0) [] pre.1 in
    let none = nil_of ys pre.0 (same_tail y (End client) (ys ++ pre.0) [] pre.1) in
    ap (λ (z : RecordLetter). z ∷ ys) head ∙ ap (λ (l : List RecordLetter). End client ∷ l) none
last_taken client (x ∷ before) (y ∷ ys) pre ended alone =
    let head = same_head y x (ys ++ pre.0) (before ++ End client ∷ []) pre.1 in
    let tail = same_tail y x (ys ++ pre.0) (before ++ End client ∷ []) pre.1 in
    let here : is_end_of client y ≡ false = ap (is_end_of client) head ∙ or_left (is_end_of client x) (has_ended client before) alone in
    let rest : has_ended client ys ≡ true = or_rest (is_end_of client y) (has_ended client ys) here ended in
    ap (λ (z : RecordLetter). z ∷ ys) head
    ∙ ap (λ (l : List RecordLetter). x ∷ l) (last_taken client before ys (pre.0, tail) rest (or_right (is_end_of client x) (has_ended client before) alone))

longer_by_choice : (b : Bool) (x : RecordLetter) (xs : List RecordLetter) → 0 < length xs → 0 < length (cond b (x ∷ xs) xs)
longer_by_choice true x xs some = omega arith
longer_by_choice false x xs some = some

some_chosen : (b : Bool) (x : RecordLetter) (xs : List RecordLetter) → b ≡ true → 0 < length (cond b (x ∷ xs) xs)
some_chosen true x xs is = omega arith
some_chosen false x xs is = let not : false ≡ true = is in cc

-- where each sender of a letter is below a number, so is the client of each entry
pub clients_known : (clients : ℕ) (xs : List RecordLetter) → ((s : ℕ) → 0 < length (letters_of sender_of s xs) → s < clients)
    → All (λ (e : Entry). e.client < clients) (entries_in xs)
clients_known clients [] known = All-nil (λ (e : Entry). e.client < clients)
clients_known clients (OfEntry e ∷ xs) known =
    All-cons (λ (e : Entry). e.client < clients) e (entries_in xs)
    (known e.client (some_chosen (eqb e.client e.client) (OfEntry e) (letters_of sender_of e.client xs) (eq-eqb e.client e.client refl)))
    (clients_known clients xs (λ s some. known s (longer_by_choice (eqb e.client s) (OfEntry e) (letters_of sender_of s xs) some)))
clients_known clients (End c ∷ xs) known =
    clients_known clients xs (λ s some. known s (longer_by_choice (eqb c s) (End c) (letters_of sender_of s xs) some))
