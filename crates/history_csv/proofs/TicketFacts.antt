-- The text of tickets, one more before the others at a time.
use Rattle.std.proofs.Common.{◌≡◌, ℕ, ◌+◌, ◌-◌, ◌<◌, ◌≤◌, ◌++◌, List, [], ◌∷◌, length, map, drop, get_or, set, refl, ◌∙◌, ap, arith, length-drop}
use Rattle.std.specs.Fmt.{decimal}
use Rattle.std.specs.List.{join_with_byte}
use Rattle.std.proofs.lemmas.List.{append-nil, drop-set, drop_all, drop_more}
use Rattle.stale_model.specs.declared.store.Took.{Took}
use Rattle.stale_model.specs.Texts.{semicolon}

-- the tickets of replies, with semicolons between them
abbrev pub tickets_of : List Took → List ℕ
tickets_of ts = join_with_byte semicolon (map (λ t. decimal t.serve) ts)

-- a ticket before others
tickets_of-cons : (t : Took) (rest : List Took) → 0 < length rest → tickets_of (t ∷ rest) ≡ decimal t.serve ++ (semicolon ∷ tickets_of rest)
tickets_of-cons t [] some = absurd (omega arith)
tickets_of-cons t (u ∷ rest) some = refl

-- the replies from a place on are the one there and those behind it
drop-before : (taken : List Took) (place : ℕ) (d : Took) → 0 < place → place ≤ length taken → drop (place - 1) taken ≡ get_or taken (place - 1) d ∷ drop place taken
drop-before taken place d above within =
    let next : place - 1 + 1 ≡ place = omega arith in
    drop_more taken (place - 1) d (omega arith) ∙ ap (λ (n : ℕ). get_or taken (place - 1) d ∷ drop n taken) next

-- the last ticket alone
pub tickets_of-last : (taken : List Took) (place : ℕ) (d : Took) (behind text : List ℕ) → 0 < place → place ≡ length taken → behind ≡ tickets_of (drop place taken)
    → text ≡ decimal (get_or taken (place - 1) d).serve ++ behind → text ≡ tickets_of (drop (place - 1) taken)
tickets_of-last taken place d behind text above last before after =
    let none : drop place taken ≡ [] = drop_all place taken (omega arith) in
    let all : drop (place - 1) taken ≡ get_or taken (place - 1) d ∷ [] =
    drop-before taken place d above (omega arith) ∙ ap (λ (rest : List Took). get_or taken (place - 1) d ∷ rest) none in
    rw (after, before, none, all, append-nil (decimal (get_or taken (place - 1) d).serve)) refl

-- a ticket before a semicolon and those behind it
pub tickets_of-more : (taken : List Took) (place : ℕ) (d : Took) (old : List ℕ) (start : ℕ) (text : List ℕ) → 0 < place → place < length taken → 0 < start → start ≤ length old
    → drop start old ≡ tickets_of (drop place taken) → text ≡ decimal (get_or taken (place - 1) d).serve ++ drop (start - 1) (set old (start - 1) semicolon)
    → text ≡ tickets_of (drop (place - 1) taken)
tickets_of-more taken place d old start text above more some within before after =
    let next : start - 1 + 1 ≡ start = omega arith in
    let behind : drop (start - 1) (set old (start - 1) semicolon) ≡ semicolon ∷ tickets_of (drop place taken) =
    drop-set old (start - 1) semicolon (omega arith) ∙ ap (λ (n : ℕ). semicolon ∷ drop n old) next ∙ ap (λ (rest : List ℕ). semicolon ∷ rest) before in
    let left : 0 < length (drop place taken) = omega (arith, length-drop place taken) in
    rw (after, behind, drop-before taken place d above (omega arith), tickets_of-cons (get_or taken (place - 1) d) (drop place taken) left) refl
