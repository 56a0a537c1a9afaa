-- The lines of a file, one after the other.
use Rattle.std.proofs.Common.{◌≡◌, ◌⊎◌, inl, inr, ◌+◌, ◌==◌, ℕ, true, false, cond, List, [], ◌∷◌, ◌++◌, length, take, drop, Option, Some, None, Result, Ok, Err, refl, sym, ◌∙◌, ap, append_assoc, append-nil}
use Rattle.std.specs.Str.{bytes_eq}
use Rattle.cert_text.specs.Words.{lines_of, is_empty}
use Rattle.cert_text.proofs.ReadSteps.{split_some}
use Rattle.trace_check.specs.declared.reading.TraceFault.{TraceFault}
use Rattle.trace_check.specs.declared.reading.TraceFault.TheVariants as fault
use Rattle.trace_check.specs.Reading.{or_fault, or_line, lines_read, file_read}

-- the last of what was read
abbrev pub last_of : {X : Type 0} → List X → Option X
last_of [] = None
last_of (x ∷ []) = Some x
last_of (x ∷ y ∷ ys) = last_of (y ∷ ys)

-- what was read, before what the lines that are left read as
abbrev pub behind : {X : Type 0} → List X → Result (List X) TraceFault → Result (List X) TraceFault
behind items r = or_fault r (λ xs. Ok (items ++ xs))

pub behind_none : {X : Type 0} (r : Result (List X) TraceFault) → behind [] r ≡ r
behind_none (Ok xs) = refl
behind_none (Err f) = refl

pub last_push : {X : Type 0} (items : List X) (x : X) → last_of (items ++ x ∷ []) ≡ Some x
last_push [] x = refl
last_push (y ∷ []) x = refl
last_push (y ∷ z ∷ zs) x = last_push (z ∷ zs) x

module _ {X : Type 0} (f : ℕ → TraceFault) (read : Option X → List ℕ → Option X) where
  behind_one : (items : List X) (x : X) (r : Result (List X) TraceFault) → behind items (or_fault r (λ xs. Ok (x ∷ xs))) ≡ behind (items ++ x ∷ []) r
  behind_one items x (Ok xs) = ap Ok (sym (append_assoc items (x ∷ []) xs))
  behind_one items x (Err g) = refl

  -- what comes of a line, as it reads
  line_read : (n : ℕ) (before : Option X) (line rest : List ℕ) (o : Option X) → read before line ≡ o
      → lines_read f read n before (line ∷ lines_of rest) ≡ or_fault (or_line (f n) o) (λ x. or_fault (lines_read f read (n + 1) (Some x) (lines_of rest)) (λ xs. Ok (x ∷ xs)))
  unfolding lines_read
  line_read n before line rest o is =
      split_some (λ b. b == 10)
      (λ zs. lines_read f read n before (line ∷ zs) ≡ or_fault (or_line (f n) o) (λ x. or_fault (lines_read f read (n + 1) (Some x) zs) (λ xs. Ok (x ∷ xs))))
      (λ y ys. ap (λ a. or_fault (or_line (f n) a) (λ x. or_fault (lines_read f read (n + 1) (Some x) (y ∷ ys)) (λ xs. Ok (x ∷ xs)))) is) rest

  -- a line that reads, behind what was read
  pub next_line : (n : ℕ) (items : List X) (x : X) (rest line after : List ℕ) (whole : Result (List X) TraceFault)
      → behind items (lines_read f read n (last_of items) (lines_of rest)) ≡ whole → lines_of rest ≡ line ∷ lines_of after → read (last_of items) line ≡ Some x
      → behind (items ++ x ∷ []) (lines_read f read (n + 1) (last_of (items ++ x ∷ [])) (lines_of after)) ≡ whole
  next_line n items x rest line after whole so_far is reads =
      ap (λ b. behind (items ++ x ∷ []) (lines_read f read (n + 1) b (lines_of after))) (last_push items x)
      ∙ sym (behind_one items x (lines_read f read (n + 1) (Some x) (lines_of after)))
      ∙ ap (behind items) (sym (line_read n (last_of items) line after (Some x) reads))
      ∙ ap (λ ls. behind items (lines_read f read n (last_of items) ls)) (sym is) ∙ so_far

  -- a line at fault
  pub fault_line : (n : ℕ) (items : List X) (rest line after : List ℕ) (whole : Result (List X) TraceFault)
      → behind items (lines_read f read n (last_of items) (lines_of rest)) ≡ whole → lines_of rest ≡ line ∷ lines_of after → read (last_of items) line ≡ None → Err (f n) ≡ whole
  fault_line n items rest line after whole so_far is reads =
      ap (behind items) (sym (line_read n (last_of items) line after None reads)) ∙ ap (λ ls. behind items (lines_read f read n (last_of items) ls)) (sym is) ∙ so_far

  -- what stands after the last line
  pub after_last : (n : ℕ) (items : List X) (rest : List ℕ) (whole : Result (List X) TraceFault) → behind items (lines_read f read n (last_of items) (lines_of rest)) ≡ whole
      → lines_of rest ≡ rest ∷ [] → behind items (cond (is_empty rest) (Ok []) (Err (f n))) ≡ whole
  unfolding lines_read
  after_last n items rest whole so_far is = ap (λ ls. behind items (lines_read f read n (last_of items) ls)) (sym is) ∙ so_far

  pub ends_well : (n : ℕ) (items : List X) (rest : List ℕ) (whole : Result (List X) TraceFault) → behind items (lines_read f read n (last_of items) (lines_of rest)) ≡ whole
      → lines_of rest ≡ rest ∷ [] → is_empty rest ≡ true → Ok items ≡ whole
  ends_well n items rest whole so_far is none =
      ap Ok (sym (append-nil items)) ∙ ap (λ b. behind items (cond b (Ok []) (Err (f n)))) (sym none) ∙ after_last n items rest whole so_far is

  pub ends_badly : (n : ℕ) (items : List X) (rest : List ℕ) (whole : Result (List X) TraceFault) → behind items (lines_read f read n (last_of items) (lines_of rest)) ≡ whole
      → lines_of rest ≡ rest ∷ [] → is_empty rest ≡ false → Err (f n) ≡ whole
  ends_badly n items rest whole so_far is some =
      ap (λ b. behind items (cond b (Ok []) (Err (f n)))) (sym some) ∙ after_last n items rest whole so_far is

  -- the lines after the header are those of the file
  pub after_header : (header text rest : List ℕ) (r : Result (List X) TraceFault) → bytes_eq (take (length header) text) header ≡ true → rest ≡ drop (length header) text
      → (r ≡ Err fault.Memory) ⊎ (r ≡ lines_read f read 2 None (lines_of rest)) → (r ≡ Err fault.Memory) ⊎ (r ≡ file_read f header read text)
  after_header header text rest r begins is (inl e) = inl e
  after_header header text rest r begins is (inr e) = inr (e ∙ ap (λ t. lines_read f read 2 None (lines_of t)) is
      ∙ ap (λ b. cond b (lines_read f read 2 None (lines_of (drop (length header) text))) (Err (f 1))) (sym begins))

  -- a file without its header
  pub no_header : (header text : List ℕ) → bytes_eq (take (length header) text) header ≡ false → Err (f 1) ≡ file_read f header read text
  no_header header text lacks = ap (λ b. cond b (lines_read f read 2 None (lines_of (drop (length header) text))) (Err (f 1))) (sym lacks)

-- a fault of what is read first is that of the whole
pub first_fault : {X Y : Type 0} (r : Result X TraceFault) (next : X → Result Y TraceFault) (g : TraceFault)
    → (◌≡◌ {A = Result X TraceFault} (Err g) (Err fault.Memory)) ⊎ (Err g ≡ r) → (◌≡◌ {A = Result Y TraceFault} (Err g) (Err fault.Memory)) ⊎ (Err g ≡ or_fault r next)
first_fault r next g (inl e) = inl (cc)
first_fault r next g (inr e) = inr (ap (λ q. or_fault q next) e)

module _ {X Y Z : Type 0} (r : Result X TraceFault) (q : Result Z TraceFault) (make : X → Z → Y) where
  -- a fault of what is read second is that of the whole
  pub second_fault : (x : X) (g : TraceFault) → (◌≡◌ {A = Result X TraceFault} (Ok x) (Err fault.Memory)) ⊎ (Ok x ≡ r)
      → (◌≡◌ {A = Result Z TraceFault} (Err g) (Err fault.Memory)) ⊎ (Err g ≡ q)
      → (◌≡◌ {A = Result Y TraceFault} (Err g) (Err fault.Memory)) ⊎ (Err g ≡ or_fault r (λ a. or_fault q (λ z. Ok (make a z))))
  second_fault x g (inl e) h = absurd (cc)
  second_fault x g (inr e) (inl h) = inl (cc)
  second_fault x g (inr e) (inr h) = inr (ap (λ p. or_fault p (λ z. Ok (make x z))) h ∙ ap (λ p. or_fault p (λ a. or_fault q (λ z. Ok (make a z)))) e)

  -- what is read first and second gives the whole
  pub both_read : (x : X) (z : Z) → (◌≡◌ {A = Result X TraceFault} (Ok x) (Err fault.Memory)) ⊎ (Ok x ≡ r)
      → (◌≡◌ {A = Result Z TraceFault} (Ok z) (Err fault.Memory)) ⊎ (Ok z ≡ q) → Ok (make x z) ≡ or_fault r (λ a. or_fault q (λ b. Ok (make a b)))
  both_read x z (inl e) h = absurd (cc)
  both_read x z (inr e) (inl h) = absurd (cc)
  both_read x z (inr e) (inr h) = ap (λ p. or_fault p (λ b. Ok (make x b))) h ∙ ap (λ p. or_fault p (λ a. or_fault q (λ b. Ok (make a b)))) e
