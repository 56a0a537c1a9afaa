-- What the fields of the two files read as.
use Rattle.std.proofs.Common.{◌≡◌, ◌⊎◌, ◌<◌, ◌≤◌, ◌^◌, ◌&&◌, ℕ, zero, suc, Bool, true, false, cond, nat_le, nat_lt, List, [], ◌∷◌, map, length, Some, None, refl, ◌∙◌, ap, inr, arith}
use Rattle.std.specs.Prelude.{All}
use Rattle.std.specs.Fmt.{decimal}
use Rattle.std.specs.List.{join_with_byte}
use Rattle.std.specs.Str.Parse.{digits_value}
use Rattle.std.proofs.lemmas.Bool.{le-leb, lt-ltb}
use Rattle.std.proofs.lemmas.List.{length-map}
use Rattle.std.proofs.lemmas.List.Elements.{All-head, All-tail, All-map, All-weaker}
use Rattle.stale_model.specs.declared.Kind.{Kind}
use Rattle.stale_model.specs.declared.Kind.TheVariants.{Read, Write}
use Rattle.stale_model.specs.declared.store.Ask.{Ask}
use Rattle.stale_model.specs.declared.store.Ask.TheVariants.{Read as AskRead, Write as AskWrite, Repair}
use Rattle.stale_model.specs.declared.store.JournalEntry.{JournalEntry}
use Rattle.stale_model.specs.declared.store.Request.{Request}
use Rattle.stale_model.specs.declared.store.Took.{Took}
use Rattle.stale_model.specs.Journals.{Pair, changes, answer_to}
use Rattle.stale_model.specs.Texts.{semicolon, op_text, ask_text, key_text, value_text}
use Rattle.cert_text.specs.Numbers.{is_numeral}
use Rattle.cert_text.proofs.Numerals.{number_of-decimal}
use Rattle.trace_check.specs.Lines.{tick_limit, value_limit, most_taken, number_between, tick_of, key_of, named_value, value_or_empty, value_of, ask_of, ticks_of, tickets_of}
use Rattle.trace_laws.specs.Laws.{IsTick}
use Rattle.trace_laws.proofs.Parts.{Lacks, cut_apart, decimal_lacks, named_value_text}

read_so : (a b : Bool) (v n : ℕ) → cond (a && b) (Some v) None ≡ Some n → (a ≡ true) × (v ≡ n)
read_so true true v n e = (refl, cc)
read_so true false v n e = absurd (cc)
read_so false b v n e = absurd (cc)

-- the text of a number is its numeral
numeral_is : (n : ℕ) → n < 2 ^ 64 → (is_numeral (decimal n) ≡ true) × (digits_value 10 (decimal n) ≡ n)
numeral_is n fits = read_so (is_numeral (decimal n)) (nat_le (digits_value 10 (decimal n)) n) (digits_value 10 (decimal n)) n (number_of-decimal n n (omega arith) fits)

between : (a : Bool) (v n least limit : ℕ) → a ≡ true → v ≡ n → least ≤ n → n < limit → cond (a && (nat_le least v && nat_lt v limit)) (Some v) None ≡ Some n
between a v n least limit numeral value low high = rw (numeral, value, le-leb least n low, lt-ltb n limit high) refl

-- a number between its bounds
pub number_reads : (least limit n : ℕ) → least ≤ n → n < limit → n < 2 ^ 64 → number_between least limit (decimal n) ≡ Some n
number_reads least limit n low high fits =
    let (numeral, value) = numeral_is n fits in
    between (is_numeral (decimal n)) (digits_value 10 (decimal n)) n least limit numeral value low high

-- a tick
pub tick_reads : (t : ℕ) → IsTick t → tick_of (decimal t) ≡ Some t
tick_reads t (low, high) = number_reads 1 tick_limit t low high (omega arith)

-- the name of a key
pub key_reads : (keys n : ℕ) → n < keys → n < 2 ^ 64 → key_of keys (key_text n) ≡ Some n
key_reads keys n low fits = number_reads 0 keys n (omega arith) low fits

-- the name of a value
named_reads : (n : ℕ) → 1 ≤ n → n < value_limit → named_value (118 ∷ decimal n) ≡ Some n
named_reads n some low = number_reads 1 value_limit n some low (omega arith)

some_reads : (n : ℕ) → 1 ≤ n → n < value_limit → named_value (value_text n) ≡ Some n
some_reads zero some low = absurd (omega arith)
some_reads (suc n) some low = ap named_value (named_value_text n) ∙ named_reads (suc n) some low

any_reads : (n : ℕ) → n < value_limit → value_or_empty (value_text n) ≡ Some n
any_reads zero low = refl
any_reads (suc n) low = ap value_or_empty (named_value_text n) ∙ named_reads (suc n) (omega arith) low

-- the value of a call
pub value_reads : (kind : Kind) (n : ℕ) → n < value_limit → (kind ≡ Write → 1 ≤ n) → value_of (op_text kind) (value_text n) ≡ Some n
value_reads Read n low filled = any_reads n low
value_reads Write n low filled = some_reads n (filled refl) low

-- the value of a reply
pub reply_reads : (ask : Ask) (n : ℕ) → n < value_limit → (changes ask ≡ true → 1 ≤ n) → value_of (ask_text ask) (value_text n) ≡ Some n
reply_reads AskRead n low filled = any_reads n low
reply_reads (AskWrite value) n low filled = some_reads n (filled refl) low
reply_reads (Repair stamp value) n low filled = some_reads n (filled refl) low

-- what a request asks, where the reply has its pair
pub ask_reads : (js : List JournalEntry) (q : Request) (ask : Ask) (pair : Pair) → pair ≡ answer_to js q ask → ask_of (ask_text ask) pair.value pair.stamp ≡ Some ask
ask_reads js q AskRead pair e = refl
ask_reads js q (AskWrite value) pair e = ap (λ (p : Pair). Some (AskWrite p.value)) e
ask_reads js q (Repair stamp value) pair e = ap (λ (p : Pair). Some (Repair p.stamp p.value)) e

ticks_read : (ts : List Took) → All (λ t. IsTick t.serve) ts → ticks_of (map (λ t. decimal t.serve) ts) ≡ Some (map (λ t. t.serve) ts)
ticks_read [] ticks = refl
ticks_read (t ∷ ts) ticks =
    rw (tick_reads t.serve (All-head (λ (x : Took). IsTick x.serve) t ts ticks), ticks_read ts (All-tail (λ (x : Took). IsTick x.serve) t ts ticks)) refl

-- the texts of tickets have digits alone
pub tickets_lack : (c : ℕ) (ts : List Took) → (c < 48) ⊎ (57 < c) → All (λ t. IsTick t.serve) ts → All (Lacks c) (map (λ t. decimal t.serve) ts)
tickets_lack c ts apart ticks =
    All-map (Lacks c) (λ (t : Took). decimal t.serve) ts
    (All-weaker (λ (t : Took). IsTick t.serve) (λ (t : Took). Lacks c (decimal t.serve)) (λ t tick. let high = tick.1 in decimal_lacks c t.serve apart (omega arith)) ts ticks)

few_read : (ps : List (List ℕ)) (tickets : List ℕ) → length ps ≤ most_taken → ticks_of ps ≡ Some tickets → cond (nat_le (length ps) most_taken) (ticks_of ps) None ≡ Some tickets
few_read ps tickets few read = rw (le-leb (length ps) most_taken few) read

-- the tickets that a call took
pub tickets_read : (ts : List Took) → 1 ≤ length ts → length ts ≤ most_taken → All (λ t. IsTick t.serve) ts
    → tickets_of (join_with_byte semicolon (map (λ t. decimal t.serve) ts)) ≡ Some (map (λ t. t.serve) ts)
tickets_read [] some few ticks = absurd (omega arith)
tickets_read (t ∷ ts) some few ticks =
    let text : Took → List ℕ = λ x. decimal x.serve in
    let many : length (map text (t ∷ ts)) ≡ length (t ∷ ts) = length-map (t ∷ ts) text in
    ap (λ (ps : List (List ℕ)). cond (nat_le (length ps) most_taken) (ticks_of ps) None)
    (cut_apart semicolon (text t) (map text ts) (tickets_lack semicolon (t ∷ ts) (inr (omega arith)) ticks))
    ∙ few_read (map text (t ∷ ts)) (map (λ x. x.serve) (t ∷ ts)) (omega arith) (ticks_read (t ∷ ts) ticks)
