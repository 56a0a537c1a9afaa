-- Generated lines read back, and their text is not long.
use Rattle.std.proofs.Common.{◌≡◌, ℕ, ◌+◌, ◌<◌, ◌≤◌, List, [], ◌∷◌, ◌++◌, length, All, codes, flat_map, length-append, refl, inl, inr, arith}
use Rattle.std.specs.Prelude.{◌==◌}
use Rattle.std.specs.Fmt.{decimal}
use Rattle.std.specs.List.{join_with_byte}
use Rattle.std.proofs.lemmas.Bool.{cases_Bool}
use Rattle.std.proofs.lemmas.Fmt.{length-decimal-le}
use Rattle.std.proofs.lemmas.List.Concat.{length-flat_map}
use Rattle.std.proofs.lemmas.List.Elements.{All-weaker}
use Rattle.std.proofs.lemmas.List.Sums.{sum_by-le}
use Rattle.stale_model.specs.declared.Kind.{Kind}
use Rattle.stale_model.specs.declared.Kind.TheVariants.{Read, Write}
use Rattle.stale_model.specs.declared.Line.{Line}
use Rattle.stale_model.specs.Texts.{key_text, op_text, value_text}
use Rattle.history_csv.specs.Written.{IsReadable, header_text, history_text, line_text}
use Rattle.history_csv.proofs.ReadsBack.{reads_back}
use Rattle.history_gen.specs.Generated.{lines_of}
use Rattle.history_gen.specs.Laws.{GeneratedLinesReadBack}
use Rattle.history_gen.proofs.GeneratedLines.{IsGenerated, generated-lines_of, length-lines_of}

readable : (keys n : ℕ) → keys ≤ 100000 → n ≤ 1000000 → (line : Line) → IsGenerated keys n line → IsReadable line
readable keys n few_keys few line is =
    let client = is.client in
    let key = is.key in
    let value = is.value in
    let finishes = is.finishes in record {
      client = omega arith;
      key = omega arith;
      value = omega arith;
      filled = λ _. is.filled;
      starts = is.starts;
      in_order = is.in_order;
      finishes = omega arith;
    }

-- ---- how long a line is

length-op_text : (kind : Kind) → length (op_text kind) ≡ 1
length-op_text Read = refl
length-op_text Write = refl

length-key_text : (number : ℕ) → number < 100000 → length (key_text number) ≤ 6
length-key_text number small =
    let digits = length-decimal-le 5 number (omega arith) (omega arith) (omega arith) in
    omega arith

length-value_text : (number : ℕ) → number ≤ 1000000 → length (value_text number) ≤ 8
length-value_text number small =
    let digits = length-decimal-le 7 number (omega arith) (omega arith) (omega arith) in
    elim (cases_Bool (number == 0)) [
      | inl none ↦ rw none (omega arith)
      | inr some ↦ rw some (omega arith)
    ]

length-tick : (tick : ℕ) → tick ≤ 10000040 → length (decimal tick) ≤ 8
length-tick tick small = length-decimal-le 8 tick (omega arith) (omega arith) (omega arith)

length-six : (a b c d e f : List ℕ) → length (join_with_byte 44 (a ∷ b ∷ c ∷ d ∷ e ∷ f ∷ []) ++ codes "\n")
    ≡ length a + length b + length c + length d + length e + length f + 6
length-six a b c d e f = simp length-append (omega arith)

length-line_text : (keys n : ℕ) → keys ≤ 100000 → n ≤ 1000000 → (line : Line) → IsGenerated keys n line → length (line_text line) ≤ 38
length-line_text keys n few_keys few line is =
    let client = is.client in
    let key = is.key in
    let value = is.value in
    let in_order = is.in_order in
    let finishes = is.finishes in
    let digit = length-decimal-le 1 line.client (omega arith) (omega arith) (omega arith) in
    let op = length-op_text line.kind in
    let name = length-key_text line.key (omega arith) in
    let written = length-value_text line.value (omega arith) in
    let start = length-tick line.start (omega arith) in
    let finish = length-tick line.finish (omega arith) in
    let whole = length-six (decimal line.client) (op_text line.kind) (key_text line.key) (value_text line.value) (decimal line.start) (decimal line.finish) in
    omega arith

-- ---- how long a text is

length-history_text : (lines : List Line) → length lines ≤ 1000000 → All (λ (line : Line). length (line_text line) ≤ 38) lines
    → length (history_text lines) < 40000000
unfolding history_text
length-history_text lines few all =
    let parts = length-append header_text (flat_map line_text lines) in
    let sums = length-flat_map line_text lines in
    let bound = sum_by-le (λ (line : Line). length (line_text line)) 38 lines all in
    omega arith

pub lines_read_back : GeneratedLinesReadBack
lines_read_back seed keys ops some few_keys few =
    let lines = lines_of seed keys ops in
    let count = length-lines_of seed keys ops in
    let within : length lines ≤ 1000000 = omega arith in
    let generated = generated-lines_of seed keys ops some in
    let all : All IsReadable lines = All-weaker (IsGenerated keys ops) IsReadable (readable keys ops few_keys few) lines generated in
    let short = All-weaker (IsGenerated keys ops) (λ line. length (line_text line) ≤ 38) (length-line_text keys ops few_keys few) lines generated in record {
      count = count;
      readable = all;
      reading = reads_back lines within all;
      short = length-history_text lines within short;
    }
