-- One more piece of a file.
use Rattle.std.proofs.Common.{◌≡◌, ℕ, ◌+◌, ◌^◌, ◌-◌, ◌<◌, ◌≤◌, min, List, ◌++◌, Option, Some, None, length, take, drop, refl, ◌∙◌, ap, arith, length-append, take-add}
use Rattle.std.specs.Prelude.{IfSome}
use Rattle.std.proofs.lemmas.List.{length-take}
use Rattle.audit_ports.specs.Shelf.{Shown, KeepsFiles, KeepsCounts, TakesBytes, file_at, Files}
use Rattle.audit_commands.specs.Steps.{IsTaken}
use Rattle.command_outputs.proofs.WritingFiles.{counts_kept}

content_more : (bytes piece content : List ℕ) (n : ℕ) → length piece ≡ n → bytes ≡ take (length bytes) content → piece ≡ take n (drop (length bytes) content)
    → bytes ++ piece ≡ take (length (bytes ++ piece)) content
content_more bytes piece content n l e h = rw (length-append, l, take-add, ← e, ← h) refl

-- what is told of each file goes on
told_more : (files : Option Files) (name bytes piece : List ℕ) (n : ℕ) → length piece ≡ n
    → IfSome files (λ files. IfSome (file_at files name) (λ content. bytes ≡ take (length bytes) content))
    → IfSome files (λ files. IfSome (file_at files name) (λ content. piece ≡ take n (drop (length bytes) content)))
    → IfSome files (λ files. IfSome (file_at files name) (λ content. bytes ++ piece ≡ take (length (bytes ++ piece)) content))
told_more None name bytes piece n l t s = tt
told_more (Some files) name bytes piece n l t s = go (file_at files name) t s where
  go : (o : Option (List ℕ)) → IfSome o (λ content. bytes ≡ take (length bytes) content) → IfSome o (λ content. piece ≡ take n (drop (length bytes) content))
      → IfSome o (λ content. bytes ++ piece ≡ take (length (bytes ++ piece)) content)
  go None t s = tt
  go (Some content) t s = content_more bytes piece content n l t s

both : (files : Option Files) (name : List ℕ) (P Q : List ℕ → Type 0) → ((x : List ℕ) → P x → Q x) → IfSome files (λ files. IfSome (file_at files name) P) → IfSome files (λ files. IfSome (file_at files name) Q)
both None name P Q f h = tt
both (Some files) name P Q f h = go (file_at files name) h where
  go : (o : Option (List ℕ)) → IfSome o P → IfSome o Q
  go None h = tt
  go (Some x) h = f x h

pub taken_more : (name bytes into : List ℕ) (first old new : Shown) (n : ℕ) → length bytes < 2 ^ 32 → n ≤ 65536 → IsTaken name bytes first old → KeepsFiles old new → new.writing ≡ old.writing → KeepsCounts old new
    → IfSome old.reading (TakesBytes into old new n) → IsTaken name (bytes ++ take n into) first new
taken_more name bytes into first old new n small few t k writing counts step =
    let s = rw t.reading at step in
    let within : n ≤ length into = s.within in
    let l : length (take n into) ≡ n = rw length-take (omega arith) in
    let size : min (length bytes + n) (2 ^ 64 - 1) ≡ length (bytes ++ take n into) = rw (length-append, l) (omega arith) in
    let piece = rw t.files at s.bytes in
    record {
      files = k.files ∙ t.files;
      writing = writing ∙ t.writing;
      counts = counts_kept first old new t.counts counts;
      reading = s.place ∙ ap (λ (p : ℕ). Some (record { name = name; place = p })) size;
      told = told_more first.files name bytes (take n into) n l t.told (both first.files name _ _ (λ x h. h.0) piece);
      there = t.there;
    }

-- a turn that takes a byte at least leaves a byte for each turn
pub byte_a_turn : (bytes into : List ℕ) (turn n : ℕ) → turn ≤ length bytes → n ≤ length into → 0 < n → turn + 1 ≤ length (bytes ++ take n into)
byte_a_turn bytes into turn n enough within some =
    let l : length (take n into) ≡ n = rw length-take (omega arith) in
    rw (length-append, l) (omega arith)
