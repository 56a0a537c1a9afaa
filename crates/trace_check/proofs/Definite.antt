-- What two files read as, is no want of memory.
use Rattle.std.proofs.Common.{◌≡◌, ◌+◌, ℕ, Bool, true, false, cond, List, [], ◌∷◌, length, take, Option, Some, None, Result, Ok, Err}
use Rattle.std.specs.Str.{bytes_eq}
use Rattle.stale_model.specs.declared.store.Settings.{Settings}
use Rattle.stale_model.specs.Texts.{recorded_header, journal_header}
use Rattle.cert_text.specs.Words.{is_empty}
use Rattle.trace_check.specs.declared.reading.TraceFault.{TraceFault}
use Rattle.trace_check.specs.declared.reading.TraceFault.TheVariants as fault
use Rattle.trace_check.specs.Reading.{or_fault, or_line, lines_read, file_read, read_call, read_entry, calls_read, entries_read, trace_with, trace_of}

-- an answer that is not want of memory
abbrev pub IsDefinite : {Y : Type 0} → Result Y TraceFault → Type 0
IsDefinite r = r ≡ Err fault.Memory → ⊥

definite-next : {X Y : Type 0} (r : Result X TraceFault) (next : X → Result Y TraceFault) → IsDefinite r → ((x : X) → IsDefinite (next x)) → IsDefinite (or_fault r next)
definite-next (Err g) next first more e = first (cc)
definite-next (Ok x) next first more e = more x e

module _ (f : ℕ → TraceFault) (never : (n : ℕ) → f n ≡ fault.Memory → ⊥) where
  fault_definite : {Y : Type 0} (n : ℕ) → IsDefinite {Y = Y} (Err (f n))
  fault_definite n e = never n (cc)

  line_definite : {Y : Type 0} (n : ℕ) (o : Option Y) → IsDefinite (or_line (f n) o)
  line_definite n (Some x) e = cc
  line_definite n None e = fault_definite n e

  if_definite : {Y : Type 0} (b : Bool) (r : Result Y TraceFault) (n : ℕ) → IsDefinite r → IsDefinite (cond b r (Err (f n)))
  if_definite true r n first e = first e
  if_definite false r n first e = fault_definite n e

  lines_definite : {X : Type 0} (read : Option X → List ℕ → Option X) (n : ℕ) (before : Option X) (lines : List (List ℕ)) → IsDefinite (lines_read f read n before lines)
  unfolding lines_read
  lines_definite read n before [] = λ e. cc
  lines_definite read n before (rest ∷ []) = if_definite (is_empty rest) (Ok []) n (λ e. cc)
  lines_definite read n before (line ∷ next ∷ lines) =
      definite-next (or_line (f n) (read before line)) (λ x. or_fault (lines_read f read (n + 1) (Some x) (next ∷ lines)) (λ xs. Ok (x ∷ xs))) (line_definite n (read before line))
      (λ x. definite-next (lines_read f read (n + 1) (Some x) (next ∷ lines)) (λ xs. Ok (x ∷ xs)) (lines_definite read (n + 1) (Some x) (next ∷ lines)) (λ xs e. cc))

  file_definite : {X : Type 0} (header : List ℕ) (read : Option X → List ℕ → Option X) (text : List ℕ) → IsDefinite (file_read f header read text)
  file_definite header read text = if_definite (bytes_eq (take (length header) text) header) (lines_read f read 2 None _) 1 (lines_definite read 2 None _)

-- the run that two files read as, or the first fault
pub trace_definite : (s : Settings) (history journal : List ℕ) → IsDefinite (trace_of s history journal)
unfolding trace_of calls_read entries_read
trace_definite s history journal =
    definite-next (calls_read s history) (λ calls. or_fault (entries_read s journal) (λ lines. Ok (trace_with s calls lines)))
    (file_definite fault.History (λ n e. cc) recorded_header (read_call s) history)
    (λ calls. definite-next (entries_read s journal) (λ lines. Ok (trace_with s calls lines)) (file_definite fault.Journal (λ n e. cc) journal_header (read_entry s) journal) (λ lines e. cc))
