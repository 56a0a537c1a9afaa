-- The lines of a file, where each is the record of something that it reads as.
use Rattle.std.proofs.Common.{◌≡◌, ◌+◌, ◌==◌, ℕ, true, cond, List, [], ◌∷◌, ◌++◌, map, length, take, drop, Option, Some, None, Ok, Err, refl, sym, ◌∙◌, ap, subst, codes, append_assoc, append-nil}
use Rattle.std.specs.List.{flat_map, join_with_byte}
use Rattle.std.specs.Str.{bytes_eq}
use Rattle.std.proofs.lemmas.List.{take_at, drop_at}
use Rattle.std.proofs.lemmas.List.Splits.{slice_split_at}
use Rattle.std.proofs.lemmas.Slice.Eq.{bytes_eq-Decides}
use Rattle.stale_model.specs.Texts.{comma, record_text}
use Rattle.cert_text.specs.Words.{lines_of}
use Rattle.trace_check.specs.declared.reading.TraceFault.{TraceFault}
use Rattle.trace_check.specs.Reading.{lines_read, file_read}
use Rattle.trace_check.proofs.LineSteps.{last_of, behind, behind_none, last_push, next_line, ends_well}
use Rattle.trace_laws.proofs.Parts.{Lacks}

module _ {X Y : Type 0} (f : ℕ → TraceFault) (read : Option X → List ℕ → Option X) (fields : Y → List (List ℕ)) (make : Y → X) where
  -- the line of something, without its line feed
  abbrev pub line : Y → List ℕ
  line y = join_with_byte comma (fields y)

  -- the lines of some things
  abbrev pub text : List Y → List ℕ
  text ys = flat_map (λ y. record_text (fields y)) ys

  -- each line has no line feed, and reads as it should after the one before it
  abbrev pub EachReads : Option X → List Y → Type 0
  EachReads before [] = Unit {0}
  EachReads before (y ∷ ys) = Lacks 10 (line y) × (read before (line y) ≡ Some (make y)) × EachReads (Some (make y)) ys

  first_of : (y : Y) (ys : List Y) → Lacks 10 (line y) → lines_of (text (y ∷ ys)) ≡ line y ∷ lines_of (text ys)
  first_of y ys lacks = ap lines_of (append_assoc (line y) (codes "\n") (text ys)) ∙ slice_split_at (λ b. b == 10) (line y) 10 (text ys) lacks refl

  read_on : (n : ℕ) (items : List X) (ys : List Y) → EachReads (last_of items) ys → behind items (lines_read f read n (last_of items) (lines_of (text ys))) ≡ Ok (items ++ map make ys)
  read_on n items [] reads = sym (ends_well f read n items [] (behind items (lines_read f read n (last_of items) (lines_of []))) refl refl refl) ∙ ap Ok (sym (append-nil items))
  read_on n items (y ∷ ys) (lacks, is, reads) =
      let x = make y in
      sym (next_line f read n items x (text (y ∷ ys)) (line y) (text ys) (behind items (lines_read f read n (last_of items) (lines_of (text (y ∷ ys))))) refl (first_of y ys lacks) is)
      ∙ read_on (n + 1) (items ++ x ∷ []) ys (subst (λ (b : Option X). EachReads b ys) (sym (last_push items x)) reads)
      ∙ ap Ok (append_assoc items (x ∷ []) (map make ys))

  -- where each line reads, a file of the header and the lines does
  pub file_reads : (header : List ℕ) (ys : List Y) → EachReads None ys → file_read f header read (header ++ text ys) ≡ Ok (map make ys)
  file_reads header ys reads =
      let whole = header ++ text ys in
      let begins : bytes_eq (take (length header) whole) header ≡ true = (bytes_eq-Decides (take (length header) whole) header).1 (take_at header (text ys) (length header) refl) in
      ap (λ b. cond b (lines_read f read 2 None (lines_of (drop (length header) whole))) (Err (f 1))) begins
      ∙ ap (λ t. lines_read f read 2 None (lines_of t)) (drop_at header (text ys) (length header) refl)
      ∙ sym (behind_none (lines_read f read 2 None (lines_of (text ys))))
      ∙ read_on 2 [] ys reads
