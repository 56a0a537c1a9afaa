-- The lines of keys, and how many they are.
use Rattle.std.proofs.Common.{◌≡◌, ℕ, ◌+◌, ◌<◌, ◌≤◌, Bool, true, false, List, [], ◌∷◌, ◌++◌, length, map, get_or, take, sym, ◌∙◌, ap, subst, arith, append_assoc, length-append}
use Rattle.std.specs.Prelude.{◌==◌, if◌then◌else◌, Option, Some}
use Rattle.std.specs.Option.{option_eq}
use Rattle.std.proofs.lemmas.List.{take_more, length-map}
use Rattle.std.proofs.lemmas.List.Sums.{sum_by-append}
use Rattle.std.proofs.lemmas.List.Sorted.{length_permutation}
use Rattle.stale_model.specs.declared.Op.{Op}
use Rattle.stale_model.specs.declared.KeyOps.{KeyOps}
use Rattle.stale_model.specs.declared.History.{History}
use Rattle.stale_model.specs.Operations.{operations, initial_write}
use Rattle.stale_model.specs.Valid.{IsValidKey}
use Rattle.mode_texts.specs.declared.live.Change.{Change}
use Rattle.mode_texts.specs.declared.live.LiveVerdict.{LiveVerdict}
use Rattle.mode_texts.specs.declared.live.LiveVerdict.TheVariants.{Duplicate, Scored}
use Rattle.mode_texts.specs.LiveTexts.{IsLiveVerdict, changes_of, change_text, waiting_texts, said_of, live_key_text, lines_line, IsLiveText}
use Rattle.mode_texts.specs.Measures.{keys_text}
use Rattle.mode_texts.specs.LiveSteps.{IsLiveWritten, IsLiveWrittenBehind}
use Rattle.mode_texts.proofs.Written.{each_key_has-push, keys_text-push}

-- at most one change for each operation
one_change : (b : Bool) (change : Change) → length (if b then [] else change ∷ []) ≤ 1
one_change true change = omega arith
one_change false change = omega arith

changes_are_few : (before : Option ℕ) (fed : List Op) (scores : List (Option ℕ)) → length (changes_of before fed scores) ≤ length fed
changes_are_few before [] scores = omega arith
changes_are_few before (a ∷ fed) [] = omega arith
changes_are_few before (a ∷ fed) (score ∷ scores) =
    let b = option_eq (λ (x : ℕ) (y : ℕ). x == y) score before in
    let first = one_change b (record { rec = a.rec; score = score }) in
    let rest = changes_are_few score fed scores in
    omega (arith, length-append (if b then [] else record { rec = a.rec; score = score } ∷ []) (changes_of score fed scores))

-- at most one line for the reads that wait
one_waiting_by : (b : Bool) (said : List ℕ) → length (if b then [] else said ∷ []) ≤ 1
one_waiting_by true said = omega arith
one_waiting_by false said = omega arith

one_waiting : (reads : ℕ) → length (waiting_texts reads) ≤ 1
one_waiting reads = one_waiting_by (reads == 0) _

-- a key has at most one line more than operations
pub lines_are_few : (key : KeyOps) (verdict : LiveVerdict) → IsValidKey key → IsLiveVerdict (operations key) verdict → length (said_of verdict) ≤ 1000001
lines_are_few key (Duplicate rec) valid is = omega arith
lines_are_few key (Scored changes reads) valid is =
    let few = changes_are_few (Some 0) is.fed is.scores in
    let changes_length = ap (λ (xs : List Change). length xs) is.changes_are in
    let same = length_permutation (operations key) (initial_write ∷ is.fed) is.by_finish.same in
    let most = valid.few in
    let waits = one_waiting reads in
    omega (arith, length-append (map change_text changes) (waiting_texts reads), length-map changes change_text)

-- one key more is written behind what is written
one_more : (keys : List KeyOps) (key : KeyOps) (before after : List ℕ) (lines more : ℕ) → IsLiveWritten keys before lines → IsLiveWrittenBehind key before after more → IsLiveWritten (keys ++ key ∷ []) after (lines + more)
one_more keys key before after lines more so_far next = record {
  verdicts = so_far.verdicts ++ next.verdict ∷ [];
  true_of = each_key_has-push IsLiveVerdict keys so_far.verdicts key next.verdict so_far.true_of next.true_of;
  text_is = next.text_is ∙ ap (λ t. t ++ live_key_text key next.verdict) so_far.text_is ∙ sym (keys_text-push IsLiveVerdict live_key_text keys so_far.verdicts key next.verdict so_far.true_of.as_many);
  lines_are =
      let e = so_far.lines_are in
      let f = next.lines_are in
      omega (arith, sum_by-append (λ (v : LiveVerdict). length (said_of v)) so_far.verdicts (next.verdict ∷ []));
}

-- the key at the next place is written behind what is written of the keys before it
pub next_written : (keys : List KeyOps) (i : ℕ) (key : KeyOps) (before after : List ℕ) (lines more : ℕ) → i < length keys → key ≡ get_or keys i key
    → IsLiveWritten (take i keys) before lines → IsLiveWrittenBehind key before after more → IsLiveWritten (take (i + 1) keys) after (lines + more)
next_written keys i key before after lines more within is so_far next =
    let e : take (i + 1) keys ≡ take i keys ++ key ∷ [] = take_more keys i key within ∙ ap (λ k. take i keys ++ k ∷ []) (sym is) in
    subst (λ (ks : List KeyOps). IsLiveWritten ks after (lines + more)) (sym e) (one_more (take i keys) key before after lines more so_far next)

-- a label, a number and an end of line, one behind the other
pub three_pushed : (old label number eol mid new : List ℕ) → mid ≡ old ++ label ++ number → new ≡ mid ++ eol → new ≡ old ++ (label ++ number ++ eol)
three_pushed old label number eol mid new first second =
    let regrouped : ((old ++ label) ++ number) ++ eol ≡ old ++ ((label ++ number) ++ eol) = simp append_assoc in
    second ∙ ap (λ (m : List ℕ). m ++ eol) first ∙ regrouped

-- the lines of all keys and the last line are the text
pub whole_text : (history : History) (before text : List ℕ) (lines : ℕ) → IsLiveWritten history.keys before lines → text ≡ before ++ lines_line lines → IsLiveText history text
whole_text history before text lines written is = record {
  verdicts = written.verdicts;
  true_of = written.true_of;
  text_is = is ∙ ap (λ (b : List ℕ). b ++ lines_line lines) written.text_is ∙ ap (λ (n : ℕ). keys_text live_key_text history.keys written.verdicts ++ lines_line n) written.lines_are;
}
