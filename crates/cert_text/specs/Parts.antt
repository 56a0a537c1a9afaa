-- Which line may follow which, and what the lines say together.
use Rattle.std.specs.Prelude.{ℕ, ◌+◌, ◌==◌, ◌&&◌, nat_lt, true, false, Bool, if◌then◌else◌, List, [], ◌∷◌, ◌++◌, length, Some, None, Result, Ok, Err}
use Rattle.stale_model.specs.declared.Refutation.{Refutation}
use Rattle.stale_model.specs.declared.TwoPart.{TwoPart}
use Rattle.stale_model.specs.declared.TwoPart.TheVariants.{Yes, No}
use Rattle.stale_model.specs.declared.Verdict.{Verdict}
use Rattle.stale_model.specs.declared.Verdict.TheVariants as verdict
use Rattle.cert_text.specs.declared.CertFault.{CertFault}
use Rattle.cert_text.specs.declared.CertFault.TheVariants as fault
use Rattle.cert_text.specs.declared.lines.CertLine.{CertLine}
use Rattle.cert_text.specs.declared.lines.CertLine.TheVariants as form
use Rattle.cert_text.specs.declared.lines.Keyword.{Keyword}
use Rattle.cert_text.specs.declared.lines.Keyword.TheVariants as word
use Rattle.cert_text.specs.declared.parts.Bound.{Bound}
use Rattle.cert_text.specs.declared.parts.State.{State}
use Rattle.cert_text.specs.declared.parts.State.TheVariants as state
use Rattle.cert_text.specs.declared.parts.Reading.{Reading}

-- the table: which line may stand where
abbrev pub may_stand : State → Keyword → Bool
may_stand state.Start word.StaleCert = true
may_stand state.Between word.Key = true
may_stand state.Between word.End = true
may_stand state.Key word.Duplicate = true
may_stand state.Key word.Unmatched = true
may_stand state.Key word.Infinite = true
may_stand state.Key word.Delta = true
may_stand (state.Delta delta) word.Order = true
may_stand (state.Ordered delta order) word.Pair = true
may_stand (state.Ordered delta order) word.Two = true
may_stand (state.Paired bound) word.Two = true
may_stand (state.TwoYes bound) word.Order = true
may_stand (state.TwoNo bound) word.Stuck = true
may_stand (state.Refuted bound refutation) word.Try = true
may_stand (state.Refuted bound refutation) word.Key = true
may_stand (state.Refuted bound refutation) word.End = true
may_stand _ _ = false

-- the verdict of a key that was judged
abbrev pub judged : Bound → TwoPart → Verdict
judged bound two = verdict.Judged (record { delta = bound.delta; order = bound.order; four = bound.four; two = two })

-- a reading with one verdict more, whose part is whole
abbrev pub with_verdict : List Verdict → Verdict → Reading
with_verdict vs v = record { state = state.Between; verdicts = vs ++ v ∷ [] }

-- the first line: nothing is read so far
abbrev pub at_start : ℕ → CertLine → Result Reading CertFault
at_start n form.Header = Ok (record { state = state.Between; verdicts = [] })
at_start n _ = Err (fault.Line n)

-- between two parts: the next key, if there is one, or the end, if there is none
abbrev pub between : ℕ → ℕ → List Verdict → CertLine → Result Reading CertFault
between keys n vs (form.Key key) =
    if nat_lt (length vs) keys && (key == length vs + 1) then Ok (record { state = state.Key; verdicts = vs })
    else Err (fault.Key n)
between keys n vs form.End =
    if nat_lt (length vs) keys then Err (fault.Absent (length vs + 1))
    else Ok (record { state = state.Ended; verdicts = vs })
between keys n vs _ = Err (fault.Line n)

-- after the line of a key
abbrev pub after_key : ℕ → List Verdict → CertLine → Result Reading CertFault
after_key n vs (form.Duplicate rec) = Ok (with_verdict vs (verdict.Duplicate rec))
after_key n vs (form.Unmatched rec) = Ok (with_verdict vs (verdict.Unmatched rec))
after_key n vs (form.Infinite rec) = Ok (with_verdict vs (verdict.Infinite rec))
after_key n vs (form.Delta delta) = Ok (record { state = state.Delta delta; verdicts = vs })
after_key n vs _ = Err (fault.Line n)

-- after delta: the order that shows it
abbrev pub after_delta : ℕ → List Verdict → ℕ → CertLine → Result Reading CertFault
after_delta n vs delta (form.Order order) =
    Ok (record { state = state.Ordered delta order; verdicts = vs })
after_delta n vs delta _ = Err (fault.Line n)

-- after the order: the pair that excludes a lesser delta, or whether the key is 2-atomic
abbrev pub after_order : ℕ → List Verdict → ℕ → List ℕ → CertLine → Result Reading CertFault
after_order n vs delta order (form.Pair four) =
    Ok (record { state = state.Paired (record { delta = delta; order = order; four = Some four }); verdicts = vs })
after_order n vs delta order form.TwoYes =
    Ok (record { state = state.TwoYes (record { delta = delta; order = order; four = None }); verdicts = vs })
after_order n vs delta order form.TwoNo =
    Ok (record { state = state.TwoNo (record { delta = delta; order = order; four = None }); verdicts = vs })
after_order n vs delta order _ = Err (fault.Line n)

-- after the pair: whether the key is 2-atomic
abbrev pub after_pair : ℕ → List Verdict → Bound → CertLine → Result Reading CertFault
after_pair n vs bound form.TwoYes = Ok (record { state = state.TwoYes bound; verdicts = vs })
after_pair n vs bound form.TwoNo = Ok (record { state = state.TwoNo bound; verdicts = vs })
after_pair n vs bound _ = Err (fault.Line n)

-- after `two yes`: the order that shows it
abbrev pub after_yes : ℕ → List Verdict → Bound → CertLine → Result Reading CertFault
after_yes n vs bound (form.Order order) = Ok (with_verdict vs (judged bound (Yes order)))
after_yes n vs bound _ = Err (fault.Line n)

-- after `two no`: the writes of which none can be the last
abbrev pub after_no : ℕ → List Verdict → Bound → CertLine → Result Reading CertFault
after_no n vs bound (form.Stuck stuck) =
    Ok (record { state = state.Refuted bound (record { stuck = stuck; tries = [] }); verdicts = vs })
after_no n vs bound _ = Err (fault.Line n)

-- after `stuck` or a try: one try more, or else what may follow a whole part
abbrev pub after_stuck : ℕ → ℕ → List Verdict → Bound → Refutation → CertLine → Result Reading CertFault
after_stuck keys n vs bound refutation (form.Try attempt) =
    Ok (record { state = state.Refuted bound (record refutation { tries = refutation.tries ++ attempt ∷ [] }); verdicts = vs })
after_stuck keys n vs bound refutation l = between keys n (vs ++ judged bound (No refutation) ∷ []) l

-- where a reading stands after one line more
abbrev pub advance_from : ℕ → ℕ → State → List Verdict → CertLine → Result Reading CertFault
advance_from keys n state.Start vs l = at_start n l
advance_from keys n state.Between vs l = between keys n vs l
advance_from keys n state.Key vs l = after_key n vs l
advance_from keys n (state.Delta delta) vs l = after_delta n vs delta l
advance_from keys n (state.Ordered delta order) vs l = after_order n vs delta order l
advance_from keys n (state.Paired bound) vs l = after_pair n vs bound l
advance_from keys n (state.TwoYes bound) vs l = after_yes n vs bound l
advance_from keys n (state.TwoNo bound) vs l = after_no n vs bound l
advance_from keys n (state.Refuted bound refutation) vs l = after_stuck keys n vs bound refutation l
advance_from keys n state.Ended vs l = Err (fault.Line n)

-- the reading after the line with the number n, of a certificate for so many keys
abbrev pub advance : ℕ → ℕ → Reading → CertLine → Result Reading CertFault
advance keys n r l = advance_from keys n r.state r.verdicts l
