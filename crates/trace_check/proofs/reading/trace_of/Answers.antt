use Rattle.std.proofs.Common.{◌≡◌, ◌∙◌, ap, ap₂, inr, map, Ok, rules}
use Rattle.std.proofs.lemmas.Result.{err_from_is_err_and}
use Rattle.trace_check.specs.Reading.{calls_read, entries_read, with_replies, journals_of, trace_with, trace_of}
use Rattle.trace_check.proofs.Definite.{trace_definite}
use Rattle.trace_check.proofs.LineSteps.{first_fault, second_fault, both_read}
use Rattle.trace_check.proofs.reading.trace_of.Goals as goal

pub returns-in_err-calls-clause-read : goal.returns-in_err-calls-clause-read
unfolding trace_of
returns-in_err-calls-clause-read c =
    let p = err_from_is_err_and c.from_residual.result c.from_residual.ensures.1 in
    rw (p.1, p.2) (first_fault (calls_read c.args.settings.now c.args.history.now) _ _ c.in_err-calls.ensures)

pub returns-in_err-lines-clause-read : goal.returns-in_err-lines-clause-read
unfolding trace_of
returns-in_err-lines-clause-read c =
    let p = err_from_is_err_and c.from_residual-in_err-lines.result c.from_residual-in_err-lines.ensures.1 in
    rw (p.1, p.2)
    (second_fault (calls_read c.args.settings.now c.args.history.now) (entries_read c.args.settings.now c.args.journal.now) (trace_with c.args.settings.now) _ _ c.in_ok-calls.ensures c.in_err-lines.ensures)

pub returns-clause-read : goal.returns-clause-read
unfolding trace_of
returns-clause-read c =
    let entries : c.in_ok-entries.entries ≡ map (with_replies c.in_ok-lines.lines) c.in_ok-calls.calls = search rules in
    let journals : c.in_ok-journals.journals ≡ journals_of c.args.settings.now.replicas c.in_ok-lines.lines = search rules in
    let whole : record { entries = c.in_ok-entries.entries; journals = c.in_ok-journals.journals } ≡ trace_with c.args.settings.now c.in_ok-calls.calls c.in_ok-lines.lines =
    ap₂ (λ es js. record { entries = es; journals = js }) entries journals in
    inr (ap Ok whole
    ∙ both_read (calls_read c.args.settings.now c.args.history.now) (entries_read c.args.settings.now c.args.journal.now) (trace_with c.args.settings.now) _ _ c.in_ok-calls.ensures c.in_ok-lines.ensures)

pub returns-in_err-calls-clause-definite : goal.returns-in_err-calls-clause-definite
returns-in_err-calls-clause-definite c = trace_definite c.args.settings.now c.args.history.now c.args.journal.now

pub returns-in_err-lines-clause-definite : goal.returns-in_err-lines-clause-definite
returns-in_err-lines-clause-definite c = trace_definite c.args.settings.now c.args.history.now c.args.journal.now

pub returns-in_err-entries-clause-definite : goal.returns-in_err-entries-clause-definite
returns-in_err-entries-clause-definite c = trace_definite c.args.settings.now c.args.history.now c.args.journal.now

pub returns-in_err-journals-clause-definite : goal.returns-in_err-journals-clause-definite
returns-in_err-journals-clause-definite c = trace_definite c.args.settings.now c.args.history.now c.args.journal.now

pub returns-clause-definite : goal.returns-clause-definite
returns-clause-definite c = trace_definite c.args.settings.now c.args.history.now c.args.journal.now
