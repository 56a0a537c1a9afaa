use Rattle.std.proofs.Common.{◌≡◌, Err, length, refl, rules, ◌∙◌, ap}
use Rattle.cert_text.proofs.OneText.{one_text}
use Rattle.audit_words.specs.declared.Task.TheVariants.{Check}
use Rattle.audit_commands.proofs.Refusing.{history_shows, cert_shows}
use Rattle.audit_commands.proofs.check.found_in.Goals as goal

pub returns-in_err-history-clause-err : goal.returns-in_err-history-clause-err
returns-in_err-history-clause-err g c =
    let is : c.from_residual.result ≡ Err c.in_err-history.field-0.0 = search rules in
    let name : c.as_slice.result.now ≡ c.args.file.now = search rules in
    rw is (history_shows (Check c.args.file.now c.args.cert.now) c.args.file.now refl (g.S.Shelf.shown c.args.shelf.now) (g.S.Shelf.shown c.history_in.new.shelf) refl c.in_err-history.field-0.0 (rw name at c.in_err-history.ensures.err))

pub returns-in_err-verdicts-clause-err : goal.returns-in_err-verdicts-clause-err
returns-in_err-verdicts-clause-err g c =
    let is : c.from_residual-in_err-verdicts.result ≡ Err c.in_err-verdicts.field-0.0 = search rules in
    let name : c.as_slice.result.now ≡ c.args.file.now = search rules in
    let keys : c.as_slice-2.result.now ≡ c.in_ok-history.history.keys = search rules in
    let cert : c.as_slice-3.result.now ≡ c.args.cert.now = search rules in
    rw is (cert_shows c.args.file.now c.args.cert.now (g.S.Shelf.shown c.args.shelf.now) (g.S.Shelf.shown c.history_in.new.shelf) (g.S.Shelf.shown c.verdicts_in.new.shelf)
    c.in_ok-history.history c.in_err-verdicts.field-0.0 (rw name at c.in_ok-history.ensures.ok) (rw (cert, keys) at c.in_err-verdicts.ensures.err))

pub check_all-found-requires-clause-as_many : goal.check_all-found-requires-clause-as_many
check_all-found-requires-clause-as_many g c =
    let taken = c.in_ok-verdicts.ensures.ok in
    let same : c.as_slice-4.result.now ≡ c.in_ok-verdicts.verdicts = search rules in
    let keys : c.as_slice-2.result.now ≡ c.in_ok-history.history.keys = search rules in
    rw same ((one_text _ taken.bytes _ taken.reads).1 ∙ ap length keys)
