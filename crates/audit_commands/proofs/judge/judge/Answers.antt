use Rattle.std.proofs.Common.{◌≡◌, Err, rules}
use Rattle.audit_commands.specs.declared.refusal.Refusal.TheVariants as refusal
use Rattle.audit_commands.proofs.Judging.{ends_unread, ends_unwritten}
use Rattle.audit_commands.proofs.judge.judge.Goals as goal

pub returns-in_err-history : goal.returns-in_err-history
returns-in_err-history g c =
    let is : c.from_residual.result ≡ Err c.in_err-history.field-0.0 = search rules in
    let name : c.as_slice.result.now ≡ c.args.file.now = search rules in
    rw is (ends_unread c.args.file.now c.args.measure.now (g.S.Shelf.shown c.args.shelf.now) (g.S.Shelf.shown c.history_in.new.shelf) (g.O.Sink.shown c.args.out.now)
    c.history_in.ensures.keeps c.requires.writing c.in_err-history.field-0.0 (rw name at c.in_err-history.ensures.err))

pub returns-in_err-write_texts : goal.returns-in_err-write_texts
returns-in_err-write_texts g c =
    let is : c.from_residual-in_err-write_texts.result ≡ Err refusal.WriteFailed = search rules in
    let name : c.as_slice.result.now ≡ c.args.file.now = search rules in
    rw is (ends_unwritten c.args.file.now c.args.measure.now (g.S.Shelf.shown c.args.shelf.now) (g.S.Shelf.shown c.history_in.new.shelf) (g.O.Sink.shown c.args.out.now)
    c.history_in.ensures.keeps c.requires.writing c.in_ok-history.history (rw name at c.in_ok-history.ensures.ok) c.in_ok-texts.texts c.in_ok-texts.ensures
    (g.S.Shelf.shown c.write_texts.new.shelf) (g.O.Sink.shown c.write_texts.new.out) c.in_err-write_texts.field-0.0 c.in_err-write_texts.ensures)
