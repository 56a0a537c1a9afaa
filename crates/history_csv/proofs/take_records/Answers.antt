use Rattle.std.proofs.Common.{◌≡◌, ◌≤◌, ◌<◌, [], ◌∷◌, ◌++◌, Err, refl, sym, inr, arith}
use Rattle.std.proofs.lemmas.Result.{err_from_is_err_and}
use Rattle.csv.specs.Records.{fields_of}
use Rattle.history_csv.specs.declared.HistoryFault.TheVariants.{Memory}
use Rattle.history_csv.specs.declared.builder.Builder.TheVariants.{ByKeys}
use Rattle.history_csv.specs.Numbering.{history_of}
use Rattle.history_csv.specs.Entries.{entry_of, most_records}
use Rattle.history_csv.specs.Records.{records_left}
use Rattle.history_csv.proofs.Definite.{entry-definite}
use Rattle.history_csv.proofs.EntryFacts.{entry-said}
use Rattle.history_csv.proofs.ReadSteps.{read-fault, read-many, read-more, read-start, took-well}
use Rattle.history_csv.proofs.take_records.Goals as goal

pub add-requires-clause-fits : goal.add-requires-clause-fits
add-requires-clause-fits c =
    (entry-said c.args.columns.now c.loop-rec.rec (fields_of c.read_next.new.row) c.in_ok-entry.entry (sym c.in_ok-entry.ensures)).fits

pub loop-rec-init : goal.loop-rec-init
loop-rec-init c = record {
  reading = c.requires.reading;
  so_far = read-start c.args.columns.now (records_left c.args.reader.now) c.args.history.now c.requires.empty;
}

pub returns-in_err-entry-clause-fault : goal.returns-in_err-entry-clause-fault
returns-in_err-entry-clause-fault c =
    let took = rw c.if-not-branch.false at c.in_ok-read_next.ensures.takes in
    let few : c.loop-rec.rec ≤ most_records = omega arith in
    let p = err_from_is_err_and c.from_residual-in_err-entry.result c.from_residual-in_err-entry.ensures.1 in
    rw (p.1, p.2) (inr (read-fault c.loop-rec.invariant.so_far (fields_of c.read_next.new.row) (records_left c.read_next.new.reader) took.0 few _ c.in_err-entry.ensures))

pub returns-in_err-entry-clause-memory : goal.returns-in_err-entry-clause-memory
returns-in_err-entry-clause-memory c = λ memory.
    let p = err_from_is_err_and c.from_residual-in_err-entry.result c.from_residual-in_err-entry.ensures.1 in
    let fields = fields_of c.read_next.new.row in
    let said : entry_of c.args.columns.now c.loop-rec.rec fields ≡ Err Memory = cc (p.1, p.2, c.in_err-entry.ensures) in
    let definite = entry-definite c.args.columns.now c.loop-rec.rec fields in
    absurd (rw said at definite)

pub returns-in_err-add-clause-memory : goal.returns-in_err-add-clause-memory
returns-in_err-add-clause-memory c = λ memory.
    let took = rw c.if-not-branch.false at c.in_ok-read_next.ensures.takes in
    let few : c.loop-rec.rec ≤ most_records = omega arith in
    let more = read-more c.loop-rec.invariant.so_far (fields_of c.read_next.new.row) (records_left c.read_next.new.reader) took.0 few c.in_ok-entry.entry c.in_ok-entry.ensures (ByKeys (history_of (c.loop-rec.invariant.so_far.entries ++ c.in_ok-entry.entry ∷ []))) refl in
    inr (inr (took-well c.args.columns.now _ c.args.reader.now c.read_next.new.reader _ more))

pub loop-rec-preserved : goal.loop-rec-preserved
loop-rec-preserved c =
    let took = rw c.if-not-branch.false at c.in_ok-read_next.ensures.takes in
    let few : c.loop-rec.rec ≤ most_records = omega arith in
    let so_far = c.loop-rec.invariant.so_far in
    record {
      reading = took.1;
      so_far = read-more so_far (fields_of c.read_next.new.row) (records_left c.read_next.new.reader) took.0 few c.in_ok-entry.entry c.in_ok-entry.ensures c.add.new.self (c.in_ok-add.ensures so_far.entries so_far.made);
    }

pub returns-then-branch-clause-fault : goal.returns-then-branch-clause-fault
returns-then-branch-clause-fault c =
    let took = rw c.if-branch.true at c.in_ok-read_next-2.ensures.takes in
    let many : most_records < c.loop-rec.rec = omega arith in
    inr (read-many c.loop-rec.invariant.so_far (fields_of c.read_next-2.new.row) (records_left c.read_next-2.new.reader) took.0 many)
