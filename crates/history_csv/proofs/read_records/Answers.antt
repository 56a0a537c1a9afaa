use Rattle.std.proofs.Common.{◌≡◌, [], Ok, Err, refl, sym, ◌∙◌, ap, inr, arith}
use Rattle.std.proofs.lemmas.Result.{err_from_is_err_and}
use Rattle.csv.specs.Records.{fields_of}
use Rattle.history_csv.specs.declared.HistoryFault.TheVariants.{Memory}
use Rattle.history_csv.specs.declared.builder.Builder.TheVariants.{ByKeys}
use Rattle.history_csv.specs.Header.{columns_of}
use Rattle.history_csv.specs.Numbering.{history_of}
use Rattle.history_csv.specs.Records.{records_left}
use Rattle.history_csv.proofs.Definite.{columns-definite}
use Rattle.history_csv.proofs.EntryFacts.{entries-said, rise-said}
use Rattle.history_csv.proofs.ReadSteps.{read-start, took-well, wants-header}
use Rattle.history_csv.proofs.read_records.Goals as goal

pub returns-in_err-columns-clause-memory : goal.returns-in_err-columns-clause-memory
returns-in_err-columns-clause-memory c = λ memory.
    let p = err_from_is_err_and c.from_residual-in_err-columns.result c.from_residual-in_err-columns.ensures.1 in
    let header = fields_of c.read_next.new.row in
    let said : columns_of header ≡ Err Memory = cc (p.1, p.2, c.in_err-columns.ensures.columns) in
    absurd (rw said at (columns-definite header))

pub returns-in_err-take_records-clause-memory : goal.returns-in_err-take_records-clause-memory
returns-in_err-take_records-clause-memory c = λ memory.
    let p = err_from_is_err_and c.from_residual-in_err-take_records.result c.from_residual-in_err-take_records.ensures.1 in
    let took = rw c.if-not-branch.false at c.in_ok-read_next.ensures.takes in
    let header = fields_of c.read_next.new.row in
    wants-header c.in_ok-columns.columns header c.args.reader.now c.read_next.new.reader c.take_records.new.reader took.0 c.in_ok-columns.ensures.columns
    (c.in_err-take_records.ensures.memory (cc (p.1, p.2)))

pub returns-in_err-history-clause-memory : goal.returns-in_err-history-clause-memory
returns-in_err-history-clause-memory c = λ memory.
    let took = rw c.if-not-branch.false at c.in_ok-read_next.ensures.takes in
    let header = fields_of c.read_next.new.row in
    let mid = c.read_next.new.reader in
    let columns = c.in_ok-columns.columns in
    let none = took-well columns 1 mid mid (ByKeys (history_of [])) (read-start columns (records_left mid) (ByKeys (history_of [])) refl) in
    wants-header columns header c.args.reader.now mid mid took.0 c.in_ok-columns.ensures.columns (inr (inr none))

pub finish-requires : goal.finish-requires
finish-requires c =
    let took_all = c.in_ok-take_records.ensures.takes in
    let few = (entries-said c.in_ok-columns.columns 1 (records_left c.read_next.new.reader) took_all.entries (omega arith) took_all.said).few in
    (took_all.entries, took_all.made, omega arith)

pub returns-clause-read : goal.returns-clause-read
returns-clause-read c =
    let took = rw c.if-not-branch.false at c.in_ok-read_next.ensures.takes in
    let took_all = c.in_ok-take_records.ensures.takes in
    let are = entries-said c.in_ok-columns.columns 1 (records_left c.read_next.new.reader) took_all.entries (omega arith) took_all.said in
    let history = c.in_ok-finish.ensures took_all.entries took_all.made (rise-said 1 took_all.entries are.said) in
    inr (ap Ok history ∙ sym (rw (took.0, ← c.in_ok-columns.ensures.columns, took_all.said) refl))
