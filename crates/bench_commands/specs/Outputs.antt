-- What a bench writes, in this order: the file for the history, the file for the journals, and the report.
use Rattle.std.specs.Prelude.{◌≡◌, ◌⊎◌}
use Rattle.stale_model.specs.Texts.{recorded_text, journal_text}
use Rattle.staleness_report.specs.Report.{report_text}
use Rattle.audit_ports.specs.Shelf.{Shown}
use Rattle.audit_ports.specs.Sink.{SinkShown}
use Rattle.audit_words.specs.declared.bench.Bench.{Bench}
use Rattle.command_outputs.specs.Output.{WritesWhole, WritesPart, WritesFile, WritesFilePart}
use Rattle.bench_commands.specs.declared.texts.Texts.{Texts}
use Rattle.bench_commands.specs.Made.{Made}

-- the texts of what was made: its calls, its journals, and the report of its verdicts
abbrev pub texts_of : Made → Texts
texts_of made = record { history = recorded_text made.entries; journal = journal_text made.journals; report = report_text made.h made.verdicts }

-- both files were written, the one for the history first
pub record WritesFiles (b : Bench) (texts : Texts) (old new : Shown) : Type 0 where
  pub between : Shown
  pub history : WritesFile b.history texts.history old between
  pub journal : WritesFile b.journal texts.journal between new

-- the file for the history was written, and the one for the journals was not, or not wholly
pub record WritesHistoryAlone (b : Bench) (texts : Texts) (old new : Shown) : Type 0 where
  pub between : Shown
  pub history : WritesFile b.history texts.history old between
  pub journal : WritesFilePart b.journal texts.journal between new

-- both files were written, and then the report
pub record WritesAll (b : Bench) (texts : Texts) (old new : Shown) (out out' : SinkShown) : Type 0 where
  pub files : WritesFiles b texts old new
  pub report : WritesWhole texts.report out out'

-- a call of writing failed, and nothing behind it was begun
abbrev pub WritesSome : Bench → Texts → Shown → Shown → SinkShown → SinkShown → Type 0
WritesSome b texts old new out out' =
    (WritesFilePart b.history texts.history old new × (out' ≡ out))
    ⊎ (WritesHistoryAlone b texts old new × (out' ≡ out))
    ⊎ (WritesFiles b texts old new × WritesPart texts.report out out')
