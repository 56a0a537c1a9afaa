-- The fields of a call and of an entry of a journal need no quotes.
use Rattle.std.proofs.Common.{◌≡◌, ℕ, ◌++◌, List, [], ◌∷◌, map, refl, ◌∙◌, codes}
use Rattle.std.specs.Fmt.{decimal}
use Rattle.std.specs.List.{join_with_byte}
use Rattle.std.proofs.lemmas.Bool.{or_from}
use Rattle.std.proofs.lemmas.List.Folds.{list_any-append}
use Rattle.csv.specs.Writing.{default_writer, fields_text, is_blank, needs_byte, row_text}
use Rattle.stale_model.specs.declared.store.Ask.{Ask}
use Rattle.stale_model.specs.declared.store.Ask.TheVariants.{Read, Write, Repair}
use Rattle.stale_model.specs.declared.store.Entry.{Entry as Call}
use Rattle.stale_model.specs.declared.store.JournalEntry.{JournalEntry}
use Rattle.stale_model.specs.declared.store.Took.{Took}
use Rattle.stale_model.specs.Calls.{taken_by}
use Rattle.stale_model.specs.Texts.{ask_text, call_fields, journal_fields, journal_header, line_of, record_text, recorded_header, semicolon, took_text}
use Rattle.history_csv.proofs.WrittenRows.{IsPlain, decimal-plain, key-plain, line_fields-plain, row_text-plain, value-plain}

-- a plain text before another
plain-append : (xs ys : List ℕ) → IsPlain xs → IsPlain ys → IsPlain (xs ++ ys)
plain-append xs ys first second = list_any-append (needs_byte default_writer) xs ys ∙ or_from _ _ first second

-- tickets with semicolons between them
tickets-plain : (ts : List Took) → IsPlain (join_with_byte semicolon (map (λ t. decimal t.serve) ts))
tickets-plain [] = refl
tickets-plain (t ∷ []) = decimal-plain t.serve
tickets-plain (t ∷ u ∷ ts) = plain-append (decimal t.serve) _ (decimal-plain t.serve) (tickets-plain (u ∷ ts))

-- the word of a request
ask-plain : (ask : Ask) → IsPlain (ask_text ask)
ask-plain Read = refl
ask-plain (Write value) = refl
ask-plain (Repair stamp value) = refl

-- the record of a call is its text
pub row_text-call : (e : Call) → row_text default_writer (call_fields e) ≡ record_text (call_fields e)
row_text-call e = row_text-plain _ _ _ (line_fields-plain (line_of e) (decimal e.seq ∷ took_text e ∷ []) (decimal-plain e.seq, (tickets-plain (taken_by e), tt)))

-- the record of an entry of a journal is its text
pub row_text-journal : (replica : ℕ) (j : JournalEntry) → row_text default_writer (journal_fields replica j) ≡ record_text (journal_fields replica j)
row_text-journal replica j =
    row_text-plain _ _ _ (
      decimal-plain replica,
      (
        decimal-plain j.reply.serve,
        (
          decimal-plain j.request.client,
          (
            decimal-plain j.request.seq,
            (
              decimal-plain j.request.start,
              (key-plain j.request.key, (ask-plain j.request.ask, (value-plain j.reply.value, (decimal-plain j.reply.stamp, tt)))),
            ),
          ),
        ),
      ),
    )

-- the names of the columns of a recorded history
abbrev pub recorded_names : List (List ℕ)
recorded_names =
    codes "client" ∷ codes "op" ∷ codes "key" ∷ codes "value" ∷ codes "start" ∷ codes "finish" ∷ codes "seq" ∷ codes "took" ∷ []

-- the record of these is its header
pub row_text-recorded_header : row_text default_writer recorded_names ≡ recorded_header
unfolding fields_text is_blank
row_text-recorded_header = refl

-- the names of the columns of a journal file
abbrev pub journal_names : List (List ℕ)
journal_names =
    codes "replica" ∷ codes "serve" ∷ codes "client" ∷ codes "seq" ∷ codes "start" ∷ codes "key" ∷ codes "op" ∷ codes "value" ∷ codes "stamp" ∷ []

-- the record of these is its header
pub row_text-journal_header : row_text default_writer journal_names ≡ journal_header
unfolding fields_text is_blank
row_text-journal_header = refl
