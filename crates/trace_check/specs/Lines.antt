-- The fields of a line, and the call or the journal entry that a line says.
use Rattle.std.specs.Prelude.{ℕ, ◌+◌, ◌==◌, ◌&&◌, nat_le, nat_lt, if◌then◌else◌, List, [], ◌∷◌, ◌++◌, length, map, drop, Option, Some, None, option_map, codes, replicate}
use Rattle.std.specs.List.{slice_split}
use Rattle.std.specs.Str.{bytes_eq}
use Rattle.std.specs.Str.Parse.{digits_value}
use Rattle.stale_model.specs.declared.Kind.{Kind}
use Rattle.stale_model.specs.declared.Kind.TheVariants.{Read, Write}
use Rattle.stale_model.specs.declared.store.Settings.{Settings}
use Rattle.stale_model.specs.declared.store.Ask.{Ask}
use Rattle.stale_model.specs.declared.store.Ask.TheVariants.{Read as AskRead, Write as AskWrite, Repair}
use Rattle.stale_model.specs.declared.store.JournalEntry.{JournalEntry}
use Rattle.stale_model.specs.declared.store.Took.{Took}
use Rattle.stale_model.specs.declared.store.Entry.{Entry}
use Rattle.stale_model.specs.Calls.{no_took}
use Rattle.stale_model.specs.Texts.{semicolon}
use Rattle.cert_text.specs.Numbers.{is_numeral}

-- ticks and stamps are below this
abbrev pub tick_limit : ℕ
tick_limit = 4611686018427387904

-- numbers of values are below this
abbrev pub value_limit : ℕ
value_limit = 4294967296

-- the most replies that a call takes
abbrev pub most_taken : ℕ
most_taken = 7

-- what stands between the bytes of this kind
abbrev pub split_at : ℕ → List ℕ → List (List ℕ)
split_at byte text = slice_split (λ b. b == byte) text

-- the parts of the rest of a text, each of which stands after the byte
abbrev pub parts_after : ℕ → List ℕ → List (List ℕ)
parts_after byte [] = []
parts_after byte (b ∷ text) = split_at byte text

-- what follows from what was read, where something was
abbrev pub then_read : {X Y : Type 0} → Option X → (X → Option Y) → Option Y
then_read (Some x) next = next x
then_read None next = None

-- the number, from `least` on and below `limit`, that a field is: digits, with a leading zero only where it is alone
abbrev pub number_between : ℕ → ℕ → List ℕ → Option ℕ
number_between least limit field =
    if is_numeral field && (nat_le least (digits_value 10 field) && nat_lt (digits_value 10 field) limit) then Some (digits_value 10 field) else None

-- the number after this letter
abbrev pub number_after : ℕ → ℕ → ℕ → List ℕ → Option ℕ
number_after letter least limit [] = None
number_after letter least limit (b ∷ digits) = if b == letter then number_between least limit digits else None

-- the tick that a field is
abbrev pub tick_of : List ℕ → Option ℕ
tick_of field = number_between 1 tick_limit field

-- the number of the key that a field names, `k` before it
abbrev pub key_of : ℕ → List ℕ → Option ℕ
key_of keys field = number_after 107 0 keys field

-- the number of the value that a field names, `v` before it
abbrev pub named_value : List ℕ → Option ℕ
named_value field = number_after 118 1 value_limit field

-- the number of the value that a field names, where an empty one is 0
abbrev pub value_or_empty : List ℕ → Option ℕ
value_or_empty [] = Some 0
value_or_empty (b ∷ field) = named_value (b ∷ field)

-- the value on a line of this op: only where the op is `r` it may be empty
abbrev pub value_of : List ℕ → List ℕ → Option ℕ
value_of op field = if bytes_eq op (codes "r") then value_or_empty field else named_value field

-- the kind of a call of this op
abbrev pub kind_of : List ℕ → Option Kind
kind_of op = if bytes_eq op (codes "r") then Some Read else if bytes_eq op (codes "w") then Some Write else None

-- what a request of this op asks, with the value and the stamp of its line
abbrev pub ask_of : List ℕ → ℕ → ℕ → Option Ask
ask_of op value stamp =
    if bytes_eq op (codes "r") then Some AskRead
    else if bytes_eq op (codes "w") then Some (AskWrite value)
    else if bytes_eq op (codes "p") then Some (Repair stamp value)
    else None

-- the ticks that fields are, if each is one
abbrev pub ticks_of : List (List ℕ) → Option (List ℕ)
ticks_of [] = Some []
ticks_of (field ∷ fields) = then_read (tick_of field) (λ tick. option_map (λ ticks. tick ∷ ticks) (ticks_of fields))

-- the serve tickets of the replies that a call took, between semicolons: one to seven
abbrev pub tickets_of : List ℕ → Option (List ℕ)
tickets_of field = if nat_le (length (split_at semicolon field)) most_taken then ticks_of (split_at semicolon field) else None

-- a reply at this ticket, of which no more is known
abbrev pub alone : ℕ → Took
alone serve = record { replica = 0; serve = serve; stamp = 0; value = 0 }

-- the replies at these tickets, and zeros in the places after them
abbrev pub took_at : List ℕ → List Took
took_at tickets = map alone tickets ++ drop (length tickets) (replicate most_taken no_took)

-- the call that the fields of a line of a history are
abbrev pub call_of : Settings → List (List ℕ) → Option Entry
call_of s (client ∷ op ∷ key ∷ value ∷ start ∷ finish ∷ seq ∷ took ∷ []) =
    then_read (number_between 0 s.clients client) (λ c. then_read (kind_of op) (λ kind. then_read (key_of s.keys key) (λ k. then_read (value_of op value) (λ v.
    then_read (tick_of start) (λ from. then_read (tick_of finish) (λ to. then_read (number_between 1 (s.calls + 1) seq) (λ n. then_read (tickets_of took) (λ tickets.
    Some (record { client = c; seq = n; kind = kind; key = k; value = v; start = from; finish = to; took = took_at tickets; took_count = length tickets })))))))))
call_of s fields = None

-- the entry that the fields of a line of a journal are, whose replica is at least `least`
abbrev pub entry_of : Settings → ℕ → List (List ℕ) → Option JournalEntry
entry_of s least (replica ∷ serve ∷ client ∷ seq ∷ start ∷ key ∷ op ∷ value ∷ stamp ∷ []) =
    then_read (number_between least s.replicas replica) (λ r. then_read (tick_of serve) (λ at. then_read (number_between 0 s.clients client) (λ c.
    then_read (number_between 1 (s.calls + 1) seq) (λ n. then_read (tick_of start) (λ from. then_read (key_of s.keys key) (λ k. then_read (value_of op value) (λ v.
    then_read (number_between 0 tick_limit stamp) (λ t. then_read (ask_of op v t) (λ ask.
    Some (record {
      request = record { client = c; seq = n; start = from; key = k; ask = ask };
      reply = record { replica = r; client = c; seq = n; serve = at; stamp = t; value = v };
    }))))))))))
entry_of s least fields = None
