-- What the checks of a record show of its entry.
use Rattle.std.proofs.Common.{◌≡◌, ℕ, ◌+◌, ◌^◌, ◌<◌, ◌≤◌, List, [], ◌∷◌, length, Option, Some, None, Result, Ok, Err, IfSome, refl, inl, inr, arith, nat_le, nat_lt, option_map, if◌then◌else◌}
use Rattle.std.specs.Prelude.{◌==◌}
use Rattle.std.proofs.lemmas.Bool.{cases_Bool, leb-true, ltb-false}
use Rattle.history_csv.specs.declared.HistoryFault.{HistoryFault}
use Rattle.history_csv.specs.declared.HistoryFault.TheVariants as fault
use Rattle.history_csv.specs.declared.header.Columns.{Columns}
use Rattle.history_csv.proofs.Places.{some_of}
use Rattle.history_csv.specs.Blocks.{FitsInRow}
use Rattle.history_csv.specs.Numbering.{never}
use Rattle.history_csv.specs.Fault.{or_fault, then_next}
use Rattle.history_csv.specs.Parting.{Rise}
use Rattle.stale_model.specs.declared.Kind.{Kind}
use Rattle.stale_model.specs.declared.Kind.TheVariants.{Read, Write}
use Rattle.std.specs.List.{AllByRecursion}
use Rattle.history_csv.specs.Entries.{Entry, behind, client_of, entries_from, entry_of, field, text_of, finish_after, finish_of, greatest_tick, key_of, kind_of, most_records, number_of, number_within, slack_at, slack_of, tick_of, value_of}

-- a finish that some tick says
pub record IsFinish (start finish : ℕ) : Type 0 where
  pub after : start ≤ finish
  pub tick : finish < 2 ^ 62

-- a finish that is a tick is before `never`
before-never : (start : ℕ) (finish : Option ℕ) → IfSome finish (IsFinish start) → IfSome finish (λ tick. tick < never)
before-never start None is = is
before-never start (Some tick) is = let bound = is.tick in omega arith

-- an entry with this number, whose ticks, slack and texts are within their bounds
pub record IsSaid (rec : ℕ) (e : Entry) : Type 0 where
  pub numbered : e.rec ≡ rec
  pub starts : 1 ≤ e.start
  pub start_tick : e.start < 2 ^ 62
  pub finish : IfSome e.finish (IsFinish e.start)
  pub slack : e.slack < 2 ^ 62
  pub fits : FitsInRow e

ok-of-fault : {X Y : Type 0} (fault : HistoryFault) (o : Option X) (next : X → Result Y HistoryFault) (y : Y) → or_fault fault o next ≡ Ok y → (x : X) × (o ≡ Some x) × (next x ≡ Ok y)
ok-of-fault fault None next y e = cc
ok-of-fault fault (Some x) next y e = (x, refl, e)

pub ok-of-next : {X Y : Type 0} (r : Result X HistoryFault) (next : X → Result Y HistoryFault) (y : Y) → then_next r next ≡ Ok y → (x : X) × (r ≡ Ok x) × (next x ≡ Ok y)
ok-of-next (Err fault) next y e = cc
ok-of-next (Ok x) next y e = (x, refl, e)

pub ok_of : {X : Type 0} (x y : X) → (let r : Result X HistoryFault = Ok x in r) ≡ Ok y → x ≡ y
ok_of x y e = cc

within : (least most : ℕ) (o : Option ℕ) (n : ℕ) → number_within least most o ≡ Some n → (least ≤ n) × (n ≤ most)
within least most None n e = cc
within least most (Some m) n e = elim (cases_Bool (nat_le least m)) [
  | inr low ↦ let none = rw low at e in cc
  | inl low ↦ elim (cases_Bool (nat_le m most)) [
    | inr high ↦ let none = rw (low, high) at e in cc
    | inl high ↦
        let same : m ≡ n = some_of m n (rw (low, high) at e) in
        let at_least = leb-true least m low in
        let at_most = leb-true m most high in
        (omega arith, omega arith)
  ]
]

tick-bounds : (text : List ℕ) (n : ℕ) → tick_of text ≡ Some n → (1 ≤ n) × (n < 2 ^ 62)
tick-bounds text n e = let (low, high) = within 1 greatest_tick (number_of 19 text) n e in (low, omega arith)

mapped-some : (o : Option ℕ) (n : ℕ) → option_map Some o ≡ Some (Some n) → o ≡ Some n
mapped-some None n e = cc
mapped-some (Some m) n e = some_of (Some m) (Some n) e

finish-bound : (text : List ℕ) (n : ℕ) → finish_of text ≡ Some (Some n) → n < 2 ^ 62
finish-bound [] n e = let no = some_of None (Some n) e in cc
finish-bound (b ∷ text) n e = (tick-bounds (b ∷ text) n (mapped-some (tick_of (b ∷ text)) n e)).1

finish-after : (start : ℕ) (text : List ℕ) (tick finish : Option ℕ) → finish_of text ≡ Some tick → finish_after start tick ≡ Some finish → IfSome finish (IsFinish start)
finish-after start text None finish said after = let same : None ≡ finish = some_of None finish after in rw (← same) tt
finish-after start text (Some n) finish said after = elim (cases_Bool (nat_le start n)) [
  | inr low ↦ let none = rw low at after in cc
  | inl low ↦
      let same : Some n ≡ finish = some_of (Some n) finish (rw low at after) in
      rw (← same) (record { after = leb-true start n low; tick = finish-bound text n said })
]

slack-bound : (text : List ℕ) (n : ℕ) → slack_of text ≡ Some n → n < 2 ^ 62
slack-bound [] n e = let same : 0 ≡ n = some_of 0 n e in omega arith
slack-bound (b ∷ text) n e = let (low, high) = within 0 greatest_tick (number_of 19 (b ∷ text)) n e in omega arith

slack-at-bound : (place : Option ℕ) (fields : List (List ℕ)) (n : ℕ) → slack_at place fields ≡ Some n → n < 2 ^ 62
slack-at-bound None fields n e = let same : 0 ≡ n = some_of 0 n e in omega arith
slack-at-bound (Some place) fields n e = slack-bound (field fields place) n e

text-short : (least most : ℕ) (text t : List ℕ) → text_of least most text ≡ Some t → length t ≤ most
text-short least most text t e = elim (cases_Bool (nat_le least (length text))) [
  | inr low ↦ let none = rw low at e in cc
  | inl low ↦ elim (cases_Bool (nat_le (length text) most)) [
    | inr high ↦ let none = rw (low, high) at e in cc
    | inl high ↦
        let same : text ≡ t = some_of text t (rw (low, high) at e) in
        rw (← same) (leb-true (length text) most high)
  ]
]

value-short : (kind : Kind) (text t : List ℕ) → value_of kind text ≡ Some t → length t ≤ 256
value-short Read text t e = text-short 0 256 text t e
value-short Write text t e = text-short 1 256 text t e

pub entry-said : (columns : Columns) (rec : ℕ) (fields : List (List ℕ)) (e : Entry) → entry_of columns rec fields ≡ Ok e → IsSaid rec e
unfolding entry_of
entry-said columns rec fields e said =
    let text : ℕ → List ℕ = field fields in
    let (_, _, s0) = ok-of-fault (fault.Fields rec) (if length fields == columns.fields then Some fields else None) _ e said in
    let (kind, _, s1) = ok-of-fault (fault.Op rec) (kind_of (text columns.op)) _ e s0 in
    let (client, _, s2) = ok-of-fault (fault.Client rec) (client_of (text columns.client)) _ e s1 in
    let (key, key_is, s3) = ok-of-fault (fault.Key rec) (key_of (text columns.key)) _ e s2 in
    let (value, value_is, s4) = ok-of-fault (fault.Value rec) (value_of kind (text columns.value)) _ e s3 in
    let (start, start_is, s5) = ok-of-fault (fault.Time rec) (tick_of (text columns.start)) _ e s4 in
    let (tick, tick_is, s6) = ok-of-fault (fault.Time rec) (finish_of (text columns.finish)) _ e s5 in
    let (finish, finish_is, s7) = ok-of-fault (fault.Backwards rec) (finish_after start tick) _ e s6 in
    let (slack, slack_is, s8) = ok-of-fault (fault.Slack rec) (slack_at columns.slack fields) _ e s7 in
    let same = ok_of _ e s8 in
    let ticks = tick-bounds (field fields columns.start) start start_is in
    let ends = finish-after start (field fields columns.finish) tick finish tick_is finish_is in
    rw (← same) (record {
      numbered = refl;
      starts = ticks.0;
      start_tick = ticks.1;
      finish = ends;
      slack = slack-at-bound columns.slack fields slack slack_is;
      fits = record {
        key = text-short 1 256 (text columns.key) key key_is;
        value = value-short kind (text columns.value) value value_is;
        finish = before-never start finish ends;
      };
    })

-- entries numbered from rec on
abbrev pub AreSaid : ℕ → List Entry → Type 0
AreSaid rec [] = Unit {0}
AreSaid rec (e ∷ es) = IsSaid rec e × AreSaid (rec + 1) es

later-said : (before rec : ℕ) (es : List Entry) → before < rec → AreSaid rec es → AllByRecursion (λ e. before < e.rec) es
later-said before rec [] low said = tt
later-said before rec (e ∷ es) low said = let is = said.0.numbered in (omega arith, later-said before (rec + 1) es (omega arith) said.1)

-- the records of entries rise
pub rise-said : (rec : ℕ) (es : List Entry) → AreSaid rec es → Rise es
rise-said rec [] said = tt
rise-said rec (e ∷ es) said = let is = said.0.numbered in (later-said e.rec (rec + 1) es (omega arith) said.1, rise-said (rec + 1) es said.1)

-- what the entries of records show
pub record AreEntries (rec : ℕ) (records : List (List (List ℕ))) (es : List Entry) : Type 0 where
  pub said : AreSaid rec es
  pub as_many : length es ≡ length records
  pub few : rec + length es ≤ most_records + 1

pub behind-one : (e : Entry) (r : Result (List Entry) HistoryFault) (es : List Entry) → behind (e ∷ []) r ≡ Ok es → (more : List Entry) × (r ≡ Ok more) × (e ∷ more ≡ es)
behind-one e (Err fault) es h = cc
behind-one e (Ok more) es h = (more, refl, ok_of (e ∷ more) es h)

pub entries-said : (columns : Columns) (rec : ℕ) (records : List (List (List ℕ))) (es : List Entry) → rec ≤ most_records + 1 → entries_from columns rec records ≡ Ok es → AreEntries rec records es
unfolding entries_from
entries-said columns rec [] es small h =
    let none : [] ≡ es = ok_of [] es h in
    rw (← none) (record { said = tt; as_many = refl; few = omega arith })
entries-said columns rec (fields ∷ rest) es small h = elim (cases_Bool (nat_lt most_records rec)) [
  | inl many ↦ let no = rw many at h in cc
  | inr few ↦
      let within_most = ltb-false most_records rec few in
      let (e, e_is, s) = ok-of-next (entry_of columns rec fields) (λ entry. behind (entry ∷ []) (entries_from columns (rec + 1) rest)) es (rw few at h) in
      let (more, more_is, es_is) = behind-one e (entries_from columns (rec + 1) rest) es s in
      let rest_said = entries-said columns (rec + 1) rest more (omega arith) more_is in
      let as_many = rest_said.as_many in
      let rest_few = rest_said.few in
      rw (← es_is) (record { said = (entry-said columns rec fields e e_is, rest_said.said); as_many = omega arith; few = omega arith })
]
