-- The line of a call in a history reads as the call, of whose replies their tickets alone are known.
use Rattle.std.proofs.Common.{◌≡◌, ◌<◌, ◌≤◌, ◌^◌, ◌*◌, ◌+◌, ℕ, List, [], ◌∷◌, map, length, Some, refl, ◌∙◌, ap, inl, arith}
use Rattle.std.specs.Prelude.{All}
use Rattle.std.specs.Fmt.{decimal}
use Rattle.std.specs.List.{join_with_byte}
use Rattle.std.proofs.lemmas.Bool.{ne_eqb}
use Rattle.std.proofs.lemmas.List.Elements.{All-from_recursion}
use Rattle.std.proofs.lemmas.Nat.{mul-le}
use Rattle.stale_model.specs.declared.Kind.TheVariants.{Read, Write}
use Rattle.stale_model.specs.declared.store.Settings.{Settings}
use Rattle.stale_model.specs.declared.store.Entry.{Entry}
use Rattle.stale_model.specs.Settings.{AreSettings}
use Rattle.stale_model.specs.Calls.{taken_by}
use Rattle.stale_model.specs.Texts.{comma, semicolon, op_text, key_text, value_text, took_text, call_fields}
use Rattle.trace_check.specs.Lines.{value_limit, most_taken, split_at, took_at, kind_of, call_of}
use Rattle.trace_laws.specs.Laws.{IsTick}
use Rattle.trace_laws.proofs.Parts.{Lacks, cut_apart, joined_lacks, decimal_lacks, key_lacks, value_lacks, op_lacks}
use Rattle.trace_laws.proofs.Fields.{number_reads, tick_reads, key_reads, value_reads, tickets_lack, tickets_read}

-- the number of a call fits a word
pub seq_fits : (s : Settings) (n : ℕ) → AreSettings s → n ≤ s.calls → n < 2 ^ 64
seq_fits s n limits low =
    let (some, few) = limits.calls in
    let most : 1 * s.calls ≤ s.clients * s.calls = mul-le 1 s.calls s.clients s.calls limits.clients.0 (omega arith) in
    omega arith

-- a call whose line reads
pub record IsReadableCall (s : Settings) (e : Entry) : Type 0 where
  pub client : e.client < s.clients
  pub key : e.key < s.keys
  pub value : e.value < value_limit
  pub filled : e.kind ≡ Write → 1 ≤ e.value
  pub start : IsTick e.start
  pub finish : IsTick e.finish
  pub seq : (1 ≤ e.seq) × (e.seq ≤ s.calls)
  pub some : 1 ≤ length (taken_by e)
  pub few : length (taken_by e) ≤ most_taken
  pub taken : All (λ t. IsTick t.serve) (taken_by e)

-- the tickets that a call took
abbrev pub tickets_taken : Entry → List ℕ
tickets_taken e = map (λ t. t.serve) (taken_by e)

-- a call, of whose replies their tickets alone are known
abbrev pub with_tickets : Entry → Entry
with_tickets e = record e { took = took_at (tickets_taken e); took_count = length (tickets_taken e) }

module _ (s : Settings) (limits : AreSettings s) (e : Entry) (is : IsReadableCall s e) where
  client_low : e.client < 2 ^ 64
  client_low = let most = limits.clients in let low = is.client in omega arith

  key_low : e.key < 2 ^ 64
  key_low = let most = limits.keys in let low = is.key in omega arith

  seq_low : e.seq < 2 ^ 64
  seq_low = seq_fits s e.seq limits is.seq.1

  -- no field of the line has a byte below the digits
  pub call_lacks : (c : ℕ) → c < 48 → All (Lacks c) (call_fields e)
  call_lacks c low =
      let value = is.value in
      let start = is.start in
      let finish = is.finish in
      All-from_recursion (Lacks c) (call_fields e) (
        decimal_lacks c e.client (inl low) client_low,
        (
          op_lacks c e.kind low,
          (
            key_lacks c e.key low key_low,
            (
              value_lacks c e.value low (omega arith),
              (
                decimal_lacks c e.start (inl low) (omega arith),
                (
                  decimal_lacks c e.finish (inl low) (omega arith),
                  (
                    decimal_lacks c e.seq (inl low) seq_low,
                    (
                      joined_lacks c semicolon (map (λ t. decimal t.serve) (taken_by e)) (ne_eqb semicolon c (λ same. omega arith)) (tickets_lack c (taken_by e) (inl low) is.taken),
                      tt,
                    ),
                  ),
                ),
              ),
            ),
          ),
        ),
      )

  fields_read : call_of s (call_fields e) ≡ Some (with_tickets e)
  fields_read =
      let low = is.seq in
      let client = number_reads 0 s.clients e.client (omega arith) is.client client_low in
      let kind : kind_of (op_text e.kind) ≡ Some e.kind = elim e.kind as (λ k. kind_of (op_text k) ≡ Some k) [ Read ↦ refl | Write ↦ refl ] in
      let key = key_reads s.keys e.key is.key key_low in
      let value = value_reads e.kind e.value is.value is.filled in
      let start = tick_reads e.start is.start in
      let finish = tick_reads e.finish is.finish in
      let seq = number_reads 1 (s.calls + 1) e.seq low.0 (omega arith) seq_low in
      let tickets = tickets_read (taken_by e) is.some is.few is.taken in
      rw (client, kind, key, value, start, finish, seq, tickets) refl

  pub call_reads : call_of s (split_at comma (join_with_byte comma (call_fields e))) ≡ Some (with_tickets e)
  call_reads =
      ap (call_of s)
      (cut_apart comma (decimal e.client) (op_text e.kind ∷ key_text e.key ∷ value_text e.value ∷ decimal e.start ∷ decimal e.finish ∷ decimal e.seq ∷ took_text e ∷ [])
      (call_lacks comma (omega arith)))
      ∙ fields_read
