-- The certificate of an audit is read back, and each of its verdicts is shown.
use Rattle.std.proofs.Common.{◌≡◌, ℕ, ◌<◌, ◌≤◌, ◌^◌, List, length, Option, Some, Ok, false, refl, inl, inr, arith}
use Rattle.std.specs.Prelude.{All, Contains, IsTrue, nat_lt}
use Rattle.std.specs.List.{list_all}
use Rattle.std.proofs.lemmas.List.Elements.{All-contains}
use Rattle.stale_model.specs.declared.Op.{Op}
use Rattle.stale_model.specs.declared.KeyOps.{KeyOps}
use Rattle.stale_model.specs.declared.History.{History}
use Rattle.stale_model.specs.declared.Verdict.{Verdict}
use Rattle.stale_model.specs.Truth.{EachKeyHas}
use Rattle.stale_model.specs.Shown.{IsShown}
use Rattle.stale_model.specs.Valid.{IsValidKey}
use Rattle.stale_model.proofs.Places.{at_its_place, contains_at, something_at}
use Rattle.history_csv.specs.Laws.{IsWithinBounds}
use Rattle.history_csv.proofs.FewRecords.{within_bounds}
use Rattle.cert_text.specs.Certificates.{cert_text}
use Rattle.cert_text.specs.Reading as certificate
use Rattle.cert_text.specs.Laws.{fits}
use Rattle.cert_text.proofs.ReadsBack.{reads_back}
use Rattle.cert_text.proofs.ShownChains.{all_pass}
use Rattle.cert_text.proofs.ShownFits.{shown_fit}
use Rattle.audit_ports.specs.Shelf.{file_at}
use Rattle.audit_commands.specs.declared.status.Status.{Status}
use Rattle.audit_commands.specs.declared.status.Status.TheVariants as status
use Rattle.audit_commands.specs.Audit.{history_limit, cert_limit}
use Rattle.audit_commands.specs.Complete.{VerdictsAsk, history_in, input_in, verdicts_in_bytes}
use Rattle.audit_commands.specs.Laws.{WrittenCertificatesAreGood}
use Rattle.audit_commands.proofs.Chains.{shown_have_chains}

module _ (h : History) (bounds : IsWithinBounds h) (verdicts : List Verdict) (shown : EachKeyHas IsShown h.keys verdicts) where
  -- the records of a key's operations fit their type
  low_records : (key : KeyOps) → Contains h.keys key → All (λ a. a.rec < 2 ^ 32) key.ops
  low_records key there =
      let low : All (λ (a : Op). a.rec ≤ 1000000) key.ops = All-contains (λ (k : KeyOps). All (λ (a : Op). a.rec ≤ 1000000) k.ops) h.keys key bounds.records there in
      λ k d lt. let below = low k d lt in omega arith

  all_fit : IsTrue (list_all fits verdicts)
  all_fit = all_pass fits verdicts (λ v c.
      let many = shown.as_many in
      let low = c.1 in
      let (key, at) = something_at h.keys c.0 (omega arith) in
      let there = contains_at h.keys c.0 key at in
      let valid = All-contains IsValidKey h.keys key bounds.valid.keys there in
      shown_fit key v valid (low_records key there) (shown.each c.0 key v at (at_its_place verdicts v c)))

  -- the text of verdicts that are shown reads back as them
  pub text_reads_back : certificate.read_of (length h.keys) (cert_text verdicts) ≡ Ok verdicts
  text_reads_back =
      let as_many = shown.as_many in
      let few = bounds.valid.few_keys in
      rw (← as_many) (reads_back verdicts (omega arith) all_fit (shown_have_chains h.keys verdicts shown))

-- an input that is within its limit
input_within : (content : Option (List ℕ)) (limit : ℕ) (bytes : List ℕ) → content ≡ Some bytes → length bytes ≤ limit → input_in limit content ≡ Ok bytes
input_within content limit bytes is within =
    let short : nat_lt limit (length bytes) ≡ false = grind arith in
    rw (is, short) refl

-- where each verdict is shown, done alone is asked for
done_alone : (keys : List KeyOps) (verdicts : List Verdict) (asked : Status) → EachKeyHas IsShown keys verdicts → VerdictsAsk keys (Ok verdicts) asked → asked ≡ status.Done
done_alone keys verdicts asked shown (inl done) = done.0
done_alone keys verdicts asked shown (inr not_shown) = absurd (not_shown.1 shown)

pub written_are_good : WrittenCertificatesAreGood
written_are_good files file cert bytes h verdicts there within reads are cert_there cert_within =
    let input = input_within (file_at files file) history_limit bytes there within in
    let hist : history_in files file ≡ Ok h = rw (input, reads) refl in
    let cert_input = input_within (file_at files cert) cert_limit (cert_text verdicts) cert_there cert_within in
    let back = text_reads_back h (within_bounds bytes h reads) verdicts are.shown in
    let certs : verdicts_in_bytes (length h.keys) (input_in cert_limit (file_at files cert)) ≡ Ok verdicts = rw (cert_input, back) refl in
    record {
      asks = rw (hist, certs) (inl (refl, are.shown));
      no_other = λ asked asks. done_alone h.keys verdicts asked are.shown (rw (hist, certs) at asks);
    }
