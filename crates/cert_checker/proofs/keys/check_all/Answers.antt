use Rattle.std.proofs.Common.{◌≡◌, ℕ, ◌<◌, List, length, get_or, refl, ap, subst, arith}
use Rattle.std.proofs.lemmas.Option.{slice_get_read, slice_get_within}
use Rattle.stale_model.specs.declared.KeyOps.{KeyOps}
use Rattle.stale_model.specs.declared.Verdict.{Verdict}
use Rattle.stale_model.specs.Operations.{operations}
use Rattle.stale_model.specs.Orders.{StandsAt}
use Rattle.cert_checker.specs.KeyFaults.{FindsKey}
use Rattle.cert_checker.proofs.EachKey.{shown_more}
use Rattle.cert_checker.proofs.keys.check_all.Goals as goal

-- the key that the loop is at
key_at : (keys items : List KeyOps) (n : ℕ) (key : KeyOps) → items ≡ keys → n < length items → key ≡ get_or items n key → StandsAt keys n key
key_at keys items n key same low is = subst (λ (xs : List KeyOps). StandsAt xs n key) same (slice_get_read items (length items) n key refl low is)

-- the verdict at its place
verdict_at : (keys items : List KeyOps) (verdicts : List Verdict) (n : ℕ) (verdict : Verdict) → items ≡ keys → length verdicts ≡ length keys → n < length items
    → verdict ≡ get_or verdicts n verdict → StandsAt verdicts n verdict
verdict_at keys items verdicts n verdict same many low is =
    let e = ap length same in
    slice_get_read verdicts (length verdicts) n verdict refl (omega arith) is

pub returns-in-Bad : goal.returns-in-Bad
returns-in-Bad c =
    let keys = c.args.history.now.keys in
    let items = c.as_slice-key-items.result.now in
    record {
      place = c.loop-place.place;
      number_is = refl;
      key = c.key-item.result;
      verdict = c.index-verdicts-place.result;
      key_is = key_at keys items c.loop-place.place c.key-item.result c.loop-place.invariant.keys c.loop-place-test.true c.key-item.is;
      verdict_is = verdict_at keys items c.args.verdicts.now c.loop-place.place c.index-verdicts-place.result c.loop-place.invariant.keys c.requires.as_many c.loop-place-test.true c.index-verdicts-place.is;
      bad = subst (FindsKey (operations c.key-item.result) c.index-verdicts-place.result) c.in-Bad.is c.in_ok-rule.ensures;
      earlier = c.loop-place.invariant.shown.each;
    }

pub loop-place-preserved : goal.loop-place-preserved
loop-place-preserved c =
    let keys = c.args.history.now.keys in
    let items = c.as_slice-key-items.result.now in
    record {
      keys = c.loop-place.invariant.keys;
      shown = shown_more keys c.args.verdicts.now c.loop-place.place c.key-item.result c.index-verdicts-place.result
          (key_at keys items c.loop-place.place c.key-item.result c.loop-place.invariant.keys c.loop-place-test.true c.key-item.is)
          (verdict_at keys items c.args.verdicts.now c.loop-place.place c.index-verdicts-place.result c.loop-place.invariant.keys c.requires.as_many c.loop-place-test.true c.index-verdicts-place.is)
          (subst (FindsKey (operations c.key-item.result) c.index-verdicts-place.result) c.in_default.is c.in_ok-rule.ensures) c.loop-place.invariant.shown;
    }

pub returns : goal.returns
returns c = record {
  as_many = c.requires.as_many;
  each = λ i key verdict at_key at_verdict.
      let low = slice_get_within c.args.history.now.keys i key at_key in
      let same = ap length c.loop-place.invariant.keys in
      let past = c.loop-place-test.false in
      c.loop-place.invariant.shown.each i key verdict (omega arith) at_key at_verdict;
}
