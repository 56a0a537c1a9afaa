-- Rows after one more operation.
use Rattle.std.proofs.Common.{◌≡◌, ◌≢◌, ◌⊎◌, ℕ, ◌≤◌, max, List, [], ◌∷◌, ◌++◌, Option, Some, None, set, refl, sym, ◌∙◌, ap, inl, inr, subst, arith}
use Rattle.std.specs.Prelude.{Contains}
use Rattle.std.proofs.lemmas.Bool.{cases_lt}
use Rattle.std.proofs.lemmas.Option.{slice_get_within}
use Rattle.std.proofs.lemmas.List.Elements.{Contains-push, Contains-push_cases, Contains-append_left}
use Rattle.stale_model.specs.declared.Op.{Op}
use Rattle.stale_model.specs.declared.Kind.{Kind}
use Rattle.stale_model.specs.declared.Kind.TheVariants.{Read, Write}
use Rattle.stale_model.specs.Operations.{IsRead, IsWrite, earliest_start, latest_finish}
use Rattle.stale_model.specs.Faults.{IsWriteOf}
use Rattle.stale_model.specs.Clusters.{IsOfValue, IsReadOf}
use Rattle.stale_model.specs.Orders.{StandsAt}
use Rattle.live_score.specs.declared.rows.Row.{Row}
use Rattle.live_score.specs.Rows.{IsWriteKept, IsFinishOf, IsFinishKept, IsStartKept, IsRowOf, AreRows, first_finish, placed_row, row_with, row_after}
use Rattle.live_score.proofs.Stands.{after_write}

module _ (ops : List Op) (op : Op) (value : ℕ) where
  value_more : (a : Op) → IsOfValue ops value a → IsOfValue (ops ++ op ∷ []) value a
  value_more a h = record { there = Contains-append_left ops (op ∷ []) a h.there; value_is = h.value_is }

  value_cases : (a : Op) → IsOfValue (ops ++ op ∷ []) value a → IsOfValue ops value a ⊎ (op ≡ a)
  value_cases a h = elim (Contains-push_cases ops op a h.there) [
    | inl before ↦ inl (record { there = before; value_is = h.value_is })
    | inr same ↦ inr same
  ]

  write_more : (a : Op) → IsWriteOf ops value a → IsWriteOf (ops ++ op ∷ []) value a
  write_more a h = record { there = Contains-append_left ops (op ∷ []) a h.there; kind = h.kind; value_is = h.value_is }

  write_cases : (a : Op) → IsWriteOf (ops ++ op ∷ []) value a → IsWriteOf ops value a ⊎ (op ≡ a)
  write_cases a h = elim (Contains-push_cases ops op a h.there) [
    | inl before ↦ inl (record { there = before; kind = h.kind; value_is = h.value_is })
    | inr same ↦ inr same
  ]

  read_more : (a : Op) → IsReadOf ops value a → IsReadOf (ops ++ op ∷ []) value a
  read_more a h = record {
    read = record { there = Contains-append_left ops (op ∷ []) a h.read.there; kind = h.read.kind };
    value_is = h.value_is;
  }

  read_cases : (a : Op) → IsReadOf (ops ++ op ∷ []) value a → IsReadOf ops value a ⊎ (op ≡ a)
  read_cases a h = elim (Contains-push_cases ops op a h.read.there) [
    | inl before ↦ inl (record { read = record { there = before; kind = h.read.kind }; value_is = h.value_is })
    | inr same ↦ inr same
  ]

  -- no write more, no change of what is kept of the write
  write_stays : (start : ℕ) (kept : Option ℕ) → ((w : Op) → IsWriteOf (ops ++ op ∷ []) value w → op ≡ w → ⊥) → IsWriteKept ops value start kept → IsWriteKept (ops ++ op ∷ []) value start kept
  write_stays start None other h = λ w g. elim (write_cases w g) [ inl before ↦ h w before | inr same ↦ other w g same ]
  write_stays start (Some rec) other (w, h, rec_is, start_is) = (w, write_more w h, rec_is, start_is)

  -- the same of reads
  start_stays : (s : ℕ) → ((r : Op) → IsReadOf (ops ++ op ∷ []) value r → op ≡ r → ⊥) → IsStartKept ops value s → IsStartKept (ops ++ op ∷ []) value s
  start_stays s other h = record {
    there = elim h.there [ inl zero_is ↦ inl zero_is | inr some ↦ inr (some.0, read_more some.0 some.1, some.2) ];
    greatest = λ r g. elim (read_cases r g) [ inl before ↦ h.greatest r before | inr same ↦ absurd (other r g same) ];
  }

  -- and of finishes
  finish_stays : (f : ℕ) (at : Option ℕ) → (op.value ≢ value) → IsFinishKept ops value f at → IsFinishKept (ops ++ op ∷ []) value f at
  finish_stays f None other h = λ a g. elim (value_cases a g) [ inl before ↦ h a before | inr same ↦ other (ap (λ (x : Op). x.value) same ∙ g.value_is) ]
  finish_stays f (Some at) other h = record {
    there = (h.there.0, value_more h.there.0 h.there.1, h.there.2);
    least = λ a g. elim (value_cases a g) [
      | inl before ↦ h.least a before
      | inr same ↦ absurd (other (ap (λ (x : Op). x.value) same ∙ g.value_is))
    ];
  }

  -- the rows of other values stay as they are
  row_stays : (row : Row) → op.value ≢ value → IsRowOf ops value row → IsRowOf (ops ++ op ∷ []) value row
  row_stays row other h = record {
    write = write_stays row.place.w row.write (λ w g same. other (ap (λ (x : Op). x.value) same ∙ g.value_is)) h.write;
    finish = finish_stays row.place.f row.at other h.finish;
    start = start_stays row.place.s (λ r g same. other (ap (λ (x : Op). x.value) same ∙ g.value_is)) h.start;
  }

module _ (ops : List Op) (op : Op) (last : (a : Op) → Contains ops a → latest_finish a ≤ latest_finish op) where
  itself : IsOfValue (ops ++ op ∷ []) op.value op
  itself = record { there = Contains-push ops op; value_is = refl }

  finish_grows : (f : ℕ) (at : Option ℕ) → IsFinishKept ops op.value f at → IsFinishOf (ops ++ op ∷ []) op.value (first_finish at f (latest_finish op))
  finish_grows f None h = record {
    there = (op, itself, refl);
    least = λ a g. elim (value_cases ops op op.value a g) [
      | inl before ↦ absurd (h a before)
      | inr same ↦ let e = ap (λ (x : Op). latest_finish x) same in omega arith
    ];
  }
  finish_grows f (Some at) h = record {
    there = (h.there.0, value_more ops op op.value h.there.0 h.there.1, h.there.2);
    least = λ a g. elim (value_cases ops op op.value a g) [
      | inl before ↦ h.least a before
      | inr same ↦
          let e = ap (λ (x : Op). latest_finish x) same in
          let is = h.there.2 in
          let le = last h.there.0 h.there.1.there in
          omega arith
    ];
  }

  start_grows : (s : ℕ) → IsRead op → IsStartKept ops op.value s → IsStartKept (ops ++ op ∷ []) op.value (max s (earliest_start op))
  start_grows s read h = record {
    there = elim (cases_lt s (earliest_start op)) [
      | inl less ↦
          let this : IsReadOf (ops ++ op ∷ []) op.value op = record { read = record { there = Contains-push ops op; kind = read }; value_is = refl } in
          inr (op, this, omega arith)
      | inr le ↦ elim h.there [
        | inl zero_is ↦ inl (omega arith)
        | inr some ↦ let is = some.2 in inr (some.0, read_more ops op op.value some.0 some.1, omega arith)
      ]
    ];
    greatest = λ r g. elim (read_cases ops op op.value r g) [
      | inl before ↦ let le = h.greatest r before in omega arith
      | inr same ↦ let e = ap (λ (x : Op). earliest_start x) same in omega arith
    ];
  }

  row_grows_by : (kind : Kind) (row : Row) (at : ℕ) → op.kind ≡ kind → (IsWrite op → row.write ≡ None) → IsRowOf ops op.value row → IsRowOf (ops ++ op ∷ []) op.value (row_with kind (placed_row row op at) op)
  row_grows_by Read row at kind_is first h = record {
    write = write_stays ops op op.value row.place.w row.write (λ w g same. (let writes = ap (λ (x : Op). x.kind) same ∙ g.kind in cc)) h.write;
    finish = finish_grows row.place.f row.at h.finish;
    start = start_grows row.place.s kind_is h.start;
  }
  row_grows_by Write row at kind_is first h = record {
    write = (op, record { there = Contains-push ops op; kind = kind_is; value_is = refl }, refl, refl);
    finish = finish_grows row.place.f row.at h.finish;
    start = start_stays ops op op.value row.place.s (λ r g same. (let reads = ap (λ (x : Op). x.kind) same ∙ g.read.kind in cc)) h.start;
  }

  -- the row of the operation's value
  row_grows : (row : Row) (at : ℕ) → (IsWrite op → row.write ≡ None) → IsRowOf ops op.value row → IsRowOf (ops ++ op ∷ []) op.value (row_after row op at)
  row_grows row at first h = row_grows_by op.kind row at refl first h

  -- all rows
  pub rows_grow : (rows : List Row) (row : Row) (at : ℕ) → StandsAt rows op.value row → (IsWrite op → row.write ≡ None) → AreRows ops rows → AreRows (ops ++ op ∷ []) (set rows op.value (row_after row op at))
  rows_grow rows row at here first are value other stands = elim (after_write rows op.value (row_after row op at) value other (slice_get_within rows op.value row here) stands) [
    | inl (value_is, row_is) ↦
        let P : ℕ → Row → Type 0 = λ v r. IsRowOf (ops ++ op ∷ []) v r in
        subst (λ (v : ℕ). P v other) (sym value_is) (subst (λ (r : Row). P op.value r) (sym row_is) (row_grows row at first (are op.value row here)))
    | inr (apart, before) ↦ row_stays ops op value other (λ e. apart (sym e)) (are value other before)
  ]
