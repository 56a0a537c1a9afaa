-- The first file of a name in a list of files.
use Rattle.std.proofs.Common.{◌≡◌, ℕ, ◌+◌, ◌<◌, ◌≤◌, Bool, true, false, not, cond, eqb, nat_lt, List, [], ◌∷◌, ◌++◌, length-append, Some, None, option_map, length, slice_get, position, find, bytes_eq, refl, sym, ◌∙◌, ap, arith}
use Rattle.std.specs.FinMap.{get-from_entries}
use Rattle.std.specs.FinMap as fin_map
use Rattle.std.specs.List.{position_or_len}
use Rattle.std.specs.Cmp.Lexicographic.{slice_cmp, nat_list_cmp_total}
use Rattle.std.specs.Ordering.{nat_cmp, eq_by_cmp}
use Rattle.std.proofs.lemmas.Bool.Decides.{same_from_decides, nat_tests}
use Rattle.std.proofs.lemmas.List.Sums.{position_or_len_is, prefix_len-le-length}
use Rattle.std.proofs.lemmas.List.Folds.{find_at, prefix_len-append}
use Rattle.std.proofs.lemmas.List.Quantifiers.{position-Some}
use Rattle.std.proofs.lemmas.Option.{slice_get-get_or, slice_get_past}
use Rattle.std.proofs.lemmas.Map.Text.{is_eq-slice_cmp}
use Rattle.std.proofs.lemmas.Slice.Eq.{bytes_eq-Decides}
use Rattle.audit_ports.specs.Shelf.{at_start, file_at}
use Rattle.audit_ports.specs.MemoryFiles.{OpensFile, has_name, files_of, name_at, bytes_at}

-- the bytes of a file
abbrev bytes_of : List ℕ × List ℕ → List ℕ
bytes_of file = file.1

-- a map ties two names exactly where they are the same bytes
same_test : (a b : List ℕ) → eq_by_cmp (slice_cmp nat_cmp) a b ≡ bytes_eq b a
same_test a b = is_eq-slice_cmp a b
    ∙ same_from_decides (bytes_eq a b) (bytes_eq b a) (bytes_eq-Decides a b)
    ((λ t. sym ((bytes_eq-Decides b a).0 t)), (λ e. (bytes_eq-Decides b a).1 (sym e)))

-- the map of a list has the first file of a name
file_at-first : (files : List (List ℕ × List ℕ)) (name : List ℕ) → fin_map.find (slice_cmp nat_cmp) name files ≡ option_map bytes_of (find (has_name name) files)
file_at-first [] name = refl
file_at-first (f ∷ files) name = rw (same_test name f.0)
    elim (bytes_eq f.0 name) as (λ b. cond b (Some f.1) (fin_map.find (slice_cmp nat_cmp) name files) ≡ option_map bytes_of (cond b (Some f) (find (has_name name) files))) [
      | true ↦ refl
      | false ↦ file_at-first files name
    ]

-- what the map has for a name stands at its first place in the list
pub file_at-place : (files : List (List ℕ × List ℕ)) (name : List ℕ) → file_at (files_of files) name ≡ option_map bytes_of (slice_get files (position_or_len (has_name name) files))
file_at-place files name = get-from_entries nat_list_cmp_total files name ∙ file_at-first files name
    ∙ ap (option_map bytes_of) (find_at (has_name name) files)

-- the first place of a name, if there is one, can be opened
pub file_found : (files : List (List ℕ × List ℕ)) (name : List ℕ) (i : ℕ) → position (has_name name) files ≡ Some i → OpensFile files name (record { index = i; place = 0 })
file_found files name i e =
    let first = position-Some (has_name name) files i ([], []) e in
    let place : position_or_len (has_name name) files ≡ i = position_or_len_is (has_name name) files i ([], []) (omega arith) first.2 (λ _. first.1) in
    let named : name_at files i ≡ name = (bytes_eq-Decides _ name).0 first.1 in
    let there : file_at (files_of files) name ≡ Some (bytes_at files i) =
    file_at-place files name ∙ ap (λ n. option_map bytes_of (slice_get files n)) place
    ∙ ap (option_map bytes_of) (slice_get-get_or files i ([], []) first.0) in
    record {
      is_opened = record { within = first.0; place = omega arith; first = ap (file_at (files_of files)) named ∙ there; earliest = ap (λ n. position_or_len (has_name n) files) named ∙ place };
      reading = ap at_start named;
      there = rw there refl;
    }

-- a choice that gave nothing was false
none_is_false : (b : Bool) (i : ℕ) → cond b (Some i) None ≡ None → b ≡ false
none_is_false true i e = cc
none_is_false false i e = refl

-- a name that no place has is not in the map
pub no_file : (files : List (List ℕ × List ℕ)) (name : List ℕ) → position (has_name name) files ≡ None → file_at (files_of files) name ≡ None
no_file files name e =
    let first = position_or_len (has_name name) files in
    let test : nat_lt first (length files) ≡ false = none_is_false _ first e in
    let past : length files ≤ first = grind (arith, nat_tests) in
    file_at-place files name ∙ ap (option_map bytes_of) (slice_get_past files first past)

-- the first place of a name in two lists of files
place_in_both : (name : List ℕ) (files more : List (List ℕ × List ℕ)) → position_or_len (has_name name) (files ++ more)
    ≡ cond (eqb (position_or_len (has_name name) files) (length files)) (length files + position_or_len (has_name name) more) (position_or_len (has_name name) files)
place_in_both name files more = prefix_len-append (λ f. not (has_name name f)) files more

-- a first place within a list is found
some_at : (n l i : ℕ) → n ≡ i → i < l → cond (nat_lt n l) (Some n) None ≡ Some i
some_at n l i e within = grind (arith, nat_tests)

-- one past it is not
none_at : (n l : ℕ) → l ≤ n → cond (nat_lt n l) (Some n) None ≡ None
none_at n l past = grind (arith, nat_tests)

-- a name that no place has is first found past the end
past_end : (files : List (List ℕ × List ℕ)) (name : List ℕ) → position (has_name name) files ≡ None → position_or_len (has_name name) files ≡ length files
past_end files name e =
    let first = position_or_len (has_name name) files in
    let test : nat_lt first (length files) ≡ false = none_is_false _ first e in
    let most : first ≤ length files = prefix_len-le-length (λ f. not (has_name name f)) files in
    grind (arith, nat_tests)

-- a place within a list is its first place
first_place : (files : List (List ℕ × List ℕ)) (name : List ℕ) (i : ℕ) → position (has_name name) files ≡ Some i → (i < length files) × (position_or_len (has_name name) files ≡ i)
first_place files name i e =
    let first = position-Some (has_name name) files i ([], []) e in
    (first.0, position_or_len_is (has_name name) files i ([], []) (omega arith) first.2 (λ _. first.1))

-- what is found in the first of two lists is found in both
pub found_in_front : (files more : List (List ℕ × List ℕ)) (name : List ℕ) (i : ℕ) → position (has_name name) files ≡ Some i → position (has_name name) (files ++ more) ≡ Some i
found_in_front files more name i e =
    let (within, place) = first_place files name i e in
    let whole : position_or_len (has_name name) (files ++ more) ≡ i = place_in_both name files more ∙ rw place (grind (arith, nat_tests)) in
    some_at _ _ i whole (omega (arith, length-append files more))

-- what is found in the second alone is found behind the first
pub found_behind : (files more : List (List ℕ × List ℕ)) (name : List ℕ) (i : ℕ) → position (has_name name) files ≡ None → position (has_name name) more ≡ Some i
    → position (has_name name) (files ++ more) ≡ Some (length files + i)
found_behind files more name i e behind =
    let (within, place) = first_place more name i behind in
    let whole : position_or_len (has_name name) (files ++ more) ≡ length files + i = place_in_both name files more ∙ rw (past_end files name e, place) (grind (arith, nat_tests)) in
    some_at _ _ (length files + i) whole (omega (arith, length-append files more))

-- what is found in neither is found nowhere
pub found_nowhere : (files more : List (List ℕ × List ℕ)) (name : List ℕ) → position (has_name name) files ≡ None → position (has_name name) more ≡ None → position (has_name name) (files ++ more) ≡ None
found_nowhere files more name e behind =
    let whole : position_or_len (has_name name) (files ++ more) ≡ length files + length more = place_in_both name files more ∙ rw (past_end files name e, past_end more name behind) (grind (arith, nat_tests)) in
    none_at _ _ (omega (arith, whole, length-append files more))
