-- Files in memory that are created and written.
use Rattle.std.proofs.Common.{rules, ◌≡◌, ◌≢◌, ◌<◌, ◌≤◌, ℕ, Bool, true, false, cond, List, [], ◌∷◌, ◌++◌, Some, length, option_map, slice_get, zero, suc, length-append, append-nil, IsSome, IfSome, refl, sym, ◌∙◌, ap, subst, arith}
use Rattle.std.specs.FinMap.{get-insert}
use Rattle.std.specs.List.{position_or_len}
use Rattle.std.specs.Cmp.Lexicographic.{slice_cmp, nat_list_cmp_total}
use Rattle.std.specs.Ordering.{nat_cmp, eq_by_cmp}
use Rattle.std.proofs.lemmas.Map.Text.{is_eq-slice_cmp}
use Rattle.std.proofs.lemmas.Slice.Eq.{bytes_eq-Decides}
use Rattle.audit_ports.specs.Shelf.{Sets, Extends, ExtendsByPrefix, WhereTold, file_at}
use Rattle.audit_ports.specs.MemoryFiles.{files_of, has_name, with_first_longer, IsOpened, name_at, bytes_at, writing_of}
use Rattle.std.proofs.lemmas.Option.{slice_get-get_or}
use Rattle.std.proofs.lemmas.Bool.{false_from_ne_true}
use Rattle.audit_ports.proofs.Finding.{file_at-place}
use Rattle.audit_ports.specs.declared.memory.Opened.{Opened}

-- a map ties a name with itself
same_name : (name : List ℕ) → eq_by_cmp (slice_cmp nat_cmp) name name ≡ true
same_name name = is_eq-slice_cmp name name ∙ (bytes_eq-Decides name name).1 refl

-- and no two names that differ
other_name : (other name : List ℕ) → other ≢ name → eq_by_cmp (slice_cmp nat_cmp) other name ≡ false
other_name other name apart = is_eq-slice_cmp other name ∙ false_from_ne_true _ (λ e. apart ((bytes_eq-Decides other name).0 e))

-- a list of files has the first one's bytes under its name
first_is : (name bytes : List ℕ) (files : List (List ℕ × List ℕ)) → file_at (files_of ((name, bytes) ∷ files)) name ≡ Some bytes
first_is name bytes files = get-insert nat_list_cmp_total (files_of files) name bytes name ∙ ap (λ b. cond b (Some bytes) (file_at (files_of files) name)) (same_name name)

-- and what the others have under another name
first_isnt : (name bytes other : List ℕ) (files : List (List ℕ × List ℕ)) → other ≢ name → file_at (files_of ((name, bytes) ∷ files)) other ≡ file_at (files_of files) other
first_isnt name bytes other files apart =
    get-insert nat_list_cmp_total (files_of files) name bytes other ∙ ap (λ b. cond b (Some bytes) (file_at (files_of files) other)) (other_name other name apart)

-- an empty file in front stands for all others of its name
pub created : (name : List ℕ) (files : List (List ℕ × List ℕ)) → Sets name [] (files_of files) (files_of ((name, []) ∷ files))
created name files = record { there = first_is name [] files; others = λ other apart. first_isnt name [] other files apart }

-- a piece appended to the first file extends it
pub extended : (files : List (List ℕ × List ℕ)) (piece : List ℕ) → 0 < length files → Extends (name_at files 0) piece (files_of files) (files_of (with_first_longer files piece))
extended [] piece some = absurd (omega arith)
extended (file ∷ files) piece some = record {
  bytes = file.1;
  was = first_is file.0 file.1 files;
  sets = record {
    there = first_is file.0 (file.1 ++ piece) files;
    others = λ other apart. first_isnt file.0 (file.1 ++ piece) other files apart ∙ sym (first_isnt file.0 file.1 other files apart);
  };
}

-- the names stay where they were
names_stay : (name : List ℕ) (files : List (List ℕ × List ℕ)) (piece : List ℕ) → position_or_len (has_name name) (with_first_longer files piece) ≡ position_or_len (has_name name) files
names_stay name [] piece = refl
names_stay name (file ∷ files) piece = refl

-- the file at a place where its name is first found is the one of that name
first_found : (files : List (List ℕ × List ℕ)) (i : ℕ) → i < length files → position_or_len (has_name (name_at files i)) files ≡ i
    → file_at (files_of files) (name_at files i) ≡ Some (bytes_at files i)
first_found files i within at =
    file_at-place files (name_at files i) ∙ ap (λ n. option_map (λ (f : List ℕ × List ℕ). f.1) (slice_get files n)) at
    ∙ ap (option_map (λ (f : List ℕ × List ℕ). f.1)) (slice_get-get_or files i ([], []) within)

-- a first file that gets longer leaves all places as they were
module _ (file : List ℕ × List ℕ) (files : List (List ℕ × List ℕ)) (piece : List ℕ) where
  longer : List (List ℕ × List ℕ)
  longer = with_first_longer (file ∷ files) piece

  name_same : (i : ℕ) → name_at longer i ≡ name_at (file ∷ files) i
  unfolding longer
  name_same zero = refl
  name_same (suc i) = refl

  bytes_more : (i : ℕ) → length (bytes_at (file ∷ files) i) ≤ length (bytes_at longer i)
  unfolding longer
  bytes_more zero = omega (arith, length-append file.1 piece)
  bytes_more (suc i) = omega arith

  as_many : length longer ≡ length (file ∷ files)
  unfolding longer
  as_many = refl

  longer_opened : (opened : Opened) → IsOpened (file ∷ files) opened → IsOpened longer opened
  unfolding longer
  longer_opened opened is =
      let within : opened.index < length longer = omega (arith, is.within, as_many) in
      let earliest : position_or_len (has_name (name_at longer opened.index)) longer ≡ opened.index =
      ap (λ n. position_or_len (has_name n) longer) (name_same opened.index) ∙ names_stay (name_at (file ∷ files) opened.index) (file ∷ files) piece ∙ is.earliest in
      record {
        within = within;
        place = omega (arith, is.place, bytes_more opened.index);
        first = first_found longer opened.index within earliest;
        earliest = earliest;
      }

-- what is open stays so where the first file gets longer
pub still_opened : (files : List (List ℕ × List ℕ)) (piece : List ℕ) (opened : Opened) → IsOpened files opened → IsOpened (with_first_longer files piece) opened
unfolding longer
still_opened [] piece opened is = is
still_opened (file ∷ files) piece opened is = longer_opened file files piece opened is

-- nothing appended to the first file leaves all as it is
pub unchanged : (files : List (List ℕ × List ℕ)) → 0 < length files → Extends (name_at files 0) [] (files_of files) (files_of files)
unchanged [] some = absurd (omega arith)
unchanged (file ∷ files) some = record {
  bytes = file.1;
  was = first_is file.0 file.1 files;
  sets = record {
    there = first_is file.0 file.1 files ∙ ap Some (sym (append-nil file.1));
    others = λ other apart. refl;
  };
}

-- where a file is being written, it is the first
pub is_written : (b : Bool) (files : List (List ℕ × List ℕ)) → IsSome (writing_of b files) → b ≡ true
is_written true files some = refl
is_written false files some = search rules

module _ (b : Bool) (files new : List (List ℕ × List ℕ)) (piece : List ℕ) (some : 0 < length files) where
  -- no byte of a piece was appended to the file that is being written
  pub part_written : new ≡ files → IfSome (writing_of b files) (λ name. ExtendsByPrefix name piece (Some (files_of files)) (Some (files_of new)))
  part_written is = elim b as (λ x. IfSome (writing_of x files) (λ name. ExtendsByPrefix name piece (Some (files_of files)) (Some (files_of new)))) [
    | true ↦ (0, subst (λ fs. Extends (name_at files 0) [] (files_of files) (files_of fs)) (sym is) (unchanged files some))
    | false ↦ tt
  ]

  -- the whole piece was
  pub whole_written : new ≡ with_first_longer files piece → IfSome (writing_of b files) (λ name. WhereTold (Extends name piece) (Some (files_of files)) (Some (files_of new)))
  whole_written is = elim b as (λ x. IfSome (writing_of x files) (λ name. WhereTold (Extends name piece) (Some (files_of files)) (Some (files_of new)))) [
    | true ↦ subst (λ fs. Extends (name_at files 0) piece (files_of files) (files_of fs)) (sym is) (extended files piece some)
    | false ↦ tt
  ]

  -- and the file is still being written
  pub still_written : new ≡ with_first_longer files piece → writing_of b new ≡ writing_of b files
  still_written is = ap (writing_of b) is ∙ elim b as (λ x. writing_of x (with_first_longer files piece) ≡ writing_of x files) [
    | true ↦ ap Some (first_name files piece some)
    | false ↦ refl
  ]
    where
      first_name : (fs : List (List ℕ × List ℕ)) (p : List ℕ) → 0 < length fs → name_at (with_first_longer fs p) 0 ≡ name_at fs 0
      first_name [] p h = absurd (omega arith)
      first_name (f ∷ fs) p h = refl
