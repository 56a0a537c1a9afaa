use Rattle.std.proofs.Common.{◌≡◌, map}
use Rattle.std.specs.List.{list_all}
use Rattle.clap.specs.Matches.{ids_left}
use Rattle.clap.specs.Words.{found_of, rows_of}
use Rattle.audit_words.specs.Line.{is_among, gives_only}
use Rattle.audit_words.proofs.line.gives_only.Given as goal

abbrev pub invariant-loop-id : goal.invariant-loop-id
invariant-loop-id l = record {
  next : (goal.iterator-loop-id).can_next l.id-iterator;
  finite : (goal.iterator-loop-id).is_finite l.id-iterator;
  left : list_all (is_among (map (λ option. option.now) l.options)) (ids_left l.id-iterator)
      ≡ gives_only (map (λ option. option.now) l.options) (rows_of (found_of l.matches));
}
