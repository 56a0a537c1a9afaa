use Rattle.std.proofs.Common.{◌∙◌, sym, ap, map}
use Rattle.std.specs.List.{list_all}
use Rattle.std.proofs.lemmas.List.Folds.{list_all-map}
use Rattle.clap.specs.Matches.{ids_left}
use Rattle.clap.specs.Walk.{row_of}
use Rattle.clap.specs.Words.{found_of}
use Rattle.audit_words.specs.Line.{is_among}
use Rattle.audit_words.proofs.Ids.{list_all-fails, list_all-passes, list_all-ends}
use Rattle.audit_words.proofs.line.gives_only.Goals as goal

pub loop-id-init : goal.loop-id-init
loop-id-init c =
    let names = map (λ option. option.now) c.args.options.now in
    let entries = (found_of c.args.matches.now).entries.items in
    record {
      next = tt;
      finite = tt;
      left = ap (λ ids. list_all (is_among names) (ids_left ids)) c.into_iter-id-iterator.ensures.into_iter_gives
          ∙ ap (list_all (is_among names)) c.ids-id-items.ensures
          ∙ list_all-map (is_among names) (λ e. e.0.now) entries ∙ sym (list_all-map (λ row. is_among names row.id) row_of entries);
    }

pub returns-then-not-is_among : goal.returns-then-not-is_among
returns-then-not-is_among c =
    let names = map (λ option. option.now) c.args.options.now in
    sym (list_all-fails (is_among names) (ids_left c.loop-id.id-iterator) c.in-Some.id.now c.in-Some.ensures.steps.0 (sym c.if-not-is_among.ensures))
    ∙ c.loop-id.invariant.left

pub loop-id-preserved : goal.loop-id-preserved
loop-id-preserved c =
    let names = map (λ option. option.now) c.args.options.now in
    record {
      next = tt;
      finite = tt;
      left = list_all-passes (is_among names) (ids_left c.loop-id.id-iterator) _ c.in-Some.id.now c.in-Some.ensures.steps.0 c.in-Some.ensures.steps.1 (sym c.if-not-is_among.ensures)
          ∙ c.loop-id.invariant.left;
    }

pub returns : goal.returns
returns c =
    let names = map (λ option. option.now) c.args.options.now in
    sym (list_all-ends (is_among names) (ids_left c.loop-id.id-iterator) c.in-None.ensures.steps.0) ∙ c.loop-id.invariant.left
