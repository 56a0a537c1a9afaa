use Rattle.std.proofs.Common.{rules, ◌≡◌, ℕ, ◌+◌, ◌*◌, ◌%◌, ◌<◌, List, [], ◌∷◌, ◌++◌, length, true, subst, sym, ap, ◌∙◌, arith}
use Rattle.std.specs.Prelude.{is_ok}
use Rattle.std.proofs.lemmas.List.{get_or_default}
use Rattle.stale_model.specs.declared.Kind.TheVariants.{Write}
use Rattle.stale_model.specs.declared.Line.{Line}
use Rattle.seeded_words.specs.Words.{word}
use Rattle.seeded_words.specs.Drawn.{HasDrawn}
use Rattle.history_gen.specs.Generated.{values_written, next_line, lines_of}
use Rattle.history_gen.specs.LastWrites.{AreLastThree, AreLastWrites}
use Rattle.history_gen.specs.Generator.{HasMade}
use Rattle.history_gen.proofs.Lines.{lines_of-next}
use Rattle.history_gen.proofs.Generator.add_line.Goals as goal

pub returns : goal.returns
returns c = λ seed n number made.
    let before = lines_of seed c.args.keys n in
    let line = c.line_on-line.result in
    let key = c.draw.result % c.args.keys in
    let first = c.draw.ensures.word seed (3 * n) made.words in
    let one = c.draw.ensures.drawn seed (3 * n) made.words in
    let second = c.draw-kind_word.ensures.word seed (3 * n + 1) one in
    let two : HasDrawn seed (3 * n + 2) c.draw-kind_word.new.self =
    subst (λ (m : ℕ). HasDrawn seed m c.draw-kind_word.new.self) (omega arith) (c.draw-kind_word.ensures.drawn seed (3 * n + 1) one) in
    let third = c.draw-age_word.ensures.word seed (3 * n + 2) two in
    let there : key < length c.args.self.now.last_writes.items = search rules in
    let last : AreLastThree (values_written key before) c.index.result.now =
    rw (c.index.ensures ∙ get_or_default c.args.self.now.last_writes.items key _ [] there) (made.last_writes key there) in
    let is : line ≡ next_line c.args.keys c.args.i before (word seed (3 * n)) (word seed (3 * n + 1)) (word seed (3 * n + 2)) =
    rw (← first, ← second, ← third) (c.line_on-line.ensures.line (values_written key before) last) in
    let next = subst (λ (i : ℕ). line ≡ next_line c.args.keys i before (word seed (3 * n)) (word seed (3 * n + 1)) (word seed (3 * n + 2))) number is in
    let more : before ++ line ∷ [] ≡ lines_of seed c.args.keys (n + 1) = lines_of-next seed c.args.keys n line next in
    let written : line.kind ≡ Write → 0 < line.value = λ write. let e = c.line_on-line.ensures.written write in omega arith in
    let noted = c.note.ensures.noted before written made.last_writes in
    let went : is_ok c.push.result ≡ true = sym c.map_err.ensures.variant ∙ ap is_ok c.in_ok-map_err.was in
    let pushed = rw went at c.push.ensures.items in
    subst (λ (i : ℕ). HasMade seed c.args.keys i record { words = c.draw-age_word.new.self; last_writes = c.note.new.last_writes; lines = c.push.new.self }) (sym number)
    record {
      words = subst (λ (m : ℕ). HasDrawn seed m c.draw-age_word.new.self) (omega arith) (c.draw-age_word.ensures.drawn seed (3 * n + 2) two);
      slots = c.note.ensures.size ∙ made.slots;
      last_writes = subst (λ (ls : List Line). AreLastWrites ls c.note.new.last_writes.items) more noted;
      lines = pushed ∙ (ap (λ (ls : List Line). ls ++ line ∷ []) made.lines ∙ more);
    }
