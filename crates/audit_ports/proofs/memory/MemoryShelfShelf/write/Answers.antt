use Rattle.std.proofs.Common.{rules, arith, subst, sym, refl, ◌<◌, length, length-append, ◌≡◌, true}
use Rattle.audit_ports.proofs.Changing.{still_opened, is_written, part_written, whole_written, still_written}
use Rattle.audit_ports.specs.Listed.{listed}
use Rattle.audit_ports.specs.MemoryFiles.{IsOpened}
use Rattle.audit_ports.proofs.memory.MemoryShelfShelf.write.Goals as goal

pub invariant_of-self-in-Ok : goal.invariant_of-self-in-Ok
invariant_of-self-in-Ok c = record {
  cuts_some = c.args.self.now.cuts_some;
  open_file = λ opened is. subst (λ fs. IsOpened fs opened) (sym c.in-Ok.ensures.ok)
      (still_opened (listed c.args.self.now.files) c.args.piece.now opened (c.args.self.now.open_file opened is));
  written_file = λ e. c.append.ensures.some;
}

pub invariant_of-self-in-Err : goal.invariant_of-self-in-Err
invariant_of-self-in-Err c = record {
  cuts_some = c.args.self.now.cuts_some;
  open_file = λ opened is. subst (λ fs. IsOpened fs opened) (sym c.in-Err.ensures.err) (c.args.self.now.open_file opened is);
  written_file = λ e. search rules;
}

pub returns-then-count-clause-writes : goal.returns-then-count-clause-writes
returns-then-count-clause-writes c =
    let w : c.args.self.now.is_writing ≡ true = is_written _ (listed c.args.self.now.files) c.requires in
    let some : 0 < length (listed c.args.self.now.files) = omega (arith, c.args.self.now.written_file w, c.args.self.now.files.created.ok.0, length-append c.args.self.now.files.created.items c.args.self.now.files.given) in
    record {
      reading = search rules;
      ok = search rules;
      writing = search rules;
      counts = search rules;
      refused = part_written c.args.self.now.is_writing (listed c.args.self.now.files) _ c.args.piece.now some refl;
      failed = search rules;
    }

pub returns-in-Err-clause-writes : goal.returns-in-Err-clause-writes
returns-in-Err-clause-writes c =
    let w : c.args.self.now.is_writing ≡ true = is_written _ (listed c.args.self.now.files) c.requires in
    let some : 0 < length (listed c.args.self.now.files) = omega (arith, c.args.self.now.written_file w, c.args.self.now.files.created.ok.0, length-append c.args.self.now.files.created.items c.args.self.now.files.given) in
    record {
      reading = search rules;
      ok = search rules;
      writing = search rules;
      counts = search rules;
      refused = part_written c.args.self.now.is_writing (listed c.args.self.now.files) _ c.args.piece.now some c.in-Err.ensures.err;
      failed = search rules;
    }

pub returns-in-Ok-clause-writes : goal.returns-in-Ok-clause-writes
returns-in-Ok-clause-writes c =
    let w : c.args.self.now.is_writing ≡ true = is_written _ (listed c.args.self.now.files) c.requires in
    let some : 0 < length (listed c.args.self.now.files) = omega (arith, c.args.self.now.written_file w, c.args.self.now.files.created.ok.0, length-append c.args.self.now.files.created.items c.args.self.now.files.given) in
    record {
      reading = search rules;
      ok = whole_written c.args.self.now.is_writing (listed c.args.self.now.files) _ c.args.piece.now some c.in-Ok.ensures.ok;
      writing = still_written c.args.self.now.is_writing (listed c.args.self.now.files) _ c.args.piece.now some c.in-Ok.ensures.ok;
      counts = search rules;
      refused = search rules;
      failed = search rules;
    }
