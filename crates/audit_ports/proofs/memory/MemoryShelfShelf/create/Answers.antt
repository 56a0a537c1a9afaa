use Rattle.std.proofs.Common.{rules, subst, sym, ap, Some, []}
use Rattle.audit_ports.proofs.Changing.{created}
use Rattle.audit_ports.specs.Shelf.{Sets}
use Rattle.audit_ports.specs.Listed.{listed}
use Rattle.audit_ports.specs.MemoryFiles.{files_of, name_at}
use Rattle.audit_ports.proofs.memory.MemoryShelfShelf.create.Goals as goal

pub returns-in-Ok-clause-creates : goal.returns-in-Ok-clause-creates
returns-in-Ok-clause-creates c = record {
  reading = search rules;
  ok = record {
    writing = ap (λ fs. Some (name_at fs 0)) c.in-Ok.ensures.ok;
    files = subst (λ fs. Sets c.args.name.now [] (files_of (listed c.args.self.now.files)) (files_of fs)) (sym c.in-Ok.ensures.ok) (created c.args.name.now (listed c.args.self.now.files));
  };
  counts = search rules;
  refused = search rules;
  failed = search rules;
}
