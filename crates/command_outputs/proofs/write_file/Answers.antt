use Rattle.command_outputs.proofs.WritingFiles.{finished_whole}
use Rattle.command_outputs.proofs.write_file.Goals as goal

pub returns : goal.returns
returns g c =
    let created = c.in_ok-create.ensures in
    let written = c.in_ok-write.ensures in
    finished_whole c.args.name.now c.args.text.now (g.S.Shelf.shown c.args.shelf.now) (g.S.Shelf.shown c.create.new.self) (g.S.Shelf.shown c.write.new.self) (g.S.Shelf.shown c.finish.new.self)
    c.finish.result created.ok created.counts created.reading written.ok written.counts written.reading c.finish.ensures
