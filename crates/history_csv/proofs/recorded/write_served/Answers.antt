use Rattle.std.proofs.Common.{◌≡◌, rules}
use Rattle.std.specs.Fmt.{decimal}
use Rattle.stale_model.specs.Texts.{ask_text}
use Rattle.history_csv.proofs.RecordedRows.{row_text-journal}
use Rattle.history_csv.proofs.recorded.write_served.Goals as goal

pub returns-clause-bytes : goal.returns-clause-bytes
returns-clause-bytes c =
    let request = c.args.served.now.request in
    let reply = c.args.served.now.reply in
    let number : c.as_bytes.result.now ≡ decimal c.args.replica = search rules in
    let serve : c.as_bytes-2.result.now ≡ decimal reply.serve = search rules in
    let client : c.as_bytes-3.result.now ≡ decimal request.client = search rules in
    let seq : c.as_bytes-4.result.now ≡ decimal request.seq = search rules in
    let start : c.as_bytes-5.result.now ≡ decimal request.start = search rules in
    let ask : c.as_bytes-6.result.now ≡ ask_text request.ask = search rules in
    let stamp : c.as_bytes-7.result.now ≡ decimal reply.stamp = search rules in
    rw (number, serve, client, seq, start, c.name_text.ensures, ask, c.value_text.ensures, stamp, row_text-journal c.args.replica c.args.served.now) at c.write_record.ensures.bytes
