use Rattle.std.proofs.Common.{take, drop, sym}
use Rattle.std.proofs.lemmas.List.{take-append-drop}
use Rattle.commands.proofs.output.StreamSink.push.Goals as goal

pub returns-in-Err : goal.returns-in-Err
returns-in-Err g c =
    let wrote = c.in-Err.ensures.err in
    record { front = take wrote.0 c.args.text.now; rest = drop wrote.0 c.args.text.now; parts = sym (take-append-drop wrote.0 c.args.text.now); appended = wrote.2 }
