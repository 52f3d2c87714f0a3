use Rattle.std.proofs.Common.{length, refl}
use Rattle.runs.proofs.TrafficSteps.{on_err, on_wire_at, is_read, begun_put}
use Rattle.runs.proofs.exchange.put.Goals as goal

pub unwrap-requires : goal.unwrap-requires
unwrap-requires g c = is_read (length c.args.world.now.wire) c.args.index c.datagram.result _ c.requires.there c.datagram.ensures

pub returns-in_err-send-clause-err : goal.returns-in_err-send-clause-err
returns-in_err-send-clause-err g c =
    let found = c.unwrap.result in
    let on = on_wire_at c.args.world.now.wire c.args.index found (rw c.unwrap.ensures at c.datagram.ensures) in
    on_err c.from_residual.result _ (begun_put c.args.to c.args.index c.args.world.now.wire (record { items = found.1.now }) found.1.now (g.L.Link.traffic c.args.link.now) (g.L.Link.traffic c.send.new.self) refl on c.in_err-send.ensures.may)

pub returns-clause-put : goal.returns-clause-put
returns-clause-put g c =
    let found = c.unwrap.result in
    let on = on_wire_at c.args.world.now.wire c.args.index found (rw c.unwrap.ensures at c.datagram.ensures) in
    (record { items = found.1.now }, on, c.in_ok-send.ensures.put)
