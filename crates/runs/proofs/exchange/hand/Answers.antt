use Rattle.std.proofs.Common.{true, false, [], ◌∷◌, Some, None, refl, sym, subst}
use Rattle.world.specs.World.{Recorded}
use Rattle.runs.specs.declared.link.Transfer.TheVariants.{Put, Receipt, Nothing}
use Rattle.runs.specs.Exchange.{IsHandOverBegun}
use Rattle.runs.proofs.TrafficSteps.{on_err, grows_then, grows_receipt}
use Rattle.runs.proofs.exchange.hand.Goals as goal

-- the put stands, and nothing after it
pub returns-in_err-recv-clause-err : goal.returns-in_err-recv-clause-err
returns-in_err-recv-clause-err g c =
    let put = c.in_ok-put.ensures.put in
    on_err c.from_residual-in_err-recv.result _
    (Put c.args.to put.0 ∷ [], (refl, put.1), grows_then (g.L.Link.traffic c.args.link.now) (g.L.Link.traffic c.put.new.link) (g.L.Link.traffic c.recv.new.self) (Put c.args.to put.0 ∷ []) [] put.2 c.in_err-recv.ensures.nothing)

-- what came was not injected
pub returns-in_err-happen-clause-err : goal.returns-in_err-happen-clause-err
returns-in_err-happen-clause-err g c =
    let put = c.in_ok-put.ensures.put in
    let begun = Put c.args.to put.0 ∷ Receipt c.args.to c.recv.new.into ∷ [] in
    on_err c.from_residual-in_err-happen.result _ (
      begun,
      subst (λ (w : Recorded). IsHandOverBegun c.args.to c.args.index w.wire begun) (sym c.in_err-happen.ensures.err) (refl, put.1, refl),
      grows_receipt c.in_ok-recv.field-0 true c.args.to put.0 c.recv.new.into (g.L.Link.traffic c.args.link.now) (g.L.Link.traffic c.put.new.link) (g.L.Link.traffic c.recv.new.self) c.if-branch.true put.2 c.in_ok-recv.ensures.came,
    )

pub returns-in_ok-happen-clause-hands : goal.returns-in_ok-happen-clause-hands
returns-in_ok-happen-clause-hands g c =
    let put = c.in_ok-put.ensures.put in (
      Put c.args.to put.0 ∷ Receipt c.args.to c.recv.new.into ∷ [],
      record { datagram = put.0; on_wire = put.1; came = Some c.recv.new.into; moved_is = refl; injects = c.in_ok-happen.ensures.happens },
      grows_receipt c.in_ok-recv.field-0 true c.args.to put.0 c.recv.new.into (g.L.Link.traffic c.args.link.now) (g.L.Link.traffic c.put.new.link) (g.L.Link.traffic c.recv.new.self) c.if-branch.true put.2 c.in_ok-recv.ensures.came,
    )

pub returns-else-branch-clause-hands : goal.returns-else-branch-clause-hands
returns-else-branch-clause-hands g c =
    let put = c.in_ok-put.ensures.put in (
      Put c.args.to put.0 ∷ Nothing c.args.to ∷ [],
      record { datagram = put.0; on_wire = put.1; came = None; moved_is = refl; injects = refl },
      grows_receipt c.in_ok-recv.field-0 false c.args.to put.0 c.recv.new.into (g.L.Link.traffic c.args.link.now) (g.L.Link.traffic c.put.new.link) (g.L.Link.traffic c.recv.new.self) c.if-branch.false put.2 c.in_ok-recv.ensures.came,
    )
