use Rattle.std.proofs.Common.{◌≡◌, ap, sym, subst, ◌∙◌}
use Rattle.world.specs.declared.event.End.TheVariants.{Receiver}
use Rattle.world.specs.declared.event.Event.TheVariants.{Send}
use Rattle.world.specs.Schedule.{numbered_content}
use Rattle.rtpwire.specs.declared.content.Content.{Content}
use Rattle.runs.specs.Scene.{Happens, scene_of}
use Rattle.runs.specs.Exchange.{Exchanges, IsInterrupted}
use Rattle.runs.specs.Drive.{plan_of, sending}
use Rattle.runs.proofs.TrafficSteps.{on_err}
use Rattle.runs.proofs.DriveSteps.{stops_here, send_reaches, send_stops, drop_reaches}
use Rattle.runs.proofs.driving.send_one.Goals as goal

pub returns-in_err-happen-clause-err : goal.returns-in_err-happen-clause-err
returns-in_err-happen-clause-err g c =
    on_err c.from_residual.result _
    (λ packets.
    stops_here c.args.world.now.config (plan_of packets c.args.drop.now) (sending c.args.number) (scene_of c.args.world.now) (scene_of c.happen.new.world) (g.L.Link.traffic c.args.link.now) (g.L.Link.traffic c.args.link.now)
    (ap scene_of c.in_err-happen.ensures.err) (λ i. g.L.Link.traffic c.args.link.now))

pub returns-in_err-exchange-clause-err : goal.returns-in_err-exchange-clause-err
returns-in_err-exchange-clause-err g c =
    let old = scene_of c.args.world.now in
    let new = scene_of c.exchange.new.world in
    let a = g.L.Link.traffic c.args.link.now in
    let b = g.L.Link.traffic c.exchange.new.link in
    let content : c.numbered_content.result ≡ numbered_content c.args.number = c.numbered_content.ensures ∙ ap numbered_content c.from-moment.ensures in
    let breaks = subst (λ (x : Content). IsInterrupted c.args.world.now.config (Send x 0) Receiver old a new b) content c.in_err-exchange.ensures.err in
    on_err c.from_residual-in_err-exchange.result _
    (λ packets. send_stops c.args.world.now.config (plan_of packets c.args.drop.now) c.args.number old new a b (sym c.contains.ensures.value ∙ c.if-contains.false) breaks)

pub returns-in_ok-happen-clause-done : goal.returns-in_ok-happen-clause-done
returns-in_ok-happen-clause-done g c packets =
    let old = scene_of c.args.world.now in
    let new = scene_of c.happen.new.world in
    let content : c.numbered_content.result ≡ numbered_content c.args.number = c.numbered_content.ensures ∙ ap numbered_content c.from-moment.ensures in
    let happens = subst (λ (x : Content). Happens c.args.world.now.config old (Send x 0) c.in_ok-happen.ensures.happens.0 new) content c.in_ok-happen.ensures.happens.1 in
    drop_reaches c.args.world.now.config (plan_of packets c.args.drop.now) c.args.number c.in_ok-happen.ensures.happens.0 old new (g.L.Link.traffic c.args.link.now) (sym c.contains.ensures.value ∙ c.if-contains.true) happens

pub returns-in_ok-exchange-clause-done : goal.returns-in_ok-exchange-clause-done
returns-in_ok-exchange-clause-done g c packets =
    let old = scene_of c.args.world.now in
    let new = scene_of c.exchange.new.world in
    let a = g.L.Link.traffic c.args.link.now in
    let b = g.L.Link.traffic c.exchange.new.link in
    let content : c.numbered_content.result ≡ numbered_content c.args.number = c.numbered_content.ensures ∙ ap numbered_content c.from-moment.ensures in
    let went = c.in_ok-exchange.field-0 in
    let exchanged = subst (λ (x : Content). Exchanges c.args.world.now.config (Send x 0) Receiver c.from-moment.result old a went new b) content c.in_ok-exchange.ensures.done in
    send_reaches c.args.world.now.config (plan_of packets c.args.drop.now) c.args.number went old new a b (sym c.contains.ensures.value ∙ c.if-contains.false)
    (subst (λ n. Exchanges c.args.world.now.config (Send (numbered_content c.args.number) 0) Receiver n old a went new b) c.from-moment.ensures exchanged)
