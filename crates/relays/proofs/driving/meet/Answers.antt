use Rattle.relays.proofs.Going.{meets_nothing, meets_something}
use Rattle.relays.proofs.driving.meet.Goals as goal

pub returns-in_default-clause-ok : goal.returns-in_default-clause-ok
returns-in_default-clause-ok g c old was spoken silent undone =
    meets_nothing g.R.Relay.hears g.R.Relay.speaks g.R.Relay.done old was c.next_moment.result c.args.relay.now c.in_ok-meeting.meeting.now c.in_ok-meeting.meeting.came c.wait.new.room (g.O.Outside.traffic c.args.outside.now) (g.O.Outside.traffic c.wait.new.self)
    (record { out = spoken; nothing = silent; undone = undone; rests = c.next_moment.ensures }) c.in_default.is c.in_ok-meeting.ensures.met

pub returns-in-Some-clause-ok : goal.returns-in-Some-clause-ok
returns-in-Some-clause-ok g c old was spoken silent undone =
    meets_something g.R.Relay.hears g.R.Relay.speaks g.R.Relay.done old was c.next_moment.result c.args.relay.now c.in_ok-meeting.meeting.now c.in_ok-meeting.meeting.came c.in-Some.side c.in-Some.from c.wait.new.room c.as_slice.result.now c.hear-turn.result c.hear-turn.new.out c.hear-turn.new.self
    (g.O.Outside.traffic c.args.outside.now) (g.O.Outside.traffic c.wait.new.self) (g.O.Outside.traffic c.deliver.new.outside)
    (record { out = spoken; nothing = silent; undone = undone; rests = c.next_moment.ensures })
    c.in-Some.is c.in_ok-meeting.ensures.met c.as_slice.ensures.value c.hear-turn.ensures.hears c.deliver.ensures
