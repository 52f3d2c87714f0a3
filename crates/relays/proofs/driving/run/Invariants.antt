use Rattle.std.proofs.Common.{◌≡◌, List, length}
use Rattle.rtpwire.specs.declared.limits.TheConstants.{MAX_DATAGRAM}
use Rattle.relays.specs.Running.{Deed, GoesOn}
use Rattle.relays.proofs.driving.run.Given as goal

-- what was done so far is a run, of as many deeds as turns of the loop
abbrev pub invariant-loop-count : goal.invariant-loop-count
invariant-loop-count g l =
    record {
      ran : (deeds : List Deed) × GoesOn g.R.Relay.hears g.R.Relay.speaks g.R.Relay.done l.fn.relay (g.O.Outside.traffic l.fn.outside) deeds l.relay l.now (g.O.Outside.traffic l.outside) × (length deeds ≡ l._count);
      room : length l.out ≡ MAX_DATAGRAM;
    }
