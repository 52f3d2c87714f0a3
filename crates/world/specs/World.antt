-- A world as its callers see it.
use Rattle.std.specs.Prelude.{List, [], None, reverse}
use Rattle.stores.specs.Past.{empty_past}
use Rattle.stores.specs.Span.{empty_span}
use Rattle.sender.specs.Sender.{Sending, new_sending, state_of as sender_of}
use Rattle.receiver.specs.Receiver.{Receiving, state_of}
use Rattle.world.specs.declared.event.Event.{Event}
use Rattle.world.specs.declared.event.Entry.{Entry}
use Rattle.world.specs.Config.{Config, sending}
use Rattle.world.specs.Answers.{Item, WorldState, Answers}

pub record Recorded : Type 0 where
  pub config : Config
  pub sender : Sending
  pub wire : List Item
  pub receiver : Receiving
  pub log : List Entry  -- the oldest first

-- a world in which nothing happened
abbrev pub empty : Config → Recorded
empty c =
    record {
      config = c;
      sender = new_sending (sending c) (empty_past c.history);
      wire = [];
      receiver = record { config = c.receiver; span = empty_span c.window; learnt = None };
      log = [];
    }

-- both ends and the wire
abbrev pub stand_at : Sending → List Item → Receiving → WorldState
stand_at sender wire receiver = record { sender = sender_of sender; wire = wire; receiver = state_of receiver }

abbrev pub stand_of : Recorded → WorldState
stand_of w = stand_at w.sender w.wire w.receiver

-- the log answers some events, and this is what it leaves
pub record IsLogged (c : Config) (log : List Entry) (end : WorldState) : Type 0 where
  pub events : List Event
  pub answers : Answers c (reverse events) (reverse log) end
