-- How a world is configured.
use Rattle.std.specs.Prelude.{ℕ, ◌^◌, ◌<◌, ◌≤◌}
use Rattle.rtpwire.specs.Session.{HasSsrcs}
use Rattle.sender.specs.Config.{Config as Sending, config as sender_config}
use Rattle.receiver.specs.Config.{Config as Receiving, IsConfig as IsReceiving, delayed as delayed_receiver}

pub record Config : Type 0 where
  pub receiver : Receiving  -- the session, and how the receiver waits and asks
  pub first : ℕ  -- the sequence number of the first send
  pub repair_first : ℕ  -- and of the first retransmission
  pub history : ℕ  -- how many of the latest contents the sender keeps
  pub window : ℕ  -- how many places the receiver keeps
  pub repeats : ℕ  -- how often a content may be sent again

abbrev pub config : Receiving → (first repair_first history window repeats : ℕ) → Config
config receiver first repair_first history window repeats =
    record {
      receiver = receiver;
      first = first;
      repair_first = repair_first;
      history = history;
      window = window;
      repeats = repeats;
    }

-- the same world, but that its receiver has a delay
abbrev pub delayed : Config → (delay : ℕ) → Config
delayed c delay = record c { receiver = delayed_receiver c.receiver delay }

-- how its sender works
abbrev pub sending : Config → Sending
sending c = sender_config c.receiver.session c.first c.repair_first c.repeats

-- the limits of a world
pub record IsConfig (c : Config) : Type 0 where
  pub receiver : IsReceiving c.receiver
  pub apart : HasSsrcs c.receiver.session
  pub first : c.first < 2 ^ 16
  pub repair_first : c.repair_first < 2 ^ 16
  pub some_history : 1 ≤ c.history
  pub history : c.history ≤ 8192
  pub some_window : 1 ≤ c.window
  pub window : c.window ≤ 8192
  pub repeats : 1 ≤ c.repeats
