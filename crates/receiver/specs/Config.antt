-- How a receiver is configured.
use Rattle.std.specs.Prelude.{ℕ, ◌<◌, Bool, true, false}
use Rattle.rtpwire.specs.Session.{Streams}

pub record Config : Type 0 where
  pub session : Streams
  pub patience : ℕ  -- how long a missing place is waited for, in milliseconds
  pub delay : ℕ  -- how long a place is missing before it is asked for the first time, in milliseconds; 0 is not at all
  pub retry : ℕ  -- how long until it is asked for again, in milliseconds
  pub asks : ℕ  -- how often it may be asked for
  pub learns : Bool  -- whether it learns the SSRC of the retransmissions, and does not use the session's

abbrev pub config_with : Streams → (patience delay retry asks : ℕ) → (learns : Bool) → Config
config_with session patience delay retry asks learns =
    record {
      session = session;
      patience = patience;
      delay = delay;
      retry = retry;
      asks = asks;
      learns = learns;
    }

-- a receiver that asks for a place as soon as it is missing
abbrev pub config_of : Streams → (patience retry asks : ℕ) → (learns : Bool) → Config
config_of session patience retry asks learns = config_with session patience 0 retry asks learns

-- the same receiver with another delay, and with other times
abbrev pub delayed : Config → (delay : ℕ) → Config
delayed c delay = record c { delay = delay }

abbrev pub timed : Config → (patience delay retry : ℕ) → Config
timed c patience delay retry = config_with c.session patience delay retry c.asks c.learns

-- a receiver that uses the session's SSRC of the retransmissions, and one that learns it
abbrev pub config : Streams → (patience retry asks : ℕ) → Config
config session patience retry asks = config_of session patience retry asks false

abbrev pub learning : Streams → (patience retry asks : ℕ) → Config
learning session patience retry asks = config_of session patience retry asks true

-- a place may be asked for, and is not asked for again at once
pub record IsConfig (c : Config) : Type 0 where
  pub retry : 0 < c.retry
  pub asks : 0 < c.asks
