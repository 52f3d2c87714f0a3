-- How a sender is configured.
use Rattle.std.specs.Prelude.{ℕ, ◌<◌, ◌≤◌, Bool, true, false}
use Rattle.rtpwire.specs.Session.{Streams}

pub record Config : Type 0 where
  pub session : Streams
  pub first : ℕ  -- the sequence number of the first packet
  pub repair_first : ℕ  -- that of the first retransmission
  pub repeats : ℕ  -- how often one packet may be retransmitted
  pub any_reporter : Bool  -- whether every reporter is taken as the session's receiver

abbrev pub config_of : Streams → (first repair_first repeats : ℕ) → (any_reporter : Bool) → Config
config_of session first repair_first repeats any_reporter =
    record {
      session = session;
      first = first;
      repair_first = repair_first;
      repeats = repeats;
      any_reporter = any_reporter;
    }

-- a sender that listens to the session's receiver alone
abbrev pub config : Streams → (first repair_first repeats : ℕ) → Config
config session first repair_first repeats = config_of session first repair_first repeats false

-- the same sender, but every reporter is taken as the session's receiver
abbrev pub hearing_anyone : Config → Config
hearing_anyone c = config_of c.session c.first c.repair_first c.repeats true

-- a packet may be retransmitted, as often as an octet counts
pub record IsConfig (c : Config) : Type 0 where
  pub some : 0 < c.repeats
  pub counted : c.repeats ≤ 255
