-- How soon packets are retransmitted again, as what is measured of the path says.
use Rattle.std.specs.Prelude.{◌≡◌, ℕ, List, Option, Some, None}
use Rattle.std.specs.Option.{option_map}
use Rattle.timing.specs.ResendInterval.{first_resends, heard_after, interval_at, resent_at, sent_at}
use Rattle.timing.specs.declared.resend_interval.ResendInterval.{ResendInterval}
use Rattle.stores.specs.Past.{Past}
use Rattle.sender.specs.Config.{Config}
use Rattle.endpoint.specs.Answering.{TellsAnswer}
use Rattle.endpoint.specs.declared.resend_meter.ResendMeter.{ResendMeter}
use Rattle.endpoint.specs.declared.resend_rule.ResendRule.{ResendRule}
use Rattle.endpoint.specs.declared.resend_rule.Times.{Times}

abbrev pub meter_fixed : ResendMeter
meter_fixed = record { interval = None }

abbrev pub meter_following : ResendMeter
meter_following = record { interval = Some first_resends }

abbrev pub meter_sent : ResendMeter → (now : ℕ) → ResendMeter
meter_sent m now = record { interval = option_map (λ i. sent_at i now) m.interval }

abbrev pub meter_resent : ResendMeter → (now : ℕ) → ResendMeter
meter_resent m now = record { interval = option_map (λ i. resent_at i now) m.interval }

abbrev pub heard_by : (answer : Option ℕ) → (now : ℕ) → ResendInterval → ResendInterval
heard_by None now i = i
heard_by (Some took) now i = heard_after i took now

-- a datagram is heard of an endpoint with such a history, and such moments of its packets
pub record HearsAnswer (c : Config) (past : Past) (cells : List Times) (octets : List ℕ) (now : ℕ) (i : ResendInterval) (new : Option ResendInterval) : Type 0 where
  pub answer : Option ℕ
  pub tells : TellsAnswer c past cells octets now answer
  pub heard : new ≡ Some (heard_by answer now i)

abbrev pub HearsTime : Config → Past → List Times → (octets : List ℕ) → (now : ℕ) → (old new : Option ResendInterval) → Type 0
HearsTime c past cells octets now None new = new ≡ None
HearsTime c past cells octets now (Some i) new = HearsAnswer c past cells octets now i new

-- the rule that holds at a moment
abbrev pub rule_by : (interval : Option ResendInterval) → ResendRule → (now : ℕ) → ResendRule
rule_by None rule now = rule
rule_by (Some i) rule now = record rule { min_resend = interval_at i rule.min_resend now }
