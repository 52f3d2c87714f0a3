-- The configurations that C says, and which of their checks fails first: the types (51), the SSRCs (52), and the limits
-- of the end and of its store (53).
use Rattle.std.specs.Prelude.{ℕ, zero, suc, ◌<◌, ◌≤◌, ◌==◌, ◌&&◌, if◌then◌else◌, max, min, not, Option, Some, None}
use Rattle.rtpwire.specs.declared.fault.ConfigFault.{ConfigFault}
use Rattle.rtpwire.specs.declared.fault.ConfigFault.TheVariants.{BadType, SameSsrc, BadLimit}
use Rattle.rtpwire.specs.Session.{Streams, HasTypes, HasAnyMediaType, HasSsrcs, streams}
use Rattle.sender.specs.Config as sending
use Rattle.receiver.specs.Config as receiving
use Rattle.endpoint.specs.declared.probation.Probation.{Probation}
use Rattle.endpoint.specs.declared.resend_rule.ResendRule.{ResendRule}
use Rattle.gozdrit.specs.declared.config.SessionFields.{SessionFields}
use Rattle.gozdrit.specs.declared.config.SenderFields.{SenderFields}
use Rattle.gozdrit.specs.declared.config.ReceiverFields.{ReceiverFields}

abbrev pub streams_of : SessionFields → Streams
streams_of s = streams s.media_ssrc s.media_payload_type s.rtx_ssrc s.rtx_payload_type s.receiver_ssrc

-- the payload types, of which that of the media may be a static one where it is said so
abbrev pub HasTypesFor : (any : ℕ) → Streams → Type 0
HasTypesFor zero s = HasTypes s
HasTypesFor (suc n) s = HasAnyMediaType s

-- a store keeps so many
pub record IsCapacity (count : ℕ) : Type 0 where
  pub some : 0 < count
  pub most : count ≤ 8192

-- what follows the path: nothing, the times of asks, or these and how long a place is waited for
abbrev pub IsFollowing : (follows : ℕ) → Type 0
IsFollowing follows = follows ≤ 2

-- the streams make a session
pub record IsSession (s : SessionFields) : Type 0 where
  pub types : HasTypesFor s.any_media_payload_type (streams_of s)
  pub ssrcs : HasSsrcs (streams_of s)

abbrev pub sender_config : SenderFields → sending.Config
sender_config f = sending.config_of (streams_of f.session) f.first_sequence f.rtx_first_sequence f.max_retransmissions (not (f.any_reporter == 0))

pub record HasSenderLimits (f : SenderFields) : Type 0 where
  pub config : sending.IsConfig (sender_config f)
  pub history : IsCapacity f.history

-- how long after it was sent a packet is retransmitted; 0: whenever it is named
abbrev pub deadline_of : ℕ → Option ℕ
deadline_of zero = None
deadline_of (suc n) = Some (suc n)

-- which retransmissions fit the time
abbrev pub rule_of : SenderFields → ResendRule
rule_of f = record { min_resend = f.min_resend; deadline = deadline_of f.deadline }

-- the time between two NACKs for one packet; 0: the usual one
abbrev pub interval_of : (nack_interval : ℕ) → ℕ
interval_of zero = 40
interval_of (suc n) = suc n

-- What follows the path: as is said, and all that can where neither that nor a time between two NACKs is said.
abbrev pub following_of : ReceiverFields → ℕ
following_of f = if (f.nack_interval == 0) && (f.adaptive == 0) then 2 else f.adaptive

abbrev pub receiver_config : ReceiverFields → receiving.Config
receiver_config f = receiving.config_with (streams_of f.session) f.latency f.reorder_delay (interval_of f.nack_interval) f.max_nacks (not (f.learn_rtx_ssrc == 0))

pub record HasReceiverLimits (f : ReceiverFields) : Type 0 where
  pub config : receiving.IsConfig (receiver_config f)
  pub window : IsCapacity f.window
  pub follows : IsFollowing f.adaptive

-- a number, or the usual one in the place of 0
abbrev pub or_usual : (number usual : ℕ) → ℕ
or_usual zero usual = usual
or_usual (suc n) usual = suc n

-- the usual jump ahead: 3000, or as many as the window keeps, up to the greatest one
abbrev pub usual_dropout : (window : ℕ) → ℕ
usual_dropout window = max 3000 (min window 8192)

-- how long nothing is taken of a stream that is silent; 0: the rule in sequence
abbrev pub silence_of : ℕ → Option ℕ
silence_of zero = None
silence_of (suc n) = Some (suc n)

-- the probation of a sequence number that has jumped (RFC 3550, appendix A.1)
abbrev pub probation_of : ReceiverFields → Probation
probation_of f =
    record {
      dropout = or_usual f.max_dropout (usual_dropout f.window);
      misorder = or_usual f.max_misorder 100;
      ahead = or_usual f.min_sequential_ahead 2;
      behind = or_usual f.min_sequential_behind 256;
      silence = silence_of f.idle_after;
    }

-- The first check that a configuration fails, of streams and limits.
abbrev pub Fails : SessionFields → Type 0 → ConfigFault → Type 0
Fails s Limits BadType = HasTypesFor s.any_media_payload_type (streams_of s) → ⊥
Fails s Limits SameSsrc = HasTypesFor s.any_media_payload_type (streams_of s) × (HasSsrcs (streams_of s) → ⊥)
Fails s Limits BadLimit = IsSession s × (Limits → ⊥)
