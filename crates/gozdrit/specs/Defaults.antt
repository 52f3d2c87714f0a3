-- Configurations that serve where nothing else is known. Spans of time are in milliseconds.
use Rattle.std.specs.Prelude.{ℕ}
use Rattle.gozdrit.specs.declared.config.SessionFields.{SessionFields}
use Rattle.gozdrit.specs.declared.config.SenderFields.{SenderFields}
use Rattle.gozdrit.specs.declared.config.ReceiverFields.{ReceiverFields}

-- a session that says nothing so far
abbrev pub no_session : SessionFields
no_session = record { media_ssrc = 0; rtx_ssrc = 0; receiver_ssrc = 0; media_payload_type = 0; rtx_payload_type = 0; any_media_payload_type = 0 }

-- in structs of this size
abbrev pub usual_receiver : (size : ℕ) → ReceiverFields
usual_receiver size =
    record {
      size = size;
      session = no_session;
      latency = 200;
      nack_interval = 0;
      window = 512;
      max_nacks = 16;
      learn_rtx_ssrc = 0;
      max_dropout = 0;
      max_misorder = 100;
      min_sequential_ahead = 2;
      min_sequential_behind = 256;
      reorder_delay = 20;
      idle_after = 200;
      adaptive = 0;
    }

abbrev pub usual_sender : (size : ℕ) → SenderFields
usual_sender size =
    record {
      size = size;
      session = no_session;
      history = 1024;
      first_sequence = 0;
      rtx_first_sequence = 0;
      max_retransmissions = 16;
      any_reporter = 0;
      min_resend = 10;
      deadline = 0;
    }
