-- What the calls of SRTP answer to C, by what their handle held before and after. The fields of `ProtectsRtp` and so on are the clauses of
-- the calls of `contexts`.
use Rattle.std.specs.Prelude.{◌≡◌, ◌≢◌, ◌==◌, ◌⊎◌, ◌+◌, ◌<◌, ◌≤◌, ◌++◌, ℕ, ℤ, pos, Bool, true, false, if◌then◌else◌, List, [], length, take, drop, Option, Some, None, IsSome, IsSomeAnd, Result, Ok, Err, OnOk, IsOk, IfOk, IfErr, nat_eq}
use Rattle.std.specs.Global.{Box}
use Rattle.std.specs.Map.{lookup}
use Rattle.srtp.specs.Derivation.{IsMaster, rtp_keys, rtcp_keys}
use Rattle.srtp.specs.Header.{header_fault}
use Rattle.srtp.specs.Rtcp.{Receiving, IsReceiving, Sending, IsSending, before_trailer, receiving_fault, sending_fault}
use Rattle.srtp.specs.Stream.{Context, IsStream, body_of, packet_fault, unprotect_fault}
use Rattle.srtp.specs.declared.keys.MasterKey.{MasterKey}
use Rattle.srtp.specs.declared.keys.Profile.{Profile}
use Rattle.srtp.specs.declared.keys.Profile.TheVariants.{NullHmacSha1, Aes128CmHmacSha1}
use Rattle.srtp.specs.declared.rtcp.RtcpReceiver.{RtcpReceiver}
use Rattle.srtp.specs.declared.rtcp.RtcpSender.{RtcpSender}
use Rattle.srtp.specs.declared.stream.Stream.{Stream}
use Rattle.contexts.specs.Controls.{ControlIn, ControlBeginsWith, control_source, new_receiving}
use Rattle.contexts.specs.Fault.{context_fault_number}
use Rattle.contexts.specs.Heard.{Hears, HearsControl, LeavesSealed, LeavesSealedControl}
use Rattle.contexts.specs.Inbound.{BeginsSession, BeginsWith, TakenIn, source_in}
use Rattle.contexts.specs.Keyed.{IsKeyed}
use Rattle.contexts.specs.Outbound.{IsSealedWith, Remembers, Seals, SealsFirst, SealsControl, SealsFirstControl, first_sending}
use Rattle.contexts.specs.declared.fault.ContextFault.{ContextFault}
use Rattle.contexts.specs.declared.fault.ContextFault.TheVariants.{OutOfMemory}
use Rattle.contexts.specs.declared.inbound.Inbound.{Inbound}
use Rattle.contexts.specs.declared.inbound.TheConstants.{INDICES, RTCP_INDICES}
use Rattle.contexts.specs.declared.outbound.Outbound.{Outbound}
use Rattle.contexts.specs.declared.outbound.TheConstants.{SENT}
use Rattle.endpoint.specs.Demultiplex.{is_control}
use Rattle.gozdrit.specs.Codes.{ok, no_end, is_held, out_of_memory, too_large, no_room, bad_key}
use Rattle.gozdrit.specs.declared.protecting.TheConstants.{MAX_PROTECTED}

-- the profile of a number (RFC 5764, section 4.1.2)
abbrev pub profile_of : ℕ → Option Profile
profile_of number = if number == 1 then Some Aes128CmHmacSha1 else if number == 5 then Some NullHmacSha1 else None

-- a profile that is known, and a master key of 16 octets with its salt of 14
abbrev pub IsKey : (number : ℕ) → List ℕ → Type 0
IsKey number octets = IsSome (profile_of number) × (length octets ≡ 30)

-- what is read of them
abbrev pub ReadsKey : (number : ℕ) → List ℕ → Option (Profile × MasterKey) → Type 0
ReadsKey number octets None = IsKey number octets → ⊥
ReadsKey number octets (Some (profile, master)) =
    (profile_of number ≡ Some profile) × (length octets ≡ 30) × IsMaster master (take 16 octets) (drop 16 octets)

-- what protects datagrams under a key, or takes the protection off, and had none so far
abbrev pub IsNewOutbound : Outbound → Profile → List ℕ → Type 0
IsNewOutbound o profile octets = IsSealedWith o profile (take 16 octets) (drop 16 octets) × (o.streams.entries ≡ []) × (o.controls.entries ≡ [])

abbrev pub IsNewInbound : Inbound → Profile → List ℕ → Type 0
IsNewInbound i profile octets = IsKeyed i profile (take 16 octets) (drop 16 octets) × (i.streams.entries ≡ []) × (i.controls.entries ≡ [])

-- `gozdrit_srtp_sender_new`, `gozdrit_srtp_receiver_new`
pub record AnswersSrtpNew {X : Type 0} (IsNew : X → Profile → List ℕ → Type 0) (number : ℕ) (octets : List ℕ) (old : Option X) (code : ℤ) (new : Option X) : Type 0 where
  pub held : IsSome old → (code ≡ is_held) × (new ≡ old)
  pub bad : old ≡ None → (IsKey number octets → ⊥) → (code ≡ bad_key) × (new ≡ old)
  pub made : (profile : Profile) → old ≡ None → profile_of number ≡ Some profile → length octets ≡ 30
      → ((code ≡ out_of_memory) × (new ≡ old)) ⊎ ((code ≡ ok) × IsSomeAnd new (λ x. IsNew x profile octets))

-- how many octets more a datagram has that is protected: a tag, and of RTCP an index too (RFC 3711, sections 3.1 and 3.4)
abbrev pub growth : (control : Bool) → ℕ
growth true = 14
growth false = 10

-- a packet of RTP is protected, behind which there is the room
pub record ProtectsRtp (before : Outbound) (packet : List ℕ) (answer : Result (Unit {0}) ContextFault) (packet' : List ℕ) (after : Outbound) : Type 0 where
  pub known : (stream : Box (Stream SENT)) (context : Context) → lookup (nat_eq (source_in packet)) before.streams.entries ≡ Some stream
      → IsStream SENT stream.value context → OnOk answer (Seals (source_in packet) context packet packet' before.streams after.streams)
  pub begun : (profile : Profile) (key salt : List ℕ) → IsSealedWith before profile key salt → lookup (nat_eq (source_in packet)) before.streams.entries ≡ None
      → OnOk answer (SealsFirst (rtp_keys profile key salt) (source_in packet) packet packet' before.streams after.streams)
  pub taken : (stream : Box (Stream SENT)) (context : Context) → lookup (nat_eq (source_in packet)) before.streams.entries ≡ Some stream
      → IsStream SENT stream.value context → packet_fault context (body_of packet) ≡ None → IsOk answer
  pub first : (profile : Profile) (key salt : List ℕ) → IsSealedWith before profile key salt → lookup (nat_eq (source_in packet)) before.streams.entries ≡ None
      → header_fault (body_of packet) ≡ None → length before.streams.entries < before.streams.cap → IfErr answer (λ fault. fault ≡ OutOfMemory)
  pub remembers : Remembers before.streams after.streams
  pub sealed : (profile : Profile) (key salt : List ℕ) → IsSealedWith before profile key salt → OnOk answer (LeavesSealed (rtp_keys profile key salt) (body_of packet) packet')
  pub keyed : (profile : Profile) (key salt : List ℕ) → IsSealedWith before profile key salt → IsSealedWith after profile key salt
  pub controls : after.controls ≡ before.controls

-- and one of RTCP
pub record ProtectsRtcp (before : Outbound) (packet : List ℕ) (answer : Result (Unit {0}) ContextFault) (packet' : List ℕ) (after : Outbound) : Type 0 where
  pub known : (sender : Box RtcpSender) (sending : Sending) → lookup (nat_eq (control_source packet)) before.controls.entries ≡ Some sender
      → IsSending sender.value sending → OnOk answer (SealsControl (control_source packet) sending packet packet' before.controls after.controls)
  pub begun : (profile : Profile) (key salt : List ℕ) → IsSealedWith before profile key salt → lookup (nat_eq (control_source packet)) before.controls.entries ≡ None
      → OnOk answer (SealsFirstControl (rtcp_keys profile key salt) (control_source packet) packet packet' before.controls after.controls)
  pub taken : (sender : Box RtcpSender) (sending : Sending) → lookup (nat_eq (control_source packet)) before.controls.entries ≡ Some sender
      → IsSending sender.value sending → sending_fault sending (before_trailer (body_of packet)) ≡ None → IsOk answer
  pub first : (profile : Profile) (key salt : List ℕ) → IsSealedWith before profile key salt → lookup (nat_eq (control_source packet)) before.controls.entries ≡ None
      → length before.controls.entries < before.controls.cap
      → sending_fault (first_sending (rtcp_keys profile key salt) (control_source packet)) (before_trailer (body_of packet)) ≡ None
      → IfErr answer (λ fault. fault ≡ OutOfMemory)
  pub remembers : Remembers before.controls after.controls
  pub sealed : (profile : Profile) (key salt : List ℕ) → IsSealedWith before profile key salt
      → OnOk answer (LeavesSealedControl (rtcp_keys profile key salt) (before_trailer (body_of packet)) packet')
  pub keyed : (profile : Profile) (key salt : List ℕ) → IsSealedWith before profile key salt → IsSealedWith after profile key salt
  pub streams : after.streams ≡ before.streams

abbrev pub Protects : (control : Bool) → Outbound → List ℕ → Result (Unit {0}) ContextFault → List ℕ → Outbound → Type 0
Protects true = ProtectsRtcp
Protects false = ProtectsRtp

-- how many octets a datagram of so many has that is protected
abbrev pub whole_of : (len : ℕ) → List ℕ → ℕ
whole_of len octets = len + growth (is_control (take len octets))

-- what is told of it
abbrev pub TellsProtected : Result (Unit {0}) ContextFault → (whole told : ℕ) → (code : ℤ) → (told' : ℕ) → Type 0
TellsProtected (Ok done) whole told code told' = (code ≡ ok) × (told' ≡ whole)
TellsProtected (Err fault) whole told code told' = (code ≡ pos (context_fault_number fault)) × (told' ≡ told)

-- `gozdrit_srtp_protect`: the datagram is the first `len` octets
pub record AnswersProtect (old : Option Outbound) (octets : List ℕ) (len told : ℕ) (code : ℤ) (new : Option Outbound) (octets' : List ℕ) (told' : ℕ) : Type 0 where
  pub none : old ≡ None → (code ≡ no_end) × (new ≡ old)
  pub large : IsSome old → MAX_PROTECTED < len → (code ≡ too_large) × (new ≡ old)
  pub short : IsSome old → len ≤ MAX_PROTECTED → length octets < whole_of len octets → (code ≡ no_room) × (new ≡ old)
  pub protects : (before : Outbound) → old ≡ Some before → len ≤ MAX_PROTECTED → whole_of len octets ≤ length octets
      → (answer : Result (Unit {0}) ContextFault) × (packet' : List ℕ)
      × IsSomeAnd new (λ after. Protects (is_control (take len octets)) before (take (whole_of len octets) octets) answer packet' after)
      × TellsProtected answer (whole_of len octets) told code told' × (octets' ≡ packet' ++ drop (whole_of len octets) octets)
  pub refused : code ≢ ok → (octets' ≡ octets) × (told' ≡ told)

-- the protection is taken off a packet of RTP
pub record UnprotectsRtp (before : Inbound) (packet : List ℕ) (answer : Result ℕ ContextFault) (packet' : List ℕ) (after : Inbound) : Type 0 where
  pub known : (stream : Box (Stream INDICES)) (context : Context) → lookup (nat_eq (source_in packet)) before.streams.entries ≡ Some stream
      → IsStream INDICES stream.value context → OnOk answer (TakenIn (source_in packet) context packet packet' before.streams after.streams)
  pub begun : (profile : Profile) (key salt : List ℕ) → IsKeyed before profile key salt → lookup (nat_eq (source_in packet)) before.streams.entries ≡ None
      → OnOk answer (BeginsWith (rtp_keys profile key salt) (source_in packet) packet packet' before.streams after.streams)
  pub taken : (stream : Box (Stream INDICES)) (context : Context) → lookup (nat_eq (source_in packet)) before.streams.entries ≡ Some stream
      → IsStream INDICES stream.value context → unprotect_fault context packet ≡ None → IsOk answer
  pub first : (profile : Profile) (key salt : List ℕ) → IsKeyed before profile key salt → lookup (nat_eq (source_in packet)) before.streams.entries ≡ None
      → BeginsSession (rtp_keys profile key salt) packet → IfErr answer (λ fault. fault ≡ OutOfMemory)
  pub len : IfOk answer (λ len. len + 10 ≡ length packet)
  pub heard : (profile : Profile) (key salt : List ℕ) → IsKeyed before profile key salt → OnOk answer (Hears (rtp_keys profile key salt) packet packet')
  pub keyed : (profile : Profile) (key salt : List ℕ) → IsKeyed before profile key salt → IsKeyed after profile key salt
  pub controls : after.controls ≡ before.controls

-- and off one of RTCP
pub record UnprotectsRtcp (before : Inbound) (packet : List ℕ) (answer : Result ℕ ContextFault) (packet' : List ℕ) (after : Inbound) : Type 0 where
  pub known : (receiver : Box (RtcpReceiver RTCP_INDICES)) (receiving : Receiving) → lookup (nat_eq (control_source packet)) before.controls.entries ≡ Some receiver
      → IsReceiving RTCP_INDICES receiver.value receiving → OnOk answer (ControlIn (control_source packet) receiving packet packet' before.controls after.controls)
  pub begun : (profile : Profile) (key salt : List ℕ) → IsKeyed before profile key salt → lookup (nat_eq (control_source packet)) before.controls.entries ≡ None
      → OnOk answer (ControlBeginsWith (rtcp_keys profile key salt) (control_source packet) packet packet' before.controls after.controls)
  pub taken : (receiver : Box (RtcpReceiver RTCP_INDICES)) (receiving : Receiving) → lookup (nat_eq (control_source packet)) before.controls.entries ≡ Some receiver
      → IsReceiving RTCP_INDICES receiver.value receiving → receiving_fault receiving packet ≡ None → IsOk answer
  pub first : (profile : Profile) (key salt : List ℕ) → IsKeyed before profile key salt → lookup (nat_eq (control_source packet)) before.controls.entries ≡ None
      → receiving_fault (new_receiving (rtcp_keys profile key salt) (control_source packet)) packet ≡ None → IfErr answer (λ fault. fault ≡ OutOfMemory)
  pub len : IfOk answer (λ len. len + 14 ≡ length packet)
  pub heard : (profile : Profile) (key salt : List ℕ) → IsKeyed before profile key salt → OnOk answer (HearsControl (rtcp_keys profile key salt) packet packet')
  pub keyed : (profile : Profile) (key salt : List ℕ) → IsKeyed before profile key salt → IsKeyed after profile key salt
  pub streams : after.streams ≡ before.streams

abbrev pub Unprotects : (control : Bool) → Inbound → List ℕ → Result ℕ ContextFault → List ℕ → Inbound → Type 0
Unprotects true = UnprotectsRtcp
Unprotects false = UnprotectsRtp

abbrev pub TellsUnprotected : Result ℕ ContextFault → (told : ℕ) → (code : ℤ) → (told' : ℕ) → Type 0
TellsUnprotected (Ok len) told code told' = (code ≡ ok) × (told' ≡ len)
TellsUnprotected (Err fault) told code told' = (code ≡ pos (context_fault_number fault)) × (told' ≡ told)

-- `gozdrit_srtp_unprotect`
pub record AnswersUnprotect (old : Option Inbound) (octets : List ℕ) (told : ℕ) (code : ℤ) (new : Option Inbound) (octets' : List ℕ) (told' : ℕ) : Type 0 where
  pub none : old ≡ None → (code ≡ no_end) × (new ≡ old)
  pub large : IsSome old → MAX_PROTECTED < length octets → (code ≡ too_large) × (new ≡ old)
  pub unprotects : (before : Inbound) → old ≡ Some before → length octets ≤ MAX_PROTECTED
      → (answer : Result ℕ ContextFault) × IsSomeAnd new (Unprotects (is_control octets) before octets answer octets') × TellsUnprotected answer told code told'
  pub refused : code ≢ ok → (octets' ≡ octets) × (told' ≡ told)
