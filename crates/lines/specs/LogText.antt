-- The text of a log: one line for each entry. Numbers are decimals.
use Rattle.std.specs.Prelude.{ℕ, List, [], ◌∷◌, Option, Some, None, slice_get, codes}
use Rattle.std.specs.Fmt.{decimal}
use Rattle.std.specs.List.{flat_map}
use Rattle.std.specs.Option.{option_map}
use Rattle.rtpwire.specs.declared.content.Content.{Content}
use Rattle.rtpwire.specs.Content.{extension_of}
use Rattle.receiver.specs.declared.answer.Played as receiver
use Rattle.receiver.specs.declared.answer.Played.TheVariants.{Packet, Gap, Wait}
use Rattle.receiver.specs.Fault.{receive_number}
use Rattle.world.specs.declared.event.Answer.{Answer}
use Rattle.world.specs.declared.event.Answer.TheVariants.{Taken, Refused, Marked, FeedbackRefused}
use Rattle.world.specs.declared.event.Entry.{Entry}
use Rattle.world.specs.declared.event.Entry.TheVariants.{Sent, SendRefused, Repaired, NoRepair, Asked, NoAsk, Nothing, Delivered, Injected, Played}
use Rattle.world.specs.Answers.{Item}
use Rattle.fbwire.specs.Fault.{feedback_number}
use Rattle.sender.specs.Fault.{send_number}
pub use Rattle.lines.specs.Line.{line_of, refused_line}
use Rattle.lines.specs.ContentText.{octets_text, sources_text, extension_text, marker_text}

-- the octets of the datagram at an index of the wire; none where the wire ends before it, which no log of
-- a world tells
abbrev pub octets_in : Option Item → List ℕ
octets_in None = []
octets_in (Some item) = item.1.items

abbrev pub octets_at : List Item → ℕ → List ℕ
octets_at wire index = octets_in (slice_get wire index)

-- what an end answered to a datagram
abbrev pub answer_line : Answer → List ℕ
answer_line (Taken taken) = line_of (codes "taken" ∷ decimal taken.place ∷ decimal taken.overrun ∷ [])
answer_line (Refused fault) = refused_line (receive_number fault)
answer_line (Marked marked) = line_of (codes "marked" ∷ decimal marked.places ∷ [])
answer_line (FeedbackRefused fault) = refused_line (feedback_number fault)

-- a content, as words
abbrev pub content_words : Content → List (List ℕ)
content_words content =
    decimal content.timestamp
    ∷ marker_text content.marker
    ∷ octets_text content.payload.items
    ∷ sources_text content.sources.items
    ∷ extension_text (option_map extension_of content.extension)
    ∷ []

-- what a play gave
abbrev pub played_line : receiver.Played → List ℕ
played_line (Packet place content) = line_of (codes "play" ∷ decimal place ∷ content_words content)
played_line (Gap place) = line_of (codes "gap" ∷ decimal place ∷ [])
played_line Wait = line_of (codes "wait" ∷ [])

-- the words of a datagram: its index, and its octets
abbrev pub datagram_words : List Item → (index : ℕ) → List (List ℕ)
datagram_words wire index = decimal index ∷ octets_text (octets_at wire index) ∷ []

-- the octets of the datagram that an entry tells was put on this wire; none where it tells of none
abbrev pub written_octets : List Item → Entry → List ℕ
written_octets wire (Sent place index content) = octets_at wire index
written_octets wire (Repaired place index) = octets_at wire index
written_octets wire (Asked index now) = octets_at wire index
written_octets wire _ = []

-- the line of an entry, where this is the wire
abbrev pub entry_line : List Item → Entry → List ℕ
entry_line wire (Sent place index content) = line_of (codes "sent" ∷ decimal place ∷ datagram_words wire index)
entry_line wire (SendRefused fault) = refused_line (send_number fault)
entry_line wire (Repaired place index) = line_of (codes "repair" ∷ decimal place ∷ datagram_words wire index)
entry_line wire NoRepair = line_of (codes "repair" ∷ codes "none" ∷ [])
entry_line wire (Asked index now) = line_of (codes "ask" ∷ datagram_words wire index)
entry_line wire (NoAsk now) = line_of (codes "ask" ∷ codes "none" ∷ [])
entry_line wire Nothing = line_of (codes "nothing" ∷ [])
entry_line wire (Delivered index label now answer) = answer_line answer
entry_line wire (Injected end now answer) = answer_line answer
entry_line wire (Played now played) = played_line played

-- the lines of a log, the oldest entry first
abbrev pub log_text : List Entry → List Item → List ℕ
log_text log wire = flat_map (entry_line wire) log
