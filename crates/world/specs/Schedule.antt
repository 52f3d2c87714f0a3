-- Packets that are sent one after the other, of which words of a random generator lose some.
use Rattle.std.specs.Prelude.{ℕ, zero, suc, ◌+◌, ◌%◌, ◌^◌, nat_le, false, List, [], ◌∷◌, ◌++◌, if◌then◌else◌, None}
use Rattle.byteorder.specs.Endian.{big_bytes}
use Rattle.rand_core.specs.Stream.{Stream, next_u32}
use Rattle.rtpwire.specs.declared.content.Content.{Content}
use Rattle.world.specs.declared.event.Event.{Event}
use Rattle.world.specs.declared.event.Event.TheVariants.{Send, Deliver}

-- The content of a number. Its timestamp is the number's lowest 32 bits, and its payload these in network order. It has
-- no marker, no CSRC list and no header extension.
abbrev pub numbered_content : (number : ℕ) → Content
numbered_content number =
    record {
      payload = record { items = big_bytes 4 (number % 2 ^ 32) };
      timestamp = number % 2 ^ 32;
      marker = false;
      sources = record { items = [] };
      extension = None;
    }

-- The packet of a word, which was sent at this moment as the wire's datagram at this index: where the word modulo 1000
-- is at least the loss it is delivered at that moment, else it is lost. So the loss is in thousandths.
abbrev pub delivery : (loss index moment word : ℕ) → List Event
delivery loss index moment word = if nat_le loss (word % 1000) then Deliver index moment ∷ [] else []

-- One packet for each word, in their order: the content of the moment is sent, without padding, and then delivered or
-- lost by the word. The next packet has the next index and the next moment.
abbrev pub schedule : (loss index moment : ℕ) → (words : List ℕ) → List Event
schedule loss index moment [] = []
schedule loss index moment (word ∷ words) =
    Send (numbered_content moment) 0 ∷ delivery loss index moment word ++ schedule loss (index + 1) (moment + 1) words

-- the stream of a generator after so many words
abbrev pub after_words : (count : ℕ) → Stream → Stream
after_words zero stream = stream
after_words (suc count) stream = after_words count (next_u32 stream).1
