-- The text of a packing: NACKs that ask for places, a line each.
use Rattle.std.specs.Prelude.{◌≡◌, ℕ, List, [], ◌∷◌, drop}
use Rattle.std.specs.List.{flat_map}
use Rattle.fbwire.specs.declared.nack.Pair.{Pair}
use Rattle.fbwire.specs.Nack.{Nack, NackSpells}
use Rattle.fbwire.specs.Packing.{IsPacking}
use Rattle.world.specs.Session.{trial_session}
use Rattle.lines.specs.ContentText.{octets_text}
use Rattle.lines.specs.Line.{line_of}

-- what the receiver of every script says with these pairs
abbrev pub script_nack : List Pair → Nack
script_nack pairs = record { reporter = trial_session.receiver_ssrc; media = trial_session.media_ssrc; pairs = pairs }

-- The datagram asks for the first of these places, as many as one packing covers; the others are left.
pub record AsksFirst (places datagram others : List ℕ) : Type 0 where
  pub pairs : List Pair
  pub covered : ℕ
  pub packing : IsPacking places pairs covered
  pub spelled : NackSpells (script_nack pairs) datagram
  pub left : others ≡ drop covered places

-- Each datagram asks for the first of the places that those before it leave, and these are left in the end.
abbrev pub AskInTurn : (places : List ℕ) → (datagrams : List (List ℕ)) → (left : List ℕ) → Type 0
AskInTurn places [] left = left ≡ places
AskInTurn places (datagram ∷ datagrams) left = (others : List ℕ) × AsksFirst places datagram others × AskInTurn others datagrams left

-- a datagram in hexadecimal digits
abbrev pub datagram_line : List ℕ → List ℕ
datagram_line octets = line_of (octets_text octets ∷ [])

abbrev pub datagram_lines : List (List ℕ) → List ℕ
datagram_lines datagrams = flat_map datagram_line datagrams
