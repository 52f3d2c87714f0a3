-- Who lives: whose RTCP has an answer to a number that was drawn at the start.
use Rattle.std.specs.Prelude.{◌≡◌, ◌⊎◌, ℕ, ◌+◌, ◌*◌, ◌-◌, ◌/◌, ◌%◌, ◌^◌, ◌==◌, Bool, true, false, nat_eq, nat_le, nat_lt, min, List, [], ◌∷◌, ◌++◌, length, drop, Option, Some, None, if◌then◌else◌}
use Rattle.std.specs.List.{list_any}
use Rattle.std.specs.Map.{lookup}
use Rattle.lru.specs.LruCache.{LruCache, lru_cache, put_entries}
use Rattle.liveness.specs.declared.reference.ReferenceTime.{ReferenceTime}
use Rattle.liveness.specs.declared.answer.Answer.{Answer}
use Rattle.liveness.specs.declared.living.Living.{Living}
use Rattle.liveness.specs.declared.living.Source.{Source}
use Rattle.liveness.specs.Reports.{IsAnswer, answer_octets}

-- nobody answered so far
abbrev pub nobody_living : (own number : ℕ) → LruCache ℕ ℕ → Living
nobody_living own number asked = record { own = own; number = number; sources = record { items = [] }; asked = asked }

-- a reference time whose middle bits are a number
abbrev pub time_of : (own number : ℕ) → ReferenceTime
time_of own number = record { ssrc = own; seconds = number / 65536; fraction = number % 65536 * 65536 }

-- an SSRC answered
abbrev pub is_living : Living → (ssrc : ℕ) → Bool
is_living living ssrc = list_any (λ source. source.ssrc == ssrc) living.sources.items

-- what an SSRC told, among those that answered
abbrev pub source_of : List Source → (ssrc : ℕ) → Option Source
source_of [] ssrc = None
source_of (source ∷ others) ssrc = if source.ssrc == ssrc then Some source else source_of others ssrc

-- the octets are an SSRC's answer to this receiver's number, which tells whose packets are under it, and the first
-- index that is not of the past
pub record Answers (living : Living) (octets : List ℕ) (source : Source) : Type 0 where
  pub answer : Answer
  pub fits : IsAnswer answer
  pub spelled : octets ≡ answer_octets answer
  pub ssrc : answer.ssrc ≡ source.ssrc
  pub media : answer.media ≡ source.media
  pub first : answer.first ≡ source.first
  pub receiver : answer.receiver ≡ living.own
  pub last : answer.last ≡ living.number

-- one more behind the others, of which the first goes where there are as many as there may be
abbrev pub behind : (most : ℕ) → List Source → (one : Source) → List Source
behind most others one = (if nat_lt (length others) most then others else drop 1 others) ++ (one ∷ [])

-- what is heard of RTCP: the answer of an SSRC that had not answered; of any other datagram nothing is kept
abbrev pub Hears : Living → (octets : List ℕ) → (who : Option Source) → Living → Type 0
Hears old octets None new = (new ≡ old) × ((source : Source) → Answers old octets source → is_living old source.ssrc ≡ true)
Hears old octets (Some source) new =
    Answers old octets source × (is_living old source.ssrc ≡ false)
    × (new ≡ record old { sources = record { items = behind 16 old.sources.items source } })

-- a tenth of a second lies between two moments
abbrev pub is_later : (last : Option ℕ) → (now : ℕ) → Bool
is_later None now = true
is_later (Some last) now = nat_le (min (last + 100) (2 ^ 64 - 1)) now

-- the moment is kept, or there is no memory for that
abbrev pub Keeps : Living → (ssrc now : ℕ) → Living → Type 0
Keeps old ssrc now new = (new ≡ record old { asked = lru_cache (put_entries nat_eq old.asked ssrc now) old.asked.cap }) ⊎ (new ≡ old)

-- an SSRC is asked no sooner than that behind the last time
abbrev pub KeepsWhere : (may : Bool) → Living → (ssrc now : ℕ) → Living → Type 0
KeepsWhere false old ssrc now new = new ≡ old
KeepsWhere true old ssrc now new = Keeps old ssrc now new

abbrev pub MayAsk : Living → (ssrc now : ℕ) → (may : Bool) → Living → Type 0
MayAsk old ssrc now may new = (may ≡ is_later (lookup (nat_eq ssrc) old.asked.entries) now) × KeepsWhere may old ssrc now new
