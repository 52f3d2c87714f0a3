-- What comes under a master key: a context for each SSRC, and of an SSRC that is not known the first packet that has a
-- right tag.
use Rattle.std.specs.Prelude.{◌≡◌, ℕ, ◌+◌, ◌-◌, ◌*◌, ◌/◌, ◌==◌, true, [], List, ◌++◌, nat_eq, nat_le, nat_lt, Option, None, Some, if◌then◌else◌}
use Rattle.std.specs.Global.{Box}
use Rattle.std.specs.Map.{set_value}
use Rattle.lru.specs.LruCache.{LruCache, lru_cache, promoted, put_entries}
use Rattle.srtp.specs.Derivation.{Keys}
use Rattle.srtp.specs.Header.{header_fault, ssrc_of}
use Rattle.srtp.specs.Replay.{replay_fault}
use Rattle.srtp.specs.Stream.{Context, IsStream, body_of, tag_in, index_at, is_tagged, turned, with_taken}
use Rattle.srtp.specs.declared.stream.Stream.{Stream}
use Rattle.contexts.specs.declared.inbound.TheConstants.{INDICES}

-- The packet is taken in this context under a rollover counter: its tag is right, its index was not taken before and is
-- not too old, and it comes out as it was before it was protected, with its tag behind it.
pub record Opens (context : Context) (packet opened : List ℕ) (after : Stream INDICES) : Type 0 where
  pub rollover : ℕ
  pub tag : is_tagged context.keys (index_at rollover (body_of packet)) packet ≡ true
  pub fresh : replay_fault context.len context.taken (index_at rollover (body_of packet)) ≡ None
  pub is : opened ≡ turned context (index_at rollover (body_of packet)) (body_of packet) ++ tag_in packet
  pub taken : IsStream INDICES after (with_taken context (index_at rollover (body_of packet)))

-- the contexts of SSRCs, each in memory of its own
abbrev pub Contexts : Type 0 → Type 0
Contexts V = LruCache ℕ (Box V)

-- the SSRC of a protected packet
abbrev pub source_in : List ℕ → ℕ
source_in packet = ssrc_of (body_of packet)

-- the context of an SSRC before its first packet
abbrev pub new_context : Keys → (ssrc rollover : ℕ) → Context
new_context keys ssrc rollover = record { keys = keys; ssrc = ssrc; rollover = rollover; len = INDICES; taken = [] }

-- the contexts with that of an SSRC as it is now, the one that was used last
abbrev pub used : {V : Type 0} → (ssrc : ℕ) → V → LruCache ℕ V → LruCache ℕ V
used ssrc now contexts = lru_cache (promoted (nat_eq ssrc) (set_value (nat_eq ssrc) contexts.entries now)) contexts.cap

-- the contexts with a new one, for which the one that was used longest ago goes where there are as many as there may be
abbrev pub begun : {V : Type 0} → (ssrc : ℕ) → V → LruCache ℕ V → LruCache ℕ V
begun ssrc new contexts = lru_cache (put_entries nat_eq contexts ssrc new) contexts.cap

-- A new context is kept.
pub record Keeps {V : Type 0} (ssrc : ℕ) (context : V) (old new : Contexts V) : Type 0 where
  pub own : Box V
  pub is : own.value ≡ context
  pub kept : new ≡ begun ssrc own old

-- A packet of an SSRC is taken in its context, which takes the place of the one before.
pub record TakenIn (ssrc : ℕ) (context : Context) (packet opened : List ℕ) (old new : Contexts (Stream INDICES)) : Type 0 where
  pub after : Box (Stream INDICES)
  pub opens : Opens context packet opened after.value
  pub kept : new ≡ used ssrc after old

-- The context of an SSRC begins, under this rollover counter, or under some.
pub record BeginsAt (rollover : ℕ) (keys : Keys) (ssrc : ℕ) (old new : Contexts (Stream INDICES)) : Type 0 where
  pub stream : Box (Stream INDICES)
  pub fresh : IsStream INDICES stream.value (new_context keys ssrc rollover)
  pub kept : new ≡ begun ssrc stream old

pub record Begins (keys : Keys) (ssrc : ℕ) (old new : Contexts (Stream INDICES)) : Type 0 where
  pub rollover : ℕ
  pub at : BeginsAt rollover keys ssrc old new

-- a packet with a right tag whose rollover counter is 0, as that of a session's first packet is
pub record BeginsSession (keys : Keys) (packet : List ℕ) : Type 0 where
  pub header : header_fault (body_of packet) ≡ None
  pub tag : is_tagged keys (index_at 0 (body_of packet)) packet ≡ true

-- A packet begins the context of its SSRC, under some rollover counter, and is the first that is taken in it.
pub record BeginsWith (keys : Keys) (ssrc : ℕ) (packet opened : List ℕ) (old new : Contexts (Stream INDICES)) : Type 0 where
  pub rollover : ℕ
  pub stream : Box (Stream INDICES)
  pub taken : TakenIn ssrc (new_context keys ssrc rollover) packet opened (begun ssrc stream old) new

-- the greatest index with a number that lies below one
abbrev pub last_with : (next number : ℕ) → Option ℕ
last_with next number = let index : ℕ = 65536 * ((next - 1) / 65536) + number in
    if next == 0 then None else (if nat_lt index next then Some index else (if nat_le 65536 index then Some (index - 65536) else None))
