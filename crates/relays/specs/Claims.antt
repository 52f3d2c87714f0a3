-- Who may take a session that another sender has. (The rule is this project's own.)
use Rattle.std.specs.Prelude.{◌≡◌, ℕ, ◌+◌, ◌-◌, ◌*◌, ◌&&◌, ◌||◌, Bool, true, false, nat_le, nat_lt, Option, Some, None, if◌then◌else◌}
use Rattle.std.specs.Global.{Global}
use Rattle.endpoint.specs.Probation.{ahead}
use Rattle.timing.specs.Capped.{capped}
use Rattle.relays.specs.ClaimTables.{HasPlace, claim_of, keeps, no_tables}
use Rattle.relays.specs.declared.claim_tables.Claim.{Claim}
use Rattle.relays.specs.declared.claim_tables.Claimant.{Claimant}
use Rattle.relays.specs.declared.claim_tables.ClaimTables.{ClaimTables}
use Rattle.relays.specs.declared.claims.Claims.{Claims}
use Rattle.relays.specs.declared.claims.Step.{Step}
use Rattle.relays.specs.declared.claims.Step.TheVariants as steps
use Rattle.relays.specs.declared.claims.Stranger.{Stranger}

-- a session that took nothing so far, and nobody claims
abbrev pub no_claims : Global → (stream : ℕ) → Claims
no_claims alloc stream = record { alloc = alloc; stream = stream; held = 0; start = 0; tables = None }

-- another session begins, which is claimed as the one before was
abbrev pub begun_anew : Claims → Claims
begun_anew c = record c { start = c.held }

-- another session begins, and nobody claims it
abbrev pub unclaimed : Claims → Claims
unclaimed c = record c { start = c.held; tables = None }

-- how many packets the session took since it began
abbrev pub taken_of : Claims → ℕ
taken_of c = c.held - c.start

-- the session took a packet
abbrev pub taken_once : Claims → Claims
taken_once c = record c { held = capped (c.held + 1) }

abbrev pub tables_in : Option ClaimTables → ClaimTables
tables_in None = no_tables
tables_in (Some tables) = tables

abbrev pub tables_of : Claims → ClaimTables
tables_of c = tables_in c.tables

-- a stranger claims by its address and its SSRC
abbrev pub claimant_of : Stranger → Claimant
claimant_of s = record { from = s.from; ssrc = s.ssrc }

-- a claim begins with a packet, and has one more
abbrev pub begun : Claims → (number now : ℕ) → Claim
begun c number now = record { number = number; since = now; last = now; packets = 1; held = c.held }

abbrev pub counted : Claim → (number now : ℕ) → Claim
counted claim number now = record claim { number = number; last = now; packets = capped (claim.packets + 1) }

-- one of the next numbers behind another, in a sequence of 16 bits
abbrev pub is_next_number : (before number : ℕ) → Bool
is_next_number before number = nat_lt 0 (ahead before number) && nat_lt (ahead before number) 3000

-- A packet goes on with a claim by one of the next numbers, where the last one in sequence is two seconds old at most.
abbrev pub goes_on : Claim → (number now : ℕ) → Bool
goes_on claim number now = is_next_number claim.number number && nat_le (now - claim.last) 2000

-- the last one in sequence is a second old
abbrev pub is_stale : Claim → (now : ℕ) → Bool
is_stale claim now = nat_le 1000 (now - claim.last)

-- how many packets the sessions took since a claim began
abbrev pub taken_beside : Claims → Claim → ℕ
taken_beside c claim = c.held - claim.held

-- A session is weak that took less than 1.8 packets a second, by more than two.
abbrev pub is_weak : (taken span : ℕ) → Bool
is_weak taken span = nat_lt (5000 * (taken + 2)) (9 * span)

-- The session falls to a claim of a stream, at once if it never had one itself, or where it is weak beside it.
abbrev pub falls_to : Claims → Claim → (taken now : ℕ) → Bool
falls_to c claim taken now = nat_le c.stream claim.packets && (nat_lt (taken_of c) c.stream || is_weak taken (now - claim.since))

abbrev pub step_of : Claims → Claim → (taken now : ℕ) → Step
step_of c claim taken now = if falls_to c claim taken now then steps.Falls else steps.Claims claim

-- A packet that goes on with a claim is counted in it, unless the session took a stream since that began: then it begins anew.
abbrev pub step : Claims → Claim → (number now : ℕ) → Step
step c claim number now =
    if nat_le c.stream (taken_beside c claim) then steps.Claims (begun c number now) else step_of c (counted claim number now) (taken_beside c claim) now

-- One that does not is passed over, unless the claim is stale: then it begins anew too.
abbrev pub answer : Claims → Option Claim → (number now : ℕ) → Step
answer c None number now = steps.Claims (begun c number now)
answer c (Some claim) number now =
    if goes_on claim number now then step c claim number now else if is_stale claim now then steps.Claims (begun c number now) else steps.Passes

-- the session falls by it
abbrev pub falls_in : Step → Bool
falls_in steps.Falls = true
falls_in s = false

-- a claim is kept, if there is memory where it takes some, and nothing else changes
pub record Keeps (old : Claims) (k : Claimant) (claim : Claim) (new : Claims) : Type 0 where
  pub tables : (is_kept : Bool) × (HasPlace k claim (tables_of old) → is_kept ≡ true) × (tables_of new ≡ keeps is_kept k claim (tables_of old))
  pub rest : new ≡ record old { tables = new.tables }

-- a packet of a stranger is heard: whether the session falls to it, and what is claimed then
abbrev pub Hears : Step → Claims → Claimant → (falls : Bool) → Claims → Type 0
Hears steps.Passes old k falls new = (falls ≡ false) × (new ≡ old)
Hears (steps.Claims claim) old k falls new = (falls ≡ false) × Keeps old k claim new
Hears steps.Falls old k falls new = (falls ≡ true) × (new ≡ unclaimed old)

abbrev pub HearsClaim : Claims → Stranger → (now : ℕ) → (falls : Bool) → Claims → Type 0
HearsClaim old s now falls new = Hears (answer old (claim_of (claimant_of s) (tables_of old)) s.number now) old (claimant_of s) falls new
