-- The claims of those who sent last. (The rule is this project's own.)
use Rattle.std.specs.Prelude.{◌≡◌, Bool, true, false, [], nat_lt, Option, Some, None, IsSome, if◌then◌else◌}
use Rattle.std.specs.Map.{lookup, remove_entry}
use Rattle.lru.specs.LruCache.{LruCache, lru_cache, put_entries}
use Rattle.relays.specs.declared.claim_tables.Claim.{Claim}
use Rattle.relays.specs.declared.claim_tables.Claimant.{Claimant}
use Rattle.relays.specs.declared.claim_tables.ClaimTables.{ClaimTables}
use Rattle.relays.specs.contracts.claim_tables.ClaimantPartialEq.TheImpl as equality

-- two are one and the same: the same address, and the same SSRC
abbrev pub same : Claimant → Claimant → Bool
same = (equality.ghosts).eq

-- a table, the claim that was kept last first
abbrev pub Table : Type 0
Table = LruCache Claimant Claim

-- 3072 claims of one packet, and 1024 of more
abbrev pub no_tables : ClaimTables
no_tables = record { singles = lru_cache [] 3072; runs = lru_cache [] 1024 }

abbrev pub or_else : Option Claim → Option Claim → Option Claim
or_else None other = other
or_else (Some claim) other = Some claim

-- what somebody claims
abbrev pub claim_of : Claimant → ClaimTables → Option Claim
claim_of k t = or_else (lookup (same k) t.runs.entries) (lookup (same k) t.singles.entries)

-- with a claim, which takes the last one's place where it is full
abbrev pub with_claim : Claimant → Claim → Table → Table
with_claim k claim table = lru_cache (put_entries same table k claim) table.cap

abbrev pub without : Claimant → Table → Table
without k table = lru_cache (remove_entry (same k) table.entries) table.cap

-- A claim is kept in one table and in no other.
abbrev pub Moved : (is_kept : Bool) → Claimant → Claim → (to from to' from' : Table) → Type 0
Moved true k claim to from to' from' = (to' ≡ with_claim k claim to) × (from' ≡ without k from)
Moved false k claim to from to' from' = (to' ≡ to) × (from' ≡ from)

-- One of more than one packet is kept among those.
abbrev pub kept : Claimant → Claim → ClaimTables → ClaimTables
kept k claim t =
    if nat_lt 1 claim.packets
    then record { singles = without k t.singles; runs = with_claim k claim t.runs }
    else record { singles = with_claim k claim t.singles; runs = without k t.runs }

-- It takes no memory where its table has one of its claimant already.
abbrev pub HasPlace : Claimant → Claim → ClaimTables → Type 0
HasPlace k claim t = IsSome (lookup (same k) (if nat_lt 1 claim.packets then t.runs else t.singles).entries)

-- It is kept, or nothing changes.
abbrev pub keeps : (is_kept : Bool) → Claimant → Claim → ClaimTables → ClaimTables
keeps is_kept k claim t = if is_kept then kept k claim t else t
