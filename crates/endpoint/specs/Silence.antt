-- When a stream may restart, told by what an endpoint answered. Lists of events have the newest first.
use Rattle.std.specs.Prelude.{ℕ, ◌+◌, ◌<◌, ◌≤◌, ◌⊎◌, List, [], ◌∷◌, Result, Ok}
use Rattle.receiver.specs.declared.fault.ReceiveFault.{ReceiveFault}
use Rattle.endpoint.specs.declared.heard.Heard.{Heard}
use Rattle.endpoint.specs.declared.heard.Heard.TheVariants.{Media, HeldBack, Restarted}
use Rattle.endpoint.specs.declared.probation.Probation.{Probation}
use Rattle.endpoint.specs.Events.{Event, heard, restarted_by_call}

-- when a media packet was last taken: 0, where none was since the endpoint was made, or restarted by a call
abbrev pub last_taken : List Event → ℕ
last_taken [] = 0
last_taken (heard octets now (Ok (Media taken)) ∷ before) = now
last_taken (heard octets now (Ok (Restarted restart)) ∷ before) = now
last_taken (restarted_by_call ∷ before) = 0
last_taken (event ∷ before) = last_taken before

-- nothing was taken for so long
abbrev pub IsQuiet : (span : ℕ) → List Event → (now : ℕ) → Type 0
IsQuiet span before now = last_taken before + span ≤ now

-- A stream restarts with `behind` packets, or with `ahead` of them where the stream before is silent; and it is held back for no
-- longer.
abbrev pub IsFounded : Probation → (span : ℕ) → List Event → (now : ℕ) → Result Heard ReceiveFault → Type 0
IsFounded p span before now (Ok (Restarted restart)) = (p.behind ≤ restart.held) ⊎ (IsQuiet span before now × (p.ahead ≤ restart.held))
IsFounded p span before now (Ok (HeldBack held)) = (held < p.behind) × (IsQuiet span before now → held < p.ahead)
IsFounded p span before now answer = Unit {0}
