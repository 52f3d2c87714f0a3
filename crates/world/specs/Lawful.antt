-- What the deliveries of a close and honest log may be refused with.
use Rattle.std.specs.Prelude.{◌≡◌, ◌⊎◌, ℕ, IsTrue, List, [], ◌∷◌}
use Rattle.receiver.specs.Fault.{receive_number}
use Rattle.world.specs.declared.event.Answer.{Answer}
use Rattle.world.specs.declared.event.Answer.TheVariants.{Taken, Refused, Marked, FeedbackRefused}
use Rattle.world.specs.declared.event.Entry.{Entry}
use Rattle.world.specs.declared.event.Entry.TheVariants.{Delivered}
use Rattle.world.specs.Config.{Config}

-- It came before the start (33), from too far (34), too late (35), or twice (36); or, at a receiver that learns
-- the SSRC of the retransmissions, it was not asked for (38).
abbrev pub IsLawfulNumber : Config → ℕ → Type 0
IsLawfulNumber c number = (number ≡ 33) ⊎ (number ≡ 34) ⊎ (number ≡ 35) ⊎ (number ≡ 36) ⊎ (IsTrue c.receiver.learns × (number ≡ 38))

-- Feedback is not refused at all.
abbrev pub IsLawful : Config → Answer → Type 0
IsLawful c (Taken taken) = Unit {0}
IsLawful c (Refused fault) = IsLawfulNumber c (receive_number fault)
IsLawful c (Marked marked) = Unit {0}
IsLawful c (FeedbackRefused fault) = ⊥

abbrev pub IsRefusedLawfully : Config → List Entry → Type 0
IsRefusedLawfully c [] = Unit {0}
IsRefusedLawfully c (Delivered index label now answer ∷ before) = IsLawful c answer × IsRefusedLawfully c before
IsRefusedLawfully c (entry ∷ before) = IsRefusedLawfully c before
