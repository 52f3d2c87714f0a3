-- How far a sender's packets had come a while ago: the first index that an answer tells is not of the past.
use Rattle.std.specs.Prelude.{ℕ, ◌-◌, ◌==◌, nat_le, if◌then◌else◌}
use Rattle.liveness.specs.declared.sent.Mark.{Mark}
use Rattle.liveness.specs.declared.sent.Sent.{Sent}

-- the first packet of an SSRC
abbrev pub new_mark : (ssrc index now : ℕ) → Mark
new_mark ssrc index now = record { ssrc = ssrc; older = index; newer = index; moment = now }

-- a mark moves on once a second: so what left within a second lies at the older one, or behind it
abbrev pub marked : Mark → (index now : ℕ) → Mark
marked mark index now = if nat_le 1000 (now - mark.moment) then record mark { older = mark.newer; newer = index; moment = now } else mark

abbrev pub nothing_sent : Sent
nothing_sent = record { earlier = new_mark 0 0 0; later = new_mark 0 0 0 }

-- a packet leaves, of one of two SSRCs, or of another one, for which the one that began first goes
abbrev pub left : Sent → (ssrc index now : ℕ) → Sent
left sent ssrc index now =
    if sent.later.ssrc == ssrc then record sent { later = marked sent.later index now }
    else (if sent.earlier.ssrc == ssrc then record sent { earlier = marked sent.earlier index now }
    else record { earlier = sent.later; later = new_mark ssrc index now })

-- the first index of an SSRC that is not of the past
abbrev pub first_in : Sent → (ssrc : ℕ) → ℕ
first_in sent ssrc =
    if sent.later.ssrc == ssrc then sent.later.older else (if sent.earlier.ssrc == ssrc then sent.earlier.older else 0)
