use Rattle.std.proofs.Common.{◌≡◌, ◌∙◌, ap, arith, sym, subst, ℕ, List, Result, Ok, Err, Some, None, Option, option_map}
use Rattle.std.specs.Prelude.{IfOk, MatchResult}
use Rattle.rtpwire.specs.declared.fault.RtpFault.{RtpFault}
use Rattle.rtpwire.specs.Rtp.{RtpPacket, RtpSpells}
use Rattle.rtpwire.specs.RtpChecks.{rtp_fault}
use Rattle.rtpwire.specs.RtpReading.{packet_in}
use Rattle.std.specs.Result.{result_err}
use Rattle.rtpwire.specs.Fault.{rtp_number}
use Rattle.rtpwire.specs.FirstOf.{FirstOf}
use Rattle.rtpwire.specs.RtpOrder.{rtp_order}
use Rattle.rtpwire.proofs.InOrder.{in_order}
use Rattle.rtpwire.proofs.Checks.{no_fault}
use Rattle.rtpwire.proofs.Numbers.{EachOctet}
use Rattle.rtpwire.proofs.Spelled.{spelled}
use Rattle.rtpwire.proofs.Seen.{seen-spelled}
use Rattle.rtpwire.proofs.rtp.RtpView.read.Goals as goal

-- what `checked` says of its answer
abbrev IsChecked : List ℕ → Result RtpPacket RtpFault → Type 0
IsChecked octets r = MatchResult r (λ p. (rtp_fault octets ≡ None) × (p ≡ packet_in octets)) (λ fault. rtp_fault octets ≡ Some fault)

read_spells : (octets : List ℕ) (r : Result RtpPacket RtpFault) → EachOctet octets → IsChecked octets r → IfOk r (λ p. RtpSpells p octets)
read_spells octets (Ok p) all is = subst (λ (x : RtpPacket). RtpSpells x octets) (sym is.1) (seen-spelled octets all is.0)
read_spells octets (Err fault) all is = tt

read_only : (octets : List ℕ) (r : Result RtpPacket RtpFault) → IsChecked octets r → (p : RtpPacket) → RtpSpells p octets → r ≡ Ok p
read_only octets (Ok q) is p s = ap Ok (is.1 ∙ (spelled p octets s).seen)
read_only octets (Err fault) is p s = let none = no_fault octets (spelled p octets s).passes in absurd cc

read_in_order : (octets : List ℕ) (r : Result RtpPacket RtpFault) → IsChecked octets r → FirstOf (rtp_order octets) (option_map rtp_number (result_err r))
read_in_order octets (Ok p) is = subst (λ (fault : Option RtpFault). FirstOf (rtp_order octets) (option_map rtp_number fault)) is.0 (in_order octets)
read_in_order octets (Err fault) is = subst (λ (fault : Option RtpFault). FirstOf (rtp_order octets) (option_map rtp_number fault)) is (in_order octets)

pub returns-clause-spelled : goal.returns-clause-spelled
returns-clause-spelled c = read_spells c.args.octets.now _ (λ i. omega (arith, c.type_inv.octets i)) c.checked.ensures

pub returns-clause-only : goal.returns-clause-only
returns-clause-only c = read_only _ _ c.checked.ensures

pub returns-clause-order : goal.returns-clause-order
returns-clause-order c = read_in_order c.args.octets.now c.checked.result c.checked.ensures
