use Rattle.std.proofs.Common.{◌≡◌, ℕ, ◌/◌, List, length, Option, Some, None, IfSome, ◌∙◌, ap}
use Rattle.std.specs.Option.{option_map}
use Rattle.std.proofs.lemmas.Option.{same_Some}
use Rattle.rtpwire.specs.Rtp.{IsExtension, word_octets}
use Rattle.rtpwire.specs.RtpReading.{words_at}
use Rattle.rtpwire.proofs.WordsIn.{words_at-all}
use Rattle.rtpwire.proofs.carried.extension_lent.Goals as goal

-- the extension whose words lie in these octets
seen : (extension : Option (ℕ × List ℕ)) (profile : ℕ) (octets : List ℕ) → ◌≡◌ {A = Option (ℕ × List ℕ)} (Some (profile, octets)) (option_map {U = ℕ × List ℕ} (λ e. (e.0, word_octets e.1)) extension)
    → IfSome extension IsExtension → ◌≡◌ {A = Option (ℕ × List ℕ)} (Some (profile, words_at (length octets / 4) octets)) extension
seen None profile octets e fits = absurd cc
seen (Some e) profile octets same fits =
    let pair : ◌≡◌ {A = ℕ × List ℕ} (profile, octets) (e.0, word_octets e.1) = same_Some (profile, octets) (e.0, word_octets e.1) same in
    let words : words_at (length octets / 4) octets ≡ e.1 = words_at-all e.1 octets fits.words (ap (λ (x : ℕ × List ℕ). x.1) pair) in
    ap (λ x. Some (x, words_at (length octets / 4) octets)) (ap (λ (x : ℕ × List ℕ). x.0) pair) ∙ ap (λ (x : List ℕ). Some (e.0, x)) words

pub returns-in-Some : goal.returns-in-Some
returns-in-Some c = seen c.args.view.now.extension c.in-Some.profile c.in-Some.octets.now c.in-Some.ensures.value c.in-Some.ensures.fits
