-- Each ask on a faithful wire is a packing of places in rising order.
use Rattle.std.proofs.Common.{◌≡◌, ℕ, ◌≤◌, List, [], ◌∷◌, ◌++◌, length, take, Some, arith, length-take, sym, ap, subst, ◌∙◌, ⊎_elim}
use Rattle.std.specs.Prelude.{slice_get}
use Rattle.std.specs.List.Sorted.{IsStrictlyIncreasing}
use Rattle.std.proofs.lemmas.Option.{none-some}
use Rattle.arrayvec.specs.ArrayVec.{ArrayVec}
use Rattle.fbwire.specs.declared.nack.Pair.{Pair}
use Rattle.fbwire.specs.Packing.{IsPacking, IsNarrow}
use Rattle.stores.specs.Asking.{longest_ask}
use Rattle.world.specs.declared.event.Label.TheVariants.{Media, Repair, Feedback}
use Rattle.world.specs.declared.event.Entry.{Entry}
use Rattle.world.specs.declared.event.Entry.TheVariants.{Sent, SendRefused, Repaired, NoRepair, Asked, NoAsk, Nothing, Delivered, Injected, Played}
use Rattle.world.specs.Config.{Config}
use Rattle.world.specs.Answers.{Item}
use Rattle.world.specs.JustifiedAsks.{pairs_under}
use Rattle.world.specs.Labels.{place_of}
use Rattle.world.specs.Wire.{IsAskedAs, IsFaithful}
use Rattle.world.proofs.Faithful.{get_push}
use Rattle.world.proofs.OneListing.{rising_take}

abbrev pub IsPacked : List Pair → Type 0
IsPacked pairs = (places : List ℕ) × (covered : ℕ) × IsStrictlyIncreasing places × (length places ≤ 1088) × IsNarrow places × IsPacking places pairs covered

packed_now : (c : Config) (pairs : List Pair) (octets : List ℕ) → IsAskedAs c pairs octets → IsPacked pairs
packed_now c pairs octets asked = (take longest_ask asked.places, asked.covered, rising_take longest_ask asked.places asked.rising, (let n = length-take longest_ask asked.places in omega (arith, n)), asked.narrow, asked.packing)

-- what was put on the wire last, or before
last_or : (wire rest : List Item) (last item : Item) (i : ℕ) (Q : Type 0) → wire ≡ rest ++ last ∷ [] → slice_get wire i ≡ Some item → (last ≡ item → Q) → (slice_get rest i ≡ Some item → Q) → Q
last_or wire rest last item i Q is there now earlier = ⊎_elim earlier now (get_push rest last item i (ap (λ (w : List Item). slice_get w i) (sym is) ∙ there))

pub packed : (c : Config) (past : List Entry) (wire : List Item) (i : ℕ) (pairs : ArrayVec Pair) (datagram : ArrayVec ℕ) → IsFaithful c past wire → slice_get wire i ≡ Some (Feedback pairs, datagram) → IsPacked pairs.items
packed c [] wire i pairs datagram is there = absurd (none-some (Feedback pairs, datagram) (ap (λ (w : List Item). slice_get w i) (sym is) ∙ there))
packed c (Sent place index content ∷ past) wire i pairs datagram (rest, d, is, at, sent, before) there =
    last_or wire rest (Media place, d) (Feedback pairs, datagram) i (IsPacked pairs.items) is there
    (λ same. absurd (none-some place (sym (ap (λ (x : Item). place_of x.0) same)))) (λ earlier. packed c past rest i pairs datagram before earlier)
packed c (Repaired place index ∷ past) wire i pairs datagram (rest, d, is, at, sent, before) there =
    last_or wire rest (Repair place, d) (Feedback pairs, datagram) i (IsPacked pairs.items) is there
    (λ same. absurd (none-some place (sym (ap (λ (x : Item). place_of x.0) same)))) (λ earlier. packed c past rest i pairs datagram before earlier)
packed c (Asked index now ∷ past) wire i pairs datagram (rest, d, asked, is, at, sent, before) there =
    last_or wire rest (Feedback asked, d) (Feedback pairs, datagram) i (IsPacked pairs.items) is there
    (λ same. subst IsPacked (ap (λ (x : Item). pairs_under (Some x.0)) same) (packed_now c asked.items d.items sent)) (λ earlier. packed c past rest i pairs datagram before earlier)
packed c (SendRefused fault ∷ past) wire i pairs datagram is there = packed c past wire i pairs datagram is there
packed c (NoRepair ∷ past) wire i pairs datagram is there = packed c past wire i pairs datagram is there
packed c (NoAsk now ∷ past) wire i pairs datagram is there = packed c past wire i pairs datagram is there
packed c (Nothing ∷ past) wire i pairs datagram is there = packed c past wire i pairs datagram is there
packed c (Delivered index label now answer ∷ past) wire i pairs datagram is there = packed c past wire i pairs datagram is there
packed c (Injected end now answer ∷ past) wire i pairs datagram is there = packed c past wire i pairs datagram is there
packed c (Played now answer ∷ past) wire i pairs datagram is there = packed c past wire i pairs datagram is there
