-- An ask spells the pairs that are read back from it.
use Rattle.std.proofs.Common.{◌≡◌, ℕ, ◌≤◌, [], ◌∷◌, ◌++◌, length, List, Option, Some, None, refl, sym, subst}
use Rattle.arrayvec.specs.ArrayVec.{ArrayVec}
use Rattle.fbwire.specs.declared.nack.Pair.{Pair}
use Rattle.fbwire.specs.Nack.{Nack, NackSpells}
use Rattle.receiver.specs.Config.{Config}
use Rattle.receiver.specs.Window.{ReceiverState}
use Rattle.receiver.specs.Asks.{AsksAny}
use Rattle.world.specs.declared.event.Label.TheVariants.{Feedback}
use Rattle.world.specs.Config.{Config as Setup}
use Rattle.world.specs.Answers.{WorldState, AsksTo, nack_of}
use Rattle.world.specs.Pairs.{SpellsPairs}

pub spelled_by : (c : Config) (now : ℕ) (old new : Option ReceiverState) (datagram : ArrayVec ℕ) (pairs : ArrayVec Pair) → AsksAny c old now (Some datagram) new →
    ((nack : Nack) → NackSpells nack datagram.items → length nack.pairs ≤ 64 → pairs.items ≡ nack.pairs) → NackSpells (nack_of c.session pairs.items) datagram.items
spelled_by c now None new datagram pairs (none, is) reads = absurd cc
spelled_by c now (Some w) new datagram pairs asks reads =
    let asked = asks.answers.1 in
    subst (λ (ps : List Pair). NackSpells (nack_of c.session ps) datagram.items) (sym (reads (nack_of c.session asked.pairs) asked.spells asked.asked.packing.few)) asked.spells

few_pairs : (c : Config) (now : ℕ) (old new : Option ReceiverState) (datagram : ArrayVec ℕ) (pairs : ArrayVec Pair) → AsksAny c old now (Some datagram) new →
    ((nack : Nack) → NackSpells nack datagram.items → length nack.pairs ≤ 64 → pairs.items ≡ nack.pairs) → length pairs.items ≤ 64
few_pairs c now None new datagram pairs (none, is) reads = absurd cc
few_pairs c now (Some w) new datagram pairs asks reads =
    let asked = asks.answers.1 in
    subst (λ (ps : List Pair). length ps ≤ 64) (sym (reads (nack_of c.session asked.pairs) asked.spells asked.asked.packing.few)) asked.asked.packing.few

-- octets of an ask spell the pairs that are read back from it
pub pairs_spelled : (c : Config) (now : ℕ) (old new : Option ReceiverState) (datagram : ArrayVec ℕ) (pairs : ArrayVec Pair) (octets put : List ℕ) → AsksAny c old now (Some datagram) new →
    octets ≡ datagram.items → put ≡ datagram.items → ((nack : Nack) → NackSpells nack octets → length nack.pairs ≤ 64 → pairs.items ≡ nack.pairs) → SpellsPairs (Feedback pairs) put
pairs_spelled c now old new datagram pairs octets put asks is same reads =
    let reads_it = subst (λ (x : List ℕ). (nack : Nack) → NackSpells nack x → length nack.pairs ≤ 64 → pairs.items ≡ nack.pairs) is reads in
    (nack_of c.session pairs.items, subst (NackSpells (nack_of c.session pairs.items)) (sym same) (spelled_by c now old new datagram pairs asks reads_it), refl, few_pairs c now old new datagram pairs asks reads_it)

-- an ask that lies on the wire under the pairs that are read back from it
pub asked_to : (c : Setup) (config : Config) (now index : ℕ) (old new : WorldState) (datagram : ArrayVec ℕ) (pairs : ArrayVec Pair) (octets : List ℕ) → c.receiver ≡ config →
    AsksAny config old.receiver now (Some datagram) new.receiver → octets ≡ datagram.items → ((nack : Nack) → NackSpells nack octets → length nack.pairs ≤ 64 → pairs.items ≡ nack.pairs) →
    index ≡ length old.wire → new.wire ≡ old.wire ++ (Feedback pairs, datagram) ∷ [] → new.sender ≡ old.sender → AsksTo c old now index new
asked_to c config now index old new datagram pairs octets same asks is reads index_is wire sender =
    let here = subst (λ (x : Config). AsksAny x old.receiver now (Some datagram) new.receiver) (sym same) asks in
    record {
      datagram = datagram;
      pairs = pairs;
      asks = here;
      spells = spelled_by c.receiver now old.receiver new.receiver datagram pairs here (subst (λ (x : List ℕ). (nack : Nack) → NackSpells nack x → length nack.pairs ≤ 64 → pairs.items ≡ nack.pairs) is reads);
      index_is = index_is;
      wire = wire;
      sender = sender;
    }
