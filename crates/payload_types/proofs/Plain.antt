-- Octets without the padding of a packet that has nothing else.
use Rattle.std.proofs.Common.{◌≡◌, ◌∙◌, ℕ, List, inl, inr, sym}
use Rattle.endpoint.specs.Padding.{IsStripped}
use Rattle.payload_types.specs.Folding.{IsPlain}

pub stripped_is_plain : (octets plain stripped : List ℕ) → IsStripped octets stripped → IsPlain octets plain → plain ≡ stripped
stripped_is_plain octets plain stripped is (inl other) = other.is ∙ sym is.is
stripped_is_plain octets plain stripped is (inr none) = absurd (none.0 stripped is)

pub itself_is_plain : (octets plain : List ℕ) → ((stripped : List ℕ) → IsStripped octets stripped → ⊥) → IsPlain octets plain → plain ≡ octets
itself_is_plain octets plain none (inl stripped) = absurd (none plain stripped)
itself_is_plain octets plain none (inr same) = same.1
