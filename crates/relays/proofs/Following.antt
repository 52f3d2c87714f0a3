-- Whether a packet is of a stream has one answer.
use Rattle.std.proofs.Common.{◌≡◌, ◌∙◌, ◌↔◌, ℕ, Bool, true, false, Option, Some, None, ap, refl, sym}
use Rattle.std.specs.declared.net.socket_addr.SocketAddr.{SocketAddr}
use Rattle.relays.specs.declared.stream.Stream.{Stream}
use Rattle.relays.specs.Following.{ComesFrom, Follows, follows_by}

same_answer : (P : Type 0) (a b : Bool) → ((a ≡ true) ↔ P) → ((b ≡ true) ↔ P) → a ≡ b
same_answer P true true one other = refl
same_answer P false false one other = refl
same_answer P true false one other = sym (other.1 (one.0 refl))
same_answer P false true one other = one.1 (other.0 refl)

comes_alike : (own : Option SocketAddr) (from : SocketAddr) (a b : Bool) → ComesFrom own from a → ComesFrom own from b → a ≡ b
comes_alike None from a b one other = one ∙ sym other
comes_alike (Some own) from a b one other = same_answer (from ≡ own) a b one other

pub follows_alike : (s : Stream) (from : SocketAddr) (ssrc now : ℕ) (a b : Bool) → Follows s from ssrc now a → Follows s from ssrc now b → a ≡ b
follows_alike s from ssrc now a b one other = one.2 ∙ ap (follows_by s ssrc now) (comes_alike s.from from one.0 other.0 one.1 other.1) ∙ sym other.2
