-- The log before a play determines what is played.
use Rattle.std.proofs.Common.{◌≡◌, ℕ, ◌+◌, List, Some, refl, sym, ap, subst, ◌∙◌, arith, slice_get}
use Rattle.std.proofs.lemmas.Option.{same_Some}
use Rattle.rtpwire.specs.declared.content.Content.{Content}
use Rattle.receiver.specs.declared.answer.Played.{Played as Play_answer}
use Rattle.receiver.specs.declared.answer.Played.TheVariants.{Packet, Gap, Wait}
use Rattle.world.specs.declared.event.Entry.{Entry}
use Rattle.world.specs.Config.{Config}
use Rattle.world.specs.Reading.{contents, WasSent, cursor_of}
use Rattle.world.specs.Reach.{shift_of, IsReached}
use Rattle.world.specs.Justified.{IsWaitFor}
use Rattle.world.specs.Good.{MayPlay}

pub one_content : (c : Config) (past : List Entry) (p q : ℕ) (a b : Content) → p ≡ q → WasSent c past p a → WasSent c past q b → a ≡ b
one_content c past p q a b same x y =
    let i = x.1 in let j = y.1 in
    let counts : x.0 ≡ y.0 = omega (arith, same) in
    same_Some a b (sym x.2 ∙ ap (λ n. slice_get (contents past) n) counts ∙ y.2)

waits_at : (c : Config) (past : List Entry) (now place : ℕ) → cursor_of past ≡ Some place → IsWaitFor c past (cursor_of past) now → IsWaitFor c past (Some place) now
waits_at c past now place at wait = subst (λ o. IsWaitFor c past o now) at wait

same_place : (past : List Entry) (p q : ℕ) → cursor_of past ≡ Some p → cursor_of past ≡ Some q → p ≡ q
same_place past p q a b = same_Some p q (sym a ∙ b)

pub one_play : (c : Config) (past : List Entry) (now : ℕ) (one other : Play_answer) → MayPlay c past now one → MayPlay c past now other → one ≡ other
one_play c past now (Packet p a) (Packet q b) (rising, right, why) (rising', right', why') =
    let same = same_place past p q rising.0 rising'.0 in
    let contents = one_content c past (p + shift_of past) (q + shift_of past) a b (ap (λ n. n + shift_of past) same) right.0 right'.0 in
    λ i. Packet (same i) (contents i)
one_play c past now (Packet p a) (Gap q) (rising, right, why) (rising', right', why') =
    let same = same_place past p q rising.0 rising'.0 in
    absurd (why'.0.not_reached (subst (λ n. IsReached past (n + shift_of past)) same right.1))
one_play c past now (Packet p a) Wait (rising, right, why) (rising', right', why') =
    absurd ((waits_at c past now p rising.0 why'.0).0 right.1)
one_play c past now (Gap p) (Packet q b) (rising, right, why) (rising', right', why') =
    let same = same_place past q p rising'.0 rising.0 in
    absurd (why.0.not_reached (subst (λ n. IsReached past (n + shift_of past)) same right'.1))
one_play c past now (Gap p) (Gap q) (rising, right, why) (rising', right', why') =
    ap Gap (same_place past p q rising.0 rising'.0)
one_play c past now (Gap p) Wait (rising, right, why) (rising', right', why') =
    let noticed = why.0.noticed in
    absurd ((waits_at c past now p rising.0 why'.0).1 noticed.0 noticed.1 noticed.2)
one_play c past now Wait (Packet q b) (rising, right, why) (rising', right', why') =
    absurd ((waits_at c past now q rising'.0 why.0).0 right'.1)
one_play c past now Wait (Gap q) (rising, right, why) (rising', right', why') =
    let noticed = why'.0.noticed in
    absurd ((waits_at c past now q rising'.0 why.0).1 noticed.0 noticed.1 noticed.2)
one_play c past now Wait Wait x y = refl
