-- Where each packet that is played has the cursor's place, played places rise strictly.
use Rattle.std.proofs.Common.{◌≡◌, ℕ, ◌+◌, ◌<◌, List, [], ◌∷◌, Option, Some, sym, ap, ◌∙◌, ⊎_elim, arith}
use Rattle.std.proofs.lemmas.Option.{same_Some}
use Rattle.receiver.specs.declared.answer.Played.TheVariants.{Packet, Gap, Wait}
use Rattle.world.specs.declared.event.Answer.TheVariants.{Taken, Refused, Marked, FeedbackRefused}
use Rattle.world.specs.declared.event.Entry.{Entry}
use Rattle.world.specs.declared.event.Entry.TheVariants.{Sent, SendRefused, Repaired, NoRepair, Asked, NoAsk, Nothing, Delivered, Injected, Played}
use Rattle.world.specs.Config.{Config}
use Rattle.world.specs.Reading.{cursor_of, cursor_from, cursor_next, IsRising, IsPlayed, IsStrictlyRising}

-- the cursor lies above the place
abbrev IsUnder : Option ℕ → ℕ → Type 0
IsUnder cursor place = (x : ℕ) × (cursor ≡ Some x) × (place < x)

after_take : (cursor : Option ℕ) (place taken overrun : ℕ) → IsUnder cursor place → IsUnder (cursor_from cursor taken overrun) place
after_take cursor place taken overrun (x, is, less) = (x + overrun, ap (λ o. cursor_from o taken overrun) is, omega (arith, less))

after_pass : (cursor : Option ℕ) (place : ℕ) → IsUnder cursor place → IsUnder (cursor_next cursor) place
after_pass cursor place (x, is, less) = (x + 1, ap cursor_next is, omega (arith, less))

passed_now : (cursor : Option ℕ) (place played : ℕ) → cursor ≡ Some played → played ≡ place → IsUnder (cursor_next cursor) place
passed_now cursor place played at is = (played + 1, ap cursor_next at, omega (arith, is))

-- what was played lies below the cursor
under : (c : Config) (past : List Entry) → IsRising c past → (place : ℕ) → IsPlayed past place → IsUnder (cursor_of past) place
under c [] rising place never = absurd never
under c (Sent at index content ∷ past) rising place was = under c past rising place was
under c (SendRefused fault ∷ past) rising place was = under c past rising place was
under c (Repaired at index ∷ past) rising place was = under c past rising place was
under c (NoRepair ∷ past) rising place was = under c past rising place was
under c (Asked index now ∷ past) rising place was = under c past rising place was
under c (NoAsk now ∷ past) rising place was = under c past rising place was
under c (Nothing ∷ past) rising place was = under c past rising place was
under c (Delivered index label now (Taken taken) ∷ past) rising place was = after_take (cursor_of past) place taken.place taken.overrun (under c past rising.1 place was)
under c (Delivered index label now (Refused fault) ∷ past) rising place was = under c past rising place was
under c (Delivered index label now (Marked marked) ∷ past) rising place was = under c past rising place was
under c (Delivered index label now (FeedbackRefused fault) ∷ past) rising place was = under c past rising place was
under c (Injected end now (Taken taken) ∷ past) rising place was = after_take (cursor_of past) place taken.place taken.overrun (under c past rising.1 place was)
under c (Injected end now (Refused fault) ∷ past) rising place was = under c past rising place was
under c (Injected end now (Marked marked) ∷ past) rising place was = under c past rising place was
under c (Injected end now (FeedbackRefused fault) ∷ past) rising place was = under c past rising place was
under c (Played now (Packet played content) ∷ past) rising place was =
    ⊎_elim
    (λ is. passed_now (cursor_of past) place played rising.0 is)
    (λ before. after_pass (cursor_of past) place (under c past rising.1 place before))
    was
under c (Played now (Gap gone) ∷ past) rising place was = after_pass (cursor_of past) place (under c past rising.1 place was)
under c (Played now Wait ∷ past) rising place was = under c past rising place was

below : (cursor : Option ℕ) (place earlier : ℕ) → cursor ≡ Some place → IsUnder cursor earlier → earlier < place
below cursor place earlier at (x, is, less) = let same = same_Some x place (sym is ∙ at) in omega (arith, same, less)

pub strictly : (c : Config) (past : List Entry) → IsRising c past → IsStrictlyRising past
strictly c [] rising = tt
strictly c (Sent at index content ∷ past) rising = strictly c past rising
strictly c (SendRefused fault ∷ past) rising = strictly c past rising
strictly c (Repaired at index ∷ past) rising = strictly c past rising
strictly c (NoRepair ∷ past) rising = strictly c past rising
strictly c (Asked index now ∷ past) rising = strictly c past rising
strictly c (NoAsk now ∷ past) rising = strictly c past rising
strictly c (Nothing ∷ past) rising = strictly c past rising
strictly c (Delivered index label now (Taken taken) ∷ past) rising = strictly c past rising.1
strictly c (Delivered index label now (Refused fault) ∷ past) rising = strictly c past rising
strictly c (Delivered index label now (Marked marked) ∷ past) rising = strictly c past rising
strictly c (Delivered index label now (FeedbackRefused fault) ∷ past) rising = strictly c past rising
strictly c (Injected end now (Taken taken) ∷ past) rising = strictly c past rising.1
strictly c (Injected end now (Refused fault) ∷ past) rising = strictly c past rising
strictly c (Injected end now (Marked marked) ∷ past) rising = strictly c past rising
strictly c (Injected end now (FeedbackRefused fault) ∷ past) rising = strictly c past rising
strictly c (Played now (Packet place content) ∷ past) rising =
    (λ earlier was. below (cursor_of past) place earlier rising.0 (under c past rising.1 earlier was), strictly c past rising.1)
strictly c (Played now (Gap place) ∷ past) rising = strictly c past rising.1
strictly c (Played now Wait ∷ past) rising = strictly c past rising
