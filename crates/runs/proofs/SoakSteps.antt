-- What the loop of a drawn run cites: the words of its stream, block by block, and a block more.
use Rattle.std.proofs.Common.{◌≡◌, ℕ, zero, suc, ◌+◌, ◌-◌, ◌*◌, ◌%◌, ◌<◌, ◌≤◌, Bool, true, false, cond, List, [], ◌∷◌, ◌++◌, length, if◌then◌else◌, not, length-append, refl, subst, arith, Result, Ok, Err, IfOk, OnOk}
use Rattle.std.specs.Prelude.{nat_lt, nat_le, min}
use Rattle.std.proofs.lemmas.Bool.Decides.{nat_tests}
use Rattle.std.proofs.lemmas.Grind.{common_steps}
use Rattle.std.proofs.lemmas.List.Sums.{count_by-le-length}
use Rattle.rand_core.specs.Stream.{Stream, next_u32}
use Rattle.rand_core.specs.Steps.{first_words}
use Rattle.world.specs.declared.event.Event.{Event}
use Rattle.world.specs.declared.event.Event.TheVariants.{Deliver}
use Rattle.world.specs.Config.{Config}
use Rattle.world.specs.Schedule.{schedule, delivery, after_words}
use Rattle.world.specs.World.{Recorded, empty}
use Rattle.runs.specs.Scene.{Scene, Does, scene_of}
use Rattle.runs.specs.Playing.{PlaysOut}
use Rattle.runs.specs.Session.{soak_config}
use Rattle.runs.specs.Tally.{tally_of}
use Rattle.runs.specs.declared.tally.Tally.{Tally}
use Rattle.runs.specs.Soak.{lost, block_size, Settles, IsBlock, AreSizes, IsSoak, Draws}
use Rattle.stores.specs.declared.memory.OutOfMemory.{OutOfMemory}

pub length-first_words : (n : ℕ) (s : Stream) → length (first_words next_u32 n s) ≡ n
unfolding first_words
length-first_words zero s = refl
length-first_words (suc n) s = let h = length-first_words n (next_u32 s).1 in omega (arith, h)

-- ---- what is lost

pub lost_most : (loss n : ℕ) (s : Stream) → lost loss (first_words next_u32 n s) ≤ n
lost_most loss n s = let h = count_by-le-length (λ word. nat_lt (word % 1000) loss) (first_words next_u32 n s) in omega (arith, h, length-first_words n s)

-- two tests of which exactly one holds
delivered : (b l : Bool) (event : Event) → l ≡ not b → length (if b then event ∷ [] else []) + cond l 1 0 ≡ 1
delivered true l event is = rw is refl
delivered false l event is = rw is refl

one_delivery : (loss index moment word : ℕ) → length (delivery loss index moment word) + cond (nat_lt (word % 1000) loss) 1 0 ≡ 1
one_delivery loss index moment word = delivered (nat_le loss (word % 1000)) (nat_lt (word % 1000) loss) (Deliver index moment) (grind (arith, nat_tests))

lost_cons : (loss word : ℕ) (words : List ℕ) → lost loss (word ∷ words) ≡ cond (nat_lt (word % 1000) loss) 1 0 + lost loss words
lost_cons loss word words = grind (arith, common_steps)

-- a packet has two events, but one that is lost has one
length-schedule : (loss index moment : ℕ) (words : List ℕ) → length (schedule loss index moment words) + lost loss words ≡ 2 * length words
length-schedule loss index moment [] = refl
length-schedule loss index moment (word ∷ words) =
    let one = one_delivery loss index moment word in
    let more = length-schedule loss (index + 1) (moment + 1) words in
    let both = length-append (delivery loss index moment word) (schedule loss (index + 1) (moment + 1) words) in
    omega (arith, one, more, both, lost_cons loss word words)

-- how many packets are lost, by how many events there are
pub events_lost : (loss index moment packets : ℕ) (s : Stream) (start events : List Event) → start ≡ [] → events ≡ start ++ schedule loss index moment (first_words next_u32 packets s)
    → length events + lost loss (first_words next_u32 packets s) ≡ 2 * packets
events_lost loss index moment packets s start events none are =
    let len : length events ≡ length (schedule loss index moment (first_words next_u32 packets s)) = rw (are, none) refl in
    omega (arith, len, length-schedule loss index moment (first_words next_u32 packets s), length-first_words packets s)

-- ---- words in two parts

pub lost_split : (loss n a b : ℕ) (s : Stream) → n ≡ a + b → lost loss (first_words next_u32 n s) ≡ lost loss (first_words next_u32 a s) + lost loss (first_words next_u32 b (after_words a s))
unfolding first_words
lost_split loss n zero b s is = let same : n ≡ b = omega (arith, is) in rw same (omega arith)
lost_split loss zero (suc a) b s is = absurd (omega (arith, is))
lost_split loss (suc n) (suc a) b s is = let h = lost_split loss n a b (next_u32 s).1 (omega (arith, is)) in omega (arith, h, lost_cons loss (next_u32 s).0 (first_words next_u32 n (next_u32 s).1), lost_cons loss (next_u32 s).0 (first_words next_u32 a (next_u32 s).1))

pub words_split : (n a b : ℕ) (s : Stream) → n ≡ a + b → after_words n s ≡ after_words b (after_words a s)
words_split n zero b s is = let same : n ≡ b = omega (arith, is) in rw same refl
words_split zero (suc a) b s is = absurd (omega (arith, is))
words_split (suc n) (suc a) b s is = words_split n a b (next_u32 s).1 (omega (arith, is))

-- ---- blocks

-- a block, as code does it
pub block_of : (c : Config) (loss done packets index from now : ℕ) (words : List ℕ) (events start : List Event) (old sent settled new : Scene)
    → length words ≡ packets → index ≡ length old.stand.wire → from ≡ done → start ≡ [] → events ≡ start ++ schedule loss index from words → now ≡ done + packets - 1
    → Does c old events sent → Settles c now sent settled → PlaysOut c now settled new → IsBlock c loss done words old new
block_of c loss done packets index from now words events start old sent settled new size same first none are last sends settles plays =
    let moment : now ≡ done + length words - 1 = omega (arith, size, last) in
    let whole : events ≡ schedule loss (length old.stand.wire) done words = rw (are, none, same, first) refl in
    record {
      sent = sent;
      settled = settled;
      sends = subst (λ (x : List Event). Does c old x sent) whole sends;
      settles = subst (λ n. Settles c n sent settled) moment settles;
      plays = subst (λ n. PlaysOut c n settled new) moment plays;
    }

pub soak_end : (c : Config) (loss done packets : ℕ) (stream : Stream) (end : Scene) → packets ≡ 0 → IsSoak c loss done packets stream end end
soak_end c loss done packets stream end none = record { sizes = []; cut = none; blocks = refl }

-- a block, and then the rest
pub soak_more : (c : Config) (loss done packets size left : ℕ) (stream : Stream) (old mid new : Scene) → packets ≡ size + left → 0 < packets → size ≡ min block_size packets
    → IsBlock c loss done (first_words next_u32 size stream) old mid → IsSoak c loss (done + size) left (after_words size stream) mid new → IsSoak c loss done packets stream old new
soak_more c loss done packets size left stream old mid new is some full block rest =
    record {
      sizes = size ∷ rest.sizes;
      cut = (some, full, subst (AreSizes rest.sizes) (omega (arith, is)) rest.cut);
      blocks = (mid, block, rest.blocks);
    }

-- what a run in a new world tells of its tally
pub drawn_run : (loss packets : ℕ) (stream : Stream) (w : Recorded) (end : Scene) (r : Result Tally OutOfMemory)
    → w ≡ empty soak_config
    → OnOk r (IsSoak w.config loss 0 packets stream (scene_of w) end)
    → IfOk r (λ tally. tally ≡ tally_of (lost loss (first_words next_u32 packets stream)) end.log)
    → IfOk r (Draws loss packets stream)
drawn_run loss packets stream w end (Ok tally) is run counts =
    record {
      end = end;
      run = subst (λ (x : Recorded). IsSoak x.config loss 0 packets stream (scene_of x) end) is run;
      counts = counts;
    }
drawn_run loss packets stream w end (Err fault) is run counts = tt
