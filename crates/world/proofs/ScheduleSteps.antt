-- How a schedule goes on after one of its packets.
use Rattle.std.proofs.Common.{◌≡◌, ℕ, suc, ◌+◌, List, ◌∷◌, ◌++◌, refl, append_assoc, append-nil, add_assoc}
use Rattle.rand_core.specs.Stream.{Stream, next_u32}
use Rattle.rand_core.specs.Steps.{first_words}
use Rattle.world.specs.declared.event.Event.{Event}
use Rattle.world.specs.declared.event.Event.TheVariants.{Send}
use Rattle.world.specs.Schedule.{numbered_content, delivery, schedule, after_words}

-- what a packet appends by the first word, and what those after it do by the words that are left
pub schedule-step : (loss first_index first_moment sent left count : ℕ) (s t : Stream) (old new : List Event)
    → count ≡ suc left → t ≡ (next_u32 s).1
    → new ≡ old ++ Send (numbered_content (first_moment + sent)) 0 ∷ delivery loss (first_index + sent) (first_moment + sent) (next_u32 s).0
    → new ++ schedule loss (first_index + (sent + 1)) (first_moment + (sent + 1)) (first_words next_u32 left t)
    ≡ old ++ schedule loss (first_index + sent) (first_moment + sent) (first_words next_u32 count s)
unfolding first_words
schedule-step loss first_index first_moment sent left count s t old new one drawn appended =
    rw (appended, one, drawn, append_assoc, add_assoc first_index sent 1, add_assoc first_moment sent 1) refl

pub after_words-step : (left count : ℕ) (s t : Stream) → count ≡ suc left → t ≡ (next_u32 s).1 → after_words left t ≡ after_words count s
after_words-step left count s t one drawn = rw (one, drawn) refl

-- after the last packet nothing is to come
pub schedule-end : (loss index moment count : ℕ) (s : Stream) (old : List Event) → count ≡ 0
    → old ++ schedule loss index moment (first_words next_u32 count s) ≡ old
unfolding first_words
schedule-end loss index moment count s old none = rw (none, append-nil) refl
