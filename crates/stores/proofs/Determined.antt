-- What a store answers and is left with follows from what it was.
use Rattle.std.proofs.Common.{◌≡◌, ℕ, Result, Ok, Err, sym, ◌∙◌}
use Rattle.std.specs.Prelude.{OnOk, OnErr}
use Rattle.rtpwire.specs.declared.content.Content.{Content}
use Rattle.stores.specs.declared.slot.PutFault.{PutFault}
use Rattle.stores.specs.Span.{Span}
use Rattle.stores.specs.Put.{put_answer, after_put}

left_alike : (r s : Result ℕ PutFault) (new other ok err : Span) → r ≡ s → OnOk r (new ≡ ok) → OnErr r (new ≡ err) → OnOk s (other ≡ ok) → OnErr s (other ≡ err) → new ≡ other
left_alike (Ok a) (Ok b) new other ok err e o f p g = o ∙ sym p
left_alike (Err a) (Err b) new other ok err e o f p g = f ∙ sym g
left_alike (Ok a) (Err b) new other ok err e o f p g = absurd (cc)
left_alike (Err a) (Ok b) new other ok err e o f p g = absurd (cc)

pub one_put : (old new other : Span) (place now : ℕ) (content : Content) (r s : Result ℕ PutFault) →
    r ≡ put_answer old place → OnOk r (new ≡ after_put old place content now) → OnErr r (new ≡ old) →
    s ≡ put_answer old place → OnOk s (other ≡ after_put old place content now) → OnErr s (other ≡ old) →
    (r ≡ s) × (new ≡ other)
one_put old new other place now content r s answer ok err answer' ok' err' =
    let same = answer ∙ sym answer' in
    (same, left_alike r s new other (after_put old place content now) old same ok err ok' err')
