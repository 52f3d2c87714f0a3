-- An object of figures has no float.
use Rattle.std.proofs.Common.{◌≡◌, ℕ, List, [], ◌∷◌, Bool, true, false, ◌||◌, Result, Ok, Err, String, Global, IfOk, string_bytes, Some, None, Ordering, Less, Equal, Greater, refl, ap, ◌∙◌, rules}
use Rattle.std.specs.Ordering.{nat_cmp, match_ordering}
use Rattle.std.specs.Cmp.Lexicographic.{slice_cmp}
use Rattle.serde_json.specs.Data.{Data, Members, no_members, member, put, object}
use Rattle.serde_json.specs.Written.{compact_text, has_float, members_have_float}
use Rattle.gozdrit_relay.specs.declared.figures.Amount.{Amount}
use Rattle.gozdrit_relay.specs.declared.figures.Amount.TheVariants.{Count, Time, Size}
use Rattle.gozdrit_relay.specs.declared.figures.Figure.{Figure}
use Rattle.gozdrit_relay.specs.Stats.{data_of, object_of, put_all}

no_float_in : (amount : Amount) → has_float (data_of amount) ≡ false
no_float_in (Count n) = refl
no_float_in (Time (Some n)) = refl
no_float_in (Time None) = refl
no_float_in (Size n) = refl

by_order : (o : Ordering) (a b c : Members) → members_have_float a ≡ false → members_have_float b ≡ false → members_have_float c ≡ false → members_have_float (match_ordering o a b c) ≡ false
by_order Less a b c ha hb hc = ha
by_order Equal a b c ha hb hc = hb
by_order Greater a b c ha hb hc = hc

both : (a b : Bool) → a ≡ false → b ≡ false → a || b ≡ false
both a b ha hb = rw ha hb

first : (a b : Bool) → a || b ≡ false → a ≡ false
first false b h = refl
first true b h = h

second : (a b : Bool) → a || b ≡ false → b ≡ false
second false b h = h
second true b h = absurd (search rules)

no_float_put : (k : List ℕ) (d : Data) (ms : Members) → has_float d ≡ false → members_have_float ms ≡ false → members_have_float (put k d ms) ≡ false
no_float_put k d no_members hd hm = both _ _ hd hm
no_float_put k d (member l e ms) hd hm =
    by_order (slice_cmp nat_cmp k l) _ _ _ (both _ _ hd hm) (both _ _ hd (second _ _ hm)) (both _ _ (first _ _ hm) (no_float_put k d ms hd (second _ _ hm)))

no_float_all : (figures : List Figure) (ms : Members) → members_have_float ms ≡ false → members_have_float (put_all figures ms) ≡ false
no_float_all [] ms h = h
no_float_all (figure ∷ figures) ms h = no_float_all figures _ (no_float_put _ _ ms (no_float_in figure.amount) h)

pub has_no_float : (figures : List Figure) → has_float (object_of figures) ≡ false
has_no_float figures = no_float_all figures no_members refl

pub text_of_object : {E : Type 0} (r : Result (String Global) E) (d : Data) (figures : List Figure) → IfOk r (λ s. has_float d ≡ false → string_bytes s ≡ compact_text d) → d ≡ object_of figures → IfOk r (λ s. string_bytes s ≡ compact_text (object_of figures))
text_of_object (Ok s) d figures h e = h (ap has_float e ∙ has_no_float figures) ∙ ap compact_text e
text_of_object (Err e') d figures h e = tt
