-- Texts that are pushed one after another.
use Rattle.std.proofs.Common.{◌≡◌, ℕ, List, [], ◌++◌, sym, ap, ◌∙◌, subst, append_assoc, append-nil, Option, Some, None, Result, Ok, Err}
use Rattle.std.specs.Io.KnownBytes.{Appends}
use Rattle.std.specs.Result.{IsErr, OnErr}
use Rattle.lines.specs.Sink.{AppendsFront, Pushes}

pub none_appended : (a : Option (List ℕ)) → Appends a a []
none_appended None = tt
none_appended (Some x) = sym (append-nil x)

pub both_appended : (a b c : Option (List ℕ)) (xs ys : List ℕ) → Appends a b xs → Appends b c ys → Appends a c (xs ++ ys)
both_appended None b c xs ys p q = tt
both_appended (Some x) None c xs ys p q = absurd p
both_appended (Some x) (Some y) None xs ys p q = absurd q
both_appended (Some x) (Some y) (Some z) xs ys p q = q ∙ ap (λ (l : List ℕ). l ++ ys) p ∙ append_assoc x xs ys

-- a beginning of the first text
pub stopped_in_first : (a b : Option (List ℕ)) (xs ys : List ℕ) → AppendsFront a b xs → AppendsFront a b (xs ++ ys)
stopped_in_first a b xs ys stopped =
    record {
      front = stopped.front;
      rest = stopped.rest ++ ys;
      parts = ap (λ (l : List ℕ). l ++ ys) stopped.parts ∙ append_assoc stopped.front stopped.rest ys;
      appended = stopped.appended;
    }

-- the first text, and a beginning of the next
pub stopped_in_next : (a b c : Option (List ℕ)) (xs ys : List ℕ) → Appends a b xs → AppendsFront b c ys → AppendsFront a c (xs ++ ys)
stopped_in_next a b c xs ys done stopped =
    record {
      front = xs ++ stopped.front;
      rest = stopped.rest;
      parts = ap (λ (l : List ℕ). xs ++ l) stopped.parts ∙ sym (append_assoc xs stopped.front stopped.rest);
      appended = both_appended a b c xs stopped.front done stopped.appended;
    }

-- ---- what that is for the result of a call

-- it failed in a part of its text
pub fails : {U F : Type 0} (r : Result U F) (a b : Option (List ℕ)) (text : List ℕ) → IsErr r → AppendsFront a b text → Pushes r a b text
fails (Ok u) a b text failed stopped = cc failed
fails (Err e) a b text failed stopped = stopped

-- it failed in the first part, or in the next
pub fails_first : {U F : Type 0} (r : Result U F) (a b : Option (List ℕ)) (xs ys text : List ℕ) → IsErr r → text ≡ xs ++ ys
    → AppendsFront a b xs → Pushes r a b text
fails_first r a b xs ys text failed e stopped = fails r a b text failed (subst (AppendsFront a b) (sym e) (stopped_in_first a b xs ys stopped))

pub fails_next : {U F : Type 0} (r : Result U F) (a b c : Option (List ℕ)) (xs ys text : List ℕ) → IsErr r → text ≡ xs ++ ys
    → Appends a b xs → AppendsFront b c ys → Pushes r a c text
fails_next r a b c xs ys text failed e done stopped = fails r a c text failed (subst (AppendsFront a c) (sym e) (stopped_in_next a b c xs ys done stopped))

-- it ended with the push of the last part
pub ends_with : {U F : Type 0} (r : Result U F) (a b c : Option (List ℕ)) (xs ys text : List ℕ) → text ≡ xs ++ ys
    → Appends a b xs → Pushes r b c ys → Pushes r a c text
ends_with (Ok u) a b c xs ys text e done last = subst (Appends a c) (sym e) (both_appended a b c xs ys done last)
ends_with (Err f) a b c xs ys text e done last = subst (AppendsFront a c) (sym e) (stopped_in_next a b c xs ys done last)

-- what holds in any case holds after an Err
pub at_err : {U F P : Type 0} (r : Result U F) → P → OnErr r P
at_err (Ok u) p = tt
at_err (Err e) p = p
