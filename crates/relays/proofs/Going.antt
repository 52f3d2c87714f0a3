-- Runs go on, deed by deed, and end.
use Rattle.std.proofs.Common.{◌≡◌, ℕ, ◌+◌, List, [], ◌∷◌, ◌++◌, Option, Some, None, length, arith, refl, sym, ap, subst, ◌∙◌, append-nil, append_assoc}
use Rattle.arrayvec.specs.ArrayVec.{ArrayVec}
use Rattle.std.specs.declared.net.socket_addr.SocketAddr.{SocketAddr}
use Rattle.relays.specs.declared.outside.Side.{Side}
use Rattle.relays.specs.declared.outside.Passage.{Passage}
use Rattle.relays.specs.declared.outside.Passage.TheVariants.{Waits, Came, Idle}
use Rattle.relays.specs.declared.relay.Turn.{Turn}
use Rattle.relays.specs.Passing.{Grows, left_by, passage_at}
use Rattle.relays.specs.Running.{Hearing, Speaking, Ending, Sleeps, Deed, spoke, waited, heard, GoesOn, Met}

pub grows_nothing : (told : Option (List Passage)) → Grows told [] told
grows_nothing None = tt
grows_nothing (Some told) = ap (λ (x : List Passage). Some x) (sym (append-nil told))

pub grows_then : (a b c : Option (List Passage)) (xs ys : List Passage) → Grows a xs b → Grows b ys c → Grows a (xs ++ ys) c
grows_then None b c xs ys first more = tt
grows_then (Some told) b c xs ys first more =
    let after : Grows (Some (told ++ xs)) ys c = subst (λ (o : Option (List Passage)). Grows o ys c) first more in
    after ∙ ap (λ (x : List Passage). Some x) (append_assoc told xs ys)

-- nothing happened
pub begins : {R : Type 0} (hears : Hearing R) (speaks : Speaking R) (done : Ending R) (r : R) (told : Option (List Passage)) → GoesOn hears speaks done r told [] r 0 told
begins hears speaks done r told = record { passed = []; happen = (refl, refl, refl); tells = grows_nothing told }

-- one deed more
pub goes_then : {R : Type 0} (hears : Hearing R) (speaks : Speaking R) (done : Ending R) (old : R) (deeds : List Deed) (mid : R) (then : ℕ) (new : R) (now : ℕ) (a b c : Option (List Passage))
    → GoesOn hears speaks done old a deeds mid then b → (met : Met hears speaks done mid then b new now c) → GoesOn hears speaks done old a (met.deed ∷ deeds) new now c
goes_then hears speaks done old deeds mid then new now a b c goes met =
    record {
      passed = goes.passed ++ met.passed;
      happen = (mid, then, goes.passed, met.passed, goes.happen, met.happens, refl);
      tells = grows_then a b c goes.passed met.passed goes.tells met.tells;
    }

-- ---- what is done of its own

pub speaks_one : {R : Type 0} (hears : Hearing R) (speaks : Speaking R) (done : Ending R) (old : R) (now : ℕ) (answer : Option Turn) (turn : Turn) (out : List ℕ) (new : R) (a b : Option (List Passage))
    → answer ≡ Some turn → speaks old now answer out new → Grows a (left_by turn out) b → Met hears speaks done old now a new now b
speaks_one hears speaks done old now answer turn out new a b some spoken grows =
    record {
      deed = spoke turn out;
      passed = left_by turn out;
      happens = (refl, subst (λ (o : Option Turn). speaks old now o out new) some spoken, refl);
      tells = grows;
    }

-- ---- a wait

pub meets_nothing : {R : Type 0} (hears : Hearing R) (speaks : Speaking R) (done : Ending R) (old : R) (was : ℕ) (until : Option ℕ) (r : R) (now : ℕ) (came : Option (Side × SocketAddr)) (room : ArrayVec ℕ) (a b : Option (List Passage))
    → Sleeps speaks done old was until r → came ≡ None → Grows a (Waits until ∷ passage_at came now room ∷ []) b → Met hears speaks done old was a r now b
meets_nothing hears speaks done old was until r now came room a b sleeps none grows =
    record {
      deed = waited until;
      passed = Waits until ∷ Idle now ∷ [];
      happens = (sleeps, refl);
      tells = subst (λ (o : Option (Side × SocketAddr)). Grows a (Waits until ∷ passage_at o now room ∷ []) b) none grows;
    }

pub meets_something : {R : Type 0} (hears : Hearing R) (speaks : Speaking R) (done : Ending R) (old : R) (was : ℕ) (until : Option ℕ) (mid : R) (now : ℕ) (came : Option (Side × SocketAddr)) (side : Side) (from : SocketAddr) (room : ArrayVec ℕ) (octets : List ℕ) (turn : Turn) (out : List ℕ) (new : R) (a b c : Option (List Passage))
    → Sleeps speaks done old was until mid → came ≡ Some (side, from) → Grows a (Waits until ∷ passage_at came now room ∷ []) b → octets ≡ room.items
    → hears mid side from octets now turn out new → Grows b (left_by turn out) c → Met hears speaks done old was a new now c
meets_something hears speaks done old was until mid now came side from room octets turn out new a b c sleeps some grows is heard_it leaves =
    record {
      deed = heard until side from room turn out;
      passed = Waits until ∷ Came side from room now ∷ left_by turn out;
      happens = (record { mid = mid; sleeps = sleeps; hears_it = subst (λ (x : List ℕ). hears mid side from x now turn out new) is heard_it }, refl);
      tells = grows_then a b c (Waits until ∷ Came side from room now ∷ []) (left_by turn out)
          (subst (λ (o : Option (Side × SocketAddr)). Grows a (Waits until ∷ passage_at o now room ∷ []) b) some grows) leaves;
    }

-- ---- how many

pub one_more : (deed : Deed) (deeds : List Deed) (count : ℕ) → length deeds ≡ count → length (deed ∷ deeds) ≡ count + 1
one_more deed deeds count is = grind (arith)
