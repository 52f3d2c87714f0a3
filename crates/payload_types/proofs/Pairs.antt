-- What is known of a pair that was found.
use Rattle.std.proofs.Common.{◌≡◌, ℕ, ◌==◌, ◌&&◌, ◌||◌, Bool, true, false, List, [], ◌∷◌, Option, Some, None, if◌then◌else◌, refl, sym, subst, ap, arith, rules, ◌<◌, ◌≢◌, ◌+◌, ◌*◌, ◌%◌, ◌∙◌, inl, inr, length, IfSome}
use Rattle.std.specs.Prelude.{not}
use Rattle.std.specs.List.{list_any}
use Rattle.std.proofs.lemmas.Bool.{eqb-true}
use Rattle.rtpwire.specs.FirstOf.{FirstOf}
use Rattle.payload_types.specs.Types.{are_apart, has_type, is_wrong, octets_order, pair_of_media, pair_of_repair, pairs_of}
use Rattle.payload_types.specs.declared.types.TypePair.{TypePair}

pair_in : (other : TypePair) → Option TypePair → TypePair
pair_in other None = other
pair_in other (Some p) = p

media_step : (b : Bool) (p : TypePair) (more : List TypePair) (t : ℕ) (pair : TypePair) → (p.media == t) ≡ b
    → (if b then Some p else pair_of_media more t) ≡ Some pair → (pair_of_media more t ≡ Some pair → pair.media ≡ t) → pair.media ≡ t
unfolding pair_in
media_step true p more t pair is e found = subst (λ s. s.media ≡ t) (ap (pair_in p) e) (eqb-true _ _ is)
media_step false p more t pair is e found = found e

-- a pair that is found by a type has it
pub found_media : (pairs : List TypePair) (t : ℕ) (pair : TypePair) → pair_of_media pairs t ≡ Some pair → pair.media ≡ t
found_media [] t pair e = cc
found_media (p ∷ more) t pair e = media_step (p.media == t) p more t pair refl e (found_media more t pair)

repair_step : (b : Bool) (p : TypePair) (more : List TypePair) (t : ℕ) (pair : TypePair) → (p.repair == t) ≡ b
    → (if b then Some p else pair_of_repair more t) ≡ Some pair → (pair_of_repair more t ≡ Some pair → pair.repair ≡ t) → pair.repair ≡ t
unfolding pair_in
repair_step true p more t pair is e found = subst (λ s. s.repair ≡ t) (ap (pair_in p) e) (eqb-true _ _ is)
repair_step false p more t pair is e found = found e

pub found_repair : (pairs : List TypePair) (t : ℕ) (pair : TypePair) → pair_of_repair pairs t ≡ Some pair → pair.repair ≡ t
found_repair [] t pair e = cc
found_repair (p ∷ more) t pair e = repair_step (p.repair == t) p more t pair refl e (found_repair more t pair)

either : (a b c : Bool) → c ≡ true → ((a || b) || c) ≡ true
either true b c h = refl
either false true c h = refl
either false false c h = h

first_has : (p : TypePair) (more : List TypePair) → list_any (has_type p.media) (p ∷ more) ≡ true
first_has p more = grind arith

has_step : (b : Bool) (p : TypePair) (more : List TypePair) (t : ℕ) (pair : TypePair)
    → (if b then Some p else pair_of_repair more t) ≡ Some pair
    → (pair_of_repair more t ≡ Some pair → list_any (has_type pair.media) more ≡ true) → list_any (has_type pair.media) (p ∷ more) ≡ true
unfolding pair_in
has_step true p more t pair e has = subst (λ s. list_any (has_type s.media) (p ∷ more) ≡ true) (ap (pair_in p) e) (first_has p more)
has_step false p more t pair e has = either (p.media == pair.media) (p.repair == pair.media) (list_any (has_type pair.media) more) (has e)

-- one that is found stands among them
has_media : (pairs : List TypePair) (t : ℕ) (pair : TypePair) → pair_of_repair pairs t ≡ Some pair → list_any (has_type pair.media) pairs ≡ true
has_media [] t pair e = cc
has_media (p ∷ more) t pair e = has_step (p.repair == t) p more t pair e (has_media more t pair)

first_is_found : (p : TypePair) (more : List TypePair) → pair_of_media (p ∷ more) p.media ≡ Some p
first_is_found p more = grind arith

clash : (b : Bool) → not b ≡ true → b ≡ true → ⊥
clash true h i = cc
clash false h i = cc

passed : (b : Bool) (p : TypePair) (more : List TypePair) (pair : TypePair) → (p.media == pair.media) ≡ b
    → not (list_any (has_type p.media) more) ≡ true → list_any (has_type pair.media) more ≡ true → b ≡ false
passed true p more pair is none has =
    absurd (clash (list_any (has_type p.media) more) none (subst (λ m. list_any (has_type m) more ≡ true) (sym (eqb-true _ _ is)) has))
passed false p more pair is none has = refl

-- what is known where no type stands twice
pub apart_parts : (p : TypePair) (more : List TypePair) → are_apart (p ∷ more) ≡ true
    → ((p.media == p.repair) ≡ false) × (not (list_any (has_type p.media) more) ≡ true) × (are_apart more ≡ true)
apart_parts p more h = parts (p.media == p.repair) (not (list_any (has_type p.media) more)) (not (list_any (has_type p.repair) more)) (are_apart more) h
  where
    parts : (a b c d : Bool) → (not a && (b && (c && d))) ≡ true → (a ≡ false) × (b ≡ true) × (d ≡ true)
    parts true b c d h = cc
    parts false false c d h = cc
    parts false true false d h = cc
    parts false true true d h = (refl, refl, h)

chosen : (b : Bool) (p : TypePair) (found : Option TypePair) (pair : TypePair) → b ≡ false → found ≡ Some pair → (if b then Some p else found) ≡ Some pair
chosen true p found pair h e = cc
chosen false p found pair h e = e

pair_step : (b : Bool) (p : TypePair) (more : List TypePair) (t : ℕ) (pair : TypePair) → are_apart (p ∷ more) ≡ true
    → (if b then Some p else pair_of_repair more t) ≡ Some pair
    → (are_apart more ≡ true → pair_of_repair more t ≡ Some pair → pair_of_media more pair.media ≡ Some pair)
    → pair_of_media (p ∷ more) pair.media ≡ Some pair
unfolding pair_in
pair_step true p more t pair apart e found = subst (λ s. pair_of_media (p ∷ more) s.media ≡ Some s) (ap (pair_in p) e) (first_is_found p more)
pair_step false p more t pair apart e found =
    let known = apart_parts p more apart in
    chosen (p.media == pair.media) p (pair_of_media more pair.media) pair
    (passed (p.media == pair.media) p more pair refl known.1 (has_media more t pair e)) (found known.2 e)

-- The pair that has a type of retransmissions is the one that has the type of its media.
pub pair_is_one : (pairs : List TypePair) (t : ℕ) (pair : TypePair) → are_apart pairs ≡ true → pair_of_repair pairs t ≡ Some pair
    → pair_of_media pairs pair.media ≡ Some pair
pair_is_one [] t pair apart e = cc
pair_is_one (p ∷ more) t pair apart e = pair_step (p.repair == t) p more t pair apart e (pair_is_one more t pair)

right_one : (p : TypePair) → is_wrong p ≡ false → (p.media < 128) × (p.repair < 128)
right_one p h = grind arith

neither : (a b : Bool) → (a || b) ≡ false → (a ≡ false) × (b ≡ false)
neither true b h = cc
neither false b h = (refl, h)

found_right : (b : Bool) (p : TypePair) (found : Option TypePair) (pair : TypePair) → (if b then Some p else found) ≡ Some pair
    → (p.media < 128) × (p.repair < 128) → (found ≡ Some pair → (pair.media < 128) × (pair.repair < 128)) → (pair.media < 128) × (pair.repair < 128)
unfolding pair_in
found_right true p found pair e right more = subst (λ s. (s.media < 128) × (s.repair < 128)) (ap (pair_in p) e) right
found_right false p found pair e right more = more e

-- the types of a pair that is found have seven bits
pub media_fits : (pairs : List TypePair) (t : ℕ) (pair : TypePair) → list_any is_wrong pairs ≡ false → pair_of_media pairs t ≡ Some pair
    → (pair.media < 128) × (pair.repair < 128)
media_fits [] t pair right e = cc
media_fits (p ∷ more) t pair right e =
    let parts = neither (is_wrong p) (list_any is_wrong more) right in
    found_right (p.media == t) p (pair_of_media more t) pair e (right_one p parts.0) (media_fits more t pair parts.1)

pub repair_fits : (pairs : List TypePair) (t : ℕ) (pair : TypePair) → list_any is_wrong pairs ≡ false → pair_of_repair pairs t ≡ Some pair
    → (pair.media < 128) × (pair.repair < 128)
repair_fits [] t pair right e = cc
repair_fits (p ∷ more) t pair right e =
    let parts = neither (is_wrong p) (list_any is_wrong more) right in
    found_right (p.repair == t) p (pair_of_repair more t) pair e (right_one p parts.0) (repair_fits more t pair parts.1)

pub first_fits : (p : TypePair) (more : List TypePair) → list_any is_wrong (p ∷ more) ≡ false → (p.media < 128) × (p.repair < 128)
first_fits p more right = right_one p (neither (is_wrong p) (list_any is_wrong more) right).0

none_first : (first : TypePair) (others : List TypePair) (t : ℕ) → list_any is_wrong (first ∷ others) ≡ false → list_any is_wrong others ≡ false
none_first first others t right = (neither (is_wrong first) (list_any is_wrong others) right).1

each_fits : (found : Option TypePair) → ((pair : TypePair) → found ≡ Some pair → (pair.media < 128) × (pair.repair < 128))
    → IfSome found (λ pair. (pair.media < 128) × (pair.repair < 128))
each_fits None fits = search rules
each_fits (Some pair) fits = fits pair refl

-- the same of one that is found behind the first
pub media_behind_fits : (first : TypePair) (others : List TypePair) (t : ℕ) (found : Option TypePair) → list_any is_wrong (first ∷ others) ≡ false
    → found ≡ pair_of_media others t → IfSome found (λ pair. (pair.media < 128) × (pair.repair < 128))
media_behind_fits first others t found right is =
    each_fits found (λ pair e. media_fits others t pair (none_first first others t right) (sym is ∙ e))

pub repair_behind_fits : (first : TypePair) (others : List TypePair) (t : ℕ) (found : Option TypePair) → list_any is_wrong (first ∷ others) ≡ false
    → found ≡ pair_of_repair others t → IfSome found (λ pair. (pair.media < 128) × (pair.repair < 128))
repair_behind_fits first others t found right is =
    each_fits found (λ pair e. repair_fits others t pair (none_first first others t right) (sym is ∙ e))

-- as many pairs as there are octets, two each
two_more : (n : ℕ) → (n + 2) % 2 ≡ n % 2
two_more n = grind arith

counted : (octets : List ℕ) → 2 * length (pairs_of octets) + length octets % 2 ≡ length octets
counted [] = refl
counted (one ∷ []) = refl
counted (media ∷ repair ∷ more) = let rest = counted more in omega (arith, rest, two_more (length more))

too_many_octets : (octets : List ℕ) → length octets % 2 ≢ 1 → 32 < length octets → 16 < length (pairs_of octets)
too_many_octets octets even many = let count = counted octets in omega (arith, count, many, even)

pub count_is_refused : (octets : List ℕ) → (length octets % 2 ≡ 1 → ⊥) → 32 < length octets → FirstOf (octets_order octets) (Some 54)
count_is_refused octets even many = inr (even, inl (inr (too_many_octets octets even many), refl))
