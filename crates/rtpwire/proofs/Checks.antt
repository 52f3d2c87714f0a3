-- The octets that pass every check, and what the first octet of a packet says.
use Rattle.std.proofs.Common.{◌≡◌, ℕ, ◌+◌, ◌-◌, ◌*◌, ◌/◌, ◌%◌, ◌<◌, ◌≤◌, ◌==◌, ◌&&◌, ◌||◌, not, Bool, true, false, cond, List, length, Option, Some, None, arith, refl, inl, inr, ap, eqb, ltb, leb, eq-eqb, ltb-false}
use Rattle.std.proofs.lemmas.Bool.{le-ltb, lt-leb, leb-false, eqb-true, eqb-false, cases_Bool}
use Rattle.rtpwire.specs.declared.fault.RtpFault.{RtpFault}
use Rattle.rtpwire.specs.declared.fault.RtpFault.TheVariants.{Padding}
use Rattle.rtpwire.specs.Rtp.{bit}
use Rattle.rtpwire.specs.RtpChecks.{version_of, is_padded, sources_end, header_end, padding_count, has_bad_padding, rtp_fault}

pub record Passes (octets : List ℕ) : Type 0 where
  pub long : 12 ≤ length octets
  pub version : version_of octets ≡ 2
  pub sources : sources_end octets ≤ length octets
  pub header : header_end octets ≤ length octets
  pub padding : is_padded octets ≡ true → (0 < padding_count octets) × (header_end octets + padding_count octets < length octets)

-- one check of several
skipped : (b : Bool) (x : RtpFault) (y : Option RtpFault) → cond b (Some x) y ≡ None → (b ≡ false) × (y ≡ None)
skipped true x y e = absurd cc
skipped false x y e = (refl, e)

skip : (b : Bool) (x : RtpFault) (y : Option RtpFault) → b ≡ false → y ≡ None → cond b (Some x) y ≡ None
skip b x y passes rest = rw passes rest

both_false : (a b c : Bool) → a ≡ true → (a && (b || c)) ≡ false → (b ≡ false) × (c ≡ false)
both_false false b c holds e = absurd cc
both_false true true c holds e = absurd cc
both_false true false c holds e = (refl, e)

none_true : (a b c : Bool) → b ≡ false → c ≡ false → (a && (b || c)) ≡ false
none_true false b c x y = refl
none_true true b c x y = rw (x, y) refl

not_false : (b : Bool) → not b ≡ false → b ≡ true
not_false true e = refl
not_false false e = absurd cc

pub eqb-positive : (n : ℕ) → 0 < n → eqb n 0 ≡ false
eqb-positive n some = elim (cases_Bool (eqb n 0)) [ inl zero_too ↦ absurd (let e : n ≡ 0 = eqb-true n 0 zero_too in omega arith) | inr f ↦ f ]

pub passed : (octets : List ℕ) → rtp_fault octets ≡ None → Passes octets
passed octets none =
    let a = skipped (ltb (length octets) 12) _ _ none in
    let b = skipped (not (version_of octets == 2)) _ _ a.1 in
    let c = skipped (ltb (length octets) (sources_end octets)) _ _ b.1 in
    let d = skipped (ltb (length octets) (header_end octets)) _ _ c.1 in
    let e = skipped (has_bad_padding octets) Padding None d.1 in
    record {
      long = ltb-false _ _ a.0;
      version = eqb-true _ _ (not_false _ b.0);
      sources = ltb-false _ _ c.0;
      header = ltb-false _ _ d.0;
      padding = λ padded.
          let bad = both_false (is_padded octets) (padding_count octets == 0) (leb (length octets - header_end octets) (padding_count octets)) padded e.0 in
          let some : padding_count octets ≡ 0 → ⊥ = eqb-false _ _ bad.0 in
          let room : padding_count octets < length octets - header_end octets = leb-false _ _ bad.1 in
          (omega arith, omega arith);
    }

no_bad_padding : (octets : List ℕ) → Passes octets → has_bad_padding octets ≡ false
no_bad_padding octets p =
    elim (cases_Bool (is_padded octets)) [
      | inl padded ↦
          let counted = p.padding padded in
          none_true (is_padded octets) _ _ (eqb-positive _ counted.0) (lt-leb _ _ (omega (arith, counted.1)))
      | inr plain ↦ ap (λ b. b && (padding_count octets == 0 || leb (length octets - header_end octets) (padding_count octets))) plain
    ]

pub no_fault : (octets : List ℕ) → Passes octets → rtp_fault octets ≡ None
no_fault octets p =
    skip _ _ _ (le-ltb _ _ p.long)
    (skip _ _ _ (ap not (eq-eqb _ _ p.version))
    (skip _ _ _ (le-ltb _ _ p.sources)
    (skip _ _ _ (le-ltb _ _ p.header)
    (skip _ _ _ (no_bad_padding octets p) refl))))

-- a first octet
abbrev pub first : Bool → Bool → ℕ → ℕ
first padded extended count = 2 * 64 + 32 * bit padded + 16 * bit extended + count

pub first-version : (p x : Bool) (n : ℕ) → n < 16 → first p x n / 64 ≡ 2
first-version true true n h = omega arith
first-version true false n h = omega arith
first-version false true n h = omega arith
first-version false false n h = omega arith

pub first-count : (p x : Bool) (n : ℕ) → n < 16 → first p x n % 16 ≡ n
first-count true true n h = omega arith
first-count true false n h = omega arith
first-count false true n h = omega arith
first-count false false n h = omega arith

pub first-padded : (p x : Bool) (n : ℕ) → n < 16 → first p x n / 32 % 2 ≡ bit p
first-padded true true n h = omega arith
first-padded true false n h = omega arith
first-padded false true n h = omega arith
first-padded false false n h = omega arith

pub first-extended : (p x : Bool) (n : ℕ) → n < 16 → first p x n / 16 % 2 ≡ bit x
first-extended true true n h = omega arith
first-extended true false n h = omega arith
first-extended false true n h = omega arith
first-extended false false n h = omega arith

pub bit-again : (b : Bool) → (bit b == 1) ≡ b
bit-again true = refl
bit-again false = refl
