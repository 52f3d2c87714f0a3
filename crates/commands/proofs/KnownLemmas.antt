-- What several reads and writes do together to octets that are known.
use Rattle.std.proofs.Common.{◌≡◌, ℕ, List, [], ◌++◌, None, Some, Option, sym, ap, ◌∙◌, append_assoc, append-nil, length, take, drop, ◌+◌, ◌-◌, subst, refl}
use Rattle.std.specs.Io.KnownBytes.{Keeps, Appends, Consumes, append_known, prepend_known}
use Rattle.std.proofs.lemmas.List.{take_rest}
use Rattle.std.proofs.Math.Seq.{take-add}
use Rattle.commands.specs.declared.fault.SimFault.{SimFault}
use Rattle.commands.specs.declared.fault.SimFault.TheVariants.{BadLine, Read, Write, OutOfMemory}
use Rattle.commands.specs.IsScript.{LacksFeed}
use Rattle.commands.specs.Reading.{IfBoth, EndsWith, EndsInLine, FailsToFill, Leaves}

-- ---- what was written

pub Appends-kept : (a b d : Option (List ℕ)) (xs : List ℕ) → Appends a b xs → Keeps b d → Appends a d xs
Appends-kept None b d xs p q = tt
Appends-kept (Some x) None d xs p q = absurd p
Appends-kept (Some x) (Some y) None xs p q = absurd q
Appends-kept (Some x) (Some y) (Some z) xs p q = q ∙ p

pub Appends-trans : (a b d : Option (List ℕ)) (xs ys : List ℕ) → Appends a b xs → Appends b d ys → Appends a d (xs ++ ys)
Appends-trans None b d xs ys p q = tt
Appends-trans (Some x) None d xs ys p q = absurd p
Appends-trans (Some x) (Some y) None xs ys p q = absurd q
Appends-trans (Some x) (Some y) (Some z) xs ys p q = q ∙ ap (λ l. l ++ ys) p ∙ append_assoc x xs ys

pub Appends-nil : (a : Option (List ℕ)) → Appends a a []
Appends-nil None = tt
Appends-nil (Some x) = sym (append-nil x)

-- a write of the rest of a text, after the front of it
pub wrote_more : (a b d : Option (List ℕ)) (text : List ℕ) (i n : ℕ) → Appends a b (take i text) → Appends b d (take n (take (length text - i) (drop i text))) → Appends a d (take (i + n) text)
wrote_more a b d text i n p q =
    let more = rw (take_rest text i) at q in
    subst (Appends a d) (sym (take-add i n text)) (Appends-trans a b d _ _ p more)

-- what was written and then brought out, where the buffer held nothing more
pub brought_out : (mid inner : Option (List ℕ)) (rest : List ℕ) → Keeps mid (append_known inner rest) → rest ≡ [] → Keeps mid inner
brought_out None inner rest k empty = tt
brought_out (Some x) None rest k empty = absurd k
brought_out (Some x) (Some y) rest k empty = sym (append-nil y) ∙ ap (λ l. y ++ l) (sym empty) ∙ k

-- ---- what is left of a text after what was read

pub lost_held : (old left : Option (List ℕ)) (held : List ℕ) → Keeps old (prepend_known held left) → IfBoth old left EndsWith
lost_held None left held p = tt
lost_held (Some x) None held p = absurd p
lost_held (Some x) (Some y) held p = (held, sym p)

pub lost_after : (old mid left : Option (List ℕ)) → Keeps old mid → IfBoth mid left EndsWith → IfBoth old left EndsWith
lost_after None mid left p q = tt
lost_after (Some x) None left p q = absurd p
lost_after (Some x) (Some y) None p q = absurd q
lost_after (Some x) (Some y) (Some z) p q = (q.0, sym p ∙ q.1)

pub lost_kept : (old left : Option (List ℕ)) (held : List ℕ) → Keeps old left → IfBoth (prepend_known held old) left EndsWith
lost_kept None left held p = tt
lost_kept (Some x) None held p = absurd p
lost_kept (Some x) (Some y) held p = (held, ap (λ l. held ++ l) (sym p))

pub lost_read : (old left : Option (List ℕ)) (held read : List ℕ) → Consumes old left read → IfBoth (prepend_known held old) left EndsWith
lost_read None left held read p = tt
lost_read (Some x) None held read p = absurd p
lost_read (Some x) (Some y) held read p = (held ++ read, ap (λ l. held ++ l) p ∙ sym (append_assoc held read y))

-- a reader failed behind octets in which no line ends
lost_in_line : (old mid left : Option (List ℕ)) (held : List ℕ) → Keeps old (prepend_known held mid) → Keeps mid left → LacksFeed held → IfBoth old left EndsInLine
lost_in_line None mid left held p q plain = tt
lost_in_line (Some x) None left held p q plain = absurd p
lost_in_line (Some x) (Some y) None held p q plain = absurd q
lost_in_line (Some x) (Some y) (Some z) held p q plain = (held, sym p ∙ ap (λ l. held ++ l) (sym q), plain)

-- no piece could be had, behind octets in which no line ends
pub lost_filling : (fault : SimFault) (old mid left : Option (List ℕ)) (held : List ℕ) → Keeps old (prepend_known held mid) → LacksFeed held → FailsToFill fault held mid left → Leaves fault old left
lost_filling (BadLine k) old mid left held p plain h = absurd h
lost_filling Read old mid left held p plain h = lost_in_line old mid left held p h plain
lost_filling Write old mid left held p plain h = absurd h
lost_filling OutOfMemory old mid left held p plain h = lost_after old (prepend_known held mid) left p h

-- what a fault leaves is an end of the text
pub leaves_end : (fault : SimFault) (text left : Option (List ℕ)) → Leaves fault text left → IfBoth text left EndsWith
leaves_end (BadLine k) text left h = h
leaves_end Read None left h = tt
leaves_end Read (Some x) None h = absurd h
leaves_end Read (Some x) (Some y) h = (h.0, h.1)
leaves_end Write text left h = h
leaves_end OutOfMemory text left h = h

pub Keeps-trans : (a b d : Option (List ℕ)) → Keeps a b → Keeps b d → Keeps a d
Keeps-trans None b d p q = tt
Keeps-trans (Some x) None d p q = absurd p
Keeps-trans (Some x) (Some y) None p q = absurd q
Keeps-trans (Some x) (Some y) (Some z) p q = q ∙ p

pub Keeps-refl : (a : Option (List ℕ)) → Keeps a a
Keeps-refl None = tt
Keeps-refl (Some x) = refl
