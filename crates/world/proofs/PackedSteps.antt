-- How datagrams lie packed after one more, and where each is found.
use Rattle.std.proofs.Common.{◌≡◌, ℕ, zero, suc, ◌+◌, ◌-◌, ◌<◌, ◌≤◌, List, [], ◌∷◌, ◌++◌, length, length-append, length-drop, take, drop, get_or, slice_get, Some, refl, sym, ap, subst, ◌∙◌, arith}
use Rattle.std.proofs.lemmas.List.{take-append-le, drop-append-le}
use Rattle.std.proofs.lemmas.Option.{same_Some}
use Rattle.std.proofs.Math.Seq.{drop-append_seam}
use Rattle.world.specs.declared.event.Label.{Label}
use Rattle.world.specs.declared.slot.Slot.{Slot}
use Rattle.world.specs.Answers.{Item}
use Rattle.world.specs.Pairs.{SpellsPairs}
use Rattle.world.specs.Kinds.{kind_of}
use Rattle.world.specs.Packed.{Lies, AllLie}

-- a part of a list lies in a longer one
part_kept : (start len : ℕ) (xs more : List ℕ) → start + len ≤ length xs → take len (drop start (xs ++ more)) ≡ take len (drop start xs)
part_kept start len xs more within =
    let short : start ≤ length xs = omega (arith, within) in
    let enough : len ≤ length (drop start xs) = omega (arith, within, length-drop start xs) in
    ap (take len) (drop-append-le start xs more short) ∙ take-append-le len (drop start xs) more enough

lies_kept : (octets more : List ℕ) (slot : Slot) (item : Item) → Lies octets slot item → Lies (octets ++ more) slot item
lies_kept octets more slot item lies =
    let within = lies.within in
    record {
      within = omega (arith, within, length-append octets more);
      octets_are = lies.octets_are ∙ sym (part_kept slot.start slot.len octets more lies.within);
      kind_is = lies.kind_is;
      spells = lies.spells;
    }

-- what lies somewhere still does with more octets behind it
pub all_kept : (octets more : List ℕ) (slots : List Slot) (items : List Item) → AllLie octets slots items → AllLie (octets ++ more) slots items
all_kept octets more [] [] lie = tt
all_kept octets more (slot ∷ slots) (item ∷ items) lie = (lies_kept octets more slot item lie.0, all_kept octets more slots items lie.1)
all_kept octets more [] (item ∷ items) lie = lie
all_kept octets more (slot ∷ slots) [] lie = lie

-- one datagram more
all_more : (octets : List ℕ) (slots : List Slot) (items : List Item) (slot : Slot) (item : Item) → AllLie octets slots items → Lies octets slot item → AllLie octets (slots ++ slot ∷ []) (items ++ item ∷ [])
all_more octets [] [] slot item lie here = (here, tt)
all_more octets (s ∷ slots) (i ∷ items) slot item lie here = (lie.0, all_more octets slots items slot item lie.1 here)
all_more octets [] (i ∷ items) slot item lie here = absurd lie
all_more octets (s ∷ slots) [] slot item lie here = absurd lie

take_all_of : (xs : List ℕ) → take (length xs) xs ≡ xs
take_all_of [] = refl
take_all_of (x ∷ xs) = ap (λ (ys : List ℕ). x ∷ ys) (take_all_of xs)

-- a datagram whose octets are put behind those that were there
pub all_put : (octets more : List ℕ) (slots : List Slot) (items : List Item) (slot : Slot) (label : Label) → AllLie octets slots items
    → slot.start ≡ length octets → slot.len ≡ length more → slot.kind ≡ kind_of label → SpellsPairs label more
    → AllLie (octets ++ more) (slots ++ slot ∷ []) (items ++ (label, record { items = more }) ∷ [])
all_put octets more slots items slot label lie start len kind spells =
    all_more (octets ++ more) slots items slot (label, record { items = more }) (all_kept octets more slots items lie)
    (record {
      within = omega (arith, start, len, length-append octets more);
      octets_are = sym (rw (start, len, drop-append_seam octets more) (take_all_of more));
      kind_is = kind;
      spells = spells;
    })

-- the same, as code does it
pub all_put_so : (octets more octets' : List ℕ) (slots slots' : List Slot) (items items' : List Item) (slot : Slot) (label : Label) → AllLie octets slots items
    → slot.start ≡ length octets → slot.len ≡ length more → slot.kind ≡ kind_of label → SpellsPairs label more
    → octets' ≡ octets ++ more → slots' ≡ slots ++ slot ∷ [] → items' ≡ items ++ (label, record { items = more }) ∷ []
    → AllLie octets' slots' items'
all_put_so octets more octets' slots slots' items items' slot label lie start len kind spells o s i =
    rw (o, s, i) (all_put octets more slots items slot label lie start len kind spells)

-- as many datagrams as slots
pub as_many : (octets : List ℕ) (slots : List Slot) (items : List Item) → AllLie octets slots items → length slots ≡ length items
as_many octets [] [] lie = refl
as_many octets (slot ∷ slots) (item ∷ items) lie = ap suc (as_many octets slots items lie.1)
as_many octets [] (item ∷ items) lie = absurd lie
as_many octets (slot ∷ slots) [] lie = absurd lie

-- the datagram of a slot
pub lies_at : (octets : List ℕ) (slots : List Slot) (items : List Item) (i : ℕ) (slot : Slot) → AllLie octets slots items → slice_get slots i ≡ Some slot
    → (item : Item) × (slice_get items i ≡ Some item) × Lies octets slot item
lies_at octets [] [] i slot lie is = absurd cc
lies_at octets (s ∷ slots) (item ∷ items) zero slot lie is = (item, refl, subst (λ (x : Slot). Lies octets x item) (same_Some s slot is) lie.0)
lies_at octets (s ∷ slots) (item ∷ items) (suc i) slot lie is = lies_at octets slots items i slot lie.1 is
lies_at octets [] (item ∷ items) i slot lie is = absurd lie
lies_at octets (s ∷ slots) [] i slot lie is = absurd lie

-- what is read at an index is the element there
pub found_at : (slots seen : List Slot) (i : ℕ) (slot : Slot) → seen ≡ slots → i < length seen → slot ≡ get_or seen i slot → slice_get slots i ≡ Some slot
found_at slots [] i slot same within is = absurd (omega arith)
found_at slots (s ∷ seen) zero slot same within is = rw (← same) (ap Some (sym is))
found_at slots (s ∷ seen) (suc i) slot same within is = rw (← same) (found_at seen seen i slot refl (omega arith) is)

-- a datagram that is read where its slot says is the one that lies there
pub found_item : (octets seen read : List ℕ) (slot : Slot) (item : Item) (label : Label) (items : List Item) (i : ℕ) → Lies octets slot item → seen ≡ octets
    → read ≡ take (slot.start + slot.len - slot.start) (drop slot.start seen)
    → ((l : Label) → slot.kind ≡ kind_of l → SpellsPairs l read → label ≡ l)
    → slice_get items i ≡ Some item → slice_get items i ≡ Some (label, record { items = read })
found_item octets seen read slot item label items i lies same read_is tells is =
    let long : slot.start + slot.len - slot.start ≡ slot.len = omega arith in
    let part : take (slot.start + slot.len - slot.start) (drop slot.start seen) ≡ take slot.len (drop slot.start octets) = rw (long, same) refl in
    let r : read ≡ item.1.items = read_is ∙ part ∙ sym lies.octets_are in
    let l : label ≡ item.0 = tells item.0 lies.kind_is (subst (SpellsPairs item.0) (sym r) lies.spells) in
    let here : ◌≡◌ {A = Item} (label, record { items = read }) item = rw (l, r) refl in
    is ∙ ap Some (sym here)
