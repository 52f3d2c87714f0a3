-- The log and the labels before an ask determine what it asks for.
use Rattle.std.proofs.Common.{◌≡◌, ℕ, ◌<◌, ◌≤◌, true, List, [], ◌∷◌, length, take, Option, Some, None, refl, ap, subst, arith}
use Rattle.places.specs.Among.{is_among}
use Rattle.fbwire.specs.declared.nack.Pair.{Pair}
use Rattle.fbwire.specs.Packing.{IsPacking}
use Rattle.stores.specs.Asking.{longest_ask}
use Rattle.world.specs.declared.event.Label.{Label}
use Rattle.world.specs.declared.event.Entry.{Entry}
use Rattle.world.specs.Config.{Config}
use Rattle.world.specs.JustifiedAsks.{IsAskFor}
use Rattle.world.specs.Good.{MayAsk}
use Rattle.world.proofs.Asking.{same_tests}
use Rattle.world.proofs.OneListing.{rising_take, one_list, first_among}
use Rattle.world.proofs.SameWindows.{OnePacking}

module _ (one_packing : OnePacking) (c : Config) (labels : List Label) (past : List Entry) (now : ℕ) where
  same_places : (a b : List Pair) (x : IsAskFor c labels past now a) (y : IsAskFor c labels past now b) → y.places ≡ x.places
  same_places a b x y =
      one_list y.places x.places (λ k. is_among x.places k)
      (record { rises = y.rising; each = λ k. same_tests (is_among y.places k) (is_among x.places k) (λ h. (x.each k).1 ((y.each k).0 h)) (λ h. (y.each k).1 ((x.each k).0 h)) })
      (record { rises = x.rising; each = λ k. refl })

  -- an ask is for some place
  none_of : (places : List ℕ) (covered : ℕ) → 0 < covered → covered ≤ length (take longest_ask places) → ((k : ℕ) → is_among places k ≡ true → ⊥) → ⊥
  none_of [] covered some within none = absurd (omega (arith, some, within))
  none_of (x ∷ places) covered some within none = none x (first_among x places)

  pub one_ask : (one other : Option (List Pair)) → MayAsk c labels past now one → MayAsk c labels past now other → one ≡ other
  one_ask None None x y = refl
  one_ask None (Some b) none y = absurd (none_of y.places y.covered y.some y.packing.within (λ k h. none k ((y.each k).0 h)))
  one_ask (Some a) None x none = absurd (none_of x.places x.covered x.some x.packing.within (λ k h. none k ((x.each k).0 h)))
  one_ask (Some a) (Some b) x y =
      let packing = subst (λ (places : List ℕ). IsPacking (take longest_ask places) b y.covered) (same_places a b x y) y.packing in
      ap (λ (pairs : List Pair). Some pairs) (one_packing (take longest_ask x.places) a b x.covered y.covered (rising_take longest_ask x.places x.rising) x.narrow x.packing packing).0
