-- What a link tells of what it carried, where it tells it. The oldest transfer is first.
use Rattle.std.specs.Prelude.{◌≡◌, ◌⊎◌, ℕ, Bool, true, false, List, [], ◌∷◌, ◌++◌, Option, Some, None}
use Rattle.arrayvec.specs.ArrayVec.{ArrayVec}
use Rattle.world.specs.declared.event.End.{End}
use Rattle.runs.specs.declared.link.Transfer.{Transfer}
use Rattle.runs.specs.declared.link.Transfer.TheVariants.{Receipt, Nothing}

-- What was told grew by these transfers. A link that tells nothing is held to nothing.
abbrev pub Grows : Option (List Transfer) → List Transfer → Option (List Transfer) → Type 0
Grows None added new = Unit {0}
Grows (Some told) added new = new ≡ Some (told ++ added)

-- it grew by this transfer, or by none
abbrev pub MayGrow : Option (List Transfer) → Transfer → Option (List Transfer) → Type 0
MayGrow None transfer new = Unit {0}
MayGrow (Some told) transfer new = (new ≡ Some told) ⊎ (new ≡ Some (told ++ transfer ∷ []))

-- what is told where these octets came to an end, or where nothing came
abbrev pub receipt : Bool → End → ArrayVec ℕ → Transfer
receipt true at octets = Receipt at octets
receipt false at octets = Nothing at
