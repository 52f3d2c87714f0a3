-- What a packed wire keeps of a label.
use Rattle.world.specs.declared.event.Label.{Label}
use Rattle.world.specs.declared.event.Label.TheVariants as label
use Rattle.world.specs.declared.slot.Kind.{Kind}
use Rattle.world.specs.declared.slot.Kind.TheVariants.{Media, Repair, Feedback}

-- all but the pairs of an ask
abbrev pub kind_of : Label → Kind
kind_of (label.Media place) = Media place
kind_of (label.Repair place) = Repair place
kind_of (label.Feedback pairs) = Feedback
