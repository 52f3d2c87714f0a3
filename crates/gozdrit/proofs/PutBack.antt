-- A handle whose value was lent and is the same again.
use Rattle.std.proofs.Common.{◌≡◌, ap}
use Rattle.std.specs.Prelude.{Option, Some}
use Rattle.gozdrit.specs.declared.handle.Handle.{Handle}
use Rattle.gozdrit.specs.HandleLends.{with_inside}

pub put_back : {X : Type 0} (h : Handle X) (x : X) → Some x ≡ h.inside → with_inside h x ≡ h
put_back h x e = ap (λ (o : Option _). record h { inside = o }) e
