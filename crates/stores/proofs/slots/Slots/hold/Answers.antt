use Rattle.std.proofs.Common.{◌∙◌, refl, arith, rules}
use Rattle.stores.proofs.Pooled.{held_lt}
use Rattle.stores.proofs.Filling.{all_used, grown_known, held_at}
use Rattle.stores.proofs.CellSteps.{unseen_at}
use Rattle.stores.proofs.slots.Slots.hold.Goals as goal

pub grow-requires-clause-room : goal.grow-requires-clause-room
grow-requires-clause-room c none =
    let fields = c.self.inside in
    let unseen = unseen_at fields.cells fields.contents.items c.args.self.now c.args.index c.self.view_is c.requires in
    let fewer = held_lt fields.cells.items c.args.index unseen.noticed unseen.asks unseen.last unseen.found in
    let used = all_used fields.cells.items fields.contents.items fields.free.items c.self.invariant.pool none in
    let most = c.self.invariant.room in
    let enough = c.self.invariant.contents_room in
    omega (arith, fewer, used, most, enough)

pub grow-requires-clause-limit : goal.grow-requires-clause-limit
grow-requires-clause-limit c none =
    let fields = c.self.inside in
    let unseen = unseen_at fields.cells fields.contents.items c.args.self.now c.args.index c.self.view_is c.requires in
    let fewer = held_lt fields.cells.items c.args.index unseen.noticed unseen.asks unseen.last unseen.found in
    let used = all_used fields.cells.items fields.contents.items fields.free.items c.self.invariant.pool none in
    let most = c.self.invariant.room in
    let limit = c.self.invariant.limit in
    omega (arith, fewer, used, most, limit)

pub fill_free-number-requires-clause-known : goal.fill_free-number-requires-clause-known
fill_free-number-requires-clause-known c =
    let fields = c.self.inside in
    grown_known fields.cells.items fields.contents.items c.grow.new.contents.items fields.free.items c.grow.new.free.items c.self.invariant.pool c.grow.ensures.contents c.grow.ensures.free

pub unwrap-requires : goal.unwrap-requires
unwrap-requires c =
    let fields = c.self.inside in
    let unseen = unseen_at fields.cells fields.contents.items c.args.self.now c.args.index c.self.view_is c.requires in
    let found = unseen.found in
    search rules

pub invariant_of-self : goal.invariant_of-self
invariant_of-self c =
    let fields = c.self.inside in
    let unseen = unseen_at fields.cells fields.contents.items c.args.self.now c.args.index c.self.view_is c.requires in
    (held_at fields.cells _ fields.contents.items c.grow.new.contents.items c.fill_free-number.new.contents.items fields.free.items c.grow.new.free.items c.fill_free-number.new.free.items
    _ _ _ _ c.fill_free-number.result c.args.carried.now c.args.self.now c.self.invariant c.self.view_is c.grow.ensures.contents c.grow.ensures.free c.fill_free-number.ensures.number c.fill_free-number.ensures.contents
    refl (c.fill_free-number.ensures.contents_capacity ∙ c.grow.ensures.contents_capacity) (c.fill_free-number.ensures.free_capacity ∙ c.grow.ensures.free_capacity) c.args.index unseen.noticed unseen.asks unseen.last unseen.found refl).are

pub returns : goal.returns
returns c =
    let fields = c.self.inside in
    let unseen = unseen_at fields.cells fields.contents.items c.args.self.now c.args.index c.self.view_is c.requires in
    (held_at fields.cells _ fields.contents.items c.grow.new.contents.items c.fill_free-number.new.contents.items fields.free.items c.grow.new.free.items c.fill_free-number.new.free.items
    _ _ _ _ c.fill_free-number.result c.args.carried.now c.args.self.now c.self.invariant c.self.view_is c.grow.ensures.contents c.grow.ensures.free c.fill_free-number.ensures.number c.fill_free-number.ensures.contents
    refl (c.fill_free-number.ensures.contents_capacity ∙ c.grow.ensures.contents_capacity) (c.fill_free-number.ensures.free_capacity ∙ c.grow.ensures.free_capacity) c.args.index unseen.noticed unseen.asks unseen.last unseen.found refl).view
