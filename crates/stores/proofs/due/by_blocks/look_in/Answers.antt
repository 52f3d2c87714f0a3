use Rattle.std.proofs.Common.{◌≡◌, ◌≢◌, ◌-◌, ◌+◌, ◌++◌, ◌<◌, ◌≤◌, ℕ, false, take, ⊎_elim, slice_get, length, ap, sym, subst, ◌∙◌, arith}
use Rattle.std.proofs.lemmas.Bool.{cases_eq}
use Rattle.std.proofs.lemmas.Option.{slice_get_read}
use Rattle.stores.proofs.Blocks.{block_word}
use Rattle.stores.proofs.Bounds.{due_from_of_held}
use Rattle.stores.proofs.DueSlots.{due_left_past, due_left_skip, not_due_so_soon}
use Rattle.stores.proofs.due.by_blocks.look_in.Goals as goal
use Rattle.stores.specs.Asking.{is_due, is_missing, has_come}
use Rattle.stores.specs.Due.{due_rest}
use Rattle.stores.specs.Bound.{IsBoundAt, IsDueFrom}
use Rattle.stores.specs.Block.{bit_in_word, word_of}

-- no other place of the block is missing
pub returns-in-Some-clause-all : goal.returns-in-Some-clause-all
returns-in-Some-clause-all c = λ _.
    let slots = c.args.slots.now.items in
    let rule = c.args.wanted.rule in
    let start = c.args.block.start in
    let only = c.in-Some.only in
    let end = c.args.end in
    let at = c.requires.position in
    let ends = c.requires.end in
    let below = c.in-Some.ensures.below end c.requires.below in
    let found = c.in-Some.ensures.found in
    let others : (p : ℕ) → start ≤ p → p < end → p ≢ only → is_missing (slice_get slots p) ≡ false =
    λ p l u apart. c.in-Some.ensures.others (λ p. is_missing (slice_get slots p)) end c.requires.covers p (omega arith) u apart in
    let before = due_left_skip c.args.wanted.now rule.delay rule.retry rule.asks c.args.first slots start (only - start) only (omega arith) (omega arith) (λ p l u. others p l (omega arith) (omega arith)) in
    let behind = due_left_skip c.args.wanted.now rule.delay rule.retry rule.asks c.args.first slots (only + 1) (end - (only + 1)) end (omega arith) ends (λ p l u. others p (omega arith) u (omega arith)) in
    ap (λ xs. take c.look_at-count.result.0 c.look_at-count.new.due ++ xs) (sym behind) ∙ c.look_at-count.ensures.all ∙ ap (λ xs. take c.args.count c.args.due.now ++ xs) (sym before)

pub returns-in-Some-clause-none : goal.returns-in-Some-clause-none
returns-in-Some-clause-none c = λ p l u.
    let slots = c.args.slots.now.items in
    let only = c.in-Some.only in
    let moment = c.look_at-count.result.1 in
    let at = c.requires.position in
    ⊎_elim
    (λ (here : p ≡ only). subst (λ q. IsDueFrom c.args.wanted.rule moment (slice_get slots q)) (sym here) c.look_at-count.ensures.none)
    (λ apart. due_from_of_held c.args.wanted.rule moment (slice_get slots p) (c.in-Some.ensures.others (λ q. is_missing (slice_get slots q)) c.args.end c.requires.covers p (omega arith) u apart))
    (cases_eq p only)

-- and so says their moment
pub returns-then-not-has_come-clause-none : goal.returns-then-not-has_come-clause-none
returns-then-not-has_come-clause-none c = λ p l u.
    let slots = c.args.slots.now.items in
    let bounds = c.args.bounds.now.items in
    let words = length c.args.missing.now.words.items in
    let front = c.args.missing.now.front in
    let ends = c.requires.end in
    let room = c.requires.room in
    let was = slice_get_read bounds words c.args.block.word c.index.result.now (sym c.requires.blocks) c.requires.block.word c.index.ensures in
    let word = ap (λ n. word_of n front p) c.requires.blocks ∙ block_word words front c.args.block p c.args.end c.requires.block l u (omega arith) c.requires.near in
    c.due_from-soonest.ensures c.args.wanted.rule (slice_get slots p) (bit_in_word (length bounds) front p) (c.requires.bound p c.index.result.now (omega arith) (ap (slice_get bounds) word ∙ was))

-- no place of the block is due yet
pub returns-then-not-has_come-clause-all : goal.returns-then-not-has_come-clause-all
returns-then-not-has_come-clause-all c = λ _.
    let slots = c.args.slots.now.items in
    let bounds = c.args.bounds.now.items in
    let words = length c.args.missing.now.words.items in
    let front = c.args.missing.now.front in
    let wanted = c.args.wanted in
    let rule = wanted.rule in
    let start = c.args.block.start in
    let order = c.requires.order in
    let ends = c.requires.end in
    let room = c.requires.room in
    let was = slice_get_read bounds words c.args.block.word c.index.result.now (sym c.requires.blocks) c.requires.block.word c.index.ensures in
    let later : has_come c.due_from-soonest.result wanted.now ≡ false = sym c.has_come.ensures ∙ c.if-not-has_come.true in
    let past = due_left_past wanted.now rule.delay rule.retry rule.asks c.args.first slots start (c.args.end - start) c.args.end (omega arith) ends
    (λ p l u.
    let word = ap (λ n. word_of n front p) c.requires.blocks ∙ block_word words front c.args.block p c.args.end c.requires.block l u (omega arith) c.requires.near in
    let bound = c.requires.bound p c.index.result.now (omega arith) (ap (slice_get bounds) word ∙ was) in
    not_due_so_soon (is_due wanted.now rule.delay rule.retry rule.asks (slice_get slots p)) (has_come c.due_from-soonest.result wanted.now) later
    (c.due_from-soonest.ensures rule (slice_get slots p) (bit_in_word (length bounds) front p) bound wanted.now wanted.moment)) in
    ap (λ xs. take c.args.count c.args.due.now ++ xs) (sym past)

-- what was found is so of each of them
pub returns-clause-none : goal.returns-clause-none
returns-clause-none c = λ p l u.
    let slots = c.args.slots.now.items in
    let whole = c.if-seen-end.false in
    let at = c.requires.position in
    let bound = c.look-count.ensures.bound p (omega arith) (omega arith) in
    c.due_from.ensures c.args.wanted.rule (slice_get slots p) (c.args.block.bit + (p - c.args.ones.position)) bound

pub returns-then-seen-end-clause-part : goal.returns-then-seen-end-clause-part
returns-then-seen-end-clause-part c = λ _.
    let rule = c.args.wanted.rule in (
      c.look-count.result.1,
      c.look-count.ensures.left ∙ ap (λ n. take c.args.count c.args.due.now ++ due_rest c.args.wanted.now rule.delay rule.retry rule.asks c.args.first c.args.slots.now.items n) c.requires.position,
      (let fits = c.look-count.ensures.within in let full = c.look-count.ensures.full c.if-seen-end.true in omega arith),
    )

pub keep_bound-requires-clause-seen : goal.keep_bound-requires-clause-seen
keep_bound-requires-clause-seen c = λ p above below near.
    let under = c.requires.far p below near in
    let whole = c.if-seen-end.false in
    let at = c.requires.position in
    subst (λ n. IsBoundAt c.args.wanted.rule c.look-count.result.2 (c.args.block.bit + (p - n)) (slice_get c.args.slots.now.items p)) at (c.look-count.ensures.bound p (omega arith) (omega arith))

pub returns-clause-all : goal.returns-clause-all
returns-clause-all c = λ _.
    let rule = c.args.wanted.rule in
    let seen = c.look-count.ensures.seen in
    let whole = c.if-seen-end.false in
    let same : c.args.end ≡ c.look-count.result.1 = omega arith in
    ap (λ e. take c.look-count.result.0 c.look-count.new.due ++ due_rest c.args.wanted.now rule.delay rule.retry rule.asks c.args.first c.args.slots.now.items e) same ∙ c.look-count.ensures.left
    ∙ ap (λ n. take c.args.count c.args.due.now ++ due_rest c.args.wanted.now rule.delay rule.retry rule.asks c.args.first c.args.slots.now.items n) c.requires.position

pub only-requires : goal.only-requires
only-requires c =
    let room = c.requires.room in
    let limit = c.args.missing.now.limit in
    let at = c.requires.position in
    let order = c.requires.order in
    let ends = c.requires.end in
    omega arith

pub look-count-requires-clause-small : goal.look-count-requires-clause-small
look-count-requires-clause-small c = let room = c.requires.room in let limit = c.args.missing.now.limit in omega arith
