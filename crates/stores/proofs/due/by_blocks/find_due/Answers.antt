use Rattle.std.proofs.Common.{◌≡◌, ◌-◌, ◌+◌, ◌<◌, ◌≤◌, ◌++◌, ℕ, false, length, subst, take, min, slice_get, rules, ap, sym, ◌∙◌, arith}
use Rattle.std.proofs.lemmas.Grind.{common_steps}
use Rattle.stores.proofs.Blocks.{block_word}
use Rattle.stores.proofs.DueSlots.{due_left, due_left_whole, due_left_skip, due_left_end, due_left_within, found_full, found_all}
use Rattle.stores.proofs.Bounds.{due_from_of_held, passed_on}
use Rattle.stores.proofs.due.by_blocks.find_due.Goals as goal
use Rattle.std.specs.Prelude.{IfSome}
use Rattle.stores.specs.Asking.{is_missing}
use Rattle.stores.specs.Bound.{IsDueFrom}

pub returns-then-count-due-clause-due : goal.returns-then-count-due-clause-due
returns-then-count-due-clause-due c =
    let fits = c.loop-block.invariant.fits in
    let len = c.loop-block.invariant.len in
    let full = c.if-count-due.true in
    found_full (length c.args.due.now) _ _ _ (c.loop-block.invariant.left ∙ due_left_whole _ _ _ _ _ _) (grind (arith, common_steps))

pub returns-in_default-clause-due : goal.returns-in_default-clause-due
returns-in_default-clause-due c =
    let part = c.look_in-more.ensures.part (search rules) in
    let fits = c.loop-block.invariant.fits in
    let len = c.loop-block.invariant.len in
    let long = c.look_in-more.ensures.len in
    let full = part.2 in
    found_full (length c.args.due.now) _ _ _ (part.1 ∙ c.loop-block.invariant.left ∙ due_left_whole _ _ _ _ _ _) (grind (arith, common_steps))

pub loop-block-preserved-then-not-is_no_sooner : goal.loop-block-preserved-then-not-is_no_sooner
loop-block-preserved-then-not-is_no_sooner c =
    let slots = c.args.slots.now.items in
    let wanted = c.args.wanted in
    let rule = wanted.rule in
    let start = c.loop-block.block.start in
    let next = c.next_block-next.result.start in
    let room = c.requires.room in
    let until = c.len-until.ensures.len in
    let before : start < length slots = let test = c.loop-block-test.true in omega arith in
    let is = c.loop-block.invariant.block in
    let small = is.bit in
    let on = c.next_block-next.ensures.start in
    let end = c.min-end.ensures in
    let capped : c.min-end.result ≡ min next (length slots) = end ∙ ap (min next) until in
    let over = ap (λ n. due_left wanted.now rule.delay rule.retry rule.asks c.args.first slots n) capped ∙ due_left_within wanted.now rule.delay rule.retry rule.asks c.args.first slots next in
    let none = subst (λ o. IfSome o (λ soonest. (p : ℕ) → start ≤ p → p < c.min-end.result → IsDueFrom rule soonest (slice_get slots p))) c.in-Some.is c.look_in-more.ensures.none in
    record {
      block = c.next_block-next.ensures.block;
      left = ap (λ xs. take c.look_in-more.result.0 c.look_in-more.new.due ++ xs) (sym over) ∙ c.look_in-more.ensures.all (search rules) ∙ c.loop-block.invariant.left;
      fits = (let within = c.look_in-more.ensures.within in let len = c.loop-block.invariant.len in omega arith);
      len = c.look_in-more.ensures.len ∙ c.loop-block.invariant.len;
      passed = λ p below inside. passed_on rule c.loop-block.best c.in-Some.soonest c.in-Some.soonest slots start start c.min-end.result (c.is_no_sooner.ensures.sooner c.if-not-is_no_sooner.true) (λ now come. come)
          (λ q early. c.loop-block.invariant.passed q early (omega arith)) (λ q above early. absurd (omega arith)) none p (omega arith);
      at = omega arith;
      blocks = c.look_in-more.ensures.blocks ∙ c.loop-block.invariant.blocks;
      bound = c.look_in-more.ensures.bound;
    }

pub loop-block-preserved-else-not-is_no_sooner : goal.loop-block-preserved-else-not-is_no_sooner
loop-block-preserved-else-not-is_no_sooner c =
    let slots = c.args.slots.now.items in
    let wanted = c.args.wanted in
    let rule = wanted.rule in
    let start = c.loop-block.block.start in
    let next = c.next_block-next.result.start in
    let room = c.requires.room in
    let until = c.len-until.ensures.len in
    let before : start < length slots = let test = c.loop-block-test.true in omega arith in
    let is = c.loop-block.invariant.block in
    let small = is.bit in
    let on = c.next_block-next.ensures.start in
    let end = c.min-end.ensures in
    let capped : c.min-end.result ≡ min next (length slots) = end ∙ ap (min next) until in
    let over = ap (λ n. due_left wanted.now rule.delay rule.retry rule.asks c.args.first slots n) capped ∙ due_left_within wanted.now rule.delay rule.retry rule.asks c.args.first slots next in
    let none = subst (λ o. IfSome o (λ soonest. (p : ℕ) → start ≤ p → p < c.min-end.result → IsDueFrom rule soonest (slice_get slots p))) c.in-Some.is c.look_in-more.ensures.none in
    record {
      block = c.next_block-next.ensures.block;
      left = ap (λ xs. take c.look_in-more.result.0 c.look_in-more.new.due ++ xs) (sym over) ∙ c.look_in-more.ensures.all (search rules) ∙ c.loop-block.invariant.left;
      fits = (let within = c.look_in-more.ensures.within in let len = c.loop-block.invariant.len in omega arith);
      len = c.look_in-more.ensures.len ∙ c.loop-block.invariant.len;
      passed = λ p below inside. passed_on rule c.loop-block.best c.in-Some.soonest c.loop-block.best slots start start c.min-end.result (λ now come. come) (c.is_no_sooner.ensures.later c.if-not-is_no_sooner.false)
          (λ q early. c.loop-block.invariant.passed q early (omega arith)) (λ q above early. absurd (omega arith)) none p (omega arith);
      at = c.loop-block.invariant.at;
      blocks = c.look_in-more.ensures.blocks ∙ c.loop-block.invariant.blocks;
      bound = c.look_in-more.ensures.bound;
    }

-- no place of the block is missing
pub loop-block-preserved : goal.loop-block-preserved
loop-block-preserved c =
    let slots = c.args.slots.now.items in
    let wanted = c.args.wanted in
    let rule = wanted.rule in
    let missing = c.args.missing.now in
    let words = length missing.words.items in
    let start = c.loop-block.block.start in
    let next = c.next_block-next.result.start in
    let end = min next (length slots) in
    let room = c.requires.room in
    let until = c.len-until.ensures.len in
    let before : start < length slots = let test = c.loop-block-test.true in omega arith in
    let is = c.loop-block.invariant.block in
    let small = is.bit in
    let on = c.next_block-next.ensures.start in
    let none : (p : ℕ) → start ≤ p → p < end → is_missing (slice_get slots p) ≡ false = λ p above below.
    sym (c.requires.index p (omega arith)) ∙ c.is_blank.ensures c.if-not-is_blank.false p (block_word words missing.front c.loop-block.block p (p + 1) is above (omega arith) (omega arith) (omega arith)) in
    let skip = due_left_skip wanted.now rule.delay rule.retry rule.asks c.args.first slots start (end - start) end (omega arith) (omega arith) none in
    let over = due_left_within wanted.now rule.delay rule.retry rule.asks c.args.first slots next in
    record {
      block = c.next_block-next.ensures.block;
      left = ap (λ xs. take c.loop-block.count c.loop-block.due ++ xs) (sym (skip ∙ over)) ∙ c.loop-block.invariant.left;
      fits = c.loop-block.invariant.fits;
      len = c.loop-block.invariant.len;
      passed = λ p below inside. passed_on rule c.loop-block.best c.loop-block.best c.loop-block.best slots start start end (λ now come. come) (λ now come. come)
          (λ q early. c.loop-block.invariant.passed q early (omega arith)) (λ q above early. absurd (omega arith))
          (λ q above under. due_from_of_held rule c.loop-block.best (slice_get slots q) (none q above under)) p (omega arith);
      at = c.loop-block.invariant.at;
      blocks = c.loop-block.invariant.blocks;
      bound = c.loop-block.invariant.bound;
    }

pub returns-then-count-ne0-clause-due : goal.returns-then-count-ne0-clause-due
returns-then-count-ne0-clause-due c =
    let until = c.len-until.ensures.len in
    let past = c.loop-block-test.false in
    let fits = c.loop-block.invariant.fits in
    found_all (length c.args.due.now) _ _ _ (c.loop-block.invariant.left ∙ due_left_whole _ _ _ _ _ _) (due_left_end _ _ _ _ _ c.args.slots.now.items c.loop-block.block.start (omega arith)) (grind (arith, common_steps))

pub returns-clause-due : goal.returns-clause-due
returns-clause-due c =
    let until = c.len-until.ensures.len in
    let past = c.loop-block-test.false in
    let fits = c.loop-block.invariant.fits in
    let none = c.if-count-ne0.false in
    found_all (length c.args.due.now) _ _ _ (ap (λ n. take n c.loop-block.due ++ due_left c.args.wanted.now c.args.wanted.rule.delay c.args.wanted.rule.retry c.args.wanted.rule.asks c.args.first c.args.slots.now.items c.loop-block.block.start) (sym none) ∙ c.loop-block.invariant.left ∙ due_left_whole _ _ _ _ _ _) (due_left_end _ _ _ _ _ c.args.slots.now.items c.loop-block.block.start (omega arith)) (omega arith)
