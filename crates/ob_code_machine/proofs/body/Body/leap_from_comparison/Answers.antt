use Rattle.std.proofs.Common.{◌<◌, refl, sym, ◌∙◌, ap, subst, arith}
use Rattle.ob_code_machine.specs.declared.turn.BodyTurn.TheVariants.{On}
use Rattle.ob_code_machine.specs.Body.{Run}
use Rattle.ob_code_machine.proofs.Goes.{behind_some, goes_works, leaps_more}
use Rattle.ob_code_machine.proofs.body.Body.leap_from_comparison.Goals as goal

pub combine-requires-clause-within : goal.combine-requires-clause-within
combine-requires-clause-within c = subst (λ (r : Run). r.body.pc < 65535) (sym (c.if-not-is_condition.ensures c.args.block.now)) c.requires.within

pub takes_turn-requires : goal.takes_turn-requires
takes_turn-requires c =
    let block = c.args.block.now in
    record { works = goes_works c.args.code.now.instructions 2 c.args.self.now block c.is_condition.new.self block c.requires.works (c.if-not-is_condition.ensures block) }

pub returns-then-takes_turn : goal.returns-then-takes_turn
returns-then-takes_turn c =
    let code = c.args.code.now.instructions in
    let block = c.args.block.now in
    leaps_more code 3 c.args.self.now block c.takes_turn.new.self block (omega arith) (omega arith)
    (behind_some code 2 1 3 c.args.self.now block c.is_condition.new.self block (c.if-not-is_condition.ensures block) refl ∙ c.if-takes_turn.ensures block)

pub returns : goal.returns
returns c =
    let code = c.args.code.now.instructions in
    let block = c.args.block.now in
    leaps_more code 2 c.args.self.now block c.takes_turn.new.self block (omega arith) (omega arith)
    (c.if-not-is_condition.ensures block ∙ ap (λ (r : Run). record { turn = On; run = r; block = block }) (sym (c.if-takes_turn.ensures block)))
