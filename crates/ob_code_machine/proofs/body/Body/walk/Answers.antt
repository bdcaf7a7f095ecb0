use Rattle.std.proofs.Common.{◌≡◌, ◌+◌, ◌≤◌, refl, sym, ◌∙◌, ap, subst, arith}
use Rattle.ob_code_machine.specs.declared.turn.BodyTurn.{BodyTurn}
use Rattle.ob_code_machine.specs.Leaps.{Goes}
use Rattle.ob_code_machine.proofs.Goes.{behind_some, goes_before, last_of, stepped}
use Rattle.ob_code_machine.proofs.body.Body.walk.Goals as goal

pub loop-count-preserved : goal.loop-count-preserved
loop-count-preserved c =
    let code = c.args.code.now.instructions in
    let l = c.loop-count in
    behind_some code l.count 1 (l.count + 1) c.args.self.now c.args.block.now l.self l.block l.invariant refl
    ∙ sym (stepped code l.self l.block c.step.result c.step.new.self c.step.new.block c.step.ensures.turn c.step.ensures.body c.step.ensures.block)
    ∙ ap (λ (t : BodyTurn). record { turn = t; run = c.step.new.self; block = c.step.new.block }) c.in-On.is

pub returns-in_default : goal.returns-in_default
returns-in_default c =
    let code = c.args.code.now.instructions in
    let l = c.loop-count in
    let last =
    stepped code l.self l.block c.step.result c.step.new.self c.step.new.block c.step.ensures.turn c.step.ensures.body c.step.ensures.block
    ∙ sym (behind_some code l.count 1 (l.count + 1) c.args.self.now c.args.block.now l.self l.block l.invariant refl) in
    let few : l.count + 1 ≤ c.args.most = omega (arith, c.loop-count-test.true) in
    record {
      few = few;
      some = λ _. omega arith;
      on = λ j below. goes_before code l.count c.args.self.now c.args.block.now l.self l.block l.invariant j (omega (arith, below));
      taken = last;
      all = last_of code (l.count + 1) c.args.most c.args.self.now c.args.block.now c.step.result c.step.new.self c.step.new.block c.in_default.not-On few last;
    }

pub returns : goal.returns
returns c =
    let code = c.args.code.now.instructions in
    let l = c.loop-count in
    let all : l.count ≡ c.args.most = omega (arith, c.loop-count-test.false, l.auto.count-end) in
    let goes = subst (λ k. Goes code k c.args.self.now c.args.block.now l.self l.block) all l.invariant in
    record {
      few = omega arith;
      some = λ any. any;
      on = λ j below. goes_before code c.args.most c.args.self.now c.args.block.now l.self l.block goes j (omega (arith, below));
      taken = sym goes;
      all = sym goes;
    }
