use Rattle.std.proofs.Common.{◌≡◌, ℕ, inl, inr, ◌+◌, ◌-◌, ◌≤◌, refl, sym, ◌∙◌, ap, arith}
use Rattle.ob_code_machine.specs.declared.turn.BodyTurn.{BodyTurn}
use Rattle.ob_code_machine.specs.declared.turn.BodyTurn.TheVariants.{Stuck}
use Rattle.ob_code_machine.specs.Body.{Run, Step, steps}
use Rattle.ob_code_machine.specs.Leaps.{Goes}
use Rattle.ob_code_machine.proofs.Goes.{behind_some, goes_before, goes_works, last_of, over_sticks, some_of_all, up_to_or_behind}
use Rattle.ob_code_machine.proofs.body.Body.run_on.Goals as goal

pub returns-then-self : goal.returns-then-self
returns-then-self c =
    let code = c.args.code.now.instructions in
    let over = ap (λ (r : Run). r.is_over) (sym c.self.view_is) ∙ c.if-self.true in
    let stuck = over_sticks code c.args.self.now c.args.block.now over in
    record {
      few = omega (arith, c.if-most-eq0.false);
      some = λ _. omega arith;
      on = λ j below. let first : j ≡ 0 = omega (arith, below) in ap (λ k. (steps code k c.args.self.now c.args.block.now).turn) first;
      taken = stuck;
      all = last_of code 1 c.args.most c.args.self.now c.args.block.now Stuck c.args.self.now c.args.block.now (λ never. absurd cc) (omega (arith, c.if-most-eq0.false)) stuck;
    }

pub loop-left-init : goal.loop-left-init
loop-left-init c =
    let none : c.args.most - c.args.most ≡ 0 = omega arith in
    record {
      few = omega arith;
      works = ap (λ (r : Run). r.is_over) (sym c.self.view_is) ∙ c.if-self.false;
      so_far = ap (λ k. steps c.args.code.now.instructions k c.args.self.now c.args.block.now) none;
    }

pub loop-left-preserved : goal.loop-left-preserved
loop-left-preserved c =
    let code = c.args.code.now.instructions in
    let h = c.loop-left.invariant in
    let left = c.loop-left.left in
    let taken = c.leap-turn.result.1 in
    let few = c.leap-turn.ensures.few in
    let test = c.loop-left-test.true in
    let more : c.args.most - (left - taken) ≡ (c.args.most - left) + taken = omega (arith, h.few, few, test) in
    let goes : Goes code taken c.loop-left.self c.loop-left.block c.leap-turn.new.self c.leap-turn.new.block =
    sym c.leap-turn.ensures.steps ∙ ap (λ (t : BodyTurn). record { turn = t; run = c.leap-turn.new.self; block = c.leap-turn.new.block }) c.in-On.is in
    record {
      few = omega (arith, h.few);
      works = goes_works code taken c.loop-left.self c.loop-left.block c.leap-turn.new.self c.leap-turn.new.block h.works goes;
      so_far = behind_some code (c.args.most - left) taken (c.args.most - (left - taken)) c.args.self.now c.args.block.now c.loop-left.self c.loop-left.block h.so_far more ∙ goes;
    }

pub returns-in_default : goal.returns-in_default
returns-in_default c =
    let code = c.args.code.now.instructions in
    let h = c.loop-left.invariant in
    let left = c.loop-left.left in
    let taken = c.leap-turn.result.1 in
    let test = c.loop-left-test.true in
    let one = c.leap-turn.ensures.alone c.in_default.not-On in
    let more : c.args.most - (left - taken) ≡ (c.args.most - left) + taken = omega (arith, h.few, one, test) in
    let last = c.leap-turn.ensures.steps ∙ sym (behind_some code (c.args.most - left) taken (c.args.most - (left - taken)) c.args.self.now c.args.block.now c.loop-left.self c.loop-left.block h.so_far more) in
    let few : c.args.most - (left - taken) ≤ c.args.most = omega arith in
    record {
      few = few;
      some = λ _. omega (arith, h.few, one, test);
      on = λ j below. goes_before code (c.args.most - left) c.args.self.now c.args.block.now c.loop-left.self c.loop-left.block h.so_far j (omega (arith, below, more, one));
      taken = last;
      all = last_of code (c.args.most - (left - taken)) c.args.most c.args.self.now c.args.block.now c.leap-turn.result.0 c.leap-turn.new.self c.leap-turn.new.block c.in_default.not-On few last;
    }

pub returns : goal.returns
returns c =
    let code = c.args.code.now.instructions in
    let h = c.loop-left.invariant in
    let left = c.loop-left.left in
    let few = c.walk-taken.ensures.few in
    let some = c.walk-taken.ensures.some in
    let so_many = c.args.most - left in
    let behind : (j : ℕ) → steps code (so_many + j) c.args.self.now c.args.block.now ≡ steps code j c.loop-left.self c.loop-left.block =
    λ j. behind_some code so_many j (so_many + j) c.args.self.now c.args.block.now c.loop-left.self c.loop-left.block h.so_far refl in
    let all : so_many + left ≡ c.args.most = omega (arith, h.few) in
    record {
      few = omega (arith, few, h.few);
      some = λ any. some_of_all so_many left c.walk-taken.result.0 (omega (arith, all, any)) some;
      on = λ j below. elim (up_to_or_behind so_many j) [
        | inl first ↦ goes_before code so_many c.args.self.now c.args.block.now c.loop-left.self c.loop-left.block h.so_far j first
        | inr later ↦
            let is : so_many + (j - so_many) ≡ j = omega (arith, later) in
            ap (λ k. (steps code k c.args.self.now c.args.block.now).turn) (sym is)
            ∙ ap (λ (t : Step). t.turn) (behind (j - so_many))
            ∙ c.walk-taken.ensures.on (j - so_many) (omega (arith, later, below))
      ];
      taken = c.walk-taken.ensures.taken ∙ sym (behind c.walk-taken.result.0);
      all = c.walk-taken.ensures.all ∙ sym (behind left) ∙ ap (λ k. steps code k c.args.self.now c.args.block.now) all;
    }
