use Rattle.std.proofs.Common.{◌≡◌, ℕ, ap, sym, ◌∙◌}
use Rattle.ob_code_machine.specs.Body as Body
use Rattle.ob_code_correct.specs.CodeMeaning.{turn_of, turned}
use Rattle.ob_code_engine.specs.CodeEngine.{CompiledParts}
use Rattle.wf_table.specs.Meaning.{Turned}
use Rattle.ob_code_engine.proofs.Leaps.{steps_turned}
use Rattle.ob_code_engine.proofs.engine.CodeEngine.run_on.Goals as goal

pub returns : goal.returns
returns c =
    let parts = c.args.self.now.parts in
    let run = c.args.run.now in
    let block = c.args.block.now in
    let e = c.run_on-taken.ensures in
    let of_engine : (k : ℕ) → turned (Body.steps c.self.inside.code.instructions k run block) ≡ turned (Body.steps parts.code.instructions k run block) =
    λ k. ap (λ (e : CompiledParts). turned (Body.steps e.parts.code.instructions k run block)) c.self.view_is in
    let told = ap (λ t. record { turn = t; run = c.run_on-taken.new.self; block = c.run_on-taken.new.block }) c.turn_of.ensures in
    record {
      few = e.few;
      some = e.some;
      on = λ j below. ap (λ (t : Turned _). t.turn) (steps_turned parts j run block ∙ sym (of_engine j)) ∙ ap turn_of (e.on j below);
      taken = told ∙ ap turned e.taken ∙ of_engine c.run_on-taken.result.0 ∙ sym (steps_turned parts c.run_on-taken.result.0 run block);
      all = told ∙ ap turned e.all ∙ of_engine c.args.most ∙ sym (steps_turned parts c.args.most run block);
    }
