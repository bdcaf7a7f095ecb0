use Rattle.std.proofs.Common.{◌∙◌, ap}
use Rattle.ob_code_machine.specs.Body.{Run}
use Rattle.ob_code_engine.proofs.Leaps.{reserve_kept}
use Rattle.wf_table.specs.Meaning.{Turned}
use Rattle.ob_code_calls.proofs.running.run_on.Goals as goal

pub returns-clause-ready : goal.returns-clause-ready
returns-clause-ready c =
    ap (λ (t : Turned Run). t.run.reserve) c.run_on-taken.ensures.all
    ∙ reserve_kept c.args.engine.now.parts c.args.most c.args.run.now c.args.block.now
    ∙ c.requires.ready
