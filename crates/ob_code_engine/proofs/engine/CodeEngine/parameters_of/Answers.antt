use Rattle.std.proofs.Common.{List, length, Option, sym, ap, ◌∙◌, arith}
use Rattle.ob_interface.specs.declared.export.Formal.{Formal}
use Rattle.ob_code_correct.specs.CodeMeaning.{Entrance, parameters_of}
use Rattle.ob_code_engine.proofs.Exports.{few}
use Rattle.ob_code_engine.proofs.engine.CodeEngine.parameters_of.Goals as goal

pub returns-in-Some-clause-value : goal.returns-in-Some-clause-value
returns-in-Some-clause-value c =
    c.parameters.ensures ∙ ap (λ (o : Option Entrance). parameters_of o) c.in-Some.ensures

pub returns-in-Some-clause-few : goal.returns-in-Some-clause-few
returns-in-Some-clause-few c =
    let e = c.args.self.now in
    let limit = few e.parts e.compiled c.args.number c.in-Some.export.now (sym c.in-Some.ensures) in
    let same = ap (λ (fs : List Formal). length fs) c.parameters.ensures in
    omega (arith, limit, same)

pub returns-in-None-clause-value : goal.returns-in-None-clause-value
returns-in-None-clause-value c = ap (λ (o : Option Entrance). parameters_of o) c.in-None.ensures
