use Rattle.std.proofs.Common.{arith, sym, ◌∙◌}
use Rattle.std.proofs.lemmas.Result.{err_from_is_err_and}
use Rattle.ob_checked.specs.CheckedModule.{program_in}
use Rattle.ob_object_compile.proofs.Compilations.{compilation}
use Rattle.ob_object_compile.proofs.CompileFaults.{beginning_refused, engine_refused, text_refused}
use Rattle.ob_object_compile.specs.Compilation.{IsShort}
use Rattle.ob_object_compile.specs.View.{asked_of, object_in}
use Rattle.ob_object_compile.proofs.compiling.compile_asked.Goals as goal

pub returns-in_err-checked-clause-refused : goal.returns-in_err-checked-clause-refused
returns-in_err-checked-clause-refused c =
    let p = err_from_is_err_and c.from_residual.result c.from_residual.ensures.1 in
    rw (p.1, p.2) (text_refused IsShort (asked_of c.args.asked) c.in_err-checked.field-0.0 c.in_err-checked.ensures.fault c.in_err-checked.ensures.none c.in_err-checked.ensures.memory)

pub returns-in_err-layout-clause-refused : goal.returns-in_err-layout-clause-refused
returns-in_err-layout-clause-refused c =
    let p = err_from_is_err_and c.from_residual-in_err-layout.result c.from_residual-in_err-layout.ensures.1 in
    rw (p.1, p.2) (engine_refused (asked_of c.args.asked) (program_in c.in_ok-checked.checked) c.in_ok-checked.ensures.program c.in_ok-checked.ensures.alone c.in_err-layout.field-0.0 c.in_err-layout.ensures.fault)

pub returns-in_err-opening-clause-refused : goal.returns-in_err-opening-clause-refused
returns-in_err-opening-clause-refused c =
    let p = err_from_is_err_and c.from_residual-in_err-opening.result c.from_residual-in_err-opening.ensures.1 in
    rw (p.1, p.2) (beginning_refused IsShort (asked_of c.args.asked) (program_in c.in_ok-checked.checked) c.in_ok-checked.ensures.program c.in_ok-layout.ensures.short c.in_ok-checked.ensures.alone c.in_err-opening.field-0.0 c.in_err-opening.ensures.fault)

pub returns-clause-object : goal.returns-clause-object
returns-clause-object c =
    compilation IsShort (asked_of c.args.asked) _ _ _ _ _ _ (object_in c.of.result)
    (record {
      processes = c.of.ensures.processes;
      tree_is = c.of.ensures.tree;
      program_is = c.of.ensures.program;
      layout_is = c.of.ensures.layout;
      engine_is = c.of.ensures.engine;
      opening_is = c.of.ensures.opening;
      carried_is = c.of.ensures.carried;
    })
    (record {
      some = omega arith;
      few = omega arith;
      within = omega arith;
      tree_is = c.in_ok-checked.ensures.tree;
      is_module = c.in_ok-checked.ensures.program;
      layout_is = c.in_ok-layout.ensures.layout;
      allowed = c.in_ok-layout.ensures.short;
      engine_is = c.in_ok-layout.ensures.engine;
      begins = c.in_ok-opening.ensures.state;
      carried_is = c.is_carried-carried.ensures;
    })

pub returns-clause-alone : goal.returns-clause-alone
returns-clause-alone c = λ other m. c.in_ok-checked.ensures.alone other m ∙ sym c.of.ensures.program

pub returns-clause-one_tree : goal.returns-clause-one_tree
returns-clause-one_tree c = λ other is. c.in_ok-checked.ensures.one_tree other is ∙ sym c.of.ensures.tree
