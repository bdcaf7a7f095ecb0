use Rattle.std.proofs.Common.{List, sym, subst, ap, ◌∙◌}
use Rattle.std.proofs.lemmas.Result.{IfOk-weaker}
use Rattle.ob_grammar.specs.declared.tree.ModuleTree.{ModuleTree}
use Rattle.ob_grammar.specs.View.{declarations_of, module_of}
use Rattle.ob_explain_names.specs.declared.known.Known.{Known}
use Rattle.ob_explain_names.specs.Visible.{AreVisible, in_module, visible}
use Rattle.ob_explain_names.proofs.visible.visible_names.Goals as goal

pub returns-in-Ok : goal.returns-in-Ok
returns-in-Ok c =
    IfOk-weaker c.names_in.result _ _
    (λ known e.
    subst (λ (names : List Known). AreVisible c.args.text.now c.args.at names)
    (sym (e ∙ ap (λ (t : ModuleTree). visible c.args.at (declarations_of t.declarations)) c.tree.ensures.tree))
    (in_module (module_of c.in-Ok.module) c.in-Ok.ensures.tree))
    c.names_in.ensures
