use Rattle.std.proofs.Common.{[], ◌∷◌, ◌++◌, false, map}
use Rattle.ob_scan.specs.declared.token.Kind.{Kind}
use Rattle.ob_grammar.specs.Tree
use Rattle.ob_grammar.specs.View.{name_of}
use Rattle.ob_syntax.specs.Printing.{ident}
use Rattle.ob_syntax.proofs.PrintedLoops.{writes_all, separation, writes_part, parts_left, no_part_left, part_left, loop_writes, loop_wrote}
use Rattle.ob_syntax.proofs.printer.push_names.Goals as goal

pub loop-name-init : goal.loop-name-init
loop-name-init c = writes_all _ _

pub loop-name-preserved : goal.loop-name-preserved
loop-name-preserved c =
    let x = name_of c.name-item.result in
    loop_writes (λ xs. parts_left Kind.Comma (λ name. ident name ∷ []) c.loop-name.is_first (map name_of xs))
    (λ xs. parts_left Kind.Comma (λ name. ident name ∷ []) false (map name_of xs))
    (separation c.loop-name.is_first Kind.Comma ++ ident x ∷ []) c.args.names.now c.loop-name.name-index c.name-item.result
    c.loop-name.invariant c.loop-name-test.true c.name-item.is
    (λ ys. part_left Kind.Comma (λ name. ident name ∷ []) c.loop-name.is_first x (map name_of ys))
    (writes_part _ c.loop-name.is_first Kind.Comma (ident x ∷ []) c.in_ok-push_separator.ensures c.in_ok-push_name.ensures)

pub returns : goal.returns
returns c =
    loop_wrote (λ xs. parts_left Kind.Comma (λ name. ident name ∷ []) c.loop-name.is_first (map name_of xs)) c.args.names.now c.loop-name.name-index
    c.loop-name.invariant (no_part_left Kind.Comma (λ (name : Tree.Name). ident name ∷ []) c.loop-name.is_first) c.loop-name-test.false
