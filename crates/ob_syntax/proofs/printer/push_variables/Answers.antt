use Rattle.std.proofs.Common.{◌≡◌, ◌++◌, string_bytes, refl, map, arith}
use Rattle.std.specs.List.{flat_map}
use Rattle.std.proofs.lemmas.Grind.{common_steps}
use Rattle.ob_grammar.specs.View.{var_decl_of}
use Rattle.ob_syntax.specs.Printing.{var_decl_words, spaced}
use Rattle.ob_syntax.proofs.PrintedLoops.{writes_all, loop_writes, loop_wrote}
use Rattle.ob_syntax.proofs.printer.push_variables.Goals as goal

pub loop-declaration-init : goal.loop-declaration-init
loop-declaration-init c = writes_all _ _

pub loop-declaration-preserved : goal.loop-declaration-preserved
loop-declaration-preserved c =
    loop_writes (λ xs. flat_map var_decl_words (map var_decl_of xs)) (λ xs. flat_map var_decl_words (map var_decl_of xs)) (var_decl_words (var_decl_of c.declaration-item.result))
    c.deref-declaration-items.result.now c.loop-declaration.declaration-index c.declaration-item.result
    c.loop-declaration.invariant c.loop-declaration-test.true c.declaration-item.is (λ ys. refl) (grind (arith, common_steps))

pub returns : goal.returns
returns c =
    let e : string_bytes c.loop-declaration.text ≡ string_bytes c.push_word.new.text ++ spaced (flat_map var_decl_words (map var_decl_of c.deref-declaration-items.result.now)) =
    loop_wrote (λ xs. flat_map var_decl_words (map var_decl_of xs)) c.deref-declaration-items.result.now c.loop-declaration.declaration-index
    c.loop-declaration.invariant refl c.loop-declaration-test.false in
    grind (arith, common_steps)
