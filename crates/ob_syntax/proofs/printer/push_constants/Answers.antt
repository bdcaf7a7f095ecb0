use Rattle.std.proofs.Common.{◌≡◌, ◌++◌, string_bytes, refl, map, arith}
use Rattle.std.specs.List.{flat_map}
use Rattle.std.proofs.lemmas.Grind.{common_steps}
use Rattle.ob_grammar.specs.View.{const_decl_of}
use Rattle.ob_syntax.specs.Printing.{const_words, spaced}
use Rattle.ob_syntax.proofs.PrintedLoops.{writes_all, loop_writes, loop_wrote}
use Rattle.ob_syntax.proofs.printer.push_constants.Goals as goal

pub loop-constant-init : goal.loop-constant-init
loop-constant-init c = writes_all _ _

pub loop-constant-preserved : goal.loop-constant-preserved
loop-constant-preserved c =
    loop_writes (λ xs. flat_map const_words (map const_decl_of xs)) (λ xs. flat_map const_words (map const_decl_of xs)) (const_words (const_decl_of c.constant-item.result))
    c.deref-constant-items.result.now c.loop-constant.constant-index c.constant-item.result
    c.loop-constant.invariant c.loop-constant-test.true c.constant-item.is (λ ys. refl) (grind (arith, common_steps))

pub returns : goal.returns
returns c =
    let e : string_bytes c.loop-constant.text ≡ string_bytes c.push_word.new.text ++ spaced (flat_map const_words (map const_decl_of c.deref-constant-items.result.now)) =
    loop_wrote (λ xs. flat_map const_words (map const_decl_of xs)) c.deref-constant-items.result.now c.loop-constant.constant-index
    c.loop-constant.invariant refl c.loop-constant-test.false in
    grind (arith, common_steps)
