use Rattle.std.proofs.Common.{[], ◌∷◌, ◌++◌, false, sym, ◌∙◌, ap, map, option_map}
use Rattle.ob_scan.specs.declared.token.Kind.{Kind}
use Rattle.ob_grammar.specs.View.{section_of}
use Rattle.ob_syntax.specs.Printing.{fixed, between, perhaps, section_words, parameter_words}
use Rattle.ob_syntax.proofs.PrintedLoops.{writes_all, separation, writes_part, parts_left, no_part_left, part_left, loop_writes, loop_wrote, writes_rest, writes_both}
use Rattle.ob_syntax.proofs.printer.push_parameters.Goals as goal

pub loop-section-init : goal.loop-section-init
loop-section-init c = writes_all _ _

pub loop-section-preserved : goal.loop-section-preserved
loop-section-preserved c =
    let x = section_of c.section-item.result in
    loop_writes (λ xs. parts_left Kind.Semicolon section_words c.loop-section.is_first (map section_of xs)) (λ xs. parts_left Kind.Semicolon section_words false (map section_of xs))
    (separation c.loop-section.is_first Kind.Semicolon ++ section_words x) c.deref-section-items.result.now c.loop-section.section-index c.section-item.result
    c.loop-section.invariant c.loop-section-test.true c.section-item.is
    (λ ys. part_left Kind.Semicolon section_words c.loop-section.is_first x (map section_of ys))
    (writes_part _ c.loop-section.is_first Kind.Semicolon (section_words x) c.in_ok-push_separator.ensures c.in_ok-push_section.ensures)

pub returns : goal.returns
returns c =
    let xs = map section_of c.deref-section-items.result.now in
    let looped = loop_wrote (λ xs. parts_left Kind.Semicolon section_words c.loop-section.is_first (map section_of xs)) c.deref-section-items.result.now c.loop-section.section-index
    c.loop-section.invariant (no_part_left Kind.Semicolon section_words c.loop-section.is_first) c.loop-section-test.false in
    writes_rest _ _ _ (fixed Kind.LeftParen ∷ between Kind.Semicolon section_words xs) (fixed Kind.RightParen ∷ [])
    (writes_both _ (fixed Kind.LeftParen ∷ []) (between Kind.Semicolon section_words xs) c.in_ok-push_word.ensures looped)
    (ap (λ o. perhaps parameter_words (option_map (λ ys. map section_of ys.items) o)) c.in-Some.is ∙ ap (λ ys. parameter_words (map section_of ys)) (sym c.deref-section-items.ensures.value))
    c.push_word-2.ensures
