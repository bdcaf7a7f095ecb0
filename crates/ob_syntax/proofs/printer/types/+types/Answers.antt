use Rattle.std.proofs.Common.{◌≡◌, ◌∷◌, [], ◌++◌, false, sym, ◌∙◌, ap}
use Rattle.ob_scan.specs.declared.token.Kind.{Kind}
use Rattle.ob_grammar.specs.Tree
use Rattle.ob_grammar.specs.View.{type_of, fields_in}
use Rattle.ob_syntax.specs.Printing.{fixed, type_words, field_words}
use Rattle.ob_grammar.proofs.Rows.{type_of-record}
use Rattle.ob_syntax.proofs.PrintedLoops.{writes_all, writes_both, writes_rest, loop_writes, loop_wrote, separation, writes_part, fields_left, no_field_left, field_list_first}
use Rattle.ob_syntax.proofs.printer.types.+types.Goals as goal

pub push_fields-loop-list-init : goal.push_fields-loop-list-init
push_fields-loop-list-init t c = writes_all _ _

pub push_fields-loop-list-preserved : goal.push_fields-loop-list-preserved
push_fields-loop-list-preserved t c =
    let x = c.list-item.result in
    loop_writes (fields_left c.loop-list.is_first) (fields_left false) (separation c.loop-list.is_first Kind.Semicolon ++ field_words (fields_in (x ∷ [])))
    c.args.lists.now c.loop-list.list-index x
    c.loop-list.invariant c.loop-list-test.true c.list-item.is (λ ys. field_list_first c.loop-list.is_first x ys)
    (writes_part _ c.loop-list.is_first Kind.Semicolon (field_words (fields_in (x ∷ []))) c.in_ok-push_separator.ensures c.in_ok-push_field_list.ensures)

pub push_fields-returns : goal.push_fields-returns
push_fields-returns t c =
    loop_wrote (fields_left c.loop-list.is_first) c.args.lists.now c.loop-list.list-index c.loop-list.invariant (no_field_left c.loop-list.is_first) c.loop-list-test.false

pub push_type-returns-in_ok-push_fields-in-Record : goal.push_type-returns-in_ok-push_fields-in-Record
push_type-returns-in_ok-push_fields-in-Record t c =
    let place = c.in-Record.place in
    let lists = c.deref-in-Record.result.now in
    let e : type_of c.args.type_expr.now ≡ Tree.Record place (fields_in lists) =
    ap type_of c.in-Record.is ∙ type_of-record place c.in-Record.fields ∙ ap (λ fs. Tree.Record place (fields_in fs)) (sym c.deref-in-Record.ensures.value) in
    writes_rest _ _ _ (fixed Kind.Record ∷ field_words (fields_in lists)) (fixed Kind.End ∷ [])
    (writes_both _ (fixed Kind.Record ∷ []) (field_words (fields_in lists)) c.in_ok-push_word-in-Record.ensures c.in_ok-push_fields-in-Record.ensures)
    (ap type_words e) c.push_word-in-Record-2.ensures
