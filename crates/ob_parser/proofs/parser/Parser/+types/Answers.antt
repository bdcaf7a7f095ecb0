use Rattle.std.proofs.Common.{length, [], ◌∷◌, ◌++◌, refl, arith, ap, sym, ◌∙◌}
use Rattle.ob_scan.specs.Tokens.{TokenizedText}
use Rattle.ob_grammar.specs.Tree
use Rattle.ob_grammar.specs.View.{expr_of, type_of}
use Rattle.ob_parser.proofs.Steps.{fill_token, fill_both, closed, before, before_last}
use Rattle.ob_parser.proofs.States.{token_there, at_here, away, starts, no_way, reaches, fails, past, fails_in, fails_here, passed, passed_part, ends_part, path_on, path_as, stays, went_as, false_at, true_at}
use Rattle.ob_parser.proofs.Openings.{went_opens, fails_deep}
use Rattle.ob_parser.proofs.Names.{begins_name, fill_name}
use Rattle.ob_parser.proofs.Types.{fill_type, leads_array, fill_behind_array, leads_fields, reads_no_fields, leads_field_lists, fill_more_fields, more_fields_follow, leads_more_fields, reads_no_more_fields, leads_record, fill_behind_record, leads_called}
use Rattle.ob_parser.proofs.DeclarationLoops.{fields_before, fields_before-push, fields_before-end}
use Rattle.ob_grammar.proofs.Rows.{type_of-record}
use Rattle.ob_parser.proofs.parser.Parser.+types.Goals as goal

pub array_type-returns-then-depth-ge-DEEPEST_NESTING : goal.array_type-returns-then-depth-ge-DEEPEST_NESTING
array_type-returns-then-depth-ge-DEEPEST_NESTING g t c =
    fails_deep (g.S.TokenSource.state c.args.self.now.source) c.too_deep.ensures (λ _ _ w. leads_array (at_here w c.requires)) fill_type (fill_behind_array _) (omega arith) c.requires

pub array_type-take-place-requires : goal.array_type-take-place-requires
array_type-take-place-requires g t c = token_there (g.S.TokenSource.state c.args.self.now.source) c.requires

pub array_type-returns-in_err-length : goal.array_type-returns-in_err-length
array_type-returns-in_err-length g t c =
    let opened = went_opens (omega arith) (c.take-place.ensures.took _ c.requires) in
    let way = past (starts (λ _ _ w. leads_array (at_here w c.requires))) (closed (λ k. refl)) opened in
    passed _ _ _ _ _ _ c.from_residual.ensures.1 (fails_in way (before _ refl) (fill_both fill_token fill_type) _ _ c.in_err-length.ensures)

pub array_type-returns-in_err-element : goal.array_type-returns-in_err-element
array_type-returns-in_err-element g t c =
    let opened = went_opens (omega arith) (c.take-place.ensures.took _ c.requires) in
    let way = past (starts (λ _ _ w. leads_array (at_here w c.requires))) (closed (λ k. refl)) opened in
    let way = past way (before _ refl) c.in_ok-length.ensures in
    passed _ _ _ _ _ _ c.from_residual-in_err-element.ensures.1 (fails way _ _ c.in_err-element.ensures)

pub array_type-returns : goal.array_type-returns
array_type-returns g t c =
    let opened = went_opens (omega arith) (c.take-place.ensures.took _ c.requires) in
    let way = past (starts (λ _ _ w. leads_array (at_here w c.requires))) (closed (λ k. refl)) opened in
    went_as (ap (λ e. Tree.Array c.take-place.result (expr_of c.in_ok-length.length) (type_of e)) (sym c.in_ok-element-2.ensures.ok))
    (reaches (past way (before _ refl) c.in_ok-length.ensures) c.in_ok-element.ensures.1)

pub element-returns-in_err-expect : goal.element-returns-in_err-expect
element-returns-in_err-expect g t c =
    passed_part _ _ _ _ _ _ c.from_residual.ensures.1
    (fails_in (no_way (g.S.TokenSource.state c.args.self.now.source)) (closed (λ k. refl)) fill_type _ _ c.in_err-expect.ensures.answers)

pub element-returns : goal.element-returns
element-returns g t c =
    let way = past (no_way (g.S.TokenSource.state c.args.self.now.source)) (closed (λ k. refl)) c.in_ok-expect.ensures.answers in
    ends_part _ _ _ _ c.type_expr.result (λ t. refl) way c.type_expr.ensures

pub field_list-returns-then-not-at : goal.field_list-returns-then-not-at
field_list-returns-then-not-at g t c = stays (λ _ _ w. reads_no_fields (away w (false_at c.if-not-at.ensures.kind)))

pub field_list-returns-in_err-names : goal.field_list-returns-in_err-names
field_list-returns-in_err-names g t c =
    let way = starts (λ _ _ w. leads_fields (at_here w (true_at c.if-not-at.ensures.kind))) in
    passed _ _ _ _ _ _ c.from_residual.ensures.1 (fails_in way (before _ refl) (fill_both fill_token fill_type) _ _ c.in_err-names.ensures)

pub field_list-returns-in_err-expect : goal.field_list-returns-in_err-expect
field_list-returns-in_err-expect g t c =
    let way = past (starts (λ _ _ w. leads_fields (at_here w (true_at c.if-not-at.ensures.kind)))) (before _ refl) c.in_ok-names.ensures in
    passed _ _ _ _ _ _ c.from_residual-in_err-expect.ensures.1 (fails_in way (closed (λ k. refl)) fill_type _ _ c.in_err-expect.ensures.answers)

pub field_list-returns-in_err-of_type : goal.field_list-returns-in_err-of_type
field_list-returns-in_err-of_type g t c =
    let way = past (starts (λ _ _ w. leads_fields (at_here w (true_at c.if-not-at.ensures.kind)))) (before _ refl) c.in_ok-names.ensures in
    let way = past way (closed (λ k. refl)) c.in_ok-expect.ensures.answers in
    passed _ _ _ _ _ _ c.from_residual-in_err-of_type.ensures.1 (fails way _ _ c.in_err-of_type.ensures)

pub field_list-returns : goal.field_list-returns
field_list-returns g t c =
    let way = past (starts (λ _ _ w. leads_fields (at_here w (true_at c.if-not-at.ensures.kind)))) (before _ refl) c.in_ok-names.ensures in
    reaches (past way (closed (λ k. refl)) c.in_ok-expect.ensures.answers) c.in_ok-of_type.ensures

pub field_lists-returns-in_err-first : goal.field_lists-returns-in_err-first
field_lists-returns-in_err-first g t c =
    passed _ _ _ _ _ _ c.from_residual.ensures.1
    (fails_in (starts (λ _ _ w. leads_field_lists)) more_fields_follow fill_more_fields _ _ c.in_err-first.ensures)

pub field_lists-loop-self-init : goal.field_lists-loop-self-init
field_lists-loop-self-init g t c =
    path_as (λ xs. ap (λ all. fields_before all xs) (sym (c.in_ok-push.ensures.items ∙ ap (λ all. all ++ c.in_ok-first.first ∷ []) c.new-all.ensures.items)))
    (past (starts (λ _ _ w. leads_field_lists)) more_fields_follow c.in_ok-first.ensures)

pub field_lists-returns-in_err-next : goal.field_lists-returns-in_err-next
field_lists-returns-in_err-next g t c =
    let here = true_at c.loop-self-test.ensures.kind in
    let way = past (path_on c.loop-self.invariant (starts (λ _ _ w. leads_more_fields (at_here w here)))) (closed (λ k. refl)) (c.take.ensures.took _ here) in
    passed _ _ _ _ _ _ c.from_residual-in_err-next.ensures.1
    (fails_in (path_on way (starts (λ _ _ w. leads_field_lists))) more_fields_follow fill_more_fields _ _ c.in_err-next.ensures)

pub field_lists-loop-self-preserved : goal.field_lists-loop-self-preserved
field_lists-loop-self-preserved g t c =
    let here = true_at c.loop-self-test.ensures.kind in
    let way = past (path_on c.loop-self.invariant (starts (λ _ _ w. leads_more_fields (at_here w here)))) (closed (λ k. refl)) (c.take.ensures.took _ here) in
    let way = past (path_on way (starts (λ _ _ w. leads_field_lists))) more_fields_follow c.in_ok-next.ensures in
    path_as (λ xs. fields_before-push c.loop-self.all.items c.in_ok-next.next xs ∙ ap (λ all. fields_before all xs) (sym c.in_ok-push-2.ensures.items)) way

pub field_lists-returns : goal.field_lists-returns
field_lists-returns g t c =
    let end = reaches c.loop-self.invariant (stays (λ _ _ w. reads_no_more_fields (away w (false_at c.loop-self-test.ensures.kind)))) in
    went_as (fields_before-end c.loop-self.all.items) end

pub record_type-returns-then-depth-ge-DEEPEST_NESTING : goal.record_type-returns-then-depth-ge-DEEPEST_NESTING
record_type-returns-then-depth-ge-DEEPEST_NESTING g t c =
    fails_deep (g.S.TokenSource.state c.args.self.now.source) c.too_deep.ensures (λ _ _ w. leads_record (at_here w c.requires)) fill_type (fill_behind_record _) (omega arith) c.requires

pub record_type-take-place-requires : goal.record_type-take-place-requires
record_type-take-place-requires g t c = token_there (g.S.TokenSource.state c.args.self.now.source) c.requires

pub record_type-returns-in_err-fields : goal.record_type-returns-in_err-fields
record_type-returns-in_err-fields g t c =
    let opened = went_opens (omega arith) (c.take-place.ensures.took _ c.requires) in
    let way = past (starts (λ _ _ w. leads_record (at_here w c.requires))) (closed (λ k. refl)) opened in
    passed _ _ _ _ _ _ c.from_residual.ensures.1 (fails_in way (before_last refl) fill_token _ _ c.in_err-fields.ensures)

pub record_type-returns-in_err-expect : goal.record_type-returns-in_err-expect
record_type-returns-in_err-expect g t c =
    let opened = went_opens (omega arith) (c.take-place.ensures.took _ c.requires) in
    let way = past (starts (λ _ _ w. leads_record (at_here w c.requires))) (closed (λ k. refl)) opened in
    let way = past way (before_last refl) c.in_ok-fields.ensures in
    passed _ _ _ _ _ _ c.from_residual-in_err-expect.ensures.1 (fails way _ _ c.in_err-expect.ensures.answers)

pub record_type-returns : goal.record_type-returns
record_type-returns g t c =
    let opened = went_opens (omega arith) (c.take-place.ensures.took _ c.requires) in
    let way = past (starts (λ _ _ w. leads_record (at_here w c.requires))) (closed (λ k. refl)) opened in
    let way = past way (before_last refl) c.in_ok-fields.ensures in
    went_as (sym (type_of-record c.take-place.result c.in_ok-fields.fields)) (reaches way c.in_ok-expect.ensures.answers)

pub type_expr-returns-in_err-name : goal.type_expr-returns-in_err-name
type_expr-returns-in_err-name g t c =
    let way = starts (λ _ _ w. leads_called (away w (false_at c.if-at.ensures.kind)) (away w (false_at c.if-at-2.ensures.kind))) in
    passed _ _ _ _ _ _ c.from_residual.ensures.1 (fails way _ _ (fails_here (g.S.TokenSource.state c.args.self.now.source) begins_name fill_name _ _ c.in_err-name.ensures))

pub type_expr-returns-in_ok-name : goal.type_expr-returns-in_ok-name
type_expr-returns-in_ok-name g t c =
    reaches (starts (λ _ _ w. leads_called (away w (false_at c.if-at.ensures.kind)) (away w (false_at c.if-at-2.ensures.kind)))) c.in_ok-name.ensures
