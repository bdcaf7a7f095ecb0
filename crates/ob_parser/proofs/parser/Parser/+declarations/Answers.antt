use Rattle.std.proofs.Common.{length, refl, sym, ap, arith, ◌∙◌}
use Rattle.ob_scan.specs.Tokens.{TokenizedText}
use Rattle.ob_grammar.specs.View.{name_of}
use Rattle.ob_parser.proofs.Steps.{closed, before, fill_token, fill_both}
use Rattle.ob_parser.proofs.States.{at_here, away, starts, no_way, reaches, fails, fails_in, fails_in_linked, past, passed, passed_part, path_on, path_as, stays, went_as, false_at, true_at}
use Rattle.ob_parser.proofs.Openings.{fails_deep}
use Rattle.ob_parser.proofs.Names.{fill_end_name}
use Rattle.ob_parser.proofs.Declarations.{leads_procedure, heading_follows, fill_behind_heading, past_heading, fill_end, fill_declarations, declarations_follow, leads_procedures, leads_opened, fill_behind_keyword, reads_no_procedures, fill_procedures, leads_declarations, constants_follow, types_follow, variables_follow, fill_behind_constants, fill_behind_types, fill_last_procedures, leads_last_procedures}
use Rattle.ob_parser.proofs.DeclarationLoops.{procedures_before, procedures_before-push, procedures_before-end, procedure_of-made, declarations_of-declared}
use Rattle.ob_parser.proofs.parser.Parser.+declarations.Goals as goal

pub declarations-returns-in_err-constants : goal.declarations-returns-in_err-constants
declarations-returns-in_err-constants g t c =
    passed _ _ _ _ _ _ c.from_residual.ensures.1
    (fails_in (starts (λ _ _ w. leads_declarations)) constants_follow fill_behind_constants _ _ c.in_err-constants.ensures)

pub declarations-returns-in_err-types : goal.declarations-returns-in_err-types
declarations-returns-in_err-types g t c =
    let way = past (starts (λ _ _ w. leads_declarations)) constants_follow c.in_ok-constants.ensures in
    passed _ _ _ _ _ _ c.from_residual-in_err-types.ensures.1 (fails_in way types_follow fill_behind_types _ _ c.in_err-types.ensures)

pub declarations-returns-in_err-variables : goal.declarations-returns-in_err-variables
declarations-returns-in_err-variables g t c =
    let way = past (past (starts (λ _ _ w. leads_declarations)) constants_follow c.in_ok-constants.ensures) types_follow c.in_ok-types.ensures in
    passed _ _ _ _ _ _ c.from_residual-in_err-variables.ensures.1 (fails_in way variables_follow fill_last_procedures _ _ c.in_err-variables.ensures)

pub declarations-returns-in_err-procedures : goal.declarations-returns-in_err-procedures
declarations-returns-in_err-procedures g t c =
    let way = past (past (starts (λ _ _ w. leads_declarations)) constants_follow c.in_ok-constants.ensures) types_follow c.in_ok-types.ensures in
    let way = path_on (past way variables_follow c.in_ok-variables.ensures) (starts (λ _ _ w. leads_last_procedures)) in
    passed _ _ _ _ _ _ c.from_residual-in_err-procedures.ensures.1 (fails way _ _ c.in_err-procedures.ensures)

pub declarations-returns : goal.declarations-returns
declarations-returns g t c =
    let way = past (past (starts (λ _ _ w. leads_declarations)) constants_follow c.in_ok-constants.ensures) types_follow c.in_ok-types.ensures in
    let way = path_on (past way variables_follow c.in_ok-variables.ensures) (starts (λ _ _ w. leads_last_procedures)) in
    went_as (sym (declarations_of-declared c.in_ok-constants.constants c.in_ok-types.types c.in_ok-variables.variables c.in_ok-procedures.procedures))
    (reaches way c.in_ok-procedures.ensures)

pub procedure-returns-in_err-heading : goal.procedure-returns-in_err-heading
procedure-returns-in_err-heading g t c =
    passed _ _ _ _ _ _ c.from_residual.ensures.1
    (fails_in_linked (starts (λ _ _ w. leads_procedure _)) (heading_follows _) (fill_behind_heading _) _ _ c.in_err-heading.ensures)

pub procedure-returns-in_err-block : goal.procedure-returns-in_err-block
procedure-returns-in_err-block g t c =
    let way = past_heading _ (starts (λ _ _ w. leads_procedure _)) c.in_ok-heading.ensures in
    passed _ _ _ _ _ _ c.from_residual-in_err-block.ensures.1 (fails way _ _ c.in_err-block.ensures)

pub procedure-returns : goal.procedure-returns
procedure-returns g t c =
    let way = past_heading _ (starts (λ _ _ w. leads_procedure _)) c.in_ok-heading.ensures in
    let block = c.in_ok-block.block in
    went_as (sym (procedure_of-made c.in_ok-heading.heading block.declarations block.body block.end_name)) (reaches way c.in_ok-block.ensures.1)

pub block-returns-in_err-expect : goal.block-returns-in_err-expect
block-returns-in_err-expect g t c =
    let name = name_of c.args.name.now in
    passed_part _ _ _ _ _ _ c.from_residual.ensures.1
    (fails_in (no_way (g.S.TokenSource.state c.args.self.now.source)) (closed (λ k. refl)) (fill_both fill_declarations (fill_end _ name)) _ _ c.in_err-expect.ensures.answers)

pub block-returns-in_err-declarations : goal.block-returns-in_err-declarations
block-returns-in_err-declarations g t c =
    let name = name_of c.args.name.now in
    let way = past (no_way (g.S.TokenSource.state c.args.self.now.source)) (closed (λ k. refl)) c.in_ok-expect.ensures.answers in
    passed_part _ _ _ _ _ _ c.from_residual-in_err-declarations.ensures.1
    (fails_in way (declarations_follow _) (fill_end _ name) _ _ c.in_err-declarations.ensures)

pub block-returns-in_err-body : goal.block-returns-in_err-body
block-returns-in_err-body g t c =
    let name = name_of c.args.name.now in
    let way = past (no_way (g.S.TokenSource.state c.args.self.now.source)) (closed (λ k. refl)) c.in_ok-expect.ensures.answers in
    let way = past way (declarations_follow _) c.in_ok-declarations.ensures in
    passed_part _ _ _ _ _ _ c.from_residual-in_err-body.ensures.1 (fails_in way (before _ refl) (fill_both fill_token (fill_end_name name)) _ _ c.in_err-body.ensures)

pub block-returns-in_err-end_name : goal.block-returns-in_err-end_name
block-returns-in_err-end_name g t c =
    let way = past (no_way (g.S.TokenSource.state c.args.self.now.source)) (closed (λ k. refl)) c.in_ok-expect.ensures.answers in
    let way = past (past way (declarations_follow _) c.in_ok-declarations.ensures) (before _ refl) c.in_ok-body.ensures in
    passed_part _ _ _ _ _ _ c.from_residual-in_err-end_name.ensures.1 (fails way _ _ c.in_err-end_name.ensures)

pub block-returns : goal.block-returns
block-returns g t c =
    let way = past (no_way (g.S.TokenSource.state c.args.self.now.source)) (closed (λ k. refl)) c.in_ok-expect.ensures.answers in
    let way = past (past way (declarations_follow _) c.in_ok-declarations.ensures) (before _ refl) c.in_ok-body.ensures in
    ((_, c.in_ok-end_name.ensures.0), reaches way c.in_ok-end_name.ensures.1)

pub procedures-returns-then-depth-ge-DEEPEST_NESTING : goal.procedures-returns-then-depth-ge-DEEPEST_NESTING
procedures-returns-then-depth-ge-DEEPEST_NESTING g t c =
    let here = true_at c.loop-self-test.ensures.kind in
    fails c.loop-self.invariant _ _
    (fails_deep (g.S.TokenSource.state c.loop-self.self.source) c.too_deep.ensures (λ _ _ w. leads_opened (at_here w here)) fill_procedures (fill_behind_keyword _) (omega arith) here)

pub procedures-returns-in_err-next : goal.procedures-returns-in_err-next
procedures-returns-in_err-next g t c =
    let here = true_at c.loop-self-test.ensures.kind in
    let way = path_on c.loop-self.invariant (starts (λ _ _ w. leads_procedures (at_here w here))) in
    passed _ _ _ _ _ _ c.from_residual.ensures.1
    (fails_in way (closed (λ k. refl)) (fill_both fill_token fill_procedures) _ _ c.in_err-next.ensures)

pub procedures-returns-in_err-expect : goal.procedures-returns-in_err-expect
procedures-returns-in_err-expect g t c =
    let here = true_at c.loop-self-test.ensures.kind in
    let way = past (path_on c.loop-self.invariant (starts (λ _ _ w. leads_procedures (at_here w here)))) (closed (λ k. refl)) c.in_ok-next.ensures in
    passed _ _ _ _ _ _ c.from_residual-in_err-expect.ensures.1 (fails_in way (closed (λ k. refl)) fill_procedures _ _ c.in_err-expect.ensures.answers)

pub procedures-loop-self-preserved : goal.procedures-loop-self-preserved
procedures-loop-self-preserved g t c =
    let here = true_at c.loop-self-test.ensures.kind in
    let way = past (path_on c.loop-self.invariant (starts (λ _ _ w. leads_procedures (at_here w here)))) (closed (λ k. refl)) c.in_ok-next.ensures in
    let way = past way (closed (λ k. refl)) c.in_ok-expect.ensures.answers in
    path_as (λ ps. procedures_before-push c.loop-self.all.items c.in_ok-next.next ps ∙ ap (λ all. procedures_before all ps) (sym c.in_ok-push.ensures.items)) way

pub procedures-returns : goal.procedures-returns
procedures-returns g t c =
    let end = reaches c.loop-self.invariant (stays (λ _ _ w. reads_no_procedures (away w (false_at c.loop-self-test.ensures.kind)))) in
    went_as (procedures_before-end c.loop-self.all.items) end
