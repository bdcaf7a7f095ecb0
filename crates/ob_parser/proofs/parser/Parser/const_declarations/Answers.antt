use Rattle.std.proofs.Common.{◌++◌, map, sym, ◌∙◌, ap}
use Rattle.std.proofs.lemmas.List.{append-nil}
use Rattle.ob_grammar.specs.View.{const_decl_of}
use Rattle.ob_parser.proofs.Phrases.{leads_each, reads_no_each, each_follows, fill_each}
use Rattle.ob_parser.proofs.States.{at_here, away, starts, reaches, past, fails_in, passed, path_on, path_as, no_way, stays, went_as, false_at, true_at}
use Rattle.ob_grammar.proofs.Loops.{map-push}
use Rattle.ob_parser.proofs.Declarations.{repeated_constants}
use Rattle.ob_parser.proofs.parser.Parser.const_declarations.Goals as goal

pub loop-self-init : goal.loop-self-init
loop-self-init g c = path_as (λ xs. ap (λ all. map const_decl_of all ++ xs) (sym c.new-all.ensures.items)) (no_way _)

pub returns-in_err-next : goal.returns-in_err-next
returns-in_err-next g c =
    let here = true_at c.loop-self-test.ensures.kind in
    let way = path_on c.loop-self.invariant (starts (λ _ _ w. leads_each repeated_constants (at_here w here))) in
    passed _ _ _ _ _ _ c.from_residual.ensures.1
    (fails_in way (each_follows repeated_constants) (fill_each repeated_constants) _ _ c.in_err-next.ensures.answers)

pub loop-self-preserved : goal.loop-self-preserved
loop-self-preserved g c =
    let here = true_at c.loop-self-test.ensures.kind in
    let way = path_on c.loop-self.invariant (starts (λ _ _ w. leads_each repeated_constants (at_here w here))) in
    let way = past way (each_follows repeated_constants) c.in_ok-next.ensures.answers in
    path_as (λ xs. map-push const_decl_of c.loop-self.all.items c.in_ok-next.next xs ∙ ap (λ all. map const_decl_of all ++ xs) (sym c.in_ok-push.ensures.items)) way

pub returns : goal.returns
returns g c =
    let end = reaches c.loop-self.invariant (stays (λ _ _ w. reads_no_each repeated_constants (away w (false_at c.loop-self-test.ensures.kind)))) in
    went_as (append-nil (map const_decl_of c.loop-self.all.items)) end
