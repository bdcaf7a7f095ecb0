use Rattle.std.proofs.Common.{[], ◌∷◌, ◌++◌, map, refl, sym, ◌∙◌, ap}
use Rattle.std.proofs.lemmas.List.{append-nil}
use Rattle.ob_grammar.specs.View.{section_of}
use Rattle.ob_parser.proofs.Steps.{closed}
use Rattle.ob_parser.proofs.Phrases.{leads_separated, leads_tail, reads_no_tail, tail_follows, fill_tail}
use Rattle.ob_parser.proofs.States.{at_here, away, starts, reaches, past, fails_in, passed, path_on, path_as, stays, went_as, false_at, true_at}
use Rattle.ob_grammar.proofs.Loops.{map-push}
use Rattle.ob_parser.proofs.Declarations.{listed_sections}
use Rattle.ob_parser.proofs.parser.Parser.sections.Goals as goal

pub returns-in_err-first : goal.returns-in_err-first
returns-in_err-first g c =
    passed _ _ _ _ _ _ c.from_residual.ensures.1
    (fails_in (starts (λ _ _ w. leads_separated listed_sections)) (tail_follows listed_sections) (fill_tail listed_sections) _ _ c.in_err-first.ensures)

pub loop-self-init : goal.loop-self-init
loop-self-init g c =
    path_as (λ xs. ap (λ all. map section_of all ++ xs) (sym (c.in_ok-push.ensures.items ∙ ap (λ all. all ++ c.in_ok-first.first ∷ []) c.new-all.ensures.items)))
    (past (starts (λ _ _ w. leads_separated listed_sections)) (tail_follows listed_sections) c.in_ok-first.ensures)

pub returns-in_err-next : goal.returns-in_err-next
returns-in_err-next g c =
    let here = true_at c.loop-self-test.ensures.kind in
    let way = past (path_on c.loop-self.invariant (starts (λ _ _ w. leads_tail listed_sections (at_here w here)))) (closed (λ k. refl)) (c.take.ensures.took _ here) in
    passed _ _ _ _ _ _ c.from_residual-in_err-next.ensures.1
    (fails_in way (tail_follows listed_sections) (fill_tail listed_sections) _ _ c.in_err-next.ensures)

pub loop-self-preserved : goal.loop-self-preserved
loop-self-preserved g c =
    let here = true_at c.loop-self-test.ensures.kind in
    let way = past (path_on c.loop-self.invariant (starts (λ _ _ w. leads_tail listed_sections (at_here w here)))) (closed (λ k. refl)) (c.take.ensures.took _ here) in
    let way = past way (tail_follows listed_sections) c.in_ok-next.ensures in
    path_as (λ xs. map-push section_of c.loop-self.all.items c.in_ok-next.next xs ∙ ap (λ all. map section_of all ++ xs) (sym c.in_ok-push-2.ensures.items)) way

pub returns : goal.returns
returns g c =
    let end = reaches c.loop-self.invariant (stays (λ _ _ w. reads_no_tail listed_sections (away w (false_at c.loop-self-test.ensures.kind)))) in
    went_as (append-nil (map section_of c.loop-self.all.items)) end
