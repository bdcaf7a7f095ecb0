use Rattle.std.proofs.Common.{◌∙◌, refl, sym}
use Rattle.std.proofs.lemmas.Bool.{false≢true}
use Rattle.ob_explained_records.proofs.Ends.{IsEndOf, end_found, line_in}
use Rattle.ob_explained_lines.proofs.Firsts.{none_at_all, none_more}
use Rattle.ob_explained_records.proofs.end_line.first_of.Goals as goal

pub returns-then-says_end : goal.returns-then-says_end
returns-then-says_end c =
    end_found c.args.id c.args.lines.now c.loop-index.index _ _ c.loop-index-test.true refl c.loop-index.invariant (c.says_end.ensures.0 c.if-says_end.true)

pub loop-index-preserved : goal.loop-index-preserved
loop-index-preserved c =
    none_more line_in (IsEndOf c.args.id) c.args.lines.now c.loop-index.index _ _ c.loop-index-test.true refl c.loop-index.invariant
    (λ h. false≢true (sym c.if-says_end.false ∙ c.says_end.ensures.1 h))

pub returns : goal.returns
returns c = none_at_all line_in (IsEndOf c.args.id) c.args.lines.now c.loop-index.index c.loop-index-test.false c.loop-index.invariant
