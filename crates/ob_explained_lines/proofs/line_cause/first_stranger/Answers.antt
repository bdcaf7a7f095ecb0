use Rattle.std.proofs.Common.{◌∙◌, Bor, refl, sym}
use Rattle.std.proofs.lemmas.Bool.{false≢true}
use Rattle.ob_text_words.specs.Words.{Word}
use Rattle.ob_explained_lines.specs.CallPlaces.{NamesNoCall}
use Rattle.ob_explained_lines.proofs.Firsts.{none_at_all, none_more, stranger_found}
use Rattle.ob_explained_lines.proofs.line_cause.first_stranger.Goals as goal

pub returns-then-is_stranger-clause-place : goal.returns-then-is_stranger-clause-place
returns-then-is_stranger-clause-place c =
    stranger_found c.args.processes c.args.words.now c.loop-index.index _ _ c.loop-index-test.true refl c.loop-index.invariant
    (c.is_stranger.ensures.0 c.if-is_stranger.true)

pub loop-index-preserved : goal.loop-index-preserved
loop-index-preserved c =
    none_more (λ (word : Bor Word). word.now) (NamesNoCall c.args.processes) c.args.words.now c.loop-index.index _ _ c.loop-index-test.true refl c.loop-index.invariant
    (λ h. false≢true (sym c.if-is_stranger.false ∙ c.is_stranger.ensures.1 h))

pub returns-clause-place : goal.returns-clause-place
returns-clause-place c = none_at_all (λ (word : Bor Word). word.now) (NamesNoCall c.args.processes) c.args.words.now c.loop-index.index c.loop-index-test.false c.loop-index.invariant
