use Rattle.std.proofs.Common.{◌∙◌, Bor, refl, sym}
use Rattle.std.proofs.lemmas.Bool.{false≢true}
use Rattle.ob_text_words.specs.Words.{Word}
use Rattle.ob_explained_lines.specs.CallNames.{Names}
use Rattle.ob_explained_lines.proofs.Firsts.{none_at_all, none_more, word_found}
use Rattle.ob_explained_lines.proofs.call_name.first_naming.Goals as goal

pub returns-then-names_call-clause-place : goal.returns-then-names_call-clause-place
returns-then-names_call-clause-place c =
    word_found c.args.id c.args.words.now c.loop-index.index _ _ c.loop-index-test.true refl c.loop-index.invariant
    (c.names_call.ensures.0 c.if-names_call.true)

pub loop-index-preserved : goal.loop-index-preserved
loop-index-preserved c =
    none_more (λ (word : Bor Word). word.now) (λ (word : Word). Names word c.args.id) c.args.words.now c.loop-index.index _ _ c.loop-index-test.true refl c.loop-index.invariant
    (λ h. false≢true (sym c.if-names_call.false ∙ c.names_call.ensures.1 h))

pub returns-clause-place : goal.returns-clause-place
returns-clause-place c = none_at_all (λ (word : Bor Word). word.now) (λ (word : Word). Names word c.args.id) c.args.words.now c.loop-index.index c.loop-index-test.false c.loop-index.invariant
