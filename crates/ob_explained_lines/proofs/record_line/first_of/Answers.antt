use Rattle.std.proofs.Common.{◌∙◌, ℕ, Bor, List, refl, sym}
use Rattle.std.proofs.lemmas.Bool.{false≢true}
use Rattle.ob_text_words.specs.Words.{words}
use Rattle.ob_explained_lines.specs.Lines.{Says}
use Rattle.ob_explained_lines.proofs.Firsts.{line_found, none_at_all, none_more}
use Rattle.ob_explained_lines.proofs.record_line.first_of.Goals as goal

pub returns-then-found : goal.returns-then-found
returns-then-found c =
    line_found c.args.wanted c.args.lines.now c.loop-index.index _ _ c.loop-index-test.true refl c.loop-index.invariant
    (c.in_ok-found.ensures.0 c.if-found.true)

pub loop-index-preserved : goal.loop-index-preserved
loop-index-preserved c =
    none_more (λ (line : Bor (List ℕ)). line.now) (λ (line : List ℕ). Says c.args.wanted (words line)) c.args.lines.now c.loop-index.index _ _ c.loop-index-test.true refl c.loop-index.invariant
    (λ h. false≢true (sym c.if-found.false ∙ c.in_ok-found.ensures.1 h))

pub returns : goal.returns
returns c = none_at_all (λ (line : Bor (List ℕ)). line.now) (λ (line : List ℕ). Says c.args.wanted (words line)) c.args.lines.now c.loop-index.index c.loop-index-test.false c.loop-index.invariant
