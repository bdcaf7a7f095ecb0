use Rattle.std.proofs.Common.{sym, ◌∙◌}
use Rattle.std.proofs.lemmas.Bool.{false≢true}
use Rattle.ob_explain_words.proofs.Declared.{found_here, looked_on, none_left}
use Rattle.ob_explain_words.proofs.declaring.declares.Goals as goal
use Rattle.ob_explain_words.proofs.declaring.declares.Goals.{else-is_word-via-then-is_word+else-is_declared_at, else-is_word-via-else-is_word}

pub returns-then-is_declared_at : goal.returns-then-is_declared_at
returns-then-is_declared_at c =
    found_here _ _ _ _ _ _ _ _ _ c.loop-tokens.invariant c.in-len1-up.len_at_least c.is_word.ensures c.is_declared_at.ensures c.if-is_word.true c.if-is_declared_at.true

pub loop-tokens-preserved : goal.loop-tokens-preserved
loop-tokens-preserved c =
    looked_on _ _ _ _ _ _ _ _ c.loop-tokens.invariant c.in-len1-up.len_at_least
    (elim c.else-is_word.branch [
      | else-is_word-via-then-is_word+else-is_declared_at w ↦ λ before e f word at. false≢true (sym w.if-is_declared_at.false ∙ (w.is_declared_at.ensures before e f).1 at)
      | else-is_word-via-else-is_word w ↦ λ before e f word at. false≢true (sym w.if-is_word.false ∙ c.is_word.ensures.1 word)
    ])
    c.are_behind-equations.ensures

pub returns : goal.returns
returns c = none_left _ _ _ _ _ _ c.loop-tokens.invariant c.in_default.len_below
