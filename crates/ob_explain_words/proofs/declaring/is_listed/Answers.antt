use Rattle.std.proofs.Common.{sym}
use Rattle.ob_explain_words.proofs.Declared.{ends_list, list_goes_on}
use Rattle.ob_explain_words.proofs.declaring.is_listed.Goals as goal

pub returns-then-not-is_comma : goal.returns-then-not-is_comma
returns-then-not-is_comma c =
    ends_list _ _ _ _ c.in-len2-up.len_at_least (sym c.if-not-is_name.ensures) (sym c.if-not-is_comma.ensures) c.is_colon.ensures c.loop-tokens.invariant

pub loop-tokens-preserved : goal.loop-tokens-preserved
loop-tokens-preserved c =
    list_goes_on _ _ _ c.in-len2-up.len_at_least (sym c.if-not-is_name.ensures) (sym c.if-not-is_comma.ensures) c.loop-tokens.invariant
