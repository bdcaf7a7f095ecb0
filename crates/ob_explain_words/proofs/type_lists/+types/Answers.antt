use Rattle.std.proofs.Common.{sym, ◌∙◌, ap}
use Rattle.std.proofs.lemmas.List.{take_rest}
use Rattle.std.proofs.lemmas.Result.{IfOk-weaker}
use Rattle.ob_explain_words.specs.Counts.{at_least_one}
use Rattle.ob_explain_words.specs.Scopes.{scope_of}
use Rattle.ob_explain_words.proofs.Types.{array_there, name_there, no_deeper, record_there}
use Rattle.ob_explain_words.proofs.type_lists.+types.Goals as goal

pub type_words-returns-then-deep-eq0 : goal.type_words-returns-then-deep-eq0
type_words-returns-then-deep-eq0 t c =
    c.simple_words.ensures ∙ sym (no_deeper (scope_of c.args.scope) c.args.deep c.args.tokens.now _ c.in-len1-up.len_at_least c.if-deep-eq0.true)

pub type_words-returns-then-is_array : goal.type_words-returns-then-is_array
type_words-returns-then-is_array t c =
    IfOk-weaker c.array_words.result _ _
    (λ words e. e
    ∙ sym (array_there (scope_of c.args.scope) c.args.deep c.args.tokens.now _ _ c.in-len1-up.len_at_least (take_rest c.args.tokens.now 1) c.if-deep-eq0.false
    (sym c.is_array.ensures ∙ c.if-is_array.true)))
    c.array_words.ensures

pub type_words-returns-in_ok-words : goal.type_words-returns-in_ok-words
type_words-returns-in_ok-words t c =
    c.at_least_one.ensures ∙ ap at_least_one c.in_ok-words.ensures
    ∙ sym (record_there (scope_of c.args.scope) c.args.deep c.args.tokens.now _ _ c.in-len1-up.len_at_least (take_rest c.args.tokens.now 1) c.if-deep-eq0.false
    (sym c.is_array.ensures ∙ c.if-is_array.false) (sym c.is_record.ensures ∙ c.if-is_record.true))

pub type_words-returns-else-is_record : goal.type_words-returns-else-is_record
type_words-returns-else-is_record t c =
    c.simple_words-else-is_record.ensures
    ∙ sym (name_there (scope_of c.args.scope) c.args.deep c.args.tokens.now _ c.in-len1-up.len_at_least
    (sym c.is_array.ensures ∙ c.if-is_array.false) (sym c.is_record.ensures ∙ c.if-is_record.false))
