use Rattle.std.proofs.Common.{refl, ap, ◌∙◌, length, drop, arith}
use Rattle.ob_code_scheme.specs.Types.{extent}
use Rattle.ob_code.specs.Entering.{entry_in}
use Rattle.ob_code.specs.Scoped.{globals_in, own_in}
use Rattle.ob_code.proofs.ConstructsWithin.{procedure_words, procedure_body}
use Rattle.ob_code.proofs.generation.put_procedure.Goals as goal

pub overflow_cast-words : goal.overflow_cast-words
overflow_cast-words c =
    let few = procedure_words (globals_in c.args.scopes.now) (own_in c.args.scopes.now) (entry_in c.args.entries.now) c.args.code.now c.args.procedure.now.body.items c.args.procedure.now.body.items (extent (drop (length c.args.procedure.now.parameters.items) (own_in c.args.scopes.now))) refl c.requires in
    let many = c.words_from-words.ensures ∙ ap (λ n. extent (drop n (own_in c.args.scopes.now))) (c.len-parameters.ensures ∙ c.args.procedure.now.parameters.ok.0) in
    omega (arith, few, many)

pub put_statements-requires : goal.put_statements-requires
put_statements-requires c =
    let many = c.words_from-words.ensures ∙ ap (λ n. extent (drop n (own_in c.args.scopes.now))) (c.len-parameters.ensures ∙ c.args.procedure.now.parameters.ok.0) in
    procedure_body (globals_in c.args.scopes.now) (own_in c.args.scopes.now) (entry_in c.args.entries.now) c.args.code.now c.args.procedure.now.body.items c.as_slice.result.now (extent (drop (length c.args.procedure.now.parameters.items) (own_in c.args.scopes.now))) c.as_slice.ensures.value c.requires
    c.begin_procedure.new.code c.push.new.code c.words_from-words.result many c.in_ok-begin_procedure.ensures c.in_ok-push.ensures
