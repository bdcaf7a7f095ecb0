use Rattle.std.proofs.Common.{rules, ◌≡◌, ◌+◌, arith, length, map, drop, None, sym, ap, ◌∙◌}
use Rattle.std.proofs.lemmas.List.{at_drop_all}
use Rattle.std.proofs.lemmas.Result.{IfOk-weaker, IfErr-weaker, on_ok_weaker}
use Rattle.ob_grammar.proofs.Exits.{passed_on}
use Rattle.ob_grammar.specs.View as Trees
use Rattle.ob_grammar.specs.View.{name_of, type_of}
use Rattle.ob_typing.specs.Types.{second, and_all_taken, with_fields}
use Rattle.ob_typing.specs.Verdict.{Right}
use Rattle.ob_typing.specs.TypeVerdicts.{denoted_fields}
use Rattle.ob_checked.specs.Types.{type_by, types_of, fields_in}
use Rattle.ob_scopes.specs.Names.{types_in, env_of}
use Rattle.ob_scopes.specs.TakenNames.{taken_by}
use Rattle.ob_rules.specs.Checking.{and_then}
use Rattle.ob_rules.specs.CheckingTypes.{list_before, fields_before, behind_fields}
use Rattle.ob_rules.proofs.Steps.{fails_as, fails_on, fails_past, goes_on, on_ok_both}
use Rattle.ob_scopes.proofs.Kept.{all_below_more}
use Rattle.ob_scopes.proofs.Lists.{next_left}
use Rattle.ob_rules.proofs.TypeSteps.{record_verdict, lists_first, list_step, before_end}
use Rattle.ob_rules.proofs.type_expressions.+denoted.Goals as goal

pub add_list-returns-in_ok-data_type-in-Fields-clause-ok :
    goal.add_list-returns-in_ok-data_type-in-Fields-clause-ok
add_list-returns-in_ok-data_type-in-Fields-clause-ok t c =
    let env = env_of c.args.scopes.now in
    let old = types_in c.args.scopes.now in
    let new = types_in c.denoted.new.scopes in
    let xs = fields_in c.args.fields.now in
    let ys = fields_in c.add_fields.new.fields in
    let names = map name_of c.in-Fields.names.items in
    let data_type = c.in_ok-data_type-in-Fields.data_type in
    let free : second (taken_by c.args.fields.now) names ≡ None = search rules in
    on_ok_weaker c.add_fields.result
    (λ h rest.
    ap (λ l. and_then (denoted_fields env (list_before l rest) (taken_by c.args.fields.now)) (behind_fields old xs)) c.in-Fields.is
    ∙ list_step env names (type_of c.in-Fields.of_type) (taken_by c.args.fields.now) rest old new c.in_ok-data_type-in-Fields.ensures.extends xs ys c.requires.known data_type free
    c.in_ok-data_type-in-Fields.ensures.typed
    (λ types others. h.0 types others ∙ ap (λ ns. fields_before types xs (with_fields (map name_of ns) (type_by types data_type) others)) c.deref-in-Fields.ensures.value)
    (taken_by c.add_fields.new.fields) (h.1 ∙ ap (λ ns. and_all_taken (taken_by c.args.fields.now) (map name_of ns)) c.deref-in-Fields.ensures.value))
    (on_ok_both _ _ c.add_fields.result c.add_fields.ensures.fields c.add_fields.ensures.taken)

pub add_list-returns-in_ok-data_type-in-Fields-clause-known :
    goal.add_list-returns-in_ok-data_type-in-Fields-clause-known
add_list-returns-in_ok-data_type-in-Fields-clause-known t c =
    let n = length (types_in c.args.scopes.now) in
    let m = length (types_in c.denoted.new.scopes) in
    on_ok_weaker c.add_fields.result
    (λ h. h m (all_below_more n m c.in_ok-data_type-in-Fields.ensures.extends.longer (fields_in c.args.fields.now) c.requires.known) c.in_ok-data_type-in-Fields.ensures.known)
    c.add_fields.ensures.known

pub denoted-returns-in_err-fields-in-Record-clause-fault :
    goal.denoted-returns-in_err-fields-in-Record-clause-fault
denoted-returns-in_err-fields-in-Record-clause-fault t c =
    passed_on _ _ _ c.from_residual-in_err-fields-in-Record.ensures.1
    (fails_as _ _ _ (record_verdict (env_of c.args.scopes.now) c.args.expr.now _ _ c.in-Record.is _ c.deref-in-Record.ensures.value)
    (fails_on _ _ _ c.in_err-fields-in-Record.ensures.fault))

pub denoted-returns-in_ok-fields-in-Record-clause-typed :
    goal.denoted-returns-in_ok-fields-in-Record-clause-typed
denoted-returns-in_ok-fields-in-Record-clause-typed t c =
    IfOk-weaker c.record_of.result _ _
    (λ x h. record_verdict (env_of c.args.scopes.now) c.args.expr.now _ _ c.in-Record.is _ c.deref-in-Record.ensures.value
    ∙ goes_on _ _ _ _ c.in_ok-fields-in-Record.ensures.typed h)
    c.record_of.ensures.typed

pub denoted-returns-in_ok-fields-in-Record-clause-fault :
    goal.denoted-returns-in_ok-fields-in-Record-clause-fault
denoted-returns-in_ok-fields-in-Record-clause-fault t c =
    IfErr-weaker c.record_of.result _ _
    (λ f h. fails_as f _ _ (record_verdict (env_of c.args.scopes.now) c.args.expr.now _ _ c.in-Record.is _ c.deref-in-Record.ensures.value)
    (fails_past f _ _ _ c.in_ok-fields-in-Record.ensures.typed h))
    c.record_of.ensures.fault

pub record_fields-returns-in_err-add_list-clause-fault :
    goal.record_fields-returns-in_err-add_list-clause-fault
record_fields-returns-in_err-add_list-clause-fault t c =
    let l = c.loop-list in
    let all = c.args.lists.now in
    let rest = drop (l.list-index + 1) all in
    let behind = behind_fields (types_in l.scopes) (fields_in l.fields) in
    let next = next_left all l.list-index c.list-item.result c.loop-list-test.true c.list-item.is in
    passed_on _ _ _ c.from_residual.ensures.1
    (fails_as _ _ _
    (l.invariant.left
    ∙ ap (λ e. and_then (denoted_fields e (Trees.fields_in (drop l.list-index all)) (taken_by l.fields)) behind) (sym l.invariant.names)
    ∙ ap (λ xs. and_then (denoted_fields (env_of l.scopes) xs (taken_by l.fields)) behind) (ap Trees.fields_in next ∙ lists_first c.list-item.result rest))
    (fails_on _ _ _ (c.in_err-add_list.ensures.fault (Trees.fields_in rest))))

pub record_fields-returns-clause-typed : goal.record_fields-returns-clause-typed
record_fields-returns-clause-typed t c =
    let l = c.loop-list in
    let env = env_of c.args.scopes.now in
    let behind = behind_fields (types_in l.scopes) (fields_in l.fields) in
    l.invariant.left ∙ at_drop_all (λ xs. and_then (denoted_fields env (Trees.fields_in xs) (taken_by l.fields)) behind) c.args.lists.now l.list-index (omega arith)
    ∙ ap Right (before_end (types_of (types_in l.scopes)) (fields_in l.fields))
