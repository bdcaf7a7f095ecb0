use Rattle.std.proofs.lemmas.Result.{err_from_is_err_and, IfErr-weaker, IfOk-weaker}
use Rattle.ob_object_search.proofs.Crossed.{enough_in, needed_by, none_by, orders_by, orders_in, text_lawful, told_of}
use Rattle.ob_object_search.specs.View.{orders_in as orders_of}
use Rattle.ob_object_search.proofs.searching_parts.search_parts_text.Goals as goal

pub returns-in_err-checked-clause-none : goal.returns-in_err-checked-clause-none
returns-in_err-checked-clause-none c =
    let p = err_from_is_err_and c.from_residual.result c.from_residual.ensures.1 in
    rw (p.1, p.2)
    (λ decided parts r. decided
    (text_lawful c.args.module.now c.args.history.now c.args.search.now.budget c.args.by c.args.search.now.most c.in_err-checked.field-0.0 c.in_err-checked.ensures.none c.in_err-checked.ensures.memory parts r))

pub returns-in_err-checked-clause-lawful : goal.returns-in_err-checked-clause-lawful
returns-in_err-checked-clause-lawful c =
    let p = err_from_is_err_and c.from_residual.result c.from_residual.ensures.1 in
    rw (p.1, p.2)
    (text_lawful c.args.module.now c.args.history.now c.args.search.now.budget c.args.by c.args.search.now.most c.in_err-checked.field-0.0 c.in_err-checked.ensures.none c.in_err-checked.ensures.memory)

pub returns-clause-orders : goal.returns-clause-orders
returns-clause-orders c =
    IfOk-weaker c.search_parts.result _ _
    (λ parts. orders_by c.args.module.now c.args.history.now c.args.search.now.budget c.args.by c.args.search.now.most _ c.in_ok-checked.ensures.program c.in_ok-checked.ensures.alone (orders_of parts.items))
    c.search_parts.ensures.orders

pub returns-clause-needed : goal.returns-clause-needed
returns-clause-needed c =
    IfOk-weaker c.search_parts.result _ _
    (λ parts. needed_by c.args.module.now c.args.history.now c.args.search.now.budget c.args.by c.args.search.now.most _ c.in_ok-checked.ensures.program c.in_ok-checked.ensures.alone (orders_of parts.items))
    c.search_parts.ensures.needed

pub returns-clause-decided : goal.returns-clause-decided
returns-clause-decided c =
    λ e. c.search_parts.ensures.decided
    (enough_in c.args.module.now c.args.history.now c.args.search.now.budget c.args.by c.args.search.now.most _ c.in_ok-checked.ensures.program c.in_ok-checked.ensures.alone e)

pub returns-clause-fault : goal.returns-clause-fault
returns-clause-fault c =
    IfErr-weaker c.search_parts.result _ _
    (told_of c.args.module.now c.args.history.now c.args.search.now.budget c.args.by c.args.search.now.most _ c.in_ok-checked.ensures.program c.in_ok-checked.ensures.alone)
    c.search_parts.ensures.fault

pub returns-clause-none : goal.returns-clause-none
returns-clause-none c =
    none_by c.search_parts.result
    (λ parts r. c.search_parts.ensures.lawful parts
    (orders_in c.args.module.now c.args.history.now c.args.search.now.budget c.args.by c.args.search.now.most _ c.in_ok-checked.ensures.program c.in_ok-checked.ensures.alone parts r))

pub returns-clause-lawful : goal.returns-clause-lawful
returns-clause-lawful c =
    λ parts r. c.search_parts.ensures.lawful parts
    (orders_in c.args.module.now c.args.history.now c.args.search.now.budget c.args.by c.args.search.now.most _ c.in_ok-checked.ensures.program c.in_ok-checked.ensures.alone parts r)
