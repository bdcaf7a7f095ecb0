use Rattle.std.proofs.Common.{◌≡◌, ◌≢◌, ℕ, List, None, Option, codes, rules, string_bytes, subst}
use Rattle.ob_answer_explained.proofs.Beginnings.{of_whole}
use Rattle.ob_answer_explained.specs.Explains.{right}
use Rattle.ob_answer_searches.proofs.Shown.{history_wrong_made}
use Rattle.ob_answer_searches.specs.ExplainedOrders.{HasLegalOrder}
use Rattle.ob_object_search.specs.Searched.{IsEnough, IsLegalOrder}
use Rattle.ob_object_search.specs.SearchFaults.{IsSearchFault, IsUndecided}
use Rattle.ob_object_search.specs.declared.searching.SearchFault.TheVariants as Search
use Rattle.wf_history.specs.declared.event.CallId.{CallId}
use Rattle.ob_answer_searches.proofs.history_explained.explain_search.Goals as goal

pub returns-in_ok-from_str-in-Ok : goal.returns-in_ok-from_str-in-Ok
returns-in_ok-from_str-in-Ok c whole is =
    let legal = subst (λ (b : Option ℕ). IsLegalOrder c.args.files.text.now c.args.files.history.now b c.in-Ok._order.items) c.requires.budget c.in-Ok.ensures.order in
    let of = of_whole (λ t. HasLegalOrder t c.args.files.history.now) c.args.files.text.now whole is (λ long. let bad = c.in-Ok.ensures.too_long long in cc)
    (c.in-Ok._order.items, legal) in
    let text : string_bytes c.in_ok-from_str-in-Ok.field-0 ≡ codes "ok\n" = search rules in
    right of (rw (← text) c.printed.ensures)

pub returns-in-Err : goal.returns-in-Err
returns-in-Err c =
    let says = subst (λ (b : Option ℕ). IsSearchFault c.args.files.text.now c.args.files.history.now b c.args.search.now.most c.in-Err.fault) c.requires.budget c.in-Err.ensures.fault in
    history_wrong_made c.args.files.module_name.now c.args.files.text.now c.args.files.history_name.now c.args.files.history.now c.in-Err.fault
    c.history_wrong.result c.history_wrong.ensures.fault c.history_wrong.ensures.memory
    (subst (λ (k : ℕ). IsSearchFault c.args.files.text.now c.args.files.history.now None k c.in-Err.fault) c.requires.most says)
    c.in-Err.ensures.memory
    (subst (λ (b : Option ℕ). ¬ IsUndecided c.in-Err.fault → (order : List CallId) → ¬ IsLegalOrder c.args.files.text.now c.args.files.history.now b order) c.requires.budget c.in-Err.ensures.none)
    (subst (λ (k : ℕ). IsEnough c.args.files.text.now c.args.files.history.now k → c.in-Err.fault ≢ Search.TooMany) c.requires.most c.in-Err.ensures.decided)
    (λ long. let e = c.in-Err.ensures.too_long long in cc)
