use Rattle.std.proofs.lemmas.Result.{err_from_is_err_and}
use Rattle.ob_object_search.proofs.witness.evidence_of_checked.Goals as goal

pub returns-in_err-heard-clause-fault : goal.returns-in_err-heard-clause-fault
returns-in_err-heard-clause-fault c =
    let p = err_from_is_err_and c.from_residual.result c.from_residual.ensures.1 in
    rw (p.1, p.2) (c.in_err-heard.ensures.fault c.args.search.now.most)
