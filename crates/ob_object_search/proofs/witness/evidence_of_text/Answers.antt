use Rattle.std.proofs.lemmas.Result.{IfErr-weaker, IfOk-weaker}
use Rattle.ob_object_search.proofs.Texts.{told_of}
use Rattle.ob_object_search.proofs.Evident.{found_by}
use Rattle.ob_object_search.proofs.witness.evidence_of_text.Goals as goal

pub returns-clause-evidence : goal.returns-clause-evidence
returns-clause-evidence c =
    IfOk-weaker c.evidence_of_checked.result _ _
    (found_by c.args.module.now c.args.history.now _ c.in_ok-checked.ensures.program c.args.id c.args.search.now.budget) c.evidence_of_checked.ensures.evidence

pub returns-clause-fault : goal.returns-clause-fault
returns-clause-fault c =
    IfErr-weaker c.evidence_of_checked.result _ _
    (told_of c.args.module.now c.args.history.now c.args.search.now.budget c.args.search.now.most _ c.in_ok-checked.ensures.program c.in_ok-checked.ensures.alone)
    c.evidence_of_checked.ensures.fault
