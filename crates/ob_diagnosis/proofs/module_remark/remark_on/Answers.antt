use Rattle.std.proofs.Common.{sym, subst}
use Rattle.std.proofs.lemmas.Result.{IfOk-weaker}
use Rattle.ob_evidence.specs.Sites.{IsScene, Scene, scene_of}
use Rattle.ob_diagnosis.proofs.module_remark.remark_on.Goals as goal

pub returns : goal.returns
returns c =
    let is : IsScene c.args.text.now c.args.place (scene_of c.site-site.result) =
    subst (λ (s : Scene). IsScene c.args.text.now c.args.place s) (sym c.site-site.ensures) c.in_ok-found.ensures in
    IfOk-weaker c.remark_at.result _ _ (λ r t. record { scene = scene_of c.site-site.result; is_scene = is; tells = t }) c.remark_at.ensures
