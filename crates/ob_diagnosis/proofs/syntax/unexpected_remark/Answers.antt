use Rattle.std.proofs.Common.{List, subst, sym}
use Rattle.ob_scan.specs.declared.token.Kind.{Kind}
use Rattle.ob_explain_names.specs.Expected.{AreExpected}
use Rattle.ob_diagnosis.proofs.syntax.unexpected_remark.Goals as goal

pub expected_remark-requires : goal.expected_remark-requires
expected_remark-requires c =
    let site = c.args.site.now in
    subst (λ (ks : List Kind). AreExpected site.text.now site.place ks) (sym c.deref.ensures.value) c.in_ok-could.ensures
