use Rattle.std.proofs.Common.{List, refl, subst}
use Rattle.ob_scan.specs.declared.token.Token.{Token}
use Rattle.ob_explain_tokens.specs.Open.{IsOpenConstruct}
use Rattle.ob_diagnosis.proofs.rules.export_remark.Goals as goal

pub told-requires : goal.told-requires
told-requires c =
    let outside = c.open_construct-outside.result in
    record {
      outside = outside;
      around = subst (λ (ts : List Token). IsOpenConstruct ts outside) c.rest_of.ensures c.open_construct-outside.ensures;
      noted = rw (c.of_facts.ensures, c.deref.ensures.value, c.in_ok-facts.ensures, c.is_kind.ensures) refl;
    }
