use Rattle.std.proofs.Common.{List, refl, ap, ◌∙◌}
use Rattle.ob_scan.specs.declared.token.Token.{Token}
use Rattle.ob_explain_tokens.specs.Around as Tokens
use Rattle.ob_evidence.proofs.text_site.look_around.Goals as goal

pub returns : goal.returns
returns c = record {
  of_text = refl;
  at_place = refl;
  are_tokens = c.in_ok-tokens.ensures;
  are_before = c.in_ok-before.ensures ∙ ap (λ (ts : List Token). Tokens.before c.args.place ts) c.deref.ensures.value;
  are_behind = c.in_ok-behind.ensures ∙ ap (λ (ts : List Token). Tokens.behind c.args.place ts) c.deref-2.ensures.value;
  are_visible = c.in_ok-known.ensures;
}
