use Rattle.std.proofs.Common.{◌≡◌, ◌∙◌, count_by, not, rules}
use Rattle.ob_code_engine.proofs.Counts.{count_by-values}
use Rattle.ob_code_engine.proofs.entrance.value_count.Goals as goal

pub returns : goal.returns
returns c =
    let counted : c.count.result ≡ count_by (λ p. not p.is_var) c.args.parameters.now = search rules in
    counted ∙ count_by-values c.args.parameters.now
