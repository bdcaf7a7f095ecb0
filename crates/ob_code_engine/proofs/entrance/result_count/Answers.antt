use Rattle.std.proofs.Common.{◌≡◌, ◌∙◌, count_by, rules}
use Rattle.ob_code_engine.proofs.Counts.{count_by-results}
use Rattle.ob_code_engine.proofs.entrance.result_count.Goals as goal

pub returns : goal.returns
returns c =
    let counted : c.count.result ≡ count_by (λ p. p.is_var) c.args.parameters.now = search rules in
    counted ∙ count_by-results c.args.parameters.now
