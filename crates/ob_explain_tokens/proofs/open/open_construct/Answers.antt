use Rattle.std.proofs.Common.{◌+◌, ℕ, sym, subst, ◌∙◌}
use Rattle.ob_explain_tokens.proofs.OpenSteps.{Looked, begun_here, ended_here, nothing_looked_at, other_here}
use Rattle.ob_explain_tokens.proofs.open.open_construct.Goals as goal
use Rattle.ob_explain_tokens.proofs.open.open_construct.Goals.{then-ends_construct, else-ends_construct+then-begins_construct+else-closed-eq0, else-ends_construct+else-begins_construct}

pub loop-token-init : goal.loop-token-init
loop-token-init c = nothing_looked_at c.args.tokens.now

pub loop-token-preserved : goal.loop-token-preserved
loop-token-preserved c =
    let i = c.loop-token.token-index in
    let tokens = c.args.tokens.now in
    let closed = c.loop-token.closed in
    let Next : ℕ → Type 0 = λ n. Looked n (i + 1) tokens in
    let looked = c.loop-token.invariant in
    let lt = c.loop-token-test.true in
    elim c.if-ends_construct.branch [
      | then-ends_construct w ↦ subst Next (sym w.closed-is) (ended_here closed i tokens _ looked lt (sym c.ends_construct.ensures ∙ w.if-ends_construct.true))
      | else-ends_construct+then-begins_construct+else-closed-eq0 w ↦
          subst Next (sym w.closed-is) (begun_here closed i tokens _ looked lt (sym w.begins_construct.ensures ∙ w.if-begins_construct.true) w.if-closed-eq0.false)
      | else-ends_construct+else-begins_construct w ↦
          subst Next (sym w.closed-is)
          (other_here closed i tokens _ looked lt (sym c.ends_construct.ensures ∙ w.if-ends_construct.false) (sym w.begins_construct.ensures ∙ w.if-begins_construct.false))
    ]
