-- The words behind a command, where they could be made, and one more behind them.
use Rattle.std.proofs.Common.{◌≡◌, ◌∙◌, ap₂, Bool, Result, Ok, Err, IfOk, IsOkAnd}
use Rattle.std.proofs.lemmas.Result.{IfOk-weaker}
use Rattle.clap.specs.Words.{App, Rule, app_of, with_rule}
use Rattle.clap.specs.declared.builder.command.Command.{Command}
use Rattle.clap.specs.declared.builder.command.Command.TheViews.{out-Command}

-- whether a command has an argument that its commands have too
abbrev pub globals : Command → Bool
globals c = (out-Command c).has_globals

one_more : {E : Type 0} (before : Result Command E) (whole a : App) (made rule : Rule) → IfOk before (λ one. app_of one ≡ a) → made ≡ rule
    → IsOkAnd before (λ one. whole ≡ with_rule (app_of one) made) → whole ≡ with_rule a rule
one_more (Ok one) whole a made rule one_is made_is adds = adds ∙ ap₂ with_rule one_is made_is
one_more (Err fault) whole a made rule one_is made_is adds = absurd adds

-- the argument that was made stands behind those that stood there before
pub more : {E : Type 0} (before after : Result Command E) (a : App) (made rule : Rule) → IfOk before (λ one. app_of one ≡ a) → made ≡ rule
    → IfOk after (λ c. IsOkAnd before (λ one. app_of c ≡ with_rule (app_of one) made)) → IfOk after (λ c. app_of c ≡ with_rule a rule)
more before after a made rule one_is made_is adds = IfOk-weaker after _ _ (λ c. one_more before (app_of c) a made rule one_is made_is) adds

one_same : {E A : Type 0} (read : Command → A) (before : Result Command E) (x a : A) → IfOk before (λ one. read one ≡ a)
    → IsOkAnd before (λ one. x ≡ read one) → x ≡ a
one_same read (Ok one) x a one_is same_is = same_is ∙ one_is
one_same read (Err fault) x a one_is same_is = absurd same_is

-- what stays as it was is what it was
pub same : {E A : Type 0} (read : Command → A) (before after : Result Command E) (a : A) → IfOk before (λ one. read one ≡ a)
    → IfOk after (λ c. IsOkAnd before (λ one. read c ≡ read one)) → IfOk after (λ c. read c ≡ a)
same read before after a one_is same_is = IfOk-weaker after _ _ (λ c. one_same read before (read c) a one_is) same_is
