-- A command that is added to the command line.
use Rattle.std.proofs.Common.{◌≡◌, ◌∙◌, ap₂, Result, Ok, Err, IfOk, IsOkAnd}
use Rattle.std.proofs.lemmas.Result.{IfOk-weaker}
use Rattle.clap.specs.Words.{App, app_of}
use Rattle.clap.specs.declared.builder.command.Command.{Command}
use Rattle.ob_command_line.specs.ClapCommand.{with_command}

one_added : {E : Type 0} (program made : Result Command E) (whole a b : App) → IfOk program (λ above. app_of above ≡ a) → IfOk made (λ one. app_of one ≡ b)
    → IsOkAnd program (λ above. IsOkAnd made (λ one. whole ≡ with_command (app_of above) (app_of one))) → whole ≡ with_command a b
one_added (Ok above) (Ok one) whole a b above_is one_is adds = adds ∙ ap₂ with_command above_is one_is
one_added (Ok above) (Err fault) whole a b above_is one_is adds = absurd adds
one_added (Err fault) made whole a b above_is one_is adds = absurd adds

-- the command that was made is added to what stood before
pub added : {E : Type 0} (program made whole : Result Command E) (a b : App) → IfOk program (λ above. app_of above ≡ a) → IfOk made (λ one. app_of one ≡ b)
    → IfOk whole (λ c. IsOkAnd program (λ above. IsOkAnd made (λ one. app_of c ≡ with_command (app_of above) (app_of one))))
    → IfOk whole (λ c. app_of c ≡ with_command a b)
added program made whole a b above_is one_is adds = IfOk-weaker whole _ _ (λ c. one_added program made (app_of c) a b above_is one_is) adds
