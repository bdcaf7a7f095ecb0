use Rattle.std.proofs.Common.{List, ℕ, Option, None, Some, Ok, Result, Bor, map}
use Rattle.ob_command_line.specs.HelpWords.{extra_of_help}
use Rattle.ob_command.specs.CommandLine.{Text}
use Rattle.ob_command.specs.Commands.{IsMistakeBeside}
use Rattle.ob_command.specs.declared.command.Command.{Command}
use Rattle.ob_plain_words.proofs.asked_command.asked_command.Goals as goal

-- a command is no mistake
no_mistake : (extra : Option Text) (words : List Text) (command : Command) → IsMistakeBeside extra words (Ok command)
no_mistake None words command = tt
no_mistake (Some word) words command = tt

pub returns-in-Some-clause-mistake : goal.returns-in-Some-clause-mistake
returns-in-Some-clause-mistake c =
    let words : List Text = map (λ (word : Bor (List ℕ)). word.now) c.args.words.now in
    no_mistake (extra_of_help words) words c.in-Some.command
