-- The words that ask for help, for the version and for nothing.
use Rattle.std.proofs.Common.{◌≡◌, refl, [], ◌∷◌, codes}
use Rattle.std.specs.List.{All}
use Rattle.std.proofs.lemmas.List.Elements.{All-from_recursion}
use Rattle.clap.proofs.OnLiterals.{clap_on_literals}
use Rattle.ob_command.specs.CommandLine.{Help, Unclear, clap_request}
use Rattle.ob_command_line.specs.HelpWords.{command_names}
use Rattle.ob_command_laws.specs.PlainForms.{IsHelpAsked, IsVersionAsked}

pub help_asked : clap_request (codes "--help" ∷ []) ≡ Help
unfolding clap_on_literals clap_request
help_asked = refl

pub short_help_asked : clap_request (codes "-h" ∷ []) ≡ Help
unfolding clap_on_literals clap_request
short_help_asked = refl

pub nothing_asked : clap_request [] ≡ Unclear
unfolding clap_on_literals clap_request
nothing_asked = refl

-- of each command

pub each_help_asked : All IsHelpAsked command_names
unfolding clap_on_literals clap_request
each_help_asked = All-from_recursion IsHelpAsked command_names (record { before = refl; long = refl; short = refl; before_long = refl; before_short = refl }, (record { before = refl; long = refl; short = refl; before_long = refl; before_short = refl }, (record { before = refl; long = refl; short = refl; before_long = refl; before_short = refl }, (record { before = refl; long = refl; short = refl; before_long = refl; before_short = refl }, (record { before = refl; long = refl; short = refl; before_long = refl; before_short = refl }, (record { before = refl; long = refl; short = refl; before_long = refl; before_short = refl }, (record { before = refl; long = refl; short = refl; before_long = refl; before_short = refl }, (record { before = refl; long = refl; short = refl; before_long = refl; before_short = refl }, (record { before = refl; long = refl; short = refl; before_long = refl; before_short = refl }, (record { before = refl; long = refl; short = refl; before_long = refl; before_short = refl }, (record { before = refl; long = refl; short = refl; before_long = refl; before_short = refl }, (record { before = refl; long = refl; short = refl; before_long = refl; before_short = refl }, (record { before = refl; long = refl; short = refl; before_long = refl; before_short = refl }, tt)))))))))))))

pub each_version_asked : All IsVersionAsked command_names
each_version_asked = All-from_recursion IsVersionAsked command_names (record { long = refl; short = refl }, (record { long = refl; short = refl }, (record { long = refl; short = refl }, (record { long = refl; short = refl }, (record { long = refl; short = refl }, (record { long = refl; short = refl }, (record { long = refl; short = refl }, (record { long = refl; short = refl }, (record { long = refl; short = refl }, (record { long = refl; short = refl }, (record { long = refl; short = refl }, (record { long = refl; short = refl }, (record { long = refl; short = refl }, tt)))))))))))))
