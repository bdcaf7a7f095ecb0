-- Where an expression stands.
use Rattle.ob_typing.specs.Expressions as Typing
use Rattle.ob_scopes.specs.declared.constants.Usage.{Usage}
use Rattle.ob_scopes.specs.declared.constants.Usage.TheVariants.{InStatement, InConstant, NotComputed}

abbrev pub use_of : Usage → Typing.Use
use_of InStatement = Typing.InStatement
use_of InConstant = Typing.InConstant
use_of NotComputed = Typing.NotComputed
