use Rattle.std.proofs.Common.{◌+◌, ◌-◌, ◌*◌, length}
use Rattle.ob_parser.specs.Forms as forms
use Rattle.ob_parser.proofs.States.{Path}
use Rattle.ob_parser.proofs.DeclarationLoops.{procedures_before}
use Rattle.ob_parser.proofs.parser.Parser.+declarations.Given as goal

abbrev pub decreases-block : goal.decreases-block
decreases-block g l = 4 * (g.S.TokenSource.state l.self.now.source).left

abbrev pub decreases-procedure : goal.decreases-procedure
decreases-procedure g l = 4 * (g.S.TokenSource.state l.self.now.source).left + 1

abbrev pub decreases-procedures : goal.decreases-procedures
decreases-procedures g l = 4 * (g.S.TokenSource.state l.self.now.source).left + 2

abbrev pub decreases-declarations : goal.decreases-declarations
decreases-declarations g l = 4 * (g.S.TokenSource.state l.self.now.source).left + 3

-- the procedures that are read, in front of those behind them
abbrev pub invariant-procedures-loop-self : goal.invariant-procedures-loop-self
invariant-procedures-loop-self g l =
    Path (forms.procedures l.depth) (g.S.TokenSource.state l.fn.self.source) (forms.procedures l.depth) (g.S.TokenSource.state l.self.source) (procedures_before l.all.items)

abbrev pub decreases-procedures-loop-self : goal.decreases-procedures-loop-self
decreases-procedures-loop-self g l = (g.S.TokenSource.state l.self.source).left
