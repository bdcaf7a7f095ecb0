use Rattle.std.proofs.Common.{◌+◌, ◌-◌, ◌*◌, length}
use Rattle.ob_parser.specs.Forms as forms
use Rattle.ob_parser.proofs.States.{Path}
use Rattle.ob_parser.proofs.StatementLoops.{stmts_before, branches_before}
use Rattle.ob_parser.proofs.parser.Parser.+statements.Given as goal

abbrev pub decreases-if_statement : goal.decreases-if_statement
decreases-if_statement g l = 3 * (g.S.TokenSource.state l.self.now.source).left

abbrev pub decreases-while_statement : goal.decreases-while_statement
decreases-while_statement g l = 3 * (g.S.TokenSource.state l.self.now.source).left

abbrev pub decreases-repeat_statement : goal.decreases-repeat_statement
decreases-repeat_statement g l = 3 * (g.S.TokenSource.state l.self.now.source).left

abbrev pub decreases-repeated : goal.decreases-repeated
decreases-repeated g l = 3 * (g.S.TokenSource.state l.self.now.source).left

abbrev pub decreases-statement : goal.decreases-statement
decreases-statement g l = 3 * (g.S.TokenSource.state l.self.now.source).left + 1

abbrev pub decreases-statements : goal.decreases-statements
decreases-statements g l = 3 * (g.S.TokenSource.state l.self.now.source).left + 2

abbrev pub decreases-branch : goal.decreases-branch
decreases-branch g l = 3 * (g.S.TokenSource.state l.self.now.source).left

abbrev pub decreases-branches : goal.decreases-branches
decreases-branches g l = 3 * (g.S.TokenSource.state l.self.now.source).left + 1

abbrev pub decreases-otherwise : goal.decreases-otherwise
decreases-otherwise g l = 3 * (g.S.TokenSource.state l.self.now.source).left

abbrev pub invariant-statements-loop-self : goal.invariant-statements-loop-self
invariant-statements-loop-self g l =
    Path (forms.statements l.depth) (g.S.TokenSource.state l.fn.self.source) (forms.more_statements l.depth) (g.S.TokenSource.state l.self.source) (stmts_before l.all.items)

abbrev pub decreases-statements-loop-self : goal.decreases-statements-loop-self
decreases-statements-loop-self g l = (g.S.TokenSource.state l.self.source).left

abbrev pub invariant-branches-loop-self : goal.invariant-branches-loop-self
invariant-branches-loop-self g l =
    Path (forms.branches l.depth) (g.S.TokenSource.state l.fn.self.source) (forms.more_branches l.depth) (g.S.TokenSource.state l.self.source) (branches_before l.all.items)

abbrev pub decreases-branches-loop-self : goal.decreases-branches-loop-self
decreases-branches-loop-self g l = (g.S.TokenSource.state l.self.source).left
