use Rattle.std.proofs.Common.{◌+◌, ◌-◌, ◌*◌, length}
use Rattle.ob_parser.specs.Forms as forms
use Rattle.ob_parser.proofs.States.{Path}
use Rattle.ob_parser.proofs.DeclarationLoops.{fields_before}
use Rattle.ob_parser.proofs.parser.Parser.+types.Given as goal

abbrev pub decreases-array_type : goal.decreases-array_type
decreases-array_type g l = 4 * (g.S.TokenSource.state l.self.now.source).left

abbrev pub decreases-element : goal.decreases-element
decreases-element g l = 4 * (g.S.TokenSource.state l.self.now.source).left

abbrev pub decreases-record_type : goal.decreases-record_type
decreases-record_type g l = 4 * (g.S.TokenSource.state l.self.now.source).left

abbrev pub decreases-type_expr : goal.decreases-type_expr
decreases-type_expr g l = 4 * (g.S.TokenSource.state l.self.now.source).left + 1

abbrev pub decreases-field_list : goal.decreases-field_list
decreases-field_list g l = 4 * (g.S.TokenSource.state l.self.now.source).left + 2

abbrev pub decreases-field_lists : goal.decreases-field_lists
decreases-field_lists g l = 4 * (g.S.TokenSource.state l.self.now.source).left + 3

-- the field lists that are read, in front of those behind them
abbrev pub invariant-field_lists-loop-self : goal.invariant-field_lists-loop-self
invariant-field_lists-loop-self g l =
    Path (forms.field_lists l.depth) (g.S.TokenSource.state l.fn.self.source) (forms.more_fields l.depth) (g.S.TokenSource.state l.self.source) (fields_before l.all.items)

abbrev pub decreases-field_lists-loop-self : goal.decreases-field_lists-loop-self
decreases-field_lists-loop-self g l = (g.S.TokenSource.state l.self.source).left
