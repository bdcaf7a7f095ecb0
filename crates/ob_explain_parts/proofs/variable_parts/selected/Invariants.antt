-- What is left of the tokens leads to the part, and there are not more open brackets than tokens so far.
use Rattle.std.proofs.Common.{◌≡◌, ◌≤◌, drop}
use Rattle.ob_explain_parts.specs.Parts.{open_brackets, selected}
use Rattle.ob_explain_parts.specs.declared.variable_parts.Selecting.TheVariants.{Part}
use Rattle.ob_explain_parts.proofs.variable_parts.selected.Given as goal

abbrev pub invariant-loop-token : goal.invariant-loop-token
invariant-loop-token l =
    record {
      left : selected l.text l.known l.tokens l.selecting l.part (drop l.token-index l.behind) ≡ selected l.text l.known l.tokens Part l.fn.whole l.behind;
      few : open_brackets l.selecting ≤ l.token-index;
    }
