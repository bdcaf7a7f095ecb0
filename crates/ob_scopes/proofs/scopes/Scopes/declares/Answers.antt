use Rattle.std.proofs.Common.{sym, ◌∙◌}
use Rattle.std.specs.BTreeMap.{get_by_text}
use Rattle.ob_scopes.specs.Objects.{object_of}
use Rattle.ob_scopes.specs.Names.{types_in}
use Rattle.ob_scopes.proofs.Declared.{is_some-mapped}
use Rattle.ob_scopes.proofs.scopes.Scopes.declares.Goals as goal

pub returns : goal.returns
returns c =
    c.contains_key.ensures ∙ sym (is_some-mapped (object_of (types_in c.args.self.now)) (get_by_text c.args.self.now.own c.args.name.now))
