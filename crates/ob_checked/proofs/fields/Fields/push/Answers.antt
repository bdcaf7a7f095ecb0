use Rattle.std.proofs.Common.{String, sym, ap, ◌∙◌}
use Rattle.std.specs.declared.alloc.Global.{Global}
use Rattle.ob_checked.specs.declared.types.DataType.{DataType}
use Rattle.ob_checked.specs.Fields.{position_from}
use Rattle.ob_checked.specs.Types.{fields_in}
use Rattle.ob_checked.proofs.FieldNames.{indexed-push}
use Rattle.ob_checked.proofs.fields.Fields.push.Goals as goal

pub invariant_of-self-in-Ok : goal.invariant_of-self-in-Ok
invariant_of-self-in-Ok c =
    record {
      indexed = λ q.
          let e : String Global × DataType = (c.args.name, c.args.data_type) in
          let all = fields_in c.args.self.now in
          indexed-push c.args.self.now.positions c.insert.new.self all c.in_ok-key.key e c.in_ok-key.ensures.cases c.len-position.result (c.len-position.ensures ∙ c.args.self.now.entries.ok.0) c.args.self.now.indexed c.requires.new c.in-Ok.ensures.updates q
          ∙ ap (λ fs. position_from 0 fs q) (sym c.in_ok-push.ensures.items);
    }
