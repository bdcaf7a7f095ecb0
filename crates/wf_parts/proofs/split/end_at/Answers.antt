use Rattle.std.proofs.Common.{arith, subst}
use Rattle.std.proofs.lemmas.List.{length-map, map-set}
use Rattle.std.proofs.lemmas.Option.{slice_get_within}
use Rattle.std.proofs.lemmas.Result.{on_ok_weaker}
use Rattle.wf_history.specs.View.{kept_reply}
use Rattle.wf_lookup.proofs.Items.{item_at}
use Rattle.wf_parts.specs.Numbering.{PartView}
use Rattle.wf_parts.specs.Split.{Ends}
use Rattle.wf_parts.specs.View.{part_in, parts_in}
use Rattle.wf_parts.proofs.split.end_at.Goals as goal

pub returns : goal.returns
returns c = λ p at.
    let items = c.args.parts.now.items in
    let within = slice_get_within (parts_in items) c.args.place p at in
    let size = length-map items part_in in
    let same = item_at part_in items c.args.place c.index_mut.result.now p (omega (arith, within, size)) c.index_mut.ensures.value at in
    on_ok_weaker c.end.result
    (λ ends. (
      part_in c.end.new.self,
      subst (λ (x : PartView). Ends x c.args.id (kept_reply c.args.reply) (part_in c.end.new.self)) same ends,
      map-set part_in items c.args.place c.end.new.self,
    ))
    c.end.ensures
