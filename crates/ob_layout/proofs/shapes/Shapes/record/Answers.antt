use Rattle.std.proofs.Common.{◌≡◌, ◌+◌, ◌++◌, ◌∷◌, drop, map, ap, sym, ◌∙◌, arith, rules, subst, List}
use Rattle.ob_layout.specs.Shapes.{types_of, bare, bare_entry, AreOffsets}
use Rattle.ob_layout.specs.declared.shapes.Field.{Field}
use Rattle.ob_layout.specs.View.{shapes_of}
use Rattle.ob_layout.proofs.Laid.{next_field, same_more, words_more, offsets_more}
use Rattle.ob_layout.proofs.shapes.Shapes.record.Goals as goal

pub loop-name-preserved : goal.loop-name-preserved
loop-name-preserved c =
    let ts = types_of (shapes_of c.args.self.now) in
    let all = c.as_slice-entries.result.now in
    let left = drop (c.loop-name.name-index + 1) all in
    let e = c.loop-name-item.result in
    let f : Field = record { name = c.in_ok-from_str.field-0; data_type = e.1; offset = c.loop-name.words } in
    let step : drop c.loop-name.name-index all ≡ e ∷ left = next_field all c.loop-name.name-index e c.loop-name-test.true c.loop-name-item.is in
    let items = c.in_ok-push.ensures.items in
    let more = words_more ts c.loop-name.laid.items f in (
      ap (λ (xs : List Field). map bare xs ++ map bare_entry left) items
          ∙ same_more c.loop-name.laid.items f left _ _ (drop c.loop-name.name-index all) step (search rules) c.loop-name.invariant.0,
      (
        search (arith, more),
        (
          search rules,
          subst (λ (xs : List Field). AreOffsets ts xs) (sym items) (offsets_more ts c.loop-name.laid.items f c.loop-name.invariant.1.1.1 c.loop-name.invariant.1.0),
        ),
      ),
    )
