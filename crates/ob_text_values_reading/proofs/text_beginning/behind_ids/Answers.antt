use Rattle.std.proofs.Common.{◌≡◌, ◌∷◌, rules}
use Rattle.ob_text_values_reading.proofs.WrittenWords.{last_name, no_name_yet, one_name_more}
use Rattle.ob_text_values_reading.proofs.text_beginning.behind_ids.Goals as goal

pub loop-id-init : goal.loop-id-init
loop-id-init c = no_name_yet c.args.processes c.args.text.now

pub loop-id-preserved : goal.loop-id-preserved
loop-id-preserved c =
    let parts : c.in-Some.behind.now ≡ c.in_ok-ender.ender.now ∷ c.in_ok-ender.rest.now = search rules in
    one_name_more _ _ _ _ _ c.loop-id.invariant (rw (parts, c.in-32.is) at c.in-Some.ensures)

pub returns-in-10 : goal.returns-in-10
returns-in-10 c =
    let parts : c.in-Some.behind.now ≡ c.in_ok-ender.ender.now ∷ c.in_ok-ender.rest.now = search rules in
    last_name _ _ _ _ _ c.loop-id.invariant (rw (parts, c.in-10.is) at c.in-Some.ensures)
