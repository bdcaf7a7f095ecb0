use Rattle.std.proofs.Common.{◌+◌, ◌≡◌, map, drop, true, false, arith, sym, ap, ◌∙◌}
use Rattle.std.specs.Prelude.{◌||◌}
use Rattle.std.proofs.lemmas.List.{at_drop_all}
use Rattle.ob_grammar.specs.View.{name_of}
use Rattle.ob_typing.specs.Types.{and_taken, second}
use Rattle.ob_scopes.specs.TakenNames.{taken_in}
use Rattle.ob_scopes.proofs.Lists.{next_left}
use Rattle.ob_scopes.proofs.Seconds.{or_taken, none_before, taken_in-empty, taken_in-updated, and_or_taken, either, second_here, second_behind, not_either}
use Rattle.ob_scopes.proofs.taken.second.Goals as goal
use Rattle.ob_scopes.proofs.taken.second.Goals.{then-contains_key-via-then-contains_key, then-contains_key-via-else-contains_key+then-contains_key-2}

pub loop-name-init : goal.loop-name-init
loop-name-init g c =
    ap (λ t. second t (map name_of c.args.names.now))
    (none_before (taken_in c.new-before.result) (taken_in c.args.taken.now) (taken_in-empty c.new-before.result c.new-before.ensures.empty))

pub returns-then-contains_key-clause-second : goal.returns-then-contains_key-clause-second
returns-then-contains_key-clause-second g c =
    let l = c.loop-name in
    let name = name_of c.name-item.result in
    let next = next_left c.args.names.now l.name-index c.name-item.result c.loop-name-test.true c.name-item.is in
    let taken : or_taken (taken_in l.before) (taken_in c.args.taken.now) name.text ≡ true =
    elim c.then-contains_key.branch [
      | then-contains_key-via-then-contains_key w ↦ either (taken_in l.before name.text) (taken_in c.args.taken.now name.text) (sym c.contains_key.ensures ∙ w.if-contains_key.true)
      | then-contains_key-via-else-contains_key+then-contains_key-2 w ↦ ap (λ b. b || taken_in c.args.taken.now name.text) (sym w.contains_key-else-contains_key.ensures ∙ w.if-contains_key-2.true)
    ] in
    sym (l.invariant ∙ ap (λ xs. second (or_taken (taken_in l.before) (taken_in c.args.taken.now)) (map name_of xs)) next
    ∙ second_here (or_taken (taken_in l.before) (taken_in c.args.taken.now)) name (map name_of (drop (l.name-index + 1) c.args.names.now)) taken)

pub loop-name-preserved : goal.loop-name-preserved
loop-name-preserved g c =
    let l = c.loop-name in
    let taken = taken_in c.args.taken.now in
    let name = name_of c.name-item.result in
    let rest = map name_of (drop (l.name-index + 1) c.args.names.now) in
    let next = next_left c.args.names.now l.name-index c.name-item.result c.loop-name-test.true c.name-item.is in
    let new : or_taken (taken_in l.before) taken name.text ≡ false =
    not_either (taken name.text) (taken_in l.before name.text) (sym c.contains_key.ensures ∙ c.if-contains_key.false) (sym c.contains_key-else-contains_key.ensures ∙ c.if-contains_key-2.false) in
    let more : taken_in c.insert.new.self ≡ and_taken (taken_in l.before) name.text =
    taken_in-updated l.before c.insert.new.self _ name.text _ c.in_ok-text.ensures.cases c.in_ok-insert.ensures.updates in
    l.invariant ∙ ap (λ xs. second (or_taken (taken_in l.before) taken) (map name_of xs)) next
    ∙ second_behind (or_taken (taken_in l.before) taken) name rest new
    ∙ ap (λ t. second t rest) (sym (and_or_taken (taken_in l.before) taken name.text))
    ∙ ap (λ t. second (or_taken t taken) rest) (sym more)

pub returns-clause-second : goal.returns-clause-second
returns-clause-second g c =
    let l = c.loop-name in
    sym (l.invariant ∙ at_drop_all (λ xs. second (or_taken (taken_in l.before) (taken_in c.args.taken.now)) (map name_of xs)) c.args.names.now l.name-index (omega arith))
