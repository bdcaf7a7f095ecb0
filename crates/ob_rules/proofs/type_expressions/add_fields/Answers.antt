use Rattle.std.proofs.Common.{◌≡◌, ◌+◌, ◌∷◌, ◌++◌, [], map, drop, sym, ap, ◌∙◌}
use Rattle.ob_grammar.specs.View.{name_of}
use Rattle.ob_typing.specs.Program.{field}
use Rattle.ob_typing.specs.Types.{second, and_taken, and_all_taken, with_fields}
use Rattle.ob_checked.specs.Types.{type_by, fields_in, all_below}
use Rattle.ob_checked.specs.Fields.{found_from}
use Rattle.ob_scopes.specs.TakenNames.{taken_by}
use Rattle.ob_rules.specs.CheckingTypes.{fields_before}
use Rattle.ob_scopes.proofs.Lists.{next_left}
use Rattle.ob_scopes.proofs.Seconds.{second_none, taken_by-pushed, found_from-free}
use Rattle.ob_rules.proofs.TypeSteps.{before_push, field_pushed}
use Rattle.ob_rules.proofs.type_expressions.add_fields.Goals as goal

pub push-requires : goal.push-requires
push-requires c =
    let l = c.loop-name in
    let name = name_of c.name-item.result in
    let rest = map name_of (drop (l.name-index + 1) c.args.names.now) in
    let next = next_left c.args.names.now l.name-index c.name-item.result c.loop-name-test.true c.name-item.is in
    let free = second_none (taken_by l.fields) name rest (ap (λ xs. second (taken_by l.fields) (map name_of xs)) (sym next) ∙ l.invariant.new) in
    record { new = ap (found_from 0 (fields_in l.fields)) c.in_ok-text.ensures.cases ∙ found_from-free l.fields name.text free.0 }

pub loop-name-preserved : goal.loop-name-preserved
loop-name-preserved c =
    let l = c.loop-name in
    let name = name_of c.name-item.result in
    let rest = map name_of (drop (l.name-index + 1) c.args.names.now) in
    let next = next_left c.args.names.now l.name-index c.name-item.result c.loop-name-test.true c.name-item.is in
    let free = second_none (taken_by l.fields) name rest (ap (λ xs. second (taken_by l.fields) (map name_of xs)) (sym next) ∙ l.invariant.new) in
    let last : fields_in c.push.new.self ≡ fields_in l.fields ++ (c.in_ok-text.text, c.args.data_type) ∷ [] = c.in_ok-push.ensures.ok in
    let more : taken_by c.push.new.self ≡ and_taken (taken_by l.fields) name.text =
    taken_by-pushed l.fields c.push.new.self (c.in_ok-text.text, c.args.data_type) name.text c.in_ok-text.ensures.cases last in
    record {
      new = ap (λ t. second t rest) more ∙ free.1;
      fields = λ types others.
          let t = type_by types c.args.data_type in
          ap (λ es. fields_before types es (with_fields rest t others)) last
          ∙ before_push types (fields_in l.fields) (c.in_ok-text.text, c.args.data_type) (with_fields rest t others)
          ∙ ap (λ text. fields_before types (fields_in l.fields) (field text t (with_fields rest t others))) c.in_ok-text.ensures.cases
          ∙ ap (λ xs. fields_before types (fields_in l.fields) (with_fields (map name_of xs) t others)) (sym next)
          ∙ l.invariant.fields types others;
      taken = ap (λ t. and_all_taken t rest) more ∙ ap (λ xs. and_all_taken (taken_by l.fields) (map name_of xs)) (sym next) ∙ l.invariant.taken;
      known = λ n b k. ap (all_below n) last ∙ field_pushed n (fields_in l.fields) (c.in_ok-text.text, c.args.data_type) (l.invariant.known n b k) k;
    }
