use Rattle.std.proofs.Common.{◌≡◌, ◌+◌, ◌∷◌, ◌++◌, arith, length, map, drop, option_map, true, false, sym, ap, ◌∙◌}
use Rattle.std.specs.Prelude.{nat_le}
use Rattle.std.proofs.lemmas.List.{at_drop_all, append-nil}
use Rattle.ob_grammar.specs.View.{name_of}
use Rattle.ob_grammar.proofs.Loops.{map-push}
use Rattle.ob_typing.specs.Scopes.{words, declared, variable_in}
use Rattle.ob_typing.specs.Declarations.{with_words, first_beyond, with_variables, room_behind, variables_of}
use Rattle.ob_typing.specs.declared.rule.Rule.TheVariants.{PassesLimit}
use Rattle.ob_typing.specs.Verdict.{unless_name}
use Rattle.ob_checked.specs.Types.{type_in, is_below}
use Rattle.ob_checked.specs.View.{variable_of}
use Rattle.ob_scopes.specs.Names.{types_in, env_of}
use Rattle.ob_rules.specs.CheckingVariables.{room_of, known_variables}
use Rattle.ob_rules.proofs.Steps.{fails_when}
use Rattle.ob_scopes.proofs.Lists.{next_left}
use Rattle.ob_rules.proofs.DeclarationSteps.{room_none, room_some, beyond_here, beyond_next, variable_pushed}
use Rattle.ob_rules.proofs.declarations.declare_names.Goals as goal

pub declare_variable-requires : goal.declare_variable-requires
declare_variable-requires c = record { known = ap (λ es. is_below (length es) c.args.data_type) c.loop-name.invariant.table ∙ c.requires.known }

pub returns-in-None-clause-fault : goal.returns-in-None-clause-fault
returns-in-None-clause-fault c =
    let l = c.loop-name in
    let types = types_in c.args.scopes.now in
    let w = words (type_in types c.args.data_type) in
    let name = name_of c.name-item.result in
    let rest = map name_of (drop (l.name-index + 1) c.args.names.now) in
    let next = next_left c.args.names.now l.name-index c.name-item.result c.loop-name-test.true c.name-item.is in
    let same : c.words-words.result ≡ w = c.words-words.ensures ∙ ap (λ es. words (type_in es c.args.data_type)) c.types.ensures in
    let full : nat_le (l.left.taken + w) l.left.limit ≡ false =
    ap (λ k. nat_le (l.left.taken + k) l.left.limit) (sym same) ∙ room_none _ _ (sym (ap (option_map room_of) c.in-None.is) ∙ c.in_ok-next.ensures.room) in
    let beyond = l.invariant.fits ∙ ap (λ xs. first_beyond (room_of l.left) w (map name_of xs)) next ∙ beyond_here (room_of l.left) w name rest full in
    fails_when c.broken.result _ c.broken.ensures _ (ap (λ o. unless_name o PassesLimit) beyond)

pub loop-name-preserved : goal.loop-name-preserved
loop-name-preserved c =
    let l = c.loop-name in
    let types = types_in c.args.scopes.now in
    let t = type_in types c.args.data_type in
    let w = words t in
    let name = name_of c.name-item.result in
    let rest = map name_of (drop (l.name-index + 1) c.args.names.now) in
    let next = next_left c.args.names.now l.name-index c.name-item.result c.loop-name-test.true c.name-item.is in
    let same : c.words-words.result ≡ w = c.words-words.ensures ∙ ap (λ es. words (type_in es c.args.data_type)) c.types.ensures in
    let some = room_some _ _ _ (sym (ap (option_map room_of) c.in-Some.is) ∙ c.in_ok-next.ensures.room) in
    let fits : nat_le (l.left.taken + w) l.left.limit ≡ true = ap (λ k. nat_le (l.left.taken + k) l.left.limit) (sym same) ∙ some.0 in
    let left : room_of c.in-Some.next ≡ with_words (room_of l.left) w = some.1 ∙ ap (with_words (room_of l.left)) same in
    let env : env_of c.declare_variable.new.self ≡ declared (env_of l.scopes) name.text (variable_in (env_of l.scopes) l.left.names t) =
    c.in_ok-declare_variable.ensures.ok
    ∙ ap (λ text. declared (env_of l.scopes) text (variable_in (env_of l.scopes) l.left.names (type_in (types_in l.scopes) c.args.data_type))) c.deref.ensures
    ∙ ap (λ es. declared (env_of l.scopes) name.text (variable_in (env_of l.scopes) l.left.names (type_in es c.args.data_type))) l.invariant.table in
    record {
      table = c.in_ok-declare_variable.ensures.types ∙ l.invariant.table;
      fits =
          l.invariant.fits ∙ ap (λ xs. first_beyond (room_of l.left) w (map name_of xs)) next ∙ beyond_next (room_of l.left) w name rest fits
          ∙ ap (λ r. first_beyond r w rest) (sym left);
      names =
          l.invariant.names ∙ ap (λ xs. with_variables (env_of l.scopes) (room_of l.left) t (map name_of xs)) next
          ∙ ap (λ e. with_variables e (with_words (room_of l.left) w) t rest) (sym env) ∙ ap (λ r. with_variables (env_of c.declare_variable.new.self) r t rest) (sym left);
      room = l.invariant.room ∙ ap (λ xs. room_behind (room_of l.left) t (map name_of xs)) next ∙ ap (λ r. room_behind r t rest) (sym left);
      variables =
          ap (λ vs. map (variable_of types) vs ++ variables_of t rest) c.in_ok-push.ensures.items
          ∙ sym (map-push (variable_of types) l.variables.items (record { name = c.in_ok-name.name; data_type = c.args.data_type }) (variables_of t rest))
          ∙ ap (λ text. map (variable_of types) l.variables.items ++ record { name = text; type = t } ∷ variables_of t rest) c.in_ok-name.ensures.cases
          ∙ ap (λ xs. map (variable_of types) l.variables.items ++ variables_of t (map name_of xs)) (sym next)
          ∙ l.invariant.variables;
      known = λ h. ap (known_variables (length types)) c.in_ok-push.ensures.items ∙ variable_pushed (length types) l.variables.items _ (l.invariant.known h) c.requires.known;
    }

pub returns-clause-fits : goal.returns-clause-fits
returns-clause-fits c =
    let l = c.loop-name in
    l.invariant.fits
    ∙ at_drop_all (λ xs. first_beyond (room_of l.left) (words (type_in (types_in c.args.scopes.now) c.args.data_type)) (map name_of xs)) c.args.names.now l.name-index (omega arith)

pub returns-clause-names : goal.returns-clause-names
returns-clause-names c =
    let l = c.loop-name in
    sym (l.invariant.names
    ∙ at_drop_all (λ xs. with_variables (env_of l.scopes) (room_of l.left) (type_in (types_in c.args.scopes.now) c.args.data_type) (map name_of xs)) c.args.names.now l.name-index (omega arith))

pub returns-clause-room : goal.returns-clause-room
returns-clause-room c =
    let l = c.loop-name in
    sym (l.invariant.room
    ∙ at_drop_all (λ xs. room_behind (room_of l.left) (type_in (types_in c.args.scopes.now) c.args.data_type) (map name_of xs)) c.args.names.now l.name-index (omega arith))

pub returns-clause-variables : goal.returns-clause-variables
returns-clause-variables c =
    let l = c.loop-name in
    let types = types_in c.args.scopes.now in
    let done = map (variable_of types) l.variables.items in
    sym (append-nil done) ∙ sym (at_drop_all (λ xs. done ++ variables_of (type_in types c.args.data_type) (map name_of xs)) c.args.names.now l.name-index (omega arith))
    ∙ l.invariant.variables
