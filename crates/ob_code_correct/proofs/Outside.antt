-- A call of an export from outside: the machine follows the source.
use Rattle.std.proofs.Common.{◌≡◌, ℕ, suc, ◌+◌, ◌*◌, ◌≤◌, true, ℤ, pos, List, [], ◌∷◌, ◌++◌, length, take, drop, replicate, filter, Some, refl, sym, ap, ◌∙◌, append-nil, append_assoc, length-append, All, arith}
use Rattle.std.specs.Prelude.{slice_get}
use Rattle.std.proofs.lemmas.List.{take_at, length-replicate}
use Rattle.std.proofs.lemmas.List.Elements.{All-filter}
use Rattle.ob_interface.specs.declared.scalar.Scalar.{Scalar}
use Rattle.ob_typing.specs.Program.{Parameter, Procedure, Program}
use Rattle.ob_meaning.specs.ByPositionStore.{Activation, Store, activation_at}
use Rattle.ob_meaning.specs.ByPositionStatements.{Outcome, Done, Trap, meaning_of_all, activation_of, calls}
use Rattle.ob_meaning.specs.ByPositionObject.{results_begun, outside_handed, values_of_results}
use Rattle.ob_code_scheme.specs.Types.{Scope, extent, total, variables_scope, parameters_scope, results_scope, frame_scope, IsStateOf, FitsActivation, FitsFrom, Fits}
use Rattle.ob_code_scheme.specs.Temporaries.{stack_words}
use Rattle.ob_code_scheme.specs.WellFormed.{IsFineProcedure, IsWellFormed}
use Rattle.ob_code_scheme.specs.Layout.{encoded, variable_words}
use Rattle.ob_code_words.specs.declared.instr.Instr.{Instr}
use Rattle.ob_code_machine.specs.Body.{result_count, handed}
use Rattle.ob_code_machine.specs.Machine.{Configuration, Unfinished, Returned, turn, carried, exec}
use Rattle.ob_code_machine.specs.Machine as Machine
use Rattle.ob_code_scheme.specs.Scheme.{statements_size, entry_of}
use Rattle.ob_code_scheme.specs.Image.{position_words, store_words}
use Rattle.ob_code_scheme.specs.Correct.{arguments_of, beginning, words_of}
use Rattle.ob_code_scheme.specs.Running.{Stand, Setting, here}
use Rattle.ob_code_scheme.specs.Placing.{LeadsGlue}
use Rattle.ob_code_scheme.specs.Executing.{Low, AreArgumentsOf, Follows, first_store, Exported, ExportRuns}
use Rattle.ob_code_correct.proofs.StatementsOwed.{Owed}
use Rattle.ob_code_correct.proofs.Room.{low_has_room}
use Rattle.ob_code_correct.proofs.StatementsGlue.{RunsIn}
use Rattle.ob_code_correct.proofs.Opened.{ProcedureStands, procedure_opened}
use Rattle.ob_code_correct.proofs.Statements.{each_list}
use Rattle.ob_code_scheme.proofs.Fine.{frame_largest, temporaries_most, fine_procedure, extent-append, parameters_words}
use Rattle.ob_code_correct.proofs.Frames.{with_frame, frames, returns}
use Rattle.ob_code_correct.proofs.Calls.{calls_run}
use Rattle.ob_code_correct.proofs.Results.{IsSimpleParameter, counted, few_results, handed_length, Handed, outside, results_are}

-- the setting of a procedure that is called from outside
abbrev pub first_setting : (program : Program) (code : List Instr) → IsWellFormed program → Stand program code → Procedure → Setting
first_setting program code fine stand p = record {
  program = program;
  code = code;
  fine = fine;
  stand = stand;
  lower = results_scope p.parameters ∷ [];
  own = frame_scope p;
  saved = [];
}

-- the calls and the turns pay for all instructions
paid : (body code used left : ℕ) → 1 + body + 1 ≤ code → 1 + (1 + (body + code * used)) ≤ suc (used + left) * code
paid body code used left fits = omega (arith, fits)

paid_trap : (body code budget : ℕ) → 1 + body + 1 ≤ code → 1 + (body + code * budget) ≤ suc budget * code
paid_trap body code budget fits = omega (arith, fits)

module _ (owed : Owed) (program : Program) (code : List Instr) (fine : IsWellFormed program) (stand : Stand program code)
    (i : ℕ) (p : Procedure) (is : slice_get program.procedures i ≡ Some p) (exported : p.is_exported ≡ true)
    (state : Activation) (arguments : List Scalar) (budget : ℕ) (typed : IsStateOf program.variables state) (fit : AreArgumentsOf p.parameters arguments) where
  abbrev at : Setting
  at = first_setting program code fine stand p

  abbrev reserve : ℕ
  reserve = stack_words program.procedures

  abbrev globals : Scope
  globals = variables_scope program.variables

  abbrev results : Scope
  results = results_scope p.parameters

  abbrev all : List Scope
  all = globals ∷ results ∷ frame_scope p ∷ []

  abbrev leads : LeadsGlue code reserve
  leads = owed.leads code reserve

  abbrev entry : ℕ
  entry = entry_of program.procedures i

  abbrev body_size : ℕ
  body_size = statements_size (frame_scope p) p.body

  abbrev end : ℕ
  end = entry + 1 + body_size

  stands : ProcedureStands owed code globals (entry_of program.procedures) entry p
  stands = procedure_opened owed code globals (entry_of program.procedures) entry p (stand i p is)

  abbrev given : List ℤ
  given = handed (variable_words program.variables) 0 (arguments_of p.parameters arguments)

  abbrev count : ℕ
  count = result_count (arguments_of p.parameters arguments)

  abbrev zeros : List ℤ
  zeros = replicate (variable_words p.variables) (pos 0)

  abbrev first_stack : List ℤ
  first_stack = replicate count (pos 0) ++ given

  abbrev first : Store
  first = first_store p state arguments

  own : IsFineProcedure program p
  own = fine_procedure program i p fine is

  simple : All IsSimpleParameter p.parameters
  simple = own.results exported

  -- ---- words and room

  results_words : extent results ≡ count
  results_words = counted p.parameters arguments simple

  many : length first_stack ≡ count + length p.parameters
  many =
      let parts = length-append (replicate count (pos 0)) given in
      let zeros_there : length (replicate count (pos 0)) ≡ count = length-replicate count (pos 0) in
      let words = handed_length p.parameters arguments (variable_words program.variables) 0 in
      omega (arith, parts, zeros_there, words)

  low : Low at 63
  low =
      let few = few_results p.parameters arguments in
      let frame = frame_largest program.procedures i p is in
      let most = own.few in
      record {
        depth = refl;
        words = omega (arith, results_words, few, frame, most);
      }

  enough : length first_stack + variable_words p.variables ≤ reserve
  enough =
      let room = low_has_room at 63 low in
      let parts = extent-append (parameters_scope p.parameters) (variables_scope p.variables) in
      let words = parameters_words p.parameters own.values in
      omega (arith, room, parts, words, many, results_words)

  -- ---- the first store

  over : Handed globals results (frame_scope p) 0 p.parameters arguments
  over = outside globals results (frame_scope p) p.parameters arguments [] 0 simple (refl, refl, refl) fit

  first_fits : Fits all first
  first_fits = record {
    from = (
      (owed.states_fit all program.variables state typed).0,
      (
        (owed.results_fit all 1 p.parameters).0,
        ((owed.begun_fits all 2 (parameters_scope p.parameters) (outside_handed 0 p.parameters arguments) p.variables over.fits).0, tt),
      ),
    );
  }

  stack_is : first_stack ++ zeros ≡ store_words all (drop 1 first) ++ []
  stack_is =
      let activation = position_words all (activation_of p (outside_handed 0 p.parameters arguments)) in
      let begun_words = (owed.begun_fits all 2 (parameters_scope p.parameters) (outside_handed 0 p.parameters arguments) p.variables over.fits).1 in
      let of_results = (owed.results_fit all 1 p.parameters).1 in
      append_assoc (replicate count (pos 0)) given zeros
      ∙ ap (λ (l : List ℤ). replicate count (pos 0) ++ (l ++ zeros)) (sym over.words_are)
      ∙ ap (λ (l : List ℤ). replicate count (pos 0) ++ l) (sym begun_words)
      ∙ ap (λ (n : ℕ). replicate n (pos 0) ++ activation) (sym results_words)
      ∙ ap (λ (l : List ℤ). l ++ activation) (sym of_results)
      ∙ ap (λ (l : List ℤ). position_words all (results_begun p.parameters) ++ l) (sym (append-nil activation))
      ∙ sym (append-nil (store_words all (drop 1 first)))

  abbrev start : Configuration
  start = beginning entry program.variables p.parameters state arguments budget

  abbrev framed : Configuration
  framed = here at first budget (entry + 1) []

  begins : turn code reserve start ≡ Unfinished framed
  begins =
      let frame_is : count ≡ total at.lower = omega (arith, results_words) in
      frames code reserve (encoded state) count [] budget entry (variable_words p.variables) first_stack stands.frame_stands enough
      ∙ ap (λ (s : List ℤ). Unfinished (with_frame code reserve (encoded state) count [] budget (entry + 1) s)) stack_is
      ∙ ap (λ (n : ℕ). Unfinished (with_frame code reserve (encoded state) n [] budget (entry + 1) (store_words all (drop 1 first) ++ []))) frame_is
      ∙ ap (λ (b : List ℤ). Unfinished (with_frame code reserve b (total at.lower) [] budget (entry + 1) (store_words all (drop 1 first) ++ []))) (sym (owed.states_fit all program.variables state typed).1)

  -- ---- the statements

  body_runs : RunsIn at body_size budget framed end (meaning_of_all (calls program 63) p.body budget first)
  body_runs =
      let room = low_has_room at 63 low in
      let most = temporaries_most program.procedures i p is in
      each_list owed at (calls program 63) (calls_run owed at 63 low) p.body budget first (entry + 1) first_fits own.body stands.body_stands (omega (arith, room, most))

  -- ---- the end

  results_fit : (store : Store) → Fits all store → FitsActivation all 1 results (activation_at store 1)
  results_fit store h = by store h.from
    where
      by : (store : Store) → FitsFrom all 0 all store → FitsActivation all 1 results (activation_at store 1)
      by [] h = absurd h
      by (a ∷ []) h = absurd h.1
      by (a ∷ b ∷ store) h = h.1.0

  second_words : (store : Store) → store_words all (drop 1 store) ≡ position_words all (activation_at store 1) ++ store_words all (drop 2 store)
  second_words [] = refl
  second_words (a ∷ []) = refl
  second_words (a ∷ b ∷ store) = refl

  all_results : All IsSimpleParameter (filter (λ (q : Parameter). q.is_var) p.parameters)
  all_results = All-filter (λ (q : Parameter). q.is_var) IsSimpleParameter p.parameters simple

  values : Store → List Scalar
  values store = values_of_results (activation_at store 1)

  -- RET leaves the results
  ends : (left : ℕ) (store : Store) → Fits all store →
      turn code reserve (here at store left end []) ≡ Returned (encoded (activation_at store 0)) (words_of (values_of_results (activation_at store 1)))
  ends left store fits =
      let block = position_words all (activation_at store 0) in
      let words = store_words all (drop 1 store) in
      let of_results = position_words all (activation_at store 1) in
      let others = store_words all (drop 2 store) in
      let frame = total at.lower in
      let measured : length of_results ≡ extent results = (owed.position_lengths all 1 results (activation_at store 1) (results_fit store fits)).0 in
      let same : length of_results ≡ frame = omega (arith, measured) in
      let split : words ++ [] ≡ of_results ++ others = append-nil words ∙ second_words store in
      let whole : length (words ++ []) ≡ length of_results + length others = ap length split ∙ length-append of_results others in
      let high : frame ≤ length (words ++ []) = omega (arith, whole, same) in
      returns code reserve block frame [] left end (words ++ []) stands.return_stands high
      ∙ ap (λ (s : List ℤ). Returned block (take frame s)) split
      ∙ ap (λ (s : List ℤ). Returned block s) (take_at of_results others frame same)
      ∙ ap (λ (s : List ℤ). Returned block s) (results_are all 1 (filter (λ (q : Parameter). q.is_var) p.parameters) (activation_at store 1) all_results (results_fit store fits)).0
      ∙ ap (λ (b : List ℤ). Returned b (words_of (values_of_results (activation_at store 1)))) (owed.first_is_state all store program.variables fits refl).1

  follows : (o : Outcome) → RunsIn at body_size budget framed end o → Follows program code p start budget o
  follows (Done left store) r =
      let last = here at store left end [] in
      let whole = leads.on 1 (body_size + length code * r.used) start framed last (leads.one start framed begins) r.leads in
      let j = whole.by 1 in
      let turns = r.turns in
      let few = paid body_size (length code) r.used left stands.long in
      let budget_is : suc (r.used + left) * length code ≡ suc budget * length code = ap (λ (n : ℕ). suc n * length code) turns in
      record {
        count = j.0;
        few = omega (arith, j.1, few, budget_is);
        returned = j.2 ∙ ap (λ (o : Machine.Outcome). carried o (exec code reserve 0)) (ends left store r.fits);
        typed = (owed.first_is_state all store program.variables r.fits refl).0;
        fitting = (results_are all 1 (filter (λ (q : Parameter). q.is_var) p.parameters) (activation_at store 1) all_results (results_fit store r.fits)).1;
      }
  follows (Trap k) r =
      leads.stops_more (1 + (body_size + length code * budget)) (suc budget * length code) start k (paid_trap body_size (length code) budget stands.long)
      (leads.stops_on 1 (body_size + length code * budget) start framed k (leads.one start framed begins) r)

  pub exports_run : Exported program code p entry state arguments budget
  exports_run = record {
    within = omega (arith, enough);
    follows = follows (meaning_of_all (calls program 63) p.body budget first) body_runs;
  }

module _ (owed : Owed) where
  pub each_export : ExportRuns
  each_export program code fine stand i p is exported state arguments budget typed fit =
      exports_run owed program code fine stand i p is exported state arguments budget typed fit
