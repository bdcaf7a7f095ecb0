-- What a call that fits comes to: a reply that fits its export, and a state of the variables.
use Rattle.std.proofs.Common.{◌≡◌, ℕ, List, [], ◌∷◌, map, Option, option_map, refl, sym, ap, ap₂, ◌∙◌, subst, arith}
use Rattle.std.proofs.lemmas.Option.{slice_get-map}
use Rattle.ob_checked.specs.Exports as Exports
use Rattle.ob_checked.specs.Exports.{signature_in, signatures}
use Rattle.ob_code_correct.proofs.Bodies.{bodies_correct}
use Rattle.ob_code_correct.specs.Bodies.{BodyBehaves, HasEnded, meant as meant_by, started as started_body, stepped}
use Rattle.ob_code_correct.proofs.ExportLaw.{Found, found}
use Rattle.ob_laws.proofs.Traps as Traps
use Rattle.ob_code_correct.specs.Compiled.{Fits, body_limit}
use Rattle.ob_code_machine.specs.Code.{CodeParts}
use Rattle.ob_code_scheme.specs.Correct as Correct
use Rattle.ob_code_scheme.specs.Correct.{formals_of}
use Rattle.ob_code_scheme.specs.Scheme.{code_of}
use Rattle.ob_code_scheme.specs.Temporaries.{stack_words}
use Rattle.ob_code_scheme.specs.Types.{IsStateOf}
use Rattle.ob_code_scheme.specs.WellFormed.{IsWellFormed}
use Rattle.ob_interface.specs.Call.{Answers, ObjectCall, Reply, Trapped}
use Rattle.ob_interface.specs.Export.{ArgumentsFit, ReplyFits}
use Rattle.ob_interface.specs.declared.export.Formal.{Formal}
use Rattle.ob_meaning.specs.ByPositionObject.{Effect, effect, effect_of_procedure}
use Rattle.ob_meaning.specs.ByPositionStore.{Activation}
use Rattle.ob_laws.specs.Writable.{FitsExport, HasTrapNumber, IsReplyOf}
use Rattle.ob_typing.specs.Program.{DataType, Simple, Array, Record, Parameter, Procedure, Program, exports}

-- ---- the formals of a procedure, as the code and as a caller knows them

same_type : (t : DataType) → Correct.scalar_type_of t ≡ Exports.scalar_type_of t
same_type (Simple t) = refl
same_type (Array place length element) = refl
same_type (Record place fields) = refl

pub same_formals : (ps : List Parameter) → formals_of ps ≡ map Exports.formal_of ps
same_formals [] = refl
same_formals (p ∷ ps) = ap₂ (λ t (fs : List Formal). record { is_var = p.is_var; scalar_type = t } ∷ fs) (same_type p.type) (same_formals ps)

-- ---- a call that fits the code fits the exports

pub call_fits : (program : Program) (call : ObjectCall) → Fits program call → FitsExport program call
call_fits program call fitting =
    let f = found 0 program.procedures call.export fitting.entrance fitting.there in
    record {
      fits = record {
        signature = signature_in f.procedure;
        here = slice_get-map signature_in (exports program) call.export ∙ ap (option_map signature_in) f.exported;
        fit = subst (λ (fs : List Formal). ArgumentsFit fs call.arguments) (f.parameters ∙ same_formals f.procedure.parameters) fitting.typed;
      };
      ranged = fitting.ranged;
    }

-- ---- a call on a state

module _ (program : Program) (budget : ℕ) (well : IsWellFormed program) (call : ObjectCall) (fitting : Fits program call) (state : Activation) (typed : IsStateOf program.variables state) where
  abbrev f : Found 0 program.procedures call.export fitting.entrance
  f = found 0 program.procedures call.export fitting.entrance fitting.there

  abbrev p : Procedure
  p = f.procedure

  abbrev code : CodeParts
  code = code_of program

  abbrev reserve : ℕ
  reserve = stack_words program.procedures

  abbrev limit : ℕ
  limit = body_limit program budget

  behaves : BodyBehaves program code reserve f.index p state call.arguments budget
  behaves =
      bodies_correct program f.index p well f.there f.is_exported state call.arguments budget typed
      (record { typed = subst (λ (fs : List Formal). ArgumentsFit fs call.arguments) f.parameters fitting.typed; ranged = fitting.ranged })

  abbrev meant : Effect
  meant = meant_by program code reserve f.index p state call.arguments budget

  effect_is : effect program call budget state ≡ meant
  effect_is = ap (λ (o : Option Procedure). effect_of_procedure program o call.arguments budget state) f.exported

  pub next_typed : IsStateOf program.variables (effect program call budget state).state
  next_typed = subst (λ (e : Effect). IsStateOf program.variables e.state) (sym effect_is) behaves.state_fits

  ended : HasEnded (stepped program code reserve f.index p state call.arguments budget limit) meant.state meant.reply
  ended = behaves.ends_so limit (behaves.ends limit (omega arith))

  trap_number : (next : Activation) (reply : Reply) → HasEnded (stepped program code reserve f.index p state call.arguments budget limit) next reply → HasTrapNumber reply
  trap_number next (Answers values) h = tt
  trap_number next (Trapped k) h =
      let small = Traps.trap_number code.instructions limit (started_body program code reserve f.index p state call.arguments budget) _ k h in
      (omega (arith, small.0), small.1)

  reply_is : IsReplyOf program call.export meant.reply
  reply_is = record {
    signature = signature_in p;
    here = slice_get-map signature_in (exports program) call.export ∙ ap (option_map signature_in) f.exported;
    fits = subst (λ (fs : List Formal). ReplyFits fs meant.reply) (same_formals p.parameters) behaves.reply_fits.typed;
    ranged = behaves.reply_fits.ranged;
    trap = trap_number meant.state meant.reply ended;
  }

  pub replies : IsReplyOf program call.export (effect program call budget state).reply
  replies = subst (λ (e : Effect). IsReplyOf program call.export e.reply) (sym effect_is) reply_is
