use Rattle.std.proofs.Common.{sym, subst}
use Rattle.ob_code_calls.specs.Standing.{IsMade}
use Rattle.ob_interface.specs.Call.{ObjectCall}
use Rattle.ob_interface.specs.View.{reply_of}
use Rattle.ob_object_run.specs.InTurn.{Takeable}
use Rattle.ob_code_correct.specs.Compiled.{Fits}
use Rattle.ob_object_calls.proofs.VerifyByCode.{fits_code, made_in_turn}
use Rattle.ob_object_calls.proofs.coded_verifying.ByCodeCallMaker.make.Goals as goal
use Rattle.ob_object_calls.specs.ByCode.{IsAt}

pub call-requires : goal.call-requires
call-requires c =
    fits_code c.args.self.now _ (subst (λ (x : ObjectCall). Takeable Fits IsAt c.args.self.now x) (sym c.in_ok-asked.ensures) c.requires)

pub returns : goal.returns
returns c = λ program budget before stands.
    made_in_turn program budget _ before _ (reply_of c.call.result)
    (subst (λ (x : ObjectCall). IsMade program budget x before c.call.new.self (reply_of c.call.result)) c.in_ok-asked.ensures (c.call.ensures program budget before stands))
