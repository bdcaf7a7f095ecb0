-- The effect of a call over an engine is that of a program with these parts, and a body of it has one end.
use Rattle.std.proofs.Common.{subst}
use Rattle.ob_code_correct.specs.CodeMeaning.{EngineParts, code_meaning}
use Rattle.ob_code_correct.specs.Compiled.{HasReserve, IsFitting}
use Rattle.ob_code_correct.specs.Parts.{IsLawfulFor, IsEffectOf}
use Rattle.ob_code_correct.proofs.CodeLaw.{effect_total}
use Rattle.ob_code_correct.proofs.OneEnd.{one_effect}
use Rattle.ob_code_correct.proofs.PartsLaw.{parts_lawful}
use Rattle.ob_code_engine.specs.Effects.{EffectsAreTotal}

pub effects_total : EffectsAreTotal
effects_total parts call block lawful fits =
    let whole = parts_lawful parts ∣ (lawful.program, lawful.compiled) ∣₁ in
    let here = subst (λ (q : EngineParts). IsFitting q.exports call) lawful.compiled.parts_are fits in
    let one = effect_total lawful.program parts.budget lawful.compiled.well call block lawful.is here in
    let is : IsEffectOf parts call block one.after one.reply = record { program = lawful.program; compiled = lawful.compiled; is = one.is } in
    record {
      after = one.after;
      reply = one.reply;
      is = is;
      only = λ other answer e.
          one_effect (code_meaning parts) (IsLawfulFor parts) (IsLawfulFor parts) (IsFitting parts.exports) (IsFitting parts.exports) (HasReserve parts) (HasReserve parts)
          (IsEffectOf parts) (IsEffectOf parts) whole whole block call other one.after answer one.reply lawful lawful fits fits e is;
    }
