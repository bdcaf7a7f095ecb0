use Rattle.std.proofs.Common.{ℕ, List, subst, sym}
use Rattle.std.proofs.Math.Logic.{∥∥₁_elim, ∥∥₁_map}
use Rattle.ob_object_compile.specs.Compilation.{IsShort}
use Rattle.ob_laws.proofs.Runs.{verified_record}
use Rattle.ob_object_calls.specs.Verified.{IsVerified}
use Rattle.ob_laws.proofs.printed_laws.served_is_verified.Goals as goal

pub returns : goal.returns
returns c = λ a scripts output printed.
    let compiled = printed.read.1.compiled in
    let shows = printed.is_record in
    ∥∥₁_elim (c.performed_is_writable.ensures.served a scripts printed.object printed.calls printed.shown printed.read shows printed.events) squash₁ (λ w.
    ∥∥₁_map (shows.meant compiled.opens.state compiled.opens.same) (λ m.
    subst (λ (bytes : List ℕ). IsVerified a.text bytes) (sym printed.printed)
    (verified_record IsShort c.legal_is_verified.ensures a printed.object compiled compiled.opens printed.shown shows.budget shows.carried w m)))
