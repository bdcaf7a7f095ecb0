use Rattle.std.proofs.Common.{IsSome, subst, option_map}
use Rattle.ob_scan.specs.Sources.{Steps, lexeme_of}
use Rattle.ob_scan.specs.Scanned.{Scan, scanned}
use Rattle.ob_scan.proofs.Looks.{looked_scan, looked_steps}
use Rattle.ob_scan.proofs.scanned.ScannedTokensTokenSource.step.Goals as goal

pub invariant_of-self : goal.invariant_of-self
invariant_of-self c = looked_scan _ _ _ _ c.look-self-inside.ensures c.self.invariant.ends c.self.invariant.given

pub returns : goal.returns
returns c =
    let after : Scan = record { scanner = c.look-self-inside.new.scanner; here = option_map lexeme_of c.look-self-inside.result } in
    let P : Scan → Type 0 = λ v. IsSome v.here → Steps (scanned v) (scanned after) in
    subst P c.self.view_is (λ h. looked_steps _ _ _ c.look-self-inside.ensures c.self.invariant.given h) c.requires
