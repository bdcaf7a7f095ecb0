use Rattle.std.proofs.Common.{refl, subst, Option, Ok, Some}
use Rattle.ob_scan.specs.declared.token.Token.{Token}
use Rattle.ob_scan.specs.Scanning.{StandsBehind}
use Rattle.ob_scan.specs.Scanners.{ScannedText, HasEnded, MeetsFault}
use Rattle.ob_scan.proofs.Scanners.{gives_token, has_ended, token_fault, scanned_token, scanned_fault}
use Rattle.ob_scan.proofs.scanner.Scanner.next.Goals as goal

pub invariant_of-self : goal.invariant_of-self
invariant_of-self c =
    let s : ScannedText = record { text = c.self.inside.text.now; at = c.self.inside.at; fault = c.self.inside.fault } in
    let P : Option Token → Type 0 = λ o. StandsBehind s.text s.at (Ok o) in
    scanned_token s c.in-Ok-Some.token c.self.invariant (subst P c.in-Ok-Some.field-0-is c.in-Ok-Some.ensures)

pub invariant_of-self-in-Err : goal.invariant_of-self-in-Err
invariant_of-self-in-Err c =
    let s : ScannedText = record { text = c.self.inside.text.now; at = c.self.inside.at; fault = c.self.inside.fault } in
    scanned_fault s c.in-Err.fault c.self.invariant c.in-Err.ensures

pub returns-in-Ok-Some-clause-gives : goal.returns-in-Ok-Some-clause-gives
returns-in-Ok-Some-clause-gives c =
    let s : ScannedText = record { text = c.self.inside.text.now; at = c.self.inside.at; fault = c.self.inside.fault } in
    let P : Option Token → Type 0 = λ o. StandsBehind s.text s.at (Ok o) in
    gives_token s c.args.self.now c.in-Ok-Some.token _ c.self.view_is c.in_default.is
    (subst P c.in-Ok-Some.field-0-is c.in-Ok-Some.ensures) refl refl refl

pub returns-in-Ok-None-clause-gives : goal.returns-in-Ok-None-clause-gives
returns-in-Ok-None-clause-gives c =
    let s : ScannedText = record { text = c.self.inside.text.now; at = c.self.inside.at; fault = c.self.inside.fault } in
    let P : Option Token → Type 0 = λ o. StandsBehind s.text s.at (Ok o) in
    let Q : ScannedText → Type 0 = λ x. HasEnded x x in
    subst Q c.self.view_is (has_ended s (subst P c.in-Ok-None.field-0-is c.in-Ok-None.ensures))

pub returns-in-Err-clause-gives : goal.returns-in-Err-clause-gives
returns-in-Err-clause-gives c =
    let s : ScannedText = record { text = c.self.inside.text.now; at = c.self.inside.at; fault = c.self.inside.fault } in
    let fault = c.in-Err.fault in
    let P : ScannedText → Type 0 = λ x. MeetsFault x fault (record { text = s.text; at = s.at; fault = Some fault }) in
    subst P c.self.view_is (record { is_fault = token_fault s fault c.self.invariant c.in-Err.ensures; kept = refl })
