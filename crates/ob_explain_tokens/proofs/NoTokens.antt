-- A text without a list of tokens.
use Rattle.std.proofs.Common.{◌≡◌, ℕ, List, [], false, sym, arith}
use Rattle.std.proofs.lemmas.Bool.{false≢true}
use Rattle.ob_scan.specs.declared.fault.ScanFault.{ScanFault}
use Rattle.ob_scan.specs.declared.fault.ScanFault.TheVariants.{StrayByte, NumberTooLarge, OpenComment, NameTooLong, TooLong, NoMemory}
use Rattle.ob_scan.specs.ScanFaults.{IsScanFault}
use Rattle.ob_explain_tokens.specs.Around.{AreTokens, without, is_memory}

pub no_token : (text : List ℕ) (fault : ScanFault) → IsScanFault text fault → is_memory fault ≡ false → AreTokens text []
no_token text NoMemory is not = absurd (false≢true (sym not))
no_token text TooLong is not = without (λ short tokens h. omega (arith, short, is.stands))
no_token text (StrayByte p) is not = without (λ short. is.none tt)
no_token text (NumberTooLarge p) is not = without (λ short. is.none tt)
no_token text (OpenComment p) is not = without (λ short. is.none tt)
no_token text (NameTooLong p) is not = without (λ short. is.none tt)
