use Rattle.std.proofs.Common.{refl, rules}
use Rattle.ob_explain_names.proofs.Begun.{breaks_none, broken, goes_on_whole, unexpected}
use Rattle.ob_explain_names.proofs.expected.goes_on.Goals as goal
use Rattle.ob_explain_names.proofs.expected.goes_on.Goals.{in-Ok, in-Err-NoMemory, in-Err-Unexpected, in-Err-TooDeep, in-Err-NameDiffers}

pub returns : goal.returns
returns c =
    let t = c.args.tokens.now in
    elim c.match-parse.branch [
      | in-Ok w ↦ rw w.result-is (λ t. goes_on_whole c.args.tokens.now _ w.in-Ok.ensures.derives w.in-Ok.ensures.keeps, λ g. refl)
      | in-Err-NoMemory w ↦ rw w.result-is tt
      | in-Err-Unexpected w ↦
          let fault = rw w.in-Err-Unexpected.field-0-is at w.in-Err-Unexpected.ensures.fault in
          rw w.result-is (unexpected t w.in-Err-Unexpected.place _ c.requires (λ e. search rules) (λ e. search rules) fault)
      | in-Err-TooDeep w ↦
          let fault = rw w.in-Err-TooDeep.field-0-is at w.in-Err-TooDeep.ensures.fault in
          rw w.result-is (broken t w.in-Err-TooDeep.place _ c.requires (λ m k b. breaks_none m _ k b) w.is_last.ensures fault)
      | in-Err-NameDiffers w ↦
          let fault = rw w.in-Err-NameDiffers.field-0-is at w.in-Err-NameDiffers.ensures.fault in
          rw w.result-is (broken t w.in-Err-NameDiffers.place _ c.requires (λ m k b. breaks_none m _ k b) w.is_last-in-Err-NameDiffers.ensures fault)
    ]
